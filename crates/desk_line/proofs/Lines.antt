-- Steps and batches, one more.
use Rattle.std.proofs.Common.{◌≡◌, ◌<◌, ◌≤◌, ◌+◌, ◌++◌, ◌∙◌, ℕ, zero, suc, List, [], ◌∷◌, Option, Some, None, true, false, length, take, drop, refl, ap, sym, subst, append_assoc, append-nil, arith, length-append}
use Rattle.std.proofs.lemmas.List.{take-append-drop, drop-take, length-take-le, take-take}
use Rattle.std.specs.Io.KnownBytes.{Consumes, append_known}
use Rattle.desk_line.specs.Fronts.{Step, calls_in, replies_in, entries_in, state_after, AreSteps}
use Rattle.desk_line.specs.Served.{Batch, LineState, calls_of, line_with, line_after, AreBatches, IsServed, disk_full, disk_full_times}
use Rattle.desk_line.specs.inside.Pieces.{IsBatchAnswered, IsPieceTaken}
use Rattle.desk_line.specs.declared.machine.Front.{Front}
use Rattle.desk_line.specs.declared.machine.Front.TheVariants.{Whole}

pub Consumes_then : (a b c : Option (List ℕ)) (xs ys : List ℕ) → Consumes a b xs → Consumes b c ys → Consumes a c (xs ++ ys)
Consumes_then None b c xs ys p q = tt
Consumes_then (Some us) None c xs ys p q = absurd p
Consumes_then (Some us) (Some vs) None xs ys p q = absurd q
Consumes_then (Some us) (Some vs) (Some ws) xs ys p q = p ∙ ap (λ (w : List ℕ). xs ++ w) q ∙ sym (append_assoc xs ys ws)

-- the bytes before and after a place
pub take_then : (xs : List ℕ) (n k : ℕ) → n + k ≤ length xs → take (n + k) xs ≡ take n xs ++ take k (drop n xs)
take_then xs n k h = sym (take-append-drop n (take (n + k) xs)) ∙ ap (λ (l : List ℕ). l ++ drop n (take (n + k) xs)) (take-take n (n + k) xs (omega arith))
    ∙ ap (λ (l : List ℕ). take n xs ++ l) (drop-take n k xs)

-- the line that is told where nothing is kept, once more
pub disk_full_more : (n : ℕ) → disk_full_times n ++ disk_full ≡ disk_full_times (suc n)
disk_full_more zero = sym (append-nil disk_full)
disk_full_more (suc n) = append_assoc disk_full (disk_full_times n) disk_full ∙ ap (λ (l : List ℕ). disk_full ++ l) (disk_full_more n)

module _ {M : Type 0} where
  -- what is in steps of what each has
  calls_in-push : (steps : List (Step M)) (s : Step M) → calls_in (steps ++ s ∷ []) ≡ calls_in steps ++ s.call
  calls_in-push [] s = append-nil s.call
  calls_in-push (t ∷ steps) s = ap (λ (l : List ℕ). t.call ++ l) (calls_in-push steps s) ∙ sym (append_assoc t.call (calls_in steps) s.call)

  replies_in-push : (steps : List (Step M)) (s : Step M) → replies_in (steps ++ s ∷ []) ≡ replies_in steps ++ s.reply
  replies_in-push [] s = append-nil s.reply
  replies_in-push (t ∷ steps) s = ap (λ (l : List ℕ). t.reply ++ l) (replies_in-push steps s) ∙ sym (append_assoc t.reply (replies_in steps) s.reply)

  entries_in-push : (steps : List (Step M)) (s : Step M) → entries_in (steps ++ s ∷ []) ≡ entries_in steps ++ s.entry
  entries_in-push [] s = append-nil s.entry
  entries_in-push (t ∷ steps) s = ap (λ (l : List ℕ). t.entry ++ l) (entries_in-push steps s) ∙ sym (append_assoc t.entry (entries_in steps) s.entry)

  state_after-push : (m : M) (steps : List (Step M)) (s : Step M) → state_after m (steps ++ s ∷ []) ≡ s.next
  state_after-push m [] s = refl
  state_after-push m (t ∷ steps) s = state_after-push t.next steps s

  pub calls_of-push : (batches : List (Batch M)) (batch : Batch M) → calls_of (batches ++ batch ∷ []) ≡ calls_of batches ++ calls_in batch.steps
  calls_of-push [] batch = append-nil (calls_in batch.steps)
  calls_of-push (b ∷ batches) batch =
      ap (λ (l : List ℕ). calls_in b.steps ++ l) (calls_of-push batches batch) ∙ sym (append_assoc (calls_in b.steps) (calls_of batches) (calls_in batch.steps))

  -- what is read: the calls of a batch more, and what is left
  pub calls_of_then : (batches : List (Batch M)) (batch : Batch M) (rest piece left : List ℕ) → rest ++ piece ≡ calls_in batch.steps ++ left
      → (calls_of batches ++ rest) ++ piece ≡ calls_of (batches ++ batch ∷ []) ++ left
  calls_of_then batches batch rest piece left is =
      append_assoc (calls_of batches) rest piece ∙ ap (λ (l : List ℕ). calls_of batches ++ l) is
      ∙ sym (append_assoc (calls_of batches) (calls_in batch.steps) left) ∙ ap (λ (l : List ℕ). l ++ left) (sym (calls_of-push batches batch))

module _ {M : Type 0} (fronts : M → List ℕ → Front → Type 0) (answers : M → List ℕ → List ℕ → List ℕ → M → Type 0) where
  AreSteps-push : (m : M) (steps : List (Step M)) (s : Step M) → AreSteps fronts answers m steps → fronts (state_after m steps) s.call (Whole (length s.call))
      → answers (state_after m steps) s.call s.reply s.entry s.next → AreSteps fronts answers m (steps ++ s ∷ [])
  AreSteps-push m [] s are is answered = (is, answered, tt)
  AreSteps-push m (t ∷ steps) s are is answered = (are.0, are.1, AreSteps-push t.next steps s are.2 is answered)

  -- what a state knows of the journal after steps
  pub extent-after : (extent : M → ℕ) → ((m n : M) (call reply entry : List ℕ) → answers m call reply entry n → extent n ≡ extent m + length entry)
      → (m : M) (steps : List (Step M)) → AreSteps fronts answers m steps → extent (state_after m steps) ≡ extent m + length (entries_in steps)
  extent-after extent grows m [] are = omega arith
  extent-after extent grows m (s ∷ steps) are =
      let rest = extent-after extent grows s.next steps are.2 in
      let first = grows m s.next s.call s.reply s.entry are.1 in
      omega (arith, rest, first, length-append s.entry (entries_in steps))

  -- a whole call is one where it is cut off
  pub call_found : (m : M) → ((bytes more : List ℕ) (n : ℕ) → fronts m bytes (Whole n) → fronts m (take n bytes ++ more) (Whole n))
      → (bytes : List ℕ) (n : ℕ) → n ≤ length bytes → fronts m bytes (Whole n) → fronts m (take n bytes) (Whole (length (take n bytes)))
  call_found m whole bytes n short is =
      subst (λ k. fronts m (take n bytes) (Whole k)) (sym (length-take-le n bytes short))
      (subst (λ (l : List ℕ). fronts m l (Whole n)) (append-nil (take n bytes)) (whole bytes [] n is))

  -- what stands at the front of bytes was the same before steps
  pub front_before_steps : ((m n : M) (call reply entry : List ℕ) → answers m call reply entry n → (bytes : List ℕ) (f : Front) → fronts n bytes f → fronts m bytes f)
      → (m : M) (steps : List (Step M)) (bytes : List ℕ) (f : Front) → AreSteps fronts answers m steps → fronts (state_after m steps) bytes f → fronts m bytes f
  front_before_steps before m [] bytes f are is = is
  front_before_steps before m (s ∷ steps) bytes f are is =
      before m s.next s.call s.reply s.entry are.1 bytes f (front_before_steps before s.next steps bytes f are.2 is)

  -- nothing is answered yet
  pub answered_nothing : (m : M) (bytes : List ℕ) → IsBatchAnswered fronts answers m m bytes [] [] 0 0 []
  answered_nothing m bytes = record {
    bytes_are = refl;
    steps_are = tt;
    told_is = refl;
    kept_is = refl;
    state_is = refl;
    count_is = refl;
    few = omega arith;
    within = omega arith;
  }

  -- a call more is answered
  pub answered-push : (first now : M) (bytes told kept : List ℕ) (used count : ℕ) (steps : List (Step M)) (n : ℕ) (s : Step M) (told' kept' : List ℕ)
      → IsBatchAnswered fronts answers first now bytes told kept used count steps
      → s.call ≡ take n (drop used bytes) → fronts now s.call (Whole (length s.call)) → 0 < n → used + n ≤ length bytes
      → answers now s.call s.reply s.entry s.next → told' ≡ told ++ s.reply → kept' ≡ kept ++ s.entry
      → IsBatchAnswered fronts answers first s.next bytes told' kept' (used + n) (count + 1) (steps ++ s ∷ [])
  answered-push first now bytes told kept used count steps n s told' kept' was is whole some within answered tells keeps = record {
    bytes_are = take_then bytes used n within ∙ ap (λ (l : List ℕ). l ++ take n (drop used bytes)) was.bytes_are
        ∙ ap (λ (l : List ℕ). calls_in steps ++ l) (sym is) ∙ sym (calls_in-push steps s);
    steps_are = AreSteps-push first steps s was.steps_are (subst (λ (m : M). fronts m s.call (Whole (length s.call))) was.state_is whole)
        (subst (λ (m : M). answers m s.call s.reply s.entry s.next) was.state_is answered);
    told_is = tells ∙ ap (λ (l : List ℕ). l ++ s.reply) was.told_is ∙ sym (replies_in-push steps s);
    kept_is = keeps ∙ ap (λ (l : List ℕ). l ++ s.entry) was.kept_is ∙ sym (entries_in-push steps s);
    state_is = sym (state_after-push first steps s);
    count_is = omega (arith, was.count_is, length-append steps (s ∷ []));
    few = omega (arith, was.few, some);
    within = within;
  }

  -- what a state that answered knows of the journal
  pub answered_extent : (extent : M → ℕ) → ((m n : M) (call reply entry : List ℕ) → answers m call reply entry n → extent n ≡ extent m + length entry)
      → (first now : M) (bytes told kept : List ℕ) (used count : ℕ) (steps : List (Step M))
      → IsBatchAnswered fronts answers first now bytes told kept used count steps → extent now ≡ extent first + length kept
  answered_extent extent grows first now bytes told kept used count steps was =
      ap extent was.state_is ∙ extent-after extent grows first steps was.steps_are ∙ ap (λ (l : List ℕ). extent first + length l) (sym was.kept_is)

module _ {M : Type 0} (fronts : M → List ℕ → Front → Type 0) (answers : M → List ℕ → List ℕ → List ℕ → M → Type 0) (begun : M → M) (extent : M → ℕ)
    (grows : (m n : M) (call reply entry : List ℕ) → answers m call reply entry n → extent n ≡ extent m + length entry)
    (knows : (m : M) → extent (begun m) ≡ extent m) where
  -- a piece whose entries are kept
  pub taken_kept : (old : LineState M) (now : M) (buf told kept : List ℕ) (used count : ℕ) (steps : List (Step M)) (kept' told' : Option (List ℕ))
      (extent' failures' : ℕ) (left : List ℕ) → IsBatchAnswered fronts answers (begun old.state) now buf told kept used count steps
      → extent old.state ≡ old.extent → kept' ≡ append_known old.kept kept → extent' ≡ old.extent + length kept → told' ≡ append_known old.told told
      → failures' ≡ old.failures → left ≡ drop used buf
      → IsPieceTaken fronts answers begun extent old (record { state = now; kept = kept'; extent = extent'; told = told'; failures = failures' }) buf left
      (record { steps = steps; is_kept = true })
  taken_kept old now buf told kept used count steps kept' told' extent' failures' left was known keeps extends tells fails is = record {
    line_is = λ i. record {
      state = was.state_is i;
      kept = (keeps ∙ ap (append_known old.kept) was.kept_is) i;
      extent = (extends ∙ ap (λ (l : List ℕ). old.extent + length l) was.kept_is) i;
      told = (tells ∙ ap (append_known old.told) was.told_is) i;
      failures = fails i;
    };
    bytes_are = sym (take-append-drop used buf) ∙ ap (λ (l : List ℕ). l ++ drop used buf) was.bytes_are ∙ ap (λ (l : List ℕ). calls_in steps ++ l) (sym is);
    steps_are = was.steps_are;
    all_known = answered_extent fronts answers extent grows (begun old.state) now buf told kept used count steps was
        ∙ ap (λ n. n + length kept) (knows old.state ∙ known) ∙ sym extends;
  }

  -- a piece whose entries can't be written
  pub taken_full : (old : LineState M) (now back : M) (buf told kept : List ℕ) (used count : ℕ) (steps : List (Step M)) (lines : List ℕ)
      (kept' told' : Option (List ℕ)) (extent' failures' : ℕ) (left : List ℕ)
      → IsBatchAnswered fronts answers (begun old.state) now buf told kept used count steps
      → extent old.state ≡ old.extent → back ≡ begun old.state → lines ≡ disk_full_times count
      → kept' ≡ old.kept → extent' ≡ old.extent → told' ≡ append_known old.told lines → failures' ≡ old.failures + 1 → left ≡ drop used buf
      → IsPieceTaken fronts answers begun extent old (record { state = back; kept = kept'; extent = extent'; told = told'; failures = failures' }) buf left
      (record { steps = steps; is_kept = false })
  taken_full old now back buf told kept used count steps lines kept' told' extent' failures' left was known rewound lines_are keeps extends tells fails is = record {
    line_is = λ i. record {
      state = rewound i;
      kept = keeps i;
      extent = extends i;
      told = (tells ∙ ap (append_known old.told) (lines_are ∙ ap disk_full_times was.count_is)) i;
      failures = fails i;
    };
    bytes_are = sym (take-append-drop used buf) ∙ ap (λ (l : List ℕ). l ++ drop used buf) was.bytes_are ∙ ap (λ (l : List ℕ). calls_in steps ++ l) (sym is);
    steps_are = was.steps_are;
    all_known = ap extent rewound ∙ knows old.state ∙ known ∙ sym extends;
  }

  line_after-push : (line : LineState M) (batches : List (Batch M)) (batch : Batch M)
      → line_after begun line (batches ++ batch ∷ []) ≡ line_with begun (line_after begun line batches) batch
  line_after-push line [] batch = refl
  line_after-push line (b ∷ batches) batch = line_after-push (line_with begun line b) batches batch

  AreBatches-push : (line : LineState M) (batches : List (Batch M)) (batch : Batch M) → AreBatches fronts answers begun line batches
      → AreSteps fronts answers (begun (line_after begun line batches).state) batch.steps → AreBatches fronts answers begun line (batches ++ batch ∷ [])
  AreBatches-push line [] batch are more = (more, tt)
  AreBatches-push line (b ∷ batches) batch are more = (are.0, AreBatches-push (line_with begun line b) batches batch are.1 more)

  -- nothing is served yet
  pub served_nothing : (line : LineState M) → extent line.state ≡ line.extent → IsServed fronts answers begun extent line line []
  served_nothing line known = record { line_is = refl; batches_are = tt; all_known = known }

  -- a batch more
  pub served_then : (first now next : LineState M) (batches : List (Batch M)) (batch : Batch M) (bytes left : List ℕ)
      → IsServed fronts answers begun extent first now batches → IsPieceTaken fronts answers begun extent now next bytes left batch
      → IsServed fronts answers begun extent first next (batches ++ batch ∷ [])
  served_then first now next batches batch bytes left was taken = record {
    line_is = taken.line_is ∙ ap (λ (l : LineState M). line_with begun l batch) was.line_is ∙ sym (line_after-push first batches batch);
    batches_are = AreBatches-push first batches batch was.batches_are
        (subst (λ (l : LineState M). AreSteps fronts answers (begun l.state) batch.steps) was.line_is taken.steps_are);
    all_known = taken.all_known;
  }
