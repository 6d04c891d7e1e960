-- What a desk keeps of calls are entries that it may write.
use Rattle.std.proofs.Common.{◌≡◌, ◌≤◌, ◌<◌, ◌+◌, ◌^◌, ◌++◌, ◌∙◌, inl, inr, ℕ, Bool, true, false, List, [], ◌∷◌, Option, Some, None, Result, Ok, Err, append-nil, append_assoc, ap, arith, length, length-append, refl, subst, sym, take}
use Rattle.std.proofs.lemmas.Bool.{leb-true}
use Rattle.std.specs.Io.KnownBytes.{append_known}
use Rattle.std.specs.Prelude.{if◌then◌else◌}
use Rattle.bid_book.specs.History.{is_closed}
use Rattle.desk_line.specs.Fronts.{Step, AreSteps, entries_in, state_after}
use Rattle.desk_line.specs.Served.{AreBatches, Batch, IsServed, LineState, line_after, line_with}
use Rattle.desk_book.specs.Answers.{IsCallTaken, IsDeskAnswer, IsDeskFront, all_durable, limit_if, no_room, untaken_as}
use Rattle.desk_book.specs.Digests.{sha_digits}
use Rattle.desk_book.specs.Entries.{sealed_of}
use Rattle.desk_book.specs.Fronts.{JournalFront}
use Rattle.desk_book.proofs.FrontStays.{front_stays}
use Rattle.std.proofs.Math.Seq.{take-length}
use Rattle.std.proofs.lemmas.List.{take-append-le}
use Rattle.desk_book.specs.Journals.{AreDesksAlike, AreWritten, IsJournal, IsWritten, KeepsJournal, Written, desk_after, texts_of}
use Rattle.desk_book.specs.Judging.{judged_open, over_for}
use Rattle.desk_book.specs.Recording.{answer_due, asked_by, has_room, most_with}
use Rattle.desk_book.specs.declared.asked.Asked.{Asked}
use Rattle.desk_book.specs.declared.asked.Asked.TheVariants as asked
use Rattle.desk_book.specs.declared.calls.Call.{Call}
use Rattle.desk_book.specs.declared.desk.Desk.{Desk}
use Rattle.desk_book.specs.declared.limits.TheConstants.{ENTRY_LEN, JOURNAL_LIMIT}
use Rattle.desk_book.specs.declared.untaken.Untaken.{Untaken}
use Rattle.desk_book.specs.declared.untaken.Untaken.TheVariants as untaken
use Rattle.desk_book.proofs.ReadBack.{alike_back, extent_grows, next_alike, there, written_there}

most_room : (a : Asked) → most_with a ≤ JOURNAL_LIMIT
most_room (asked.Submit who over commit bids sealed) = omega arith
most_room (asked.Withdraw who over) = omega arith
most_room (asked.Show who) = omega arith
most_room (asked.Close time) = omega arith

room_there : (b : Bool) (o : Option Untaken) → (if b then o else Some untaken.DiskFull) ≡ None → b ≡ true
room_there true o is = refl
room_there false o is = absurd cc

open_there : (b : Bool) (why : Untaken) (r : Result ℕ Untaken) (bids : ℕ) → (if b then Err why else r) ≡ Ok bids → b ≡ false
open_there true why r bids is = absurd cc
open_there false why r bids is = refl

module _ {J : Type 0} where
  few_bytes : (m : Desk J) (a : Asked) → no_room m a ≡ None → m.extent < 10 ^ 18
  few_bytes m a none =
      let room = leb-true (m.extent + length (sealed_of a) + ENTRY_LEN) (most_with a) (room_there (has_room m.extent a) (limit_if (answer_due m a)) none) in
      let most = most_room a in
      omega (arith, room, most)

  -- a call that is recorded is an entry that the desk may write
  abbrev taken_entry : (m n : Desk J) (c : Call) (line text : List ℕ) → IsCallTaken m c line text n → Written J
  taken_entry m n c line text t = record { call = asked_by c t.bids; told = t.told; durable = m.durable; text = text; next = n }

  taken_written : (m n : Desk J) (c : Call) (line text : List ℕ) (t : IsCallTaken m c line text n) → m.durable ≤ m.extent
      → IsWritten m (taken_entry m n c line text t)
  taken_written m n c line text t few =
      let due : no_room m (asked_by c t.bids) ≡ None = sym (ap (untaken_as m c) t.fit) ∙ t.due in
      let limit = few_bytes m (asked_by c t.bids) due in
      record {
        is_open = open_there (is_closed m.book) (over_for c) (judged_open m c) t.bids t.fit;
        durable = few;
        number = omega (arith, few, limit);
        recorded = t.recorded;
      }

  -- entries from one desk on, and a desk that is like the one after them
  pub record IsKept (d m : Desk J) (kept : List ℕ) : Type 0 where
    pub entries : List (Written J)
    pub written : AreWritten d entries
    pub texts : texts_of entries ≡ kept
    pub alike : AreDesksAlike (desk_after d entries) m
    pub few : m.durable ≤ m.extent

  texts_join : (xs ys : List (Written J)) → texts_of (xs ++ ys) ≡ texts_of xs ++ texts_of ys
  texts_join [] ys = refl
  texts_join (x ∷ xs) ys = ap (λ (l : List ℕ). x.text ++ l) (texts_join xs ys) ∙ sym (append_assoc x.text (texts_of xs) (texts_of ys))

  joined : (d : Desk J) (xs ys : List (Written J)) → AreWritten d xs → AreWritten (desk_after d xs) ys
      → AreWritten d (xs ++ ys) × (desk_after d (xs ++ ys) ≡ desk_after (desk_after d xs) ys)
  joined d [] ys ws vs = (vs, refl)
  joined d (x ∷ xs) ys ws vs = let rest = joined x.next xs ys ws.1 vs in ((ws.0, rest.0), rest.1)

  module _ (faults : J → List ℕ → List ℕ → List ℕ) where
    steps_kept : (d m : Desk J) (steps : List (Step (Desk J))) → AreDesksAlike d m → m.durable ≤ m.extent
        → AreSteps (λ m bytes f. IsDeskFront m bytes f) (λ m call reply entry n. IsDeskAnswer faults m call reply entry n) m steps
        → IsKept d (state_after m steps) (entries_in steps)
    steps_kept d m [] a few are = record { entries = []; written = tt; texts = refl; alike = a; few = few }
    steps_kept d m (s ∷ steps) a few are = elim are.1.told [
      | inl untold ↦
          let same : s.next ≡ m = untold.1.same in
          let rest : IsKept d (state_after s.next steps) (entries_in steps) =
          steps_kept d s.next steps (subst (λ (n : Desk J). AreDesksAlike d n) (sym same) a) (subst (λ (n : Desk J). n.durable ≤ n.extent) (sym same) few) are.2 in
          record {
            entries = rest.entries;
            written = rest.written;
            texts = rest.texts ∙ ap (λ (l : List ℕ). l ++ entries_in steps) (sym untold.0);
            alike = rest.alike;
            few = rest.few;
          }
      | inr told ↦
          let e : Written J = taken_entry m s.next are.1.call s.reply s.entry told in
          let is : IsWritten m e = taken_written m s.next are.1.call s.reply s.entry told few in
          let back : AreDesksAlike m d = alike_back d m a in
          let z : Written J = there m d back e in
          let next : AreDesksAlike z.next s.next = alike_back s.next z.next (next_alike m d back e is) in
          let grows = told.recorded.extent in
          let stays = told.recorded.durable in
          let rest : IsKept z.next (state_after s.next steps) (entries_in steps) = steps_kept z.next s.next steps next (omega (arith, grows, stays, few)) are.2 in
          record {
            entries = z ∷ rest.entries;
            written = (written_there m d back e is, rest.written);
            texts = ap (λ (l : List ℕ). s.entry ++ l) rest.texts;
            alike = rest.alike;
            few = rest.few;
          }
    ]

    -- what a line keeps
    abbrev IsLineKept : Desk J → LineState (Desk J) → LineState (Desk J) → Type 0
    IsLineKept d line now = (kept : List ℕ) × (now.kept ≡ append_known line.kept kept) × IsKept d now.state kept

    append_none : (k : Option (List ℕ)) → k ≡ append_known k []
    append_none None = refl
    append_none (Some xs) = ap Some (sym (append-nil xs))

    append_twice : (k : Option (List ℕ)) (xs ys : List ℕ) → append_known (append_known k xs) ys ≡ append_known k (xs ++ ys)
    append_twice None xs ys = refl
    append_twice (Some us) xs ys = ap Some (append_assoc us xs ys)

    kept_then : (d m n : Desk J) (xs ys : List ℕ) (k : IsKept d m xs) → IsKept (desk_after d k.entries) n ys → IsKept d n (xs ++ ys)
    kept_then d m n xs ys k l =
        let both = joined d k.entries l.entries k.written l.written in
        record {
          entries = k.entries ++ l.entries;
          written = both.0;
          texts = texts_join k.entries l.entries ∙ ap (λ (t : List ℕ). t ++ texts_of l.entries) k.texts ∙ ap (λ (t : List ℕ). xs ++ t) l.texts;
          alike = subst (λ (e : Desk J). AreDesksAlike e n) (sym both.1) l.alike;
          few = l.few;
        }

    -- the lines after one batch more
    one_batch : (d : Desk J) (line : LineState (Desk J)) (steps : List (Step (Desk J))) (is_kept : Bool) (end : LineState (Desk J)) → AreDesksAlike d (all_durable line.state)
        → IsKept d (state_after (all_durable line.state) steps) (entries_in steps)
        → ((e : Desk J) → AreDesksAlike e (line_with all_durable line (record { steps = steps; is_kept = is_kept })).state
        → (line_with all_durable line (record { steps = steps; is_kept = is_kept })).state.durable ≤ (line_with all_durable line (record { steps = steps; is_kept = is_kept })).state.extent
        → IsLineKept e (line_with all_durable line (record { steps = steps; is_kept = is_kept })) end)
        → IsLineKept d line end
    one_batch d line steps true end a first more =
        let rest = more (desk_after d first.entries) first.alike first.few in
        (entries_in steps ++ rest.0, rest.1 ∙ append_twice line.kept (entries_in steps) rest.0, kept_then d (state_after (all_durable line.state) steps) end.state (entries_in steps) rest.0 first rest.2)
    one_batch d line steps false end a first more = more d a (omega arith)

    lines_kept : (d : Desk J) (line : LineState (Desk J)) (batches : List (Batch (Desk J))) → AreDesksAlike d line.state → line.state.durable ≤ line.state.extent
        → AreBatches (λ m bytes f. IsDeskFront m bytes f) (λ m call reply entry n. IsDeskAnswer faults m call reply entry n) all_durable line batches
        → IsLineKept d line (line_after all_durable line batches)
    lines_kept d line [] a few are = ([], append_none line.kept, record { entries = []; written = tt; texts = refl; alike = a; few = few })
    lines_kept d line (batch ∷ batches) a few are =
        let begun : Desk J = all_durable line.state in
        let begun_alike : AreDesksAlike d begun = record { judge = a.judge; rules = a.rules; rules_text = a.rules_text; book = a.book; extent = a.extent; chain = a.chain } in
        let first : IsKept d (state_after begun batch.steps) (entries_in batch.steps) = steps_kept d begun batch.steps begun_alike (omega arith) are.0 in
        one_batch d line batch.steps batch.is_kept (line_after all_durable (line_with all_durable line batch) batches) begun_alike first
        (λ d' a' few'. lines_kept d' (line_with all_durable line batch) batches a' few' are.1)

    -- what a line keeps behind a journal is one with it
    pub journal_kept : (judge : J) (bytes : List ℕ) (d : Desk J) (first now : LineState (Desk J)) (batches : List (Batch (Desk J)))
        → IsJournal judge bytes (length bytes) d → AreDesksAlike d first.state → first.state.durable ≤ first.state.extent → first.kept ≡ Some bytes
        → IsServed (λ m bytes f. IsDeskFront m bytes f) (λ m call reply entry n. IsDeskAnswer faults m call reply entry n) all_durable (λ m. m.extent) first now batches
        → KeepsJournal judge now
    journal_kept judge bytes d first now batches j a few there served =
        let line : IsLineKept d first (line_after all_durable first batches) = lines_kept d first batches a few served.batches_are in
        let more : List ℕ = line.0 in
        let k : IsKept d (line_after all_durable first batches).state more = line.2 in
        let kept : List ℕ = bytes ++ more in
        let front : JournalFront = j.front in
        let grows = extent_grows j.start j.entries j.written in
        let before = j.extent in
        let start = j.opened.extent in
        let here = ap (λ (e : Desk J). e.extent) j.desk_is in
        let room : front.len ≤ length bytes = omega (arith, grows, before, start, here) in
        let first_bytes : take front.len kept ≡ take front.len bytes = take-append-le front.len bytes more room in
        let from_start : AreWritten (desk_after j.start j.entries) k.entries = subst (λ (e : Desk J). AreWritten e k.entries) j.desk_is k.written in
        let both = joined j.start j.entries k.entries j.written from_start in
        let all : List (Written J) = j.entries ++ k.entries in
        let last : desk_after j.start all ≡ desk_after d k.entries = both.1 ∙ ap (λ (e : Desk J). desk_after e k.entries) (sym j.desk_is) in
        let grows_more = extent_grows d k.entries k.written in
        let size = ap length k.texts in
        let o = j.opened in
        record {
          kept = kept;
          desk = desk_after j.start all;
          kept_is = ap (λ (l : LineState (Desk J)). l.kept) served.line_is ∙ line.1 ∙ ap (λ (o : Option (List ℕ)). append_known o more) there;
          journal = record {
            front = front;
            start = j.start;
            entries = all;
            front_is = front_stays j.start.rules bytes more front j.front_is;
            opened = record {
              judge_is = o.judge_is;
              rules_are = o.rules_are;
              rules_text_is = o.rules_text_is;
              no_entry = o.no_entry;
              extent = o.extent;
              durable = o.durable;
              chain = o.chain ∙ ap sha_digits (sym first_bytes);
            };
            written = both.0;
            bytes_are = take-length kept ∙ ap (λ (l : List ℕ). l ++ more) (sym (take-length bytes) ∙ j.bytes_are)
                ∙ append_assoc (take front.len bytes) (texts_of j.entries) more
                ∙ ap (λ (l : List ℕ). take front.len bytes ++ (texts_of j.entries ++ l)) (sym k.texts)
                ∙ ap (λ (l : List ℕ). take front.len bytes ++ l) (sym (texts_join j.entries k.entries))
                ∙ ap (λ (l : List ℕ). l ++ texts_of all) (sym first_bytes);
            within = omega arith;
            extent = ap (λ (e : Desk J). e.extent) last ∙ grows_more ∙ omega (arith, before, size, length-append bytes more);
            desk_is = refl;
          };
          alike = subst (λ (e : Desk J). AreDesksAlike e now.state) (sym last) (subst (λ (l : LineState (Desk J)). AreDesksAlike (desk_after d k.entries) l.state) (sym served.line_is) k.alike);
        }
