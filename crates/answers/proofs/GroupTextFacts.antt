-- Items that go out one after the other.
use Rattle.std.proofs.Common.{◌≡◌, ◌<◌, ◌≤◌, ◌+◌, ◌-◌, ◌∷◌, ◌++◌, ◌∙◌, ℕ, suc, List, [], Option, None, Some, length, take}
use Rattle.std.proofs.Common.{drop, get_or, refl, sym, ap, subst, arith, append_assoc, length-append, MutBor, min, ◌^◌, map}
use Rattle.std.specs.Io.KnownBytes.{Appends, append_known}
use Rattle.std.proofs.lemmas.List.{append-nil, get_or-map, length-map, length-take, take-append-drop, take-append-le, take_more}
use Rattle.byte_sinks.specs.Sinks.{Counts, HasFailed, IsFront, Outlet, SentFront}
use Rattle.byte_sinks.specs.declared.writer.Writer.{Writer}
use Rattle.byte_sinks.specs.Adds.{Adds, IsBroken, IsNew, IsSent}
use Rattle.byte_sinks.proofs.AddingFacts.{Adds-then, counts-new, front-after, goes-in-part, sent-whole}
use Rattle.byte_sinks.proofs.KnownByteFacts.{Counts-then, IsFront-piece, SentFront-from}
use Rattle.bid_desk.specs.Closing.{Closing}
use Rattle.group_compiler.specs.Compiled.{GroupProgram, compiled}
use Rattle.answers.specs.GroupTexts.{EndsIn, program_bytes, programs_bytes}
use Rattle.outcome.specs.Report.{in_turn}

pub in_turn-append : {X : Type 0} (f : ℕ → X → List ℕ) (k : ℕ) (xs ys : List X) → in_turn f k (xs ++ ys) ≡ in_turn f k xs ++ in_turn f (k + length xs) ys
in_turn-append f k [] ys = (let same : k ≡ k + 0 = omega arith in ap (λ n. in_turn f n ys) same)
in_turn-append f k (x ∷ xs) ys =
    let same : k + 1 + length xs ≡ k + suc (length xs) = omega arith in
    ap (λ w. f k x ++ w) (in_turn-append f (k + 1) xs ys)
    ∙ sym (append_assoc (f k x) (in_turn f (k + 1) xs) (in_turn f (k + 1 + length xs) ys))
    ∙ ap (λ n. (f k x ++ in_turn f (k + 1) xs) ++ in_turn f n ys) same

-- the first items, with one more
in_turn-more : {X : Type 0} (f : ℕ → X → List ℕ) (k : ℕ) (xs : List X) (i : ℕ) (x : X) → x ≡ get_or xs i x → i < length xs
    → in_turn f k (take i xs) ++ f (k + i) x ≡ in_turn f k (take (i + 1) xs)
in_turn-more f k xs i x is small =
    let size : length (take i xs) ≡ i = omega (arith, length-take i xs) in
    let more : take (i + 1) xs ≡ take i xs ++ x ∷ [] = rw (sym is) at (take_more xs i x small) in
    let all = in_turn-append f k (take i xs) (x ∷ []) in
    let last : in_turn f (k + length (take i xs)) (x ∷ []) ≡ f (k + i) x = append-nil (f (k + length (take i xs)) x) ∙ ap (λ n. f (k + n) x) size in
    sym (ap (in_turn f k) more ∙ all ∙ ap (λ w. in_turn f k (take i xs) ++ w) last)

-- the programs of the first groups, with that of the next
pub programs-more : (book : Closing) (groups : List (List ℕ)) (place : ℕ) (group : List ℕ) → place < length groups → group ≡ get_or groups (place + 1 - 1) []
    → programs_bytes book (take place (map (compiled book) groups)) ++ program_bytes book (place + 1) (compiled book group)
    ≡ programs_bytes book (take (place + 1) (map (compiled book) groups))
programs-more book groups place group within is =
    let order : 1 + place ≡ place + 1 = omega arith in
    let at : place + 1 - 1 ≡ place = omega arith in
    let own = ap (compiled book) (is ∙ ap (λ (n : ℕ). get_or groups n []) at) ∙ sym (get_or-map (compiled book) groups place [] (compiled book group) within) in
    let size = length-map groups (compiled book) in
    rw order at (in_turn-more (program_bytes book) 1 (map (compiled book) groups) place (compiled book group) own (omega arith))

-- the first items, and the others
pub in_turn-rest : {X : Type 0} (f : ℕ → X → List ℕ) (k : ℕ) (xs : List X) (i : ℕ)
    → in_turn f k xs ≡ in_turn f k (take i xs) ++ in_turn f (k + length (take i xs)) (drop i xs)
in_turn-rest f k xs i = ap (in_turn f k) (sym (take-append-drop i xs)) ∙ in_turn-append f k (take i xs) (drop i xs)

-- where the output ended: after what had gone out, and within the bytes that were being added
abbrev pub EndsWithin : Option (List ℕ) → Option (List ℕ) → List ℕ → List ℕ → List ℕ → ℕ → Type 0
EndsWithin None after whole done upto written = Unit {0}
EndsWithin (Some before) None whole done upto written = ⊥
EndsWithin (Some before) (Some after) whole done upto written =
    (n : ℕ) × (after ≡ before ++ take n whole) × (written ≡ min n (2 ^ 64 - 1)) × (length done ≤ n) × (n < length upto)

ends-known : (o m u done b later : List ℕ) (written : ℕ) → m ≡ o ++ done → length m ≤ length u → SentFront (Some o) (Some u) (done ++ b) written
    → EndsWithin (Some o) (Some u) ((done ++ b) ++ later) done (done ++ b) written
ends-known o m u done b later written gone longer (n, few, is, count) =
    let size : length u ≡ length o + n = omega (arith, ap length is, length-append o (take n (done ++ b)), length-take n (done ++ b)) in
    let before : length m ≡ length o + length done = ap length gone ∙ length-append o done in
    let within : n ≤ length (done ++ b) = omega arith in
    let front : take n ((done ++ b) ++ later) ≡ take n (done ++ b) = rw take-append-le refl in
    (n, is ∙ ap (λ w. o ++ w) (sym front), count, omega arith, few)

ends-within : (t0 t t' : Option (List ℕ)) (done b later : List ℕ) (sent sent' : ℕ) → Appends t0 t done → Counts t0 t 0 sent
    → IsFront t' (append_known t b) → Counts t t' sent sent'
    → EndsWithin t0 t' ((done ++ b) ++ later) done (done ++ b) sent'
ends-within None t t' done b later sent sent' gone count front more = tt
ends-within (Some o) None t' done b later sent sent' gone count front more = absurd gone
ends-within (Some o) (Some m) None done b later sent sent' gone count front more = absurd more
ends-within (Some o) (Some m) (Some u) done b later sent sent' gone count front more =
    let same : done ++ b ≡ done ++ (b ++ []) = ap (λ w. done ++ w) (sym (append-nil b)) in
    let all = IsFront-piece (Some u) (Some o) (Some m) done b [] (done ++ b) same gone front in
    let counts = Counts-then (Some o) (Some m) (Some u) 0 sent sent' count more in
    ends-known o m u done b later sent' gone more.0 (SentFront-from (Some o) (Some u) (done ++ b) sent' all counts)

-- the same, of a writer that had sent what is done, to a sink that ends as x
pub ends-parsed : {X : Type 0} {state : X → Outlet} {s : MutBor X} {a b c : Writer X} {written : ℕ} (x : X)
    (done bytes later : List ℕ)
    → IsNew s a → Adds state a b done → IsSent b → Adds state b c bytes → IsBroken c written → x ≡ c.sink.now
    → EndsWithin (state s.now).taken (state x).taken ((done ++ bytes) ++ later) done (done ++ bytes) written
ends-parsed {X} {state} {s} {a} {b} {c} {written} x done bytes later new before sent added broken end =
    let ends = ends-within (state s.now).taken (state b.sink.now).taken (state c.sink.now).taken done bytes later b.sent c.sent (sent-whole new before sent)
    (counts-new new before) (front-after sent added broken) added.counted in
    subst (λ (y : X). EndsWithin (state s.now).taken (state y).taken ((done ++ bytes) ++ later) done (done ++ bytes) written) (sym end)
    (subst (λ (n : ℕ). EndsWithin (state s.now).taken (state c.sink.now).taken ((done ++ bytes) ++ later) done (done ++ bytes) n) (sym broken.1) ends)

-- the sink stays in its place, and counts the put that failed
pub fails-parsed : {X : Type 0} {state : X → Outlet} {s : MutBor X} {a b c : Writer X} {done bytes : List ℕ} {written : ℕ} (x : X)
    → IsNew s a → Adds state a b done → Adds state b c bytes → IsBroken c written → x ≡ c.sink.now
    → HasFailed (state s.now).failures (state x).failures × ((state x).place ≡ (state s.now).place)
fails-parsed {X} {state} {s} x new before added broken end =
    let part = goes-in-part new (Adds-then before added) broken in
    subst (λ (y : X). HasFailed (state s.now).failures (state y).failures × ((state y).place ≡ (state s.now).place)) (sym end) (part.failed, part.place)

-- the same, of the programs of all groups
pub ends-in : (book : Closing) (programs : List GroupProgram) (place written : ℕ) (t t' : Option (List ℕ)) (whole done upto : List ℕ)
    → programs_bytes book programs ≡ whole → programs_bytes book (take place programs) ≡ done → programs_bytes book (take (place + 1) programs) ≡ upto
    → EndsWithin t t' whole done upto written → EndsIn book programs (place + 1) written t t'
ends-in book programs place written None t' whole done upto all before within ends = tt
ends-in book programs place written (Some o) None whole done upto all before within ends = ends
ends-in book programs place written (Some o) (Some u) whole done upto all before within (n, is, count, least, most) =
    let back : place + 1 - 1 ≡ place = omega arith in
    let first : length (programs_bytes book (take (place + 1 - 1) programs)) ≡ length done = rw back (ap length before) in
    (n, rw all is, count, omega arith, omega (arith, ap length within))
