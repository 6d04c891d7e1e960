use Rattle.std.proofs.Common.{◌≡◌, ◌<◌, ◌+◌, ⊎_elim, ℕ, nat_lt, length, slice_index_or, arith, rules, sym, ap, ◌∙◌}
use Rattle.std.specs.Int.{bit_at, trailing_zeros, w64}
use Rattle.std.proofs.lemmas.Bool.{both_ways, lt-ltb}
use Rattle.std.proofs.lemmas.List.{get_or_default}
use Rattle.std.proofs.lemmas.Nat.Bits.{bit_at-trailing_zeros}
use Rattle.presolve.proofs.BitFacts.{lowest_taken}
use Rattle.presolve.specs.inside.Sizes.{beats}
use Rattle.presolve.proofs.search.first_among.Goals as goal
use Rattle.presolve.proofs.search.first_among.Goals.{in-Some+else-does_beat, in_default}

pub loop-left-preserved : goal.loop-left-preserved
loop-left-preserved c = λ k d candidate taken within.
    let bid = c.args.bid.now in
    let rivals = c.args.rivals.now in
    let left = c.loop-left.left in
    let fits = c.loop-left.auto.left-fits in
    ⊎_elim
    (λ (here : k ≡ trailing_zeros w64 left).
    let at : c.args.first + k ≡ c.args.first + trailing_zeros w64 left = omega arith in
    elim c.match-get.branch [
      | in-Some+else-does_beat w ↦
          let is : w.in-Some.rival.now ≡ slice_index_or rivals (c.args.first + trailing_zeros w64 left) w.in-Some.rival.now = search rules in
          let same : w.in-Some.rival.now ≡ slice_index_or rivals (c.args.first + k) d = is
          ∙ ap (λ (n : ℕ). slice_index_or rivals n w.in-Some.rival.now) (sym at)
          ∙ get_or_default rivals (c.args.first + k) w.in-Some.rival.now d within in
          ap (beats bid) (sym same) ∙ sym w.if-does_beat.ensures
      | in_default w ↦ absurd (both_ways (nat_lt (c.args.first + trailing_zeros w64 left) (length rivals))
          (sym w.in_default.ensures.lookup.0) (lt-ltb (c.args.first + trailing_zeros w64 left) (length rivals) (omega arith)))
    ])
    (λ (gone : bit_at left k ≡ 0). c.loop-left.invariant k d candidate gone within)
    (lowest_taken left k c.loop-left-test.true (omega arith) taken)

pub returns-then-does_beat-clause-unbeaten : goal.returns-then-does_beat-clause-unbeaten
returns-then-does_beat-clause-unbeaten c = λ k d candidate small.
    let left = c.loop-left.left in
    let fits = c.loop-left.auto.left-fits in
    let some = c.loop-left-test.true in
    let lowest = bit_at-trailing_zeros w64 left (omega arith) (omega arith) in
    let inside : c.args.first + trailing_zeros w64 left < length c.args.rivals.now = search rules in
    c.loop-left.invariant k d candidate (lowest.2 k (omega arith)) (omega arith)
