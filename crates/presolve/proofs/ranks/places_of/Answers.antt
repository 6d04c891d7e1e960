use Rattle.std.proofs.Common.{◌≡◌, ℕ, List, arith, sym, subst, length, slice_index, slice_index_or}
use Rattle.std.specs.List.Sorted.{IsNonDecreasing}
use Rattle.std.proofs.lemmas.List.{get_or_default}
use Rattle.std.proofs.lemmas.List.Sorted.{IsNonDecreasingBy-from_sort}
use Rattle.presolve.proofs.ranks.places_of.Goals as goal

pub count_lower-requires : goal.count_lower-requires
count_lower-requires c =
    subst (λ (xs : List ℕ). IsNonDecreasing xs) (sym c.deref.ensures.value)
    (IsNonDecreasingBy-from_sort (λ (n : ℕ). n) c.sort_unstable.new.self.items c.sort_unstable.ensures.sorted)

pub returns-clause-within : goal.returns-clause-within
returns-clause-within c k d small =
    let inv = c.loop-number.invariant in
    let places = c.loop-number.places.items in
    let lower = inv.lower k (let count = inv.count in omega arith) in
    let within = lower.within in
    let same : slice_index_or places k d ≡ slice_index places k = get_or_default places k d 0 small in
    let count : length c.sort_unstable.new.self.items ≡ length c.args.numbers.now =
    (let sorted = c.sort_unstable.ensures.len in let copied = c.in_ok-sorted.ensures.len in omega arith) in
    omega arith
