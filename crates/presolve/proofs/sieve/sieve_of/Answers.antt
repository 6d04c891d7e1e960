use Rattle.std.proofs.Common.{◌≡◌, ◌+◌, ◌<◌, ◌≤◌, ◌++◌, ⊎_elim, ℕ, List, append-nil, drop, length, take, length-set, refl, slice_index, slice_index_or, slice_set, arith, ap, sym, subst, ◌∙◌}
use Rattle.std.specs.Int.{div_ceil}
use Rattle.std.proofs.lemmas.Bool.{cases_lt}
use Rattle.std.proofs.lemmas.List.{drop_all, get_or-set_other, get_or-set_same, take_all}
use Rattle.std.proofs.lemmas.List.Elements.{All-set}
use Rattle.presolve.specs.declared.sieve.Level.{Level}
use Rattle.presolve.specs.inside.Sieves.{AreLevels, IsMarked}
use Rattle.presolve.proofs.sieve.sieve_of.Goals as goal

pub loop-level-init : goal.loop-level-init
loop-level-init c =
    let ranks = c.in_ok-ranks.ranks.items in
    let made : AreLevels (λ r s. r ≡ s) ranks c.deref_mut-level-items.result.now =
    rw c.deref_mut-level-items.ensures.value (subst (λ (xs : List ℕ). AreLevels (λ r s. r ≡ s) xs c.in_ok-levels.levels.items)
    c.deref.ensures.value c.in_ok-levels.ensures) in
    record {
      count = refl;
      room = (let long = c.in_ok-words.ensures.len in let all = c.div_ceil.ensures in let count = c.len.ensures in omega
          (arith, c.in_ok-words.words.ok.0, c.in_ok-ranks.ranks.ok.0));
      long = made.long;
      lower = λ i r d inside none low. absurd (omega arith);
      so_far = λ i inside none. absurd (omega arith);
      own = λ i r d inside from small is. made.marks i r d inside small is;
    }

pub loop-level-preserved : goal.loop-level-preserved
loop-level-preserved c =
    let before = c.loop-level.invariant in
    let levels = c.loop-level.level-items in
    let ranks = c.in_ok-ranks.ranks.items in
    let rank = c.loop-level.level-index in
    let old = c.level-item.result in
    let new = c.add_lower.new.level in
    let more = c.add_lower.new.so_far in
    let added = c.add_lower.ensures in
    let within : rank < length levels = (let small = c.loop-level-test.true in omega (arith, before.count)) in
    let room : length more.words.items ≡ div_ceil (length ranks) 64 = added.count ∙ before.room in
    let so_far : (i : ℕ) → i < length ranks → slice_index ranks i < rank + 1 → IsMarked more.words.items i = λ i inside up. ⊎_elim
    (λ (lower : slice_index ranks i < rank). added.lower i (before.so_far i inside lower))
    (λ (here : rank ≤ slice_index ranks i). added.own i (before.own i rank old inside (omega arith) within (omega arith)))
    (cases_lt (slice_index ranks i) rank) in
    record {
      count = length-set levels rank new ∙ before.count;
      room = room;
      long = All-set (λ (level : Level). length level.words.items ≡ div_ceil (length ranks) 64) levels rank new
          (ap (λ (xs : List ℕ). length xs) added.same ∙ room) before.long;
      lower = λ i r d inside small low. ⊎_elim
          (λ (earlier : r < rank). subst (λ (level : Level). IsMarked level.words.items i)
          (sym (get_or-set_other levels rank r new d (omega arith))) (before.lower i r d inside earlier low))
          (λ (here : rank ≤ r).
          let at : rank ≡ r = omega arith in
          subst (λ (n : ℕ). IsMarked (slice_index_or (slice_set levels rank new) n d).words.items i) at
          (subst (λ (level : Level). IsMarked level.words.items i) (sym (get_or-set_same levels rank new d within))
          (subst (λ (words : List ℕ). IsMarked words i) (sym added.same) (so_far i inside (omega arith)))))
          (cases_lt r rank);
      so_far = so_far;
      own = λ i r d inside from small is. subst (λ (level : Level). IsMarked level.words.items i) (sym (get_or-set_other levels rank r new d (omega arith)))
          (before.own i r d inside (omega arith) (let count = length-set levels rank new in omega arith) is);
    }

pub returns : goal.returns
returns c =
    let ranks = c.in_ok-ranks.ranks.items in
    let inv = c.loop-level.invariant in
    let whole = c.in_ok-levels.levels in
    let levels = c.loop-level.level-items in
    let made : AreLevels (λ r s. r ≡ s) ranks whole.items =
    subst (λ (xs : List ℕ). AreLevels (λ r s. r ≡ s) xs whole.items) c.deref.ensures.value c.in_ok-levels.ensures in
    let count : length levels ≡ length whole.items = inv.count ∙ ap (λ (ls : List Level). length ls) c.deref_mut-level-items.ensures.value in
    let size = whole.ok.0 in
    let last = c.loop-level-test.false in
    let all : take whole.len (levels ++ drop (length levels) whole.items) ≡ levels =
    ap (λ (rest : List Level). take whole.len (levels ++ rest)) (drop_all (length levels) whole.items (omega arith))
    ∙ ap (λ (ls : List Level). take whole.len ls) (append-nil levels)
    ∙ take_all whole.len levels (omega arith) in
    let levelled : AreLevels (λ r s. r ≤ s) ranks levels = record {
      within = λ k d small. (let most = made.within k d small in omega arith);
      long = inv.long;
      marks = λ i r d inside small low. inv.lower i r d inside (omega arith) low;
    } in
    record { ranked = c.in_ok-ranks.ensures; levels = subst (AreLevels (λ r s. r ≤ s) ranks) (sym all) levelled }
