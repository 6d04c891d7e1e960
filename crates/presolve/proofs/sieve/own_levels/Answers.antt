use Rattle.std.proofs.Common.{◌≡◌, ◌<◌, ◌≤◌, ◌/◌, ◌%◌, ◌*◌, ◌^◌, ⊎_elim, w64, ℕ, length, length-set, slice_index, slice_index_or, slice_set, arith, ap, sym, subst, ◌∙◌}
use Rattle.std.specs.Int.{bit_at, div_ceil}
use Rattle.std.specs.Int.Bits.{bit_or}
use Rattle.std.specs.Vec.{with_item}
use Rattle.std.proofs.lemmas.Bool.{cases_lt}
use Rattle.std.proofs.lemmas.List.{get_or-set_same, get_or_default}
use Rattle.std.proofs.lemmas.List.Elements.{All-set}
use Rattle.presolve.specs.declared.sieve.Level.{Level}
use Rattle.presolve.specs.inside.Sieves.{IsMarked}
use Rattle.std.proofs.lemmas.Nat.Bits.{bit_at_set_same}
use Rattle.presolve.proofs.BitFacts.{first_set}
use Rattle.presolve.proofs.SieveFacts.{still_marked, still_on}
use Rattle.presolve.proofs.sieve.own_levels.Goals as goal

pub loop-place-preserved : goal.loop-place-preserved
loop-place-preserved c =
    let before = c.loop-place.invariant in
    let levels = c.loop-place.levels.items in
    let place = c.loop-place.place in
    let ranks = c.args.ranks.now in
    let r = c.from.result in
    let old = c.index_mut.result.now in
    let words = old.words.items in
    let at = place / 64 in
    let first = c.index_mut-in-loop-place.result.now in
    let word : ℕ = bit_or first (1 * 2 ^ (place % 64) % 2 ^ 64) in
    let new : Level = record { words = with_item old.words at word } in
    let rank : slice_index ranks place ≡ r = sym c.from.ensures in
    let most : r ≤ c.greatest.result = (let all = c.greatest.ensures place 0 c.loop-place-test.true in omega arith) in
    let within : r < length levels = (let count = before.count in let from = c.from-count.ensures in omega arith) in
    let was : (d : Level) → slice_index_or levels r d ≡ old = λ d. sym (c.index_mut.ensures.value ∙ get_or_default levels r old d within) in
    let long : length words ≡ div_ceil (length ranks) 64 =
    subst (λ (level : Level). length level.words.items ≡ div_ceil (length ranks) 64) (was old) (before.long r old within) in
    let room : at < length words = (let inside = c.loop-place-test.true in omega arith) in
    let same : slice_index words at ≡ first = sym (c.index_mut-in-loop-place.ensures.value ∙ get_or_default words at first 0 room) in
    let own : IsMarked new.words.items place =
    ap (λ (n : ℕ). bit_at n (place % 64)) (get_or-set_same words at word 0 room) ∙ bit_at_set_same w64 first (place % 64) (omega arith) in
    let others : (k : ℕ) → IsMarked words k → IsMarked new.words.items k = λ k marked. still_marked words at word k room
    (λ set. first_set first _ (k % 64) (subst (λ (n : ℕ). bit_at n (k % 64) ≡ 1) same set)) marked in
    record {
      count = length-set levels r new ∙ before.count;
      long = All-set (λ (level : Level). length level.words.items ≡ div_ceil (length ranks) 64) levels r new (length-set words at word ∙ long) before.long;
      marks = λ i d small. ⊎_elim
          (λ (earlier : i < place). still_on levels r d new within
          (λ k marked. others k (subst (λ (level : Level). IsMarked level.words.items k) (was d) marked))
          (slice_index ranks i) i (before.marks i d earlier))
          (λ (here : place ≤ i).
          let now : place ≡ i = omega arith in
          let mine : slice_index_or (slice_set levels r new) (slice_index ranks place) d ≡ new =
          ap (λ (n : ℕ). slice_index_or (slice_set levels r new) n d) rank ∙ get_or-set_same levels r new d within in
          subst (λ (n : ℕ). IsMarked (slice_index_or (slice_set levels r new) (slice_index ranks n) d).words.items n) now
          (subst (λ (level : Level). IsMarked level.words.items place) (sym mine) own))
          (cases_lt i place);
    }

pub returns : goal.returns
returns c =
    let inv = c.loop-place.invariant in
    let ranks = c.args.ranks.now in
    let levels = c.loop-place.levels.items in
    record {
      within = λ k d small. (let most = c.greatest.ensures k d small in let count = inv.count in let from = c.from-count.ensures in omega arith);
      long = inv.long;
      marks = λ i r d inside small is. subst (λ (n : ℕ). IsMarked (slice_index_or levels n d).words.items i) is
          (inv.marks i d (let all = c.loop-place-test.false in omega arith));
    }
