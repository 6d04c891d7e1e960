use Rattle.std.proofs.Common.{◌≡◌, ◌<◌, ◌++◌, ℕ, List, append-nil, length, take, refl, length-set, slice_index, slice_set, arith, ap, ◌∙◌}
use Rattle.std.specs.Int.{bit_at}
use Rattle.std.specs.Int.RustNames.{bit_or}
use Rattle.std.proofs.lemmas.Grind.{same_number_lists}
use Rattle.std.proofs.lemmas.List.{drop_all, get_or-set_other, get_or-set_same, get_or_default, take_all}
use Rattle.presolve.proofs.BitFacts.{first_set, second_set}
use Rattle.presolve.proofs.SieveFacts.{set_word}
use Rattle.presolve.proofs.sieve.add_lower.Goals as goal

pub loop-place-init : goal.loop-place-init
loop-place-init c = record {
  count = refl;
  long = ap length c.deref_mut-word-items.ensures.value;
  same = λ j small. absurd (omega arith);
  own = λ j k small. absurd (omega arith);
  lower = λ j k small. absurd (omega arith);
  later = λ j above. refl;
  after = λ j above. ap (λ (xs : List ℕ). slice_index xs j) c.deref_mut-word-items.ensures.value;
}

pub loop-place-preserved : goal.loop-place-preserved
loop-place-preserved c =
    let so_far = c.loop-place.so_far.words.items in
    let level = c.loop-place.word-items in
    let place = c.loop-place.place in
    let before = c.loop-place.invariant in
    let first = slice_index level place in
    let second = c.index.result.now in
    let word : ℕ = bit_or first second in
    let inside : place < length level = (let small = c.loop-place-test.true in omega arith) in
    let within : place < length so_far = omega (arith, before.long, before.count, c.requires, inside) in
    let its : second ≡ slice_index so_far place = c.index.ensures ∙ get_or_default so_far place second 0 within in
    record {
      count = length-set so_far place word ∙ before.count;
      long = length-set level place word ∙ before.long;
      same = λ j small. set_word (λ (j w : ℕ). slice_index (slice_set level place word) j ≡ w) so_far place word within
          (λ j earlier. get_or-set_other level place j word 0 (omega arith) ∙ before.same j earlier)
          (get_or-set_same level place word 0 inside) j small;
      own = λ j k small. set_word (λ (j w : ℕ). bit_at (slice_index c.args.level.now.words.items j) k ≡ 1 → bit_at w k ≡ 1) so_far place word within
          (λ j earlier. before.own j k earlier)
          (λ set. first_set first second k (ap (λ (n : ℕ). bit_at n k) (before.after place (omega arith)) ∙ set)) j small;
      lower = λ j k small. set_word (λ (j w : ℕ). bit_at (slice_index c.args.so_far.now.words.items j) k ≡ 1 → bit_at w k ≡ 1) so_far place word within
          (λ j earlier. before.lower j k earlier)
          (λ set. second_set first second k (ap (λ (n : ℕ). bit_at n k) (its ∙ before.later place (omega arith)) ∙ set)) j small;
      later = λ j above. get_or-set_other so_far place j word 0 (omega arith) ∙ before.later j (omega arith);
      after = λ j above. get_or-set_other level place j word 0 (omega arith) ∙ before.after j (omega arith);
    }

pub returns-clause-same : goal.returns-clause-same
returns-clause-same c =
    let inv = c.loop-place.invariant in
    let level = c.loop-place.word-items in
    let whole = c.args.level.now.words in
    let size = whole.ok.0 in
    let last = c.loop-place-test.false in
    ap (λ (rest : List ℕ). take whole.len (level ++ rest)) (drop_all (length level) whole.items (omega (arith, inv.long)))
    ∙ ap (λ (words : List ℕ). take whole.len words) (append-nil level)
    ∙ take_all whole.len level (omega (arith, inv.long, size))
    ∙ same_number_lists level c.loop-place.so_far.words.items (omega (arith, inv.count, inv.long, c.requires))
    (λ k inside. inv.same k (omega arith))
