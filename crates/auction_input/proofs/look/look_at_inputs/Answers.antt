use Rattle.std.proofs.Common.{◌≡◌, ◌++◌, ◌∷◌, ◌∙◌, ◌<◌, [], ap, arith, codes, inl, inr, length, refl, rules, sym, take}
use Rattle.std.proofs.lemmas.List.{map-append, take_more}
use Rattle.indexmap.specs.IndexSet.{keys}
use Rattle.auction_input.specs.FileTexts.{named_files}
use Rattle.auction_input.specs.FileCalls.{look_at}
use Rattle.auction_input.proofs.FileCallFacts.{begun-whole, look-next, made-more, made-none}
use Rattle.auction_input.proofs.LookFacts.{read-names, read-none, refused-alone, refused-next, taken-alone, taken-more, taken-none}
use Rattle.auction_input.proofs.StepFacts.{if-err-weaker, on-err-given, on-ok-weaker}
use Rattle.auction_input.proofs.look.look_at_inputs.Goals as goal

pub returns-then-is_empty-clause-taken : goal.returns-then-is_empty-clause-taken
returns-then-is_empty-clause-taken g c =
    let none : length c.args.names.now ≡ 0 = search rules in
    let shelf = g.D.Files.shelf c.args.files.now in
    rw (read-none c.args.names.now none)
    (on-ok-weaker _ (taken-alone shelf (codes "-") (keys c.args.seen.now) (keys c.look_at_input.new.seen) c.requires) c.look_at_input.ensures.taken)

pub returns-then-is_empty-clause-refused : goal.returns-then-is_empty-clause-refused
returns-then-is_empty-clause-refused g c =
    let none : length c.args.names.now ≡ 0 = search rules in
    let shelf = g.D.Files.shelf c.args.files.now in
    rw (read-none c.args.names.now none)
    (if-err-weaker _ _ c.look_at_input.result (λ r why. elim why [
      | inl memory ↦ inl memory
      | inr found ↦ inr (refused-alone shelf (codes "-") (keys c.args.seen.now) r c.requires found)
    ]) c.look_at_input.ensures.refused)

pub returns-then-is_empty-clause-begun : goal.returns-then-is_empty-clause-begun
returns-then-is_empty-clause-begun g c =
    let none : length c.args.names.now ≡ 0 = search rules in
    rw (read-none c.args.names.now none)
    (on-err-given c.look_at_input.result (begun-whole (look_at (codes "-") ∷ []) _ _ c.look_at_input.ensures.called))

pub loop-name-init : goal.loop-name-init
loop-name-init g c = record {
  taken = rw c.requires (taken-none (g.D.Files.shelf c.args.files.now));
  kept = refl;
  called = made-none (g.D.Files.calls c.args.files.now);
}

pub loop-name-preserved : goal.loop-name-preserved
loop-name-preserved g c =
    let names = c.args.names.now in
    let i = c.loop-name.name-index in
    let x = c.name-item.result in
    let item = take_more names i x (omega arith) ∙ ap (λ y. take i names ++ y ∷ []) (sym c.name-item.is) in
    let next = ap named_files item ∙ map-append (λ name. name.bytes.items) (take i names) (x ∷ [])
    ∙ ap (λ n. named_files (take i names) ++ n ∷ []) (sym c.as_str.ensures.value) in
    let so = c.loop-name.invariant in
    let (file, found, fine, more) = rw so.kept at c.in-Ok.ensures.taken in record {
      taken = rw (next, more) (taken-more (g.D.Files.shelf c.args.files.now) (named_files (take i names)) (keys c.loop-name.seen)
          c.as_str.result.now file so.taken found fine);
      kept = c.in-Ok.ensures.shelf_kept ∙ so.kept;
      called = rw (next, map-append look_at (named_files (take i names)) (c.as_str.result.now ∷ [])) (made-more _ _ _ _ _ so.called c.in-Ok.ensures.called);
    }

pub returns-in-Err-clause-refused : goal.returns-in-Err-clause-refused
returns-in-Err-clause-refused g c =
    let names = c.args.names.now in
    let i = c.loop-name.name-index in
    let x = c.name-item.result in
    let so = c.loop-name.invariant in
    let some : 0 < length names = omega arith in
    let item = take_more names i x (omega arith) ∙ ap (λ y. take i names ++ y ∷ []) (sym c.name-item.is) in
    elim (c.in-Err.ensures.refused) [
      | inl memory ↦ inl memory
      | inr found ↦ inr (refused-next (g.D.Files.shelf c.args.files.now) names i x c.as_str.result.now (keys c.loop-name.seen) c.in-Err.refusal some
          item c.as_str.ensures.value so.taken (rw so.kept at found))
    ]

pub returns-in-Err-clause-begun : goal.returns-in-Err-clause-begun
returns-in-Err-clause-begun g c =
    let names = c.args.names.now in
    let i = c.loop-name.name-index in
    let x = c.name-item.result in
    let some : 0 < length names = omega arith in
    let item = take_more names i x (omega arith) ∙ ap (λ y. take i names ++ y ∷ []) (sym c.name-item.is) in
    rw (read-names names some)
    (look-next names i x c.as_str.result.now _ _ _ item c.as_str.ensures.value c.loop-name.invariant.called c.in-Err.ensures.called)
