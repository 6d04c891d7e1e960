use Rattle.std.proofs.Common.{◌≡◌, ◌≤◌, ◌+◌, ◌++◌, ◌∷◌, ◌∙◌, [], ℕ, List, ap, arith, length, refl, rules, sym, take}
use Rattle.std.proofs.lemmas.List.{length-map, length-take-le, map-append, take_more}
use Rattle.auction_input.specs.FileTexts.{IsUnreadOf, memory_short, named_files}
use Rattle.auction_input.specs.declared.input.InputFault.TheVariants as input
use Rattle.auction_input.specs.declared.input.Unread.TheVariants as unread
use Rattle.auction_input.specs.declared.input.Unread.{Unread}
use Rattle.auction_input.specs.declared.input.TheConstants.{INPUT_LIMIT}
use Rattle.auction_input.proofs.FileCallFacts.{made-more, made-none, opening-next, calls_to_open-more}
use Rattle.auction_input.proofs.FileFacts.{bytes-more, read-more, sound-more, text-front, unread-next}
use Rattle.auction_input.proofs.StepFacts.{if-err-of, on-err-given}
use Rattle.auction_input.proofs.input.read_each.Goals as goal

pub loop-name-init : goal.loop-name-init
loop-name-init g c = rw c.new-texts.ensures.items (record {
  read = (refl, refl);
  sound = tt;
  fit = omega arith;
  unfailed = refl;
  at = refl;
  kept = refl;
  called = made-none (g.D.Files.calls c.args.files.now);
})

pub loop-name-preserved : goal.loop-name-preserved
loop-name-preserved g c =
    let content = (g.D.Files.shelf c.args.files.now).content in
    let so = c.loop-name.invariant in
    let names = c.args.names.now in
    let i = c.loop-name.name-index in
    let old = c.loop-name.texts.items in
    let given = c.in_ok-text.text in
    let x = c.name-item.result in
    let item = take_more names i x (omega arith) ∙ ap (λ y. take i names ++ y ∷ []) (sym c.name-item.is) in
    let next = ap named_files item ∙ map-append (λ name. name.bytes.items) (take i names) (x ∷ [])
    ∙ ap (λ (n : List ℕ). named_files (take i names) ++ n ∷ []) (sym (c.in_ok-text.ensures.name ∙ c.as_str.ensures.value)) in
    let here = so.at ∙ sym (length-map (take i names) (λ name. name.bytes.items) ∙ length-take-le i names (omega arith)) in
    let added : c.push.new.self.items ≡ old ++ given ∷ [] = search rules in
    let more = read-more content (named_files (take i names)) _ _ _ old given so.read (rw so.kept at c.in_ok-text.ensures.text) in
    let sound = sound-more content (named_files (take i names)) _ _ old given c.loop-name.place (length names) so.read here so.sound
    c.in_ok-text.ensures.sound in
    let small = c.in_ok-text.ensures.within in record {
      read = rw (next, added) more;
      sound = rw added sound;
      fit = bytes-more old c.push.new.self.items given c.loop-name.room INPUT_LIMIT _ added so.fit (ap length c.bytes.ensures) small;
      unfailed = c.in_ok-text.ensures.unfailed ∙ so.unfailed;
      at = omega arith;
      kept = c.in_ok-text.ensures.shelf_kept ∙ so.kept;
      called = rw (next, calls_to_open-more (named_files (take i names)) given.name) (made-more _ _ _ _ _ so.called (rw c.in_ok-text.ensures.name c.in_ok-text.ensures.called));
    }

pub returns-in_err-text-clause-unread : goal.returns-in_err-text-clause-unread
returns-in_err-text-clause-unread g c =
    let shelf = g.D.Files.shelf c.args.files.now in
    let so = c.loop-name.invariant in
    let names = c.args.names.now in
    let i = c.loop-name.name-index in
    let x = c.name-item.result in
    let f = c.in_err-text.field-0.0 in
    let old = c.args.input.now in
    let new = c.read_text.new.input in
    let item = take_more names i x (omega arith) ∙ ap (λ y. take i names ++ y ∷ []) (sym c.name-item.is) in
    if-err-of (λ (e : Unread). IsUnreadOf shelf (named_files names) e (g.I.Read.remaining old.reader) (g.I.Read.remaining new.reader) old.failures new.failures)
    c.from_residual.result f c.from_residual.ensures.1
    (unread-next shelf names i x _ c.loop-name.place c.loop-name.room f _ _ _ _ _ _ c.loop-name.texts.items item c.as_str.ensures.value so.at (omega arith)
    so.unfailed so.read so.sound so.fit (rw so.kept at c.in_err-text.ensures.unread))

pub returns-then-is_err-clause-unread : goal.returns-then-is_err-clause-unread
returns-then-is_err-clause-unread g c =
    let shelf = g.D.Files.shelf c.args.files.now in
    let so = c.loop-name.invariant in
    let names = c.args.names.now in
    let i = c.loop-name.name-index in
    let x = c.name-item.result in
    let given = c.in_ok-text.text in
    let item = take_more names i x (omega arith) ∙ ap (λ y. take i names ++ y ∷ []) (sym c.name-item.is) in
    let small : length given.bytes ≤ c.loop-name.room + 1 = omega (arith, c.in_ok-text.ensures.within) in
    unread-next shelf names i x given.name c.loop-name.place c.loop-name.room (unread.Input input.OutOfMemory) _ _ _ _ _ _
    c.loop-name.texts.items item (c.in_ok-text.ensures.name ∙ c.as_str.ensures.value) so.at (omega arith) so.unfailed so.read so.sound so.fit
    (memory_short given.bytes (text-front shelf.content given.name _ _ given.bytes (rw so.kept at c.in_ok-text.ensures.text)) small c.in_ok-text.ensures.unfailed)

pub returns-in_err-text-clause-begun : goal.returns-in_err-text-clause-begun
returns-in_err-text-clause-begun g c =
    let names = c.args.names.now in
    let i = c.loop-name.name-index in
    let x = c.name-item.result in
    let item = take_more names i x (omega arith) ∙ ap (λ y. take i names ++ y ∷ []) (sym c.name-item.is) in
    on-err-given c.from_residual.result
    (opening-next names i x c.as_str.result.now _ _ _ item c.as_str.ensures.value c.loop-name.invariant.called c.in_err-text.ensures.called)

pub returns-then-is_err-clause-begun : goal.returns-then-is_err-clause-begun
returns-then-is_err-clause-begun g c =
    let names = c.args.names.now in
    let i = c.loop-name.name-index in
    let x = c.name-item.result in
    let item = take_more names i x (omega arith) ∙ ap (λ y. take i names ++ y ∷ []) (sym c.name-item.is) in
    opening-next names i x c.as_str.result.now _ _ _ item c.as_str.ensures.value c.loop-name.invariant.called c.in_ok-text.ensures.called
