use Rattle.std.proofs.Common.{◌≡◌, ◌+◌, ◌-◌, Some, None, take, drop, length, arith}
use Rattle.std.proofs.lemmas.List.{length-drop, take_all}
use Rattle.std.specs.List.{position}
use Rattle.std.specs.Prelude.{◌==◌}
use Rattle.auction_terms.proofs.LineFacts.{split-first, split-last}
use Rattle.desk_book.proofs.fields.split_field.Goals as goal

pub returns-in-Some : goal.returns-in-Some
returns-in-Some c =
    let text = c.args.text.now in
    let end = c.in-Some.end in
    let at : position (λ b. b == 32) text ≡ Some end = (let e = c.blank_in.ensures in let f = c.in-Some.is in cc) in
    let after : take (length text - (end + 1)) (drop (end + 1) text) ≡ drop (end + 1) text =
    (let l = length-drop (end + 1) text in take_all _ _ (omega arith)) in
    rw after (split-first (λ b. b == 32) text end at)

pub returns-in-None : goal.returns-in-None
returns-in-None c =
    let at : position (λ b. b == 32) c.args.text.now ≡ None = (let e = c.blank_in.ensures in let f = c.in-None.is in cc) in
    split-last (λ b. b == 32) c.args.text.now at
