use Rattle.std.proofs.Common.{rules, ◌≡◌, ◌∷◌, [], ◌++◌, ◌+◌, ◌∙◌, List, sym, refl, subst, length, None, Some}
use Rattle.std.proofs.lemmas.List.{length-map}
use Rattle.auction_input.specs.inside.Parts.{kind_named, part_name, part}
use Rattle.auction_input.specs.Parts.{Part, cut_lines, parts_held, parts_in, unknown_part}
use Rattle.auction_input.proofs.PartFacts.{CheckedAfter, after-all, after-fault, after-more, held-more, known-part, none-left, starts-so, unknown-is, unknown-part}
use Rattle.auction_input.proofs.parts.add_parts.Goals as goal

pub loop-rest-init : goal.loop-rest-init
loop-rest-init c = (record { all_is = refl; fault_is = refl }, starts-so c.args.text.now c.requires)

pub loop-rest-preserved : goal.loop-rest-preserved
loop-rest-preserved c =
    let asked = c.args.request.now in
    let number = c.args.number in
    let text = c.args.text.now in
    let (so_far, starts) = c.loop-rest.invariant in
    let first = c.first_part-first in
    let p = part number first.result.head.now first.result.bytes.now in
    let k = c.in-Some.kind in
    let old = c.loop-rest.parts.items in
    let new = c.push.new.self.items in
    let all = parts_in number (cut_lines text) in
    let kind : kind_named asked (part_name first.result.head.now) ≡ Some k = rw c.head_name.ensures at (sym c.kind_named.ensures ∙ c.in-Some.is) in
    let pushed : new ≡ old ++ record { text = number; kind = k; bytes = first.result.bytes } ∷ [] = search rules in
    let grown : parts_held new ≡ parts_held old ++ p ∷ [] = held-more old new asked (part_name first.result.head.now)
    (record { text = number; kind = k; bytes = first.result.bytes }) kind pushed in (
      subst (λ (held : List Part). CheckedAfter asked (parts_held c.args.parts.now.items) all held
          (parts_in number (cut_lines first.result.rest.now))) (sym grown)
          (after-more asked (parts_held c.args.parts.now.items) all (parts_held old) (parts_in number (cut_lines c.loop-rest.rest.now))
          (parts_in number (cut_lines first.result.rest.now)) p so_far (first.ensures.parts number)
          (known-part asked (parts_held old) p k kind)),
      first.ensures.next,
    )

pub returns-in_default-clause-fault : goal.returns-in_default-clause-fault
returns-in_default-clause-fault c =
    let asked = c.args.request.now in
    let number = c.args.number in
    let (so_far, starts) = c.loop-rest.invariant in
    let old = parts_held c.args.parts.now.items in
    let held = c.loop-rest.parts.items in
    let first = c.first_part-first in
    let p = part number first.result.head.now first.result.bytes.now in
    let kind : kind_named asked (part_name first.result.head.now) ≡ None = rw c.head_name.ensures at (sym c.kind_named.ensures ∙ c.in_default.is) in
    let length-is : c.len.result ≡ length held = search rules in
    let count : c.len.result ≡ length (parts_held held) = length-is ∙ sym (length-map held _) in
    let name = part_name first.result.head.now in
    let found = after-fault asked old (parts_in number (cut_lines c.args.text.now)) (parts_held held)
    (parts_in number (cut_lines c.loop-rest.rest.now)) (parts_in number (cut_lines first.result.rest.now)) p
    (unknown_part (length (parts_held held) + 1) name) so_far (first.ensures.parts number) (unknown-part asked (parts_held held) p kind) in
    let is = unknown-is asked old (parts_in number (cut_lines c.args.text.now)) (length (parts_held held) + 1) name found in
    rw (c.unknown.ensures, c.head_name-in_default.ensures, count) is

pub returns-clause-added : goal.returns-clause-added
returns-clause-added c =
    let asked = c.args.request.now in
    let number = c.args.number in
    let (so_far, starts) = c.loop-rest.invariant in
    let empty : c.loop-rest.rest.now ≡ [] = none-left c.loop-rest.rest.now (sym c.is_empty.ensures ∙ c.loop-rest-test.false) in
    after-all asked (parts_held c.args.parts.now.items) (parts_in number (cut_lines c.args.text.now)) (parts_held c.loop-rest.parts.items) (rw empty at so_far)
