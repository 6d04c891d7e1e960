use Rattle.std.proofs.Common.{◌∙◌, List, ℕ, ◌-◌, sym, drop, length, take, arith}
use Rattle.std.proofs.lemmas.List.{take-append-drop, take_rest}
use Rattle.auction_terms.proofs.FirstFieldFacts.{first_field, no_fields}
use Rattle.auction_terms.proofs.line_fields.next_field.Goals as goal

pub returns-then-start-line-clause-first : goal.returns-then-start-line-clause-first
returns-then-start-line-clause-first c = no_fields c.args.line.now (sym c.if-start-line.true ∙ c.text_in-start.ensures.value)

pub returns-clause-first : goal.returns-clause-first
returns-clause-first c =
    let line = c.args.line.now in
    let start = c.text_in-start.result in
    let end = c.space_in-end.result in
    let text : List ℕ = take (length line - start) (drop start line) in
    rw (take_rest text end)
    (first_field line text start end c.text_in-start.ensures.value (omega (arith, c.text_in-start.ensures.within, c.if-start-line.false))
    (take_rest line start) c.space_in-end.ensures.value c.space_in-end.ensures.within)

pub returns-clause-rest : goal.returns-clause-rest
returns-clause-rest c =
    let line = c.args.line.now in
    let start = c.text_in-start.result in
    let end = c.space_in-end.result in
    let text : List ℕ = take (length line - start) (drop start line) in
    rw (← c.text_in-start.ensures.value, take_rest text end, take-append-drop end text, take_rest line start) (sym (take-append-drop start line))
