use Rattle.std.proofs.Common.{◌==◌, ◌≡◌, ◌≢◌, ◌∙◌, ◌+◌, ℕ, Bool, List, [], ap, cond, eq-eqb, false, get_or, ne_eqb, rules, sym, true}
use Rattle.std.specs.List.{enumerate_from}
use Rattle.byte_sinks.specs.Adds.{Adds}
use Rattle.byte_sinks.specs.declared.json.Format.{Format}
use Rattle.presolve.specs.Lines.{replaced}
use Rattle.presolve.proofs.FormFacts.{own-lines}
use Rattle.presolve.proofs.LineFacts.{numbered-all, numbered-next}
use Rattle.byte_sinks.proofs.AddingFacts.{Adds-then, Adds-to}
use Rattle.presolve.proofs.writing.add_replaced_by.Goals as goal
use Rattle.presolve.proofs.writing.add_replaced_by.Goals.{then-from-bidder+then-number-last+in-Words, then-from-bidder+then-number-last+in-Json, else-from-bidder, else-from-bidder-via-then-from-bidder+else-number-last, else-from-bidder-via-else-from-bidder}

pub loop-place-preserved : goal.loop-place-preserved
loop-place-preserved g c =
    let bidder = c.args.bidder in
    let place = c.loop-place.place in
    let owner = get_or c.args.bidders.now place 0 in
    let line : ℕ → List ℕ = λ number. cond (number == c.args.last) [] (replaced c.args.format c.args.rules.now bidder c.args.last number) in
    let of_other : owner ≡ bidder → place + 1 ≢ c.args.last
    → cond (owner == bidder) (line (place + 1)) [] ≡ replaced c.args.format c.args.rules.now bidder c.args.last (place + 1) = λ same other.
    ap (λ (b : Bool). cond b (line (place + 1)) []) (eq-eqb owner bidder same)
    ∙ ap (λ (b : Bool). cond b [] (replaced c.args.format c.args.rules.now bidder c.args.last (place + 1))) (ne_eqb (place + 1) c.args.last other) in
    let step : Adds g.S.Sink.state c.loop-place.writer c.if-from-bidder.writer (cond (owner == bidder) (line (place + 1)) []) =
    elim c.if-from-bidder.branch [
      | then-from-bidder+then-number-last+in-Words w ↦
          (let text = of_other (sym c.from.ensures ∙ w.if-from-bidder.true) w.if-number-last.true in
          rw w.writer-is (Adds-to w.add_replaced_line.ensures (sym (text
          ∙ ap (λ (how : Format). replaced how c.args.rules.now bidder c.args.last (place + 1)) w.in-Words.is))))
      | then-from-bidder+then-number-last+in-Json w ↦
          (let text = of_other (sym c.from.ensures ∙ w.if-from-bidder.true) w.if-number-last.true in
          rw w.writer-is (Adds-to w.add_replaced_object.ensures (sym (text
          ∙ ap (λ (how : Format). replaced how c.args.rules.now bidder c.args.last (place + 1)) w.in-Json.is))))
      | else-from-bidder w ↦ rw w.writer-is (Adds-to (search rules) (sym (elim w.else-from-bidder.branch [
        | else-from-bidder-via-then-from-bidder+else-number-last w' ↦
            (let own : (owner == bidder) ≡ true = eq-eqb owner bidder (sym c.from.ensures ∙ w'.if-from-bidder.true) in
            let last : (place + 1 == c.args.last) ≡ true = eq-eqb (place + 1) c.args.last w'.if-number-last.false in
            ap (λ (b : Bool). cond b (line (place + 1)) []) own
            ∙ ap (λ (b : Bool). cond b [] (replaced c.args.format c.args.rules.now bidder c.args.last (place + 1))) last)
        | else-from-bidder-via-else-from-bidder w' ↦
            (let other : (owner == bidder) ≡ false = ne_eqb owner bidder (λ same. w'.if-from-bidder.false (c.from.ensures ∙ same)) in
            ap (λ (b : Bool). cond b (line (place + 1)) []) other)
      ])))
    ] in
    Adds-to (Adds-then c.loop-place.invariant step)
    (numbered-next (λ (form : ℕ × ℕ). cond (form.1 == bidder) (line form.0) []) c.args.bidders.now place 0 c.loop-place-test.true)

pub returns : goal.returns
returns g c =
    let line : ℕ → List ℕ = λ number. cond (number == c.args.last) [] (replaced c.args.format c.args.rules.now c.args.bidder c.args.last number) in
    Adds-to c.loop-place.invariant
    (numbered-all (λ (form : ℕ × ℕ). cond (form.1 == c.args.bidder) (line form.0) []) c.args.bidders.now c.loop-place.place
    c.loop-place-test.false ∙ own-lines line c.args.bidder (enumerate_from 1 c.args.bidders.now))
