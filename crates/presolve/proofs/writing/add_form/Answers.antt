use Rattle.std.proofs.Common.{◌≡◌, ◌∙◌, Some, ◌+◌, ℕ, [], Option, None, ap, get_or, rules, sym}
use Rattle.std.specs.Option.{option_map_or}
use Rattle.byte_sinks.specs.Adds.{Adds}
use Rattle.byte_sinks.specs.declared.json.Format.{Format}
use Rattle.presolve.specs.Lines.{left_out}
use Rattle.presolve.specs.declared.reason.Reason.{Reason}
use Rattle.presolve.proofs.LineFacts.{numbered-all, numbered-next}
use Rattle.byte_sinks.proofs.AddingFacts.{Adds-then, Adds-to}
use Rattle.presolve.proofs.writing.add_form.Goals as goal
use Rattle.presolve.proofs.writing.add_form.Goals.{in-Some+in-Words, in-Some+in-Json, in_default}

pub loop-place-preserved : goal.loop-place-preserved
loop-place-preserved g c =
    let line : ℕ × Option Reason → _ = λ numbered. option_map_or (left_out c.args.format c.args.rules.now c.args.bidder numbered.0) numbered.1 [] in
    let place = c.loop-place.place in
    let why : Option Reason = get_or c.args.reasons.now place None in
    let text : (reason : Reason) → why ≡ Some reason → option_map_or (left_out c.args.format c.args.rules.now c.args.bidder (place + 1)) why []
    ≡ left_out c.args.format c.args.rules.now c.args.bidder (place + 1) reason = λ reason is.
    ap (λ (o : Option Reason). option_map_or (left_out c.args.format c.args.rules.now c.args.bidder (place + 1)) o []) is in
    let step : Adds g.S.Sink.state c.loop-place.writer c.match-why.writer
    (option_map_or (left_out c.args.format c.args.rules.now c.args.bidder (place + 1)) why []) =
    elim c.match-why.branch [
      | in-Some+in-Words w ↦ rw w.writer-is (Adds-to w.add_line.ensures (sym (text w.in-Some.reason w.in-Some.is ∙
          ap (λ (how : Format). left_out how c.args.rules.now c.args.bidder (place + 1) w.in-Some.reason) w.in-Words.is)))
      | in-Some+in-Json w ↦ rw w.writer-is (Adds-to w.add_object.ensures (sym (text w.in-Some.reason w.in-Some.is ∙
          ap (λ (how : Format). left_out how c.args.rules.now c.args.bidder (place + 1) w.in-Some.reason) w.in-Json.is)))
      | in_default w ↦ rw w.writer-is (Adds-to (search rules)
          (ap (λ (o : Option Reason). option_map_or (left_out c.args.format c.args.rules.now c.args.bidder (place + 1)) o []) (sym w.in_default.is)))
    ] in
    Adds-to (Adds-then c.loop-place.invariant step) (numbered-next line c.args.reasons.now place None c.loop-place-test.true)

pub returns : goal.returns
returns g c =
    let line : ℕ × Option Reason → _ = λ numbered. option_map_or (left_out c.args.format c.args.rules.now c.args.bidder numbered.0) numbered.1 [] in
    Adds-to c.loop-place.invariant (numbered-all line c.args.reasons.now c.loop-place.place c.loop-place-test.false)
