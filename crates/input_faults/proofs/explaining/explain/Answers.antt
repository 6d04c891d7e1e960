use Rattle.std.proofs.Common.{◌∙◌, ap₂, false, refl, rules, true}
use Rattle.std.proofs.lemmas.Bool.{false≢true, true≢false}
use Rattle.auction_input.specs.declared.refusal.Refusal.TheVariants as refusal
use Rattle.input_faults.proofs.ExplainFacts.{cut-short, held-lines, is-faulty, nothing-found}
use Rattle.input_faults.specs.Explained.{IsCutShort, by_memory}
use Rattle.auction_input.specs.Requests.{format_of}
use Rattle.input_faults.specs.inside.HeldLines.{held_lines}
use Rattle.auction_input.proofs.StepFacts.{if-err-of}
use Rattle.input_faults.proofs.explaining.explain.Goals as goal

pub returns-in_err-faults-clause-refused : goal.returns-in_err-faults-clause-refused
returns-in_err-faults-clause-refused g c =
    if-err-of (IsCutShort _ _ _) c.from_residual.result refusal.OutOfMemory c.from_residual.ensures.1 (by_memory refl)

pub returns-in_err-lines-clause-refused : goal.returns-in_err-lines-clause-refused
returns-in_err-lines-clause-refused g c =
    if-err-of (IsCutShort _ _ _) c.from_residual-in_err-lines.result refusal.OutOfMemory c.from_residual-in_err-lines.ensures.1 (by_memory refl)

pub returns-in_err-put_lines-clause-refused : goal.returns-in_err-put_lines-clause-refused
returns-in_err-put_lines-clause-refused g c =
    let f = c.in_err-put_lines.field-0.0 in
    let lines = c.deref.ensures.value ∙ c.in_ok-lines.ensures
    ∙ ap₂ (λ texts format. held_lines format texts c.in_ok-faults.faults) c.texts.ensures c.format.ensures
    ∙ held-lines (format_of c.args.request.now) c.args.input.now.texts c.in_ok-faults.faults _ c.in_ok-faults.ensures in
    if-err-of (IsCutShort _ _ _) c.from_residual-in_err-put_lines.result (refusal.Write f) c.from_residual-in_err-put_lines.ensures.1
    (cut-short _ _ _ f (rw lines at c.in_err-put_lines.ensures))

pub returns-clause-written : goal.returns-clause-written
returns-clause-written g c =
    let lines = c.deref.ensures.value ∙ c.in_ok-lines.ensures
    ∙ ap₂ (λ texts format. held_lines format texts c.in_ok-faults.faults) c.texts.ensures c.format.ensures
    ∙ held-lines (format_of c.args.request.now) c.args.input.now.texts c.in_ok-faults.faults _ c.in_ok-faults.ensures in
    rw lines at c.in_ok-put_lines.ensures

pub returns-then-is_empty-clause-written : goal.returns-then-is_empty-clause-written
returns-then-is_empty-clause-written g c =
    nothing-found c.args.request.now c.args.input.now c.in_ok-faults.faults (g.S.Sink.state c.args.out.now) c.in_ok-faults.ensures
    (let e = c.is_empty.ensures in search rules)

pub returns-then-is_empty-clause-faulty : goal.returns-then-is_empty-clause-faulty
returns-then-is_empty-clause-faulty g c =
    is-faulty c.args.request.now c.args.input.now c.in_ok-faults.faults true c.in_ok-faults.ensures
    (λ is. (let e = c.is_empty.ensures in search rules)) (λ is none. absurd (true≢false is))

pub returns-clause-faulty : goal.returns-clause-faulty
returns-clause-faulty g c =
    is-faulty c.args.request.now c.args.input.now c.in_ok-faults.faults false c.in_ok-faults.ensures (λ is. absurd (false≢true is))
    (λ is none. (let e = c.is_empty.ensures in search rules))
