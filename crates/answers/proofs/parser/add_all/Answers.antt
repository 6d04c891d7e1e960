use Rattle.std.proofs.Common.{◌∙◌, [], ap, map, refl}
use Rattle.std.specs.Prelude.{codes}
use Rattle.clap.specs.Words.{Rule, app_of, new_app, with_rule}
use Rattle.answers.specs.Asked.{for_forms, for_text}
use Rattle.answers.proofs.AskedFacts.{pushed, then-added}
use Rattle.answers.proofs.parser.add_all.Goals as goal

pub returns : goal.returns
returns c =
    let text = then-added _ _ [] _ (for_forms (new_app (codes "text")))
    (pushed _ _ c.in_ok-for_forms.field-0 _ c.in_ok-add.ensures (c.in_ok-for_forms.ensures ∙ ap for_forms c.described.ensures))
    (ap (map app_of) c.requires) refl in
    let compile = then-added _ _ _ _ _ c.in_ok-add_with.ensures text
    (ap (λ (r : Rule). for_forms (with_rule (new_app (codes "compile")) r)) c.workers.ensures.rule) in
    let check = then-added _ _ _ _ (for_text (new_app (codes "check")))
    (pushed _ _ c.in_ok-for_text.field-0 _ c.in_ok-add-2.ensures (c.in_ok-for_text.ensures ∙ ap for_text c.described-2.ensures)) compile
    refl in
    let map_back = then-added _ _ _ _ _ c.in_ok-add_with-2.ensures check
    (ap (λ (r : Rule). for_forms (with_rule (new_app (codes "map")) r)) c.group.ensures.rule) in
    let report = then-added _ _ _ _ _ c.in_ok-add_report.ensures map_back refl in
    let verify = then-added _ _ _ _ _ c.in_ok-add_verify.ensures report refl in
    let explain = then-added _ _ _ _ _ c.in_ok-add_explain.ensures verify refl in
    let forms = then-added _ _ _ _ _ c.in_ok-add_with-3.ensures explain
    (ap (λ (r : Rule). for_forms (with_rule (new_app (codes "forms")) r)) c.json.ensures.rule) in
    then-added _ _ _ _ _ (pushed _ _ c.help_command.result _ c.in_ok-add-3.ensures c.help_command.ensures) forms refl
