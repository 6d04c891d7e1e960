use Rattle.std.proofs.Common.{◌≡◌, ◌∙◌, [], List, Option, ap, subst, sym, ℕ}
use Rattle.std.specs.Option.{option_map_or}
use Rattle.std.specs.Prelude.{IfErr, OnOk, codes}
use Rattle.clap.proofs.WalkLemmas.{first_value-rows}
use Rattle.clap.specs.Words.{HasKind, found_of}
use Rattle.answers.specs.Asked.{command_fault}
use Rattle.answers.proofs.command_line.check_option.Goals as goal

pub returns-in-Some : goal.returns-in-Some
returns-in-Some c =
    let is = c.in-Some.ensures ∙ first_value-rows (found_of c.args.matches.now) (codes "for") in record {
      known = subst (λ (o : Option (List ℕ)). OnOk c.check_name.result (option_map_or command_fault o [] ≡ [])) is c.check_name.ensures.known;
      unknown = subst (λ (o : Option (List ℕ)). IfErr c.check_name.result (HasKind (option_map_or command_fault o []))) is c.check_name.ensures.unknown;
    }

pub returns-in-None-clause-known : goal.returns-in-None-clause-known
returns-in-None-clause-known c = ap (λ (o : Option (List ℕ)). option_map_or command_fault o [])
    (sym (c.in-None.ensures ∙ first_value-rows (found_of c.args.matches.now) (codes "for")))
