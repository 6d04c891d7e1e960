use Rattle.std.proofs.Common.{◌∙◌, ap, Option, ℕ, List}
use Rattle.std.specs.Option.{option_map_or}
use Rattle.clap.proofs.WalkLemmas.{first_value-rows}
use Rattle.clap.specs.Words.{found_of}
use Rattle.answers.proofs.AskedFacts.{number_in}
use Rattle.answers.proofs.command_line.number_of.Goals as goal

pub returns-in-Some-clause-number : goal.returns-in-Some-clause-number
returns-in-Some-clause-number c =
    c.number_up_to.ensures.number ∙ ap (λ (o : Option (List ℕ)). option_map_or (number_in c.args.most) o 1)
    (c.in-Some.ensures ∙ first_value-rows (found_of c.args.matches.now) c.args.id.now)

pub returns-in-None-clause-number : goal.returns-in-None-clause-number
returns-in-None-clause-number c = ap (λ (o : Option (List ℕ)). option_map_or (number_in c.args.most) o 1)
    (c.in-None.ensures ∙ first_value-rows (found_of c.args.matches.now) c.args.id.now)
