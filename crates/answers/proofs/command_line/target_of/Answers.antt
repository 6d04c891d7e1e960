use Rattle.std.proofs.Common.{◌∙◌, ap, Option, ℕ, List}
use Rattle.std.specs.Prelude.{codes, option_and_then}
use Rattle.clap.proofs.WalkLemmas.{first_value-rows}
use Rattle.clap.specs.Words.{found_of}
use Rattle.auction_input.specs.Requests.{target_named}
use Rattle.answers.proofs.command_line.target_of.Goals as goal

pub returns-in-Some : goal.returns-in-Some
returns-in-Some c = c.named.ensures ∙ ap (λ (o : Option (List ℕ)). option_and_then target_named o)
    (c.in-Some.ensures ∙ first_value-rows (found_of c.args.matches.now) (codes "for"))

pub returns-in-None : goal.returns-in-None
returns-in-None c = ap (λ (o : Option (List ℕ)). option_and_then target_named o)
    (c.in-None.ensures ∙ first_value-rows (found_of c.args.matches.now) (codes "for"))
