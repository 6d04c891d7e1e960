use Rattle.std.proofs.Common.{◌≡◌, IfOk, List, map, refl, subst, true}
use Rattle.std.proofs.lemmas.Result.{IfOk-weaker}
use Rattle.clap.specs.Words.{App, FailsBy, HasMatchesOf, Text, fault_of, is_simple_and_free, subcommand_of, subcommand_rows_of}
use Rattle.answers.specs.Asked.{wdp}
use Rattle.answers.proofs.command_line.matches_of.Goals as goal

pub returns-clause-faults : goal.returns-clause-faults
returns-clause-faults c =
    subst (λ (a : App). is_simple_and_free a ≡ true → FailsBy (fault_of a (map (λ word. word.now) c.args.words.now))
    c.try_get_matches_from.result) c.in_ok-parser.ensures c.try_get_matches_from.ensures.kinds refl

pub returns-clause-subcommand : goal.returns-clause-subcommand
returns-clause-subcommand c =
    let words : List Text = map (λ word. word.now) c.args.words.now in
    let met = subst (λ (a : App). IfOk c.try_get_matches_from.result (HasMatchesOf a words)) c.in_ok-parser.ensures c.try_get_matches_from.ensures.matches in
    IfOk-weaker c.try_get_matches_from.result (HasMatchesOf wdp words) (λ m. subcommand_rows_of m ≡ subcommand_of wdp words) (λ m matches. (matches refl).1) met
