use Rattle.std.proofs.Common.{◌≡◌, ◌∙◌, IfErr, IfOk, List, ℕ, Ok, Bor, ap, length, subst, sym}
use Rattle.std.proofs.lemmas.List.{length-map}
use Rattle.std.proofs.lemmas.Result.{IfOk-weaker}
use Rattle.auction_input.specs.Refused.{Refuses}
use Rattle.auction_terms.specs.Lines.{bytes_of}
use Rattle.group_compiler.specs.Compiled.{Compiling}
use Rattle.answers.specs.inside.SolutionWinners.{parsed_winners}
use Rattle.answers.proofs.CountFacts.{goes-over}
use Rattle.answers.proofs.ReportFacts.{as-many}
use Rattle.answers.proofs.report_run.won_by_groups.Goals as goal

pub returns-clause-count : goal.returns-clause-count
returns-clause-count g c =
    let compiler = c.args.compiler.now in
    let solutions = c.as_slice.result.now in
    let groups : length compiler.groups ≡ length c.args.auction.now.groups = ap (λ (k : Compiling). length k.groups) c.requires.compiler in
    let same : length (bytes_of solutions) ≡ length compiler.groups =
    length-map solutions _ ∙ ap (λ (xs : List (Bor (List ℕ))). length xs) c.as_slice.ensures.value ∙ c.requires.each ∙ sym groups in
    IfOk-weaker c.all_won.result (λ all. parsed_winners compiler (bytes_of solutions) ≡ Ok all.items)
    (λ all. length all.items ≡ length c.args.auction.now.groups)
    (λ all parsed. as-many compiler (bytes_of solutions) same all.items parsed ∙ groups) c.all_won.ensures.won

pub returns-clause-won : goal.returns-clause-won
returns-clause-won g c =
    let parsed = goes-over c.args.auction.now c.requires.first c.args.compiler.now c.as_slice.result.now c.requires.compiler c.requires.each
    c.as_slice.ensures.value in
    subst (λ parsed. IfOk c.all_won.result (λ won. parsed ≡ Ok won.items)) parsed c.all_won.ensures.won

pub returns-clause-refuses : goal.returns-clause-refuses
returns-clause-refuses g c =
    let parsed = goes-over c.args.auction.now c.requires.first c.args.compiler.now c.as_slice.result.now c.requires.compiler c.requires.each
    c.as_slice.ensures.value in
    subst (λ parsed. IfErr c.all_won.result (Refuses parsed)) parsed c.all_won.ensures.refuses
