use Rattle.std.proofs.Common.{◌≡◌, ◌∙◌, ap}
use Rattle.std.proofs.lemmas.Result.{IfOk-weaker}
use Rattle.auction_terms.specs.Groups.{has}
use Rattle.bid_desk.specs.Closing.{Closing}
use Rattle.program_rows.specs.Program.{Table}
use Rattle.program_rows.specs.Selections.{Shared, selection_without}
use Rattle.group_compiler.specs.Compiled.{program_without}
use Rattle.group_compiler.proofs.CompileFacts.{selection_is}
use Rattle.group_compiler.proofs.group_programs.GroupPrograms.without.Goals as goal

pub returns : goal.returns
returns c =
    let group = c.args.group.now in
    let book = c.self.inside.book.now in
    IfOk-weaker c.without.result (λ (p : Table). p ≡ selection_without c.self.inside.shared (has group))
    (λ (p : Table). p ≡ program_without c.args.self.now group)
    (λ p e. e ∙ ap (λ (s : Shared). selection_without s (has group)) c.self.inside.shared_is ∙ selection_is book group
    c.within_limits.ensures.book ∙ ap (λ (b : Closing). program_without b group) c.self.view_is)
    c.without.ensures
