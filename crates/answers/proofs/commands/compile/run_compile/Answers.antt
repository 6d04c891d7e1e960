use Rattle.std.proofs.lemmas.Result.{on_ok_weaker}
use Rattle.std.specs.Prelude.{map}
use Rattle.group_compiler.specs.Compiled.{compiled}
use Rattle.answers.proofs.FaithfulFacts.{written-texts-are-faithful}
use Rattle.answers.specs.GroupTexts.{programs_bytes}
use Rattle.answers.proofs.commands.compile.run_compile.Goals as goal

pub returns-in-Ok-clause-faithful : goal.returns-in-Ok-clause-faithful
returns-in-Ok-clause-faithful g c =
    let book = c.args.book.now in
    let groups = c.args.groups.now in
    let limits = c.within_limits.ensures in
    on_ok_weaker c.write_joined.result (λ sent. (
      programs_bytes book (map (compiled book) groups),
      written-texts-are-faithful book limits.lots limits.book groups,
      sent.taken,
    )) c.write_joined.ensures.ok
