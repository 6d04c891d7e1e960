use Rattle.std.proofs.Common.{subst}
use Rattle.std.specs.Prelude.{length}
use Rattle.std.proofs.lemmas.Result.{IfOk-weaker}
use Rattle.group_compiler.specs.Compiled.{Compiling}
use Rattle.group_compiler.specs.Gates.{AreAllPast}
use Rattle.group_compiler.proofs.SlotFacts.{all_compiled}
use Rattle.group_compiler.proofs.pool.compile_all.Goals as goal

pub returns-clause-compiled : goal.returns-clause-compiled
returns-clause-compiled g c = IfOk-weaker c.make_all.result _ _ (λ all h. all_compiled c.args.book.now c.args.groups.now
    c.in_ok-compiler.compiler all.items c.in_ok-compiler.ensures h) c.make_all.ensures.made

pub returns-clause-past : goal.returns-clause-past
returns-clause-past g c =
    IfOk-weaker c.make_all.result _ _ (λ all past. subst (λ (k : Compiling). AreAllPast (length k.groups)
    (g.G.Gate.is_past c.args.gate.now)) c.in_ok-compiler.ensures past) c.make_all.ensures.past
