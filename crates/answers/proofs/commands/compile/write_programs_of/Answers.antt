use Rattle.std.proofs.Common.{List, ℕ, Ok, ap, inr, map, refl, subst}
use Rattle.group_compiler.specs.Compiled.{compiled}
use Rattle.answers.specs.Exact.{by_put, by_refusal}
use Rattle.answers.specs.GroupTexts.{StopsAsReported, programs_bytes}
use Rattle.answers.proofs.CommandFacts.{of-groups, sent-front}
use Rattle.answers.proofs.commands.compile.write_programs_of.Goals as goal

pub returns-in-Ok-clause-written : goal.returns-in-Ok-clause-written
returns-in-Ok-clause-written g c =
    let book = c.args.auction.now.book in
    let groups = c.args.auction.now.groups in
    (programs_bytes book (map (compiled book) groups), ap (λ (out : List ℕ). Ok out) (of-groups book 1 groups), c.in-Ok.ensures.ok)

pub returns-in-Err-OutOfMemory-clause-refused : goal.returns-in-Err-OutOfMemory-clause-refused
returns-in-Err-OutOfMemory-clause-refused g c =
    let book = c.args.auction.now.book in
    let programs = map (compiled book) c.args.auction.now.groups in
    let stopped = subst (StopsAsReported book programs (g.S.Sink.state c.args.out.now) (g.S.Sink.state c.write_programs.new.out))
    c.in-Err-OutOfMemory.field-0-is c.in-Err-OutOfMemory.ensures.stopped in
    by_refusal (inr refl) stopped.1

pub returns-in-Err-Sink-clause-refused : goal.returns-in-Err-Sink-clause-refused
returns-in-Err-Sink-clause-refused g c =
    let book = c.args.auction.now.book in
    let groups = c.args.auction.now.groups in
    let programs = map (compiled book) groups in
    let stopped = subst (StopsAsReported book programs (g.S.Sink.state c.args.out.now) (g.S.Sink.state c.write_programs.new.out))
    c.in-Err-Sink.field-0-is c.in-Err-Sink.ensures.stopped in
    by_put (programs_bytes book programs) (ap (λ (out : List ℕ). Ok out) (of-groups book 1 groups))
    (let (most, some, ends, failed, place) = stopped in record {
      front = sent-front book programs _ _ (g.S.Sink.state c.args.out.now).taken (g.S.Sink.state c.write_programs.new.out).taken ends;
      failed = failed;
      place = place;
    })
