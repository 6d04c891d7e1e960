use Rattle.std.proofs.Common.{rules, ◌≡◌, ◌<◌, ◌+◌, ◌++◌, ◌≤◌, ℕ, List, ap, length, map, take, drop, sym, subst, arith, refl, take_all}
use Rattle.std.proofs.lemmas.List.{append-nil, length-map}
use Rattle.group_compiler.specs.Compiled.{GroupProgram, compiled}
use Rattle.byte_sinks.proofs.AddingFacts.{Adds-then, Adds-to, goes-whole}
use Rattle.byte_sinks.specs.Sinks.{GoesWhole}
use Rattle.outcome.specs.Report.{in_turn}
use Rattle.answers.specs.GroupTexts.{program_bytes, programs_bytes}
use Rattle.answers.proofs.GroupTextFacts.{ends-in, ends-parsed, fails-parsed, in_turn-rest, programs-more}
use Rattle.answers.proofs.group_texts.write_joined.Goals as goal

pub loop-place-preserved : goal.loop-place-preserved
loop-place-preserved g c =
    let i = c.loop-place.invariant in
    let book = c.args.book.now in
    let groups = c.args.groups.now in
    let programs = map (compiled book) groups in
    let f : ℕ → GroupProgram → List ℕ = program_bytes book in
    let place = c.loop-place.place in
    let x = compiled book c.group-group.result.now in
    let within : place < length groups = (let l = c.loop-place-test.true in let e = c.count-place-end.ensures.count in omega arith) in
    let bytes = programs-more book groups place c.group-group.result.now within c.group-group.ensures in
    let own = Adds-to (Adds-then c.add_group.ensures c.flush.ensures.adds) (append-nil (f (place + 1) x)) in
    record {
      added = Adds-to (Adds-then {xs = in_turn f 1 (take place programs)} i.added own) bytes;
      sent = c.in_default.ensures.ok;
    }

pub returns-in-Err-clause-stopped : goal.returns-in-Err-clause-stopped
returns-in-Err-clause-stopped g c =
    let i = c.loop-place.invariant in
    let book = c.args.book.now in
    let groups = c.args.groups.now in
    let programs = map (compiled book) groups in
    let f : ℕ → GroupProgram → List ℕ = program_bytes book in
    let place = c.loop-place.place in
    let x = compiled book c.group-group.result.now in
    let within : place < length groups = (let l = c.loop-place-test.true in let e = c.count-place-end.ensures.count in omega arith) in
    let bytes : in_turn f 1 (take place programs) ++ f (place + 1) x ≡ in_turn f 1 (take (place + 1) programs) =
    programs-more book groups place c.group-group.result.now within c.group-group.ensures in
    let own = Adds-to (Adds-then c.add_group.ensures c.flush.ensures.adds) (append-nil (f (place + 1) x)) in
    let size = length-map groups (compiled book) in
    let rest = in_turn-rest f 1 programs (place + 1) in
    let later = in_turn f (1 + length (take (place + 1) programs)) (drop (place + 1) programs) in
    let whole : in_turn f 1 programs ≡ (in_turn f 1 (take place programs) ++ f (place + 1) x) ++ later = rw bytes rest in
    let ends = ends-parsed _ (in_turn f 1 (take place programs)) (f (place + 1) x) later c.new-writer.ensures i.added i.sent own
    c.in-Err.ensures.err (search rules) in
    let (fails, place_kept) = fails-parsed _ c.new-writer.ensures i.added (Adds-then c.add_group.ensures c.flush.ensures.adds) c.in-Err.ensures.err (search rules) in
    rw c.fault_in.ensures (omega arith, omega arith, ends-in book programs place _ _ _ _ _ _ whole refl (sym bytes) ends, fails, place_kept)

pub returns-clause-ok : goal.returns-clause-ok
returns-clause-ok g c =
    let out : c.out-1.given.0 ≡ c.loop-place.writer.sink.now = search rules in
    let book = c.args.book.now in
    let groups = c.args.groups.now in
    let programs = map (compiled book) groups in
    let size : length programs ≤ c.loop-place.place =
    (let l = c.loop-place-test.false in let e = c.count-place-end.ensures.count in omega (arith, length-map groups (compiled book))) in
    let whole = Adds-to c.loop-place.invariant.added (ap (programs_bytes book) (take_all c.loop-place.place programs size)) in
    subst (λ s. GoesWhole (g.S.Sink.state c.args.out.now) (g.S.Sink.state s) (programs_bytes book programs)) (sym out)
    (goes-whole c.new-writer.ensures whole c.loop-place.invariant.sent)
