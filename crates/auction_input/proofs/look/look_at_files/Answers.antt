use Rattle.std.proofs.Common.{Some, false, inl, inr, map}
use Rattle.indexmap.specs.IndexSet.{keys}
use Rattle.auction_input.specs.FileCalls.{look_at, looks_written}
use Rattle.auction_input.specs.FileLooks.{by_memory, by_read, by_written, names_read}
use Rattle.auction_input.specs.FileTexts.{named_files}
use Rattle.auction_input.proofs.FileCallFacts.{begun-before, begun-whole, made-more}
use Rattle.auction_input.proofs.look.look_at_files.Goals as goal

pub returns-in-Err-clause-refused : goal.returns-in-Err-clause-refused
returns-in-Err-clause-refused g c = elim (c.in-Err.ensures.refused) [
  | inl memory ↦ by_memory c.in-Err.refusal memory
  | inr first ↦ by_read c.in-Err.refusal first
]

pub returns-in-Err-clause-begun : goal.returns-in-Err-clause-begun
returns-in-Err-clause-begun g c = (false, begun-before _ _ _ _ c.in-Err.ensures.begun)

pub returns-clause-refused : goal.returns-clause-refused
returns-clause-refused g c =
    rw c.in-Some.is (by_written c.in-Err-look_at_written.fault (keys c.look_at_inputs.new.seen) c.in-Ok.ensures.taken
    (rw c.look_at_inputs.ensures.shelf_kept at c.in-Err-look_at_written.ensures.found))

pub returns-in-Ok-look_at_written-clause-called : goal.returns-in-Ok-look_at_written-clause-called
returns-in-Ok-look_at_written-clause-called g c =
    let read = map look_at (names_read (named_files c.args.names.now)) in
    let (with_rights, made) = c.look_at_written.ensures.called in
    rw c.in-Some.is (with_rights, made-more read (looks_written (Some c.in-Some.name.now) with_rights) _ _ _ c.in-Ok.ensures.called made)

pub returns-clause-begun : goal.returns-clause-begun
returns-clause-begun g c =
    let read = map look_at (names_read (named_files c.args.names.now)) in
    let (with_rights, made) = c.look_at_written.ensures.called in
    rw c.in-Some.is
    (with_rights, begun-whole _ _ _ (made-more read (looks_written (Some c.in-Some.name.now) with_rights) _ _ _ c.in-Ok.ensures.called made))
