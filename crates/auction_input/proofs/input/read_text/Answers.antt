use Rattle.std.proofs.Common.{◌≤◌, ◌+◌, ◌∙◌, arith, length, sym}
use Rattle.auction_input.specs.FileTexts.{IsTextUnread, faulty, memory_short}
use Rattle.auction_input.specs.declared.input.InputFault.TheVariants as input
use Rattle.auction_input.specs.declared.input.Unread.TheVariants as unread
use Rattle.auction_input.specs.declared.input.Unread.{Unread}
use Rattle.auction_input.proofs.FileFacts.{text-front}
use Rattle.auction_input.proofs.StepFacts.{if-err-of}
use Rattle.auction_input.proofs.input.read_text.Goals as goal

pub returns-in-Some-clause-unread : goal.returns-in-Some-clause-unread
returns-in-Some-clause-unread g c =
    let bytes = c.in_ok-bytes.bytes.items in
    let found = rw c.as_slice.ensures.value at (sym c.fault_among.ensures ∙ c.in-Some.is) in
    rw c.refused.ensures (faulty c.in-Some.fault bytes c.in_ok-bytes.ensures.text c.in_ok-bytes.ensures.within found c.in_ok-bytes.ensures.unfailed)

pub returns-in_err-name-clause-unread : goal.returns-in_err-name-clause-unread
returns-in_err-name-clause-unread g c =
    let bytes = c.in_ok-bytes.bytes.items in
    let small : length bytes ≤ c.args.limit + 1 = omega (arith, c.in_ok-bytes.ensures.within) in
    let shelf = g.D.Files.shelf c.args.files.now in
    let left = g.I.Read.remaining c.args.input.now.reader in
    let left' = g.I.Read.remaining c.read_named.new.input.reader in
    if-err-of (λ (e : Unread). IsTextUnread shelf c.args.name.now c.args.place c.args.count c.args.limit left left' c.args.input.now.failures
    c.read_named.new.input.failures e) c.from_residual-in_err-name.result (unread.Input input.OutOfMemory) c.from_residual-in_err-name.ensures.1
    (memory_short bytes (text-front shelf.content c.args.name.now left left' bytes c.in_ok-bytes.ensures.text) small c.in_ok-bytes.ensures.unfailed)
