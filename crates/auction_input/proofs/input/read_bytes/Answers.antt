use Rattle.std.proofs.Common.{◌≤◌, ◌+◌, ◌++◌, ◌∙◌, List, ℕ, length, take, arith, length-append}
use Rattle.std.proofs.lemmas.Grind.{common_steps}
use Rattle.auction_input.specs.ReadInput.{IsUntaken}
use Rattle.auction_input.specs.declared.input.InputFault.TheVariants as fault
use Rattle.auction_input.proofs.ReadFacts.{Consumes-then}
use Rattle.auction_input.proofs.StepFacts.{if-err-of}
use Rattle.auction_input.proofs.input.read_bytes.Goals as goal

pub returns-in_err-extend_from_slice-clause-untaken : goal.returns-in_err-extend_from_slice-clause-untaken
returns-in_err-extend_from_slice-clause-untaken g c =
    let text = c.loop-block.text.items in
    let read : List ℕ = take c.in-Ok.count c.read.new.block in
    let left = g.I.Read.remaining c.args.input.now.reader in
    let left' = g.I.Read.remaining c.read.new.self.reader in
    let size = length-append text read in
    let own = c.in-Ok.ensures.bound in
    let small : length (text ++ read) ≤ c.args.limit + 1 = grind (arith, common_steps, size, own) in
    if-err-of (λ f. IsUntaken c.args.limit f left left' c.args.input.now.failures c.read.new.self.failures) c.from_residual.result
    fault.OutOfMemory c.from_residual.ensures.1 (
      c.in-Ok.ensures.succeeded ∙ c.loop-block.invariant.2,
      (
        text ++ read,
        Consumes-then _ _ _ text read c.loop-block.invariant.1
            c.in-Ok.ensures.bytes.0,
        small,
      ),
    )
