use Rattle.std.proofs.Common.{◌≤◌, ◌∙◌, Bor, ℕ, List, ap, length, refl, rules}
use Rattle.outcome.specs.Report.{allocation_text}
use Rattle.bid_desk.specs.Sale.{sale_of}
use Rattle.answers.specs.Answer.{output_of}
use Rattle.auction_input.specs.declared.request.Request.TheVariants as request
use Rattle.auction_input.specs.Settled.{held}
use Rattle.answers.specs.Exact.{Ends, by_refusal}
use Rattle.auction_terms.specs.Lines.{bytes_of}
use Rattle.auction_input.specs.ParsedParts.{only_text}
use Rattle.auction_input.specs.declared.refusal.Refusal.TheVariants as refusal
use Rattle.answers.proofs.CommandFacts.{cut-short, no-group, winners-refused, winners-written}
use Rattle.auction_input.proofs.StepFacts.{if-err-of}
use Rattle.answers.proofs.commands.map.write_winners.Goals as goal

pub returns-clause-written : goal.returns-clause-written
returns-clause-written g c =
    let within : c.args.k ≤ length c.args.auction.now.groups = search rules in
    let only = c.only_text-solution.ensures ∙ ap (λ (xs : List (Bor (List ℕ))). only_text (bytes_of xs)) c.as_slice.ensures.value in
    let a = c.in_ok-allocation.allocation in (
      allocation_text (sale_of c.args.auction.now.book) a,
      winners-written c.args.auction.now c.args.k c.only_text-solution.result.now within
          only a c.in_ok-allocation.ensures.won,
      c.in_ok-write_allocation.ensures,
    )

pub returns-then-k-count-clause-refused : goal.returns-then-k-count-clause-refused
returns-then-k-count-clause-refused g c = by_refusal (no-group c.args.auction.now c.args.k (search rules)) refl

pub returns-in_err-allocation-clause-refused : goal.returns-in_err-allocation-clause-refused
returns-in_err-allocation-clause-refused g c =
    let before = g.S.Sink.state c.args.out.now in
    let r = c.in_err-allocation.field-0.0 in
    let within : c.args.k ≤ length c.args.auction.now.groups = search rules in
    let only = c.only_text-solution.ensures ∙ ap (λ (xs : List (Bor (List ℕ))). only_text (bytes_of xs)) c.as_slice.ensures.value in
    if-err-of (Ends (output_of (request.Map c.args.k) (held c.args.auction.now)) before before) c.from_residual.result r c.from_residual.ensures.1
    (by_refusal (winners-refused c.args.auction.now c.args.k c.only_text-solution.result.now within only r c.in_err-allocation.ensures.refuses) refl)

pub returns-in_err-write_allocation-clause-refused : goal.returns-in_err-write_allocation-clause-refused
returns-in_err-write_allocation-clause-refused g c =
    let before = g.S.Sink.state c.args.out.now in
    let after = g.S.Sink.state c.write_allocation.new.sink in
    let f = c.in_err-write_allocation.field-0.0 in
    let within : c.args.k ≤ length c.args.auction.now.groups = search rules in
    let only = c.only_text-solution.ensures ∙ ap (λ (xs : List (Bor (List ℕ))). only_text (bytes_of xs)) c.as_slice.ensures.value in
    let a = c.in_ok-allocation.allocation in
    if-err-of (Ends (output_of (request.Map c.args.k) (held c.args.auction.now)) before after)
    c.from_residual-in_err-write_allocation.result (refusal.Write f) c.from_residual-in_err-write_allocation.ensures.1
    (cut-short _ (allocation_text (sale_of c.args.auction.now.book) a) before after f
    (winners-written c.args.auction.now c.args.k c.only_text-solution.result.now within only a c.in_ok-allocation.ensures.won)
    c.in_err-write_allocation.ensures)
