use Rattle.std.proofs.Common.{◌∙◌, ap, ℤ, ℕ, List}
use Rattle.bid_desk.specs.Closing.{book_of}
use Rattle.outcome.specs.Pricing.{price_in}
use Rattle.program_rows.specs.Costed.{costed_program}
use Rattle.program_rows.specs.Program.{Table, TableColumn}
use Rattle.prices.specs.Blocking.{surplus}
use Rattle.prices.specs.Raised.{raised}
use Rattle.prices.proofs.CodeFacts.{costed_is_raised}
use Rattle.prices.proofs.raised.raised.Goals as goal

pub returns : goal.returns
returns c =
    let payments = c.args.payments.now in
    let raise : ℕ → ℕ = surplus (book_of payments.book.now) payments.first.now payments.parts (price_in payments.prices.now) in
    record {
      raised = c.with_costs.ensures
          ∙ ap (λ (costs : List ℤ). costed_program c.args.program costs) c.in_ok-costs.ensures.costs
          ∙ ap (λ (columns : List TableColumn). record c.args.program { columns = columns }) (costed_is_raised payments.parts raise c.args.program.columns)
          ∙ ap (λ (p : Table). raised payments.parts raise p) c.requires.program;
    }
