-- The numbers of the columns of a program that can be written.
use Rattle.auction_terms.proofs.OfferFacts.{all_agree}
use Rattle.program_rows.specs.Program.{TableColumn}
use Rattle.std.specs.Prelude.{List}
use Rattle.std.specs.List.{AllByRecursion}
use Rattle.program_rows.specs.Legal.{IsSmall, IsSmallColumn}

pub small_costs : (cs : List TableColumn) → AllByRecursion IsSmallColumn cs → AllByRecursion (λ c. IsSmall c.cost) cs
small_costs cs h = all_agree IsSmallColumn (λ c. IsSmall c.cost) cs (λ c k. k.0) h

pub small_entries : (cs : List TableColumn) → AllByRecursion IsSmallColumn cs → AllByRecursion (λ c. AllByRecursion (λ e. IsSmall e.1) c.entries) cs
small_entries cs h = all_agree IsSmallColumn (λ c. AllByRecursion (λ e. IsSmall e.1) c.entries) cs (λ c k. k.1) h
