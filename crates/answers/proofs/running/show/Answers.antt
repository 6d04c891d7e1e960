use Rattle.std.proofs.Common.{Ok, refl}
use Rattle.auction_input.specs.declared.refusal.Refusal.TheVariants as refusal
use Rattle.answers.proofs.CommandFacts.{cut-short}
use Rattle.answers.proofs.running.show.Goals as goal

pub returns-in-Err-clause-refused : goal.returns-in-Err-clause-refused
returns-in-Err-clause-refused g c = λ one. (
  refusal.Write c.in-Err.fault,
  cut-short (Ok
      _) _ _ _ c.in-Err.fault refl c.in-Err.ensures,
  c.print_refusal.ensures,
)
