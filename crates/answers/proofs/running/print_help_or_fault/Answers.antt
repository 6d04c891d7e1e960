use Rattle.std.proofs.Common.{inr, refl}
use Rattle.auction_input.specs.declared.refusal.Refusal.TheVariants as refusal
use Rattle.answers.proofs.running.print_help_or_fault.Goals as goal

pub returns-in-None-clause-refused : goal.returns-in-None-clause-refused
returns-in-None-clause-refused g c = λ one. (refusal.OutOfMemory, inr (refl, refl), c.print_refusal.ensures)
