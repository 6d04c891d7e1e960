use Rattle.std.proofs.Common.{rules}
use Rattle.std.proofs.lemmas.Result.{on_ok_weaker}
use Rattle.desk_book.proofs.Extending.{extended}
use Rattle.desk_book.proofs.machine.DeskMachine.step.Goals as goal

pub returns : goal.returns
returns g c =
    on_ok_weaker c.extend_from_slice-2.result
    (λ kept. (
      c.in_ok-line.field-0.line.items,
      c.in_ok-line.field-0.entry.items,
      record { call = c.whole_call-call.result; stands = c.whole_call-call.ensures.call; told = c.in_ok-line.ensures },
      search rules,
      search (rules, kept),
    ))
    (extended c.extend_from_slice-2.result _ _ _ c.extend_from_slice-2.ensures.items)
