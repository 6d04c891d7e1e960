use Rattle.std.proofs.Common.{ap}
use Rattle.std.specs.Option.{option_map}
use Rattle.answers.specs.Pricing.{unshown_refused}
use Rattle.answers.proofs.pricing.check_rule.Goals as goal

pub show_the_prices-requires-clause-suffice : goal.show_the_prices-requires-clause-suffice
show_the_prices-requires-clause-suffice c = rw c.as_slice.ensures.value c.requires.suffice

pub returns-in-Ok-clause-shown : goal.returns-in-Ok-clause-shown
returns-in-Ok-clause-shown c = ap (option_map unshown_refused)
    (rw (
      c.as_slice.ensures.value,
      c.judged.ensures.scale,
      c.judged.ensures.groups,
      c.judged.ensures.own,
      c.judged-2.ensures.scale,
      c.judged-2.ensures.groups,
      c.judged-2.ensures.own,
    ) at c.in-Ok.ensures.shown)

pub returns-in-Err-clause-refused : goal.returns-in-Err-clause-refused
returns-in-Err-clause-refused c = rw c.unshown_refusal.ensures (ap (option_map unshown_refused)
    (rw (
      c.as_slice.ensures.value,
      c.judged.ensures.scale,
      c.judged.ensures.groups,
      c.judged.ensures.own,
      c.judged-2.ensures.scale,
      c.judged-2.ensures.groups,
      c.judged-2.ensures.own,
    ) at c.in-Err.ensures.refused))
