use Rattle.std.proofs.Common.{[], ap, ◌∙◌}
use Rattle.auction_input.specs.Parts.{parts_held}
use Rattle.input_faults.proofs.finding.input_faults.Goals as goal

pub returns : goal.returns
returns c =
    let (none, held) = rw c.in-Some.is at c.in_ok-parts.ensures.parts in
    let of_parts = rw none at (c.in_ok-parts.ensures.faults [] c.new-faults.ensures) in
    let all = ap parts_held c.as_slice.ensures.value ∙ held in
    let texts = rw (c.target-command.ensures, c.last_wins.ensures, all) at c.in_ok-take_texts.ensures in
    rw none (texts [] of_parts)

pub returns-in_default : goal.returns-in_default
returns-in_default c =
    let (at, is) = rw c.in_default.is at c.in_ok-parts.ensures.parts in
    let held = rw is at (c.in_ok-parts.ensures.faults [] c.new-faults.ensures) in
    rw is held
