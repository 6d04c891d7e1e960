use Rattle.desk_book.proofs.Parts.{one_part_more}
use Rattle.desk_book.proofs.settle.add_parts.Goals as goal

pub loop-place-preserved : goal.loop-place-preserved
loop-place-preserved c =
    one_part_more c.args.book.now c.loop-place.place c.args.input.now.items c.loop-place.input.items c.add_part.new.input.items c.loop-place.invariant
    c.in_ok-add_part.ensures
