use Rattle.std.proofs.Common.{◌∙◌, ap, arith}
use Rattle.auction_input.specs.Parts.{cut_lines, parts_in}
use Rattle.auction_input.specs.Places.{parts_counted}
use Rattle.auction_input.specs.inside.Parts.{part}
use Rattle.auction_input.proofs.PlaceFacts.{counted-more}
use Rattle.auction_input.proofs.places.count_parts.Goals as goal

pub loop-rest-init : goal.loop-rest-init
loop-rest-init c =
    let same = ap (parts_counted c.args.kind) (c.without_bytes_before-rest.ensures.parts 0) in
    let within = c.without_bytes_before-rest.ensures.within in
    (omega arith, omega arith, c.without_bytes_before-rest.ensures.next)

pub loop-rest-preserved : goal.loop-rest-preserved
loop-rest-preserved c =
    let kind = c.args.kind in
    let (so_far, few, starts) = c.loop-rest.invariant in
    let first = c.first_part-first in
    let one = ap (parts_counted kind) (first.ensures.parts 0)
    ∙ counted-more kind (part 0 first.result.head.now first.result.bytes.now) (parts_in 0 (cut_lines first.result.rest.now)) in
    let counted = c.count_head-count.ensures.counts in
    let most = c.count_head-count.ensures.most in
    let less = first.ensures.shorter in
    (omega arith, omega arith, first.ensures.next)
