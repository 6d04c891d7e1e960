use Rattle.std.proofs.Common.{◌≡◌, ◌≢◌, ◌∙◌, ap, inl, length, map, rules}
use Rattle.bid_desk.specs.Closing.{Closing}
use Rattle.answers.specs.inside.Judging.{bound_held}
use Rattle.answers.proofs.CertifiedFacts.{are-certified-by, are-refused-by, bounds-are, certificates-miscounted}
use Rattle.answers.proofs.certified.check_certificates.Goals as goal

pub returns-then-len-count-clause-refuses : goal.returns-then-len-count-clause-refuses
returns-then-len-count-clause-refuses g c =
    let auction = c.args.auction.now in
    let other : length auction.certificates.items ≢ length auction.groups = (λ same. search rules) in
    inl (certificates-miscounted auction c.args.won.now other)

pub returns-clause-shown : goal.returns-clause-shown
returns-clause-shown g c =
    let auction = c.args.auction.now in
    let won = c.args.won.now in
    let each : length auction.certificates.items ≡ length auction.groups = search rules in
    let same = bounds-are auction won c.args.compiler.now c.as_slice-2.result.now c.in_ok-bounds.bounds.items c.as_slice.result.now
    c.requires.compiler c.as_slice-2.ensures.value c.as_slice.ensures.value c.in_ok-bounds.ensures in
    are-certified-by auction won each (map (bound_held c.in_ok-programs.programs) c.as_slice-2.result.now) c.check_each.result
    (ap (λ (book : Closing). map (bound_held book) c.as_slice-2.result.now) c.in_ok-programs.ensures ∙ same) c.check_each.ensures.shown

pub returns-clause-refuses : goal.returns-clause-refuses
returns-clause-refuses g c =
    let auction = c.args.auction.now in
    let won = c.args.won.now in
    let each : length auction.certificates.items ≡ length auction.groups = search rules in
    let same = bounds-are auction won c.args.compiler.now c.as_slice-2.result.now c.in_ok-bounds.bounds.items c.as_slice.result.now
    c.requires.compiler c.as_slice-2.ensures.value c.as_slice.ensures.value c.in_ok-bounds.ensures in
    are-refused-by auction won each (map (bound_held c.in_ok-programs.programs) c.as_slice-2.result.now) c.check_each.result
    (ap (λ (book : Closing). map (bound_held book) c.as_slice-2.result.now) c.in_ok-programs.ensures ∙ same)
    c.check_each.ensures.refuses
