use Rattle.std.proofs.Common.{◌≡◌, ◌∙◌, length, sym, ap, arith}
use Rattle.auction_terms.specs.Terms.{Terms, lots_in}
use Rattle.outcome.specs.inside.Following.{both_packages}
use Rattle.outcome.proofs.QuantityFacts.{both-length, large-fails}
use Rattle.outcome.proofs.following.fits_with.Goals as goal

pub fits-requires : goal.fits-requires
fits-requires c =
    let same : length c.args.others.now ≡ length c.args.own.now = c.requires.others ∙ sym c.requires.own in
    let size = both-length c.args.others.now c.args.own.now same in
    let rules = ap (λ (t : Terms). length t.categories) c.rules-rules.ensures.rules in
    omega (arith, ap length c.in-Some.ensures)

pub returns-in-None : goal.returns-in-None
returns-in-None c = sym (large-fails (lots_in c.args.book.now.rules) (both_packages c.args.others.now c.args.own.now)
    c.rules-rules.ensures.lots.supplies c.in-None.ensures)
