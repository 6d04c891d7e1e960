use Rattle.auction_terms.proofs.PackageFacts.{fits_smaller}
use Rattle.auction_terms.proofs.laws.a_smaller_package_fits.Goals as goal

pub returns : goal.returns
returns c = fits_smaller
