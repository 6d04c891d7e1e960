use Rattle.prices.proofs.RaisedFacts.{shown_suffice}
use Rattle.prices.proofs.laws.a_certificate_shows_that_prices_suffice.Goals as goal

pub returns : goal.returns
returns c = shown_suffice
