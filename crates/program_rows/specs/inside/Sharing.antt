-- What every shared program keeps.
use Rattle.std.specs.Prelude.{◌≡◌, List}
use Rattle.auction_terms.specs.Keeping.{Offer}
use Rattle.auction_terms.specs.Limits.{AreOffers, IsLots}
use Rattle.auction_terms.specs.Packages.{Lots}
use Rattle.program_rows.specs.Selections.{Shared, shared_of}

-- a program of offers within the limits
pub record IsShared (s : Shared) : Type 0 where
  pub lots : Lots
  pub offers : List Offer
  pub is : s ≡ shared_of lots offers
  pub within : IsLots lots
  pub each : AreOffers lots offers
