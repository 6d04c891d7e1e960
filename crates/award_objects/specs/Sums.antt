-- What the sums of an award are, by the lots that it leaves and its total.
use Rattle.std.specs.Prelude.{◌≡◌, ◌+◌, List, sum_by}
use Rattle.std.specs.List.{zip}
use Rattle.auction_terms.specs.Allocations.{Book, amount_of, loads, total}
use Rattle.auction_terms.specs.Packages.{left, size}
use Rattle.auction_terms.specs.Terms.{Terms, lots_in}
use Rattle.auction_terms.specs.declared.bids.Choice.{Choice}
use Rattle.award_objects.specs.Objects.{unsold, value_left}

-- the lots that stay unsold are those that are left, and with what the winners bid their value is the total
pub record AddUp (t : Terms) (book : Book) (a : List Choice) : Type 0 where
  pub lots : sum_by unsold (zip t.categories (loads (lots_in t) book a)) ≡ size (left (lots_in t).supply (loads (lots_in t) book a))
  pub total : sum_by (amount_of book) a + sum_by value_left (zip t.categories (loads (lots_in t) book a)) ≡ total (lots_in t) book a

-- so it is for all rules, bids and allocations
abbrev pub SumsAddUp : Type 0
SumsAddUp = (t : Terms) (book : Book) (a : List Choice) → AddUp t book a
