-- The sessions of a desk as it opens.
use Rattle.std.specs.Prelude.{ℕ, ◌+◌, List, [], ◌∷◌, ◌++◌, map}
use Rattle.std.specs.List.{range_with_len}
use Rattle.auction_terms.specs.declared.rules.Bidder.{Bidder}
use Rattle.bid_desk.specs.Holding.{SessionOwn}

-- a session of a bidder before its first call
abbrev pub fresh_session : ℕ → ℕ → SessionOwn
fresh_session b s = record { bidder = b; session = s; pairs = []; share = 0 }

-- the sessions of one bidder, numbered from 1
abbrev pub sessions_of : ℕ → ℕ → List SessionOwn
sessions_of b n = map (fresh_session b) (range_with_len 1 n)

-- the sessions of these bidders, numbered from b on: in order of bidder, then session
abbrev pub all_sessions : ℕ → List Bidder → List SessionOwn
all_sessions b [] = []
all_sessions b (bidder ∷ bidders) = sessions_of b bidder.sessions ++ all_sessions (b + 1) bidders
