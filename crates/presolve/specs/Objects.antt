-- The objects of JSON that say which bids are in no program, and why, and which forms others replace.
use Rattle.std.specs.Prelude.{◌++◌, ℕ, List, codes, map}
use Rattle.auction_terms.specs.Terms.{Terms}
use Rattle.bid_desk.specs.Sale.{bidder_name}
use Rattle.byte_sinks.specs.Json.{number_member, text_member}
use Rattle.presolve.specs.Names.{category_name, pool_name}
use Rattle.presolve.specs.declared.reason.Reason.{Reason}
use Rattle.presolve.specs.declared.reason.Reason.TheVariants as reason

-- the first member of an object: the name of its bidder
abbrev pub bidder_member : Terms → ℕ → List ℕ
bidder_member t bidder = text_member (codes "{") (codes "bidder") (bidder_name (map (λ b. b.name) t.bidders) bidder)

-- the members that tell a reason: its name, and what is reported of it
abbrev pub reason_members : Terms → Reason → List ℕ
reason_members t (reason.OverSupply category asked supply) = text_member (codes ", ") (codes "reason") (codes "OverSupply") ++
    (text_member (codes ", ") (codes "category") (category_name t category) ++
    (number_member (codes ", ") (codes "asked") asked ++ number_member (codes ", ") (codes "supply") supply))
reason_members t (reason.OverCap pool load cap) = text_member (codes ", ") (codes "reason") (codes "OverCap") ++
    (text_member (codes ", ") (codes "pool") (pool_name t pool) ++
    (number_member (codes ", ") (codes "load") load ++ number_member (codes ", ") (codes "cap") cap))
reason_members t (reason.BelowWorth less) = text_member (codes ", ") (codes "reason") (codes "BelowWorth") ++
    number_member (codes ", ") (codes "less") less
reason_members t (reason.Dominated by) = text_member (codes ", ") (codes "reason") (codes "Dominated") ++
    number_member (codes ", ") (codes "by") by

-- the object of a bid, on a line of its own: its bidder, its number and the reason
abbrev pub left_out_object : Terms → ℕ → ℕ → Reason → List ℕ
left_out_object t bidder number why = bidder_member t bidder ++
    (number_member (codes ", ") (codes "bid") number ++ (reason_members t why ++ codes "}\n"))

-- the object of a form that the last one of its bidder replaces, on a line of its own
abbrev pub replaced_object : Terms → ℕ → ℕ → ℕ → List ℕ
replaced_object t bidder last number = bidder_member t bidder ++ (number_member (codes ", ") (codes "form") number ++
    (text_member (codes ", ") (codes "reason") (codes "Replaced") ++
    (number_member (codes ", ") (codes "by") last ++ codes "}\n")))
