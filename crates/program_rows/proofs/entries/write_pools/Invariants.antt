use Rattle.std.proofs.Common.{◌≡◌, ◌≤◌, ◌+◌, ◌++◌, drop, length, map, take}
use Rattle.std.specs.List.{range_with_len}
use Rattle.auction_terms.specs.Offers.{offer_of}
use Rattle.auction_terms.specs.Terms.{lots_in}
use Rattle.program_rows.specs.declared.subject.Subject.TheVariants.{Pool}
use Rattle.program_rows.specs.Rows.{entries_from}
use Rattle.program_rows.proofs.entries.write_pools.Given as goal

-- what is written, and what is left, is all
abbrev pub invariant-loop-place : goal.invariant-loop-place
invariant-loop-place l = (take l.count l.entries ++ entries_from (lots_in l.rules) (l.first + l.place)
    (drop l.place (map Pool (range_with_len 0 (length (lots_in l.rules).pools)))) (offer_of l.bid)
    ≡ take l.start l.initial.entries ++ entries_from (lots_in l.rules) l.first
    (map Pool (range_with_len 0 (length (lots_in l.rules).pools))) (offer_of l.bid)) × (l.count ≤ l.start + l.place) × (length l.entries
    ≡ length l.initial.entries)
