use Rattle.std.proofs.Common.{◌≡◌, ◌∙◌, ◌∷◌, Bool, suc, List, ap, ap₂, drop, length, nat_le, take}
use Rattle.std.specs.Prelude.{if◌then◌else◌}
use Rattle.auction_terms.specs.Terms.{lots_in}
use Rattle.auction_terms.specs.declared.bids.Choice.{Choice}
use Rattle.auction_terms.specs.declared.limits.TheConstants.{MOST_TIES}
use Rattle.bid_desk.specs.Closing.{book_of}
use Rattle.outcome.specs.Following.{with_following}
use Rattle.outcome.specs.declared.others.Further.{Further}
use Rattle.outcome.specs.declared.others.Further.TheVariants.{More, NoOther}
use Rattle.outcome.proofs.OtherFacts.{as-many, one-deeper}
use Rattle.outcome.proofs.others.others_of.Goals as goal

pub with_following-requires-clause-feasible : goal.with_following-requires-clause-feasible
with_following-requires-clause-feasible c = rw c.in_ok-listed.ensures c.requires.feasible

pub returns : goal.returns
returns c =
    let all = with_following (lots_in c.args.book.now.rules) (book_of c.args.book.now) (c.args.first.now ∷ c.args.ties.items) in
    let found : c.in_ok-awards.awards.items ≡ take (suc (suc MOST_TIES)) all = rw c.in_ok-listed.ensures at c.in_ok-awards.ensures in
    let awards = c.others_among.ensures.awards ∙ ap (λ (xs : List (List Choice)). drop 1 (take (suc MOST_TIES) xs)) found
    ∙ ap (λ (xs : List (List Choice)). drop 1 xs) (one-deeper (suc MOST_TIES) all) in
    let further = c.others_among.ensures.further ∙ ap (λ (b : Bool). if b then NoOther else More)
    (ap (λ (xs : List (List Choice)). nat_le (length xs) (suc MOST_TIES)) found ∙ as-many (suc MOST_TIES) all) in
    ap₂ (λ (xs : List (List Choice)) (f : Further). record { awards = xs; further = f }) awards further
