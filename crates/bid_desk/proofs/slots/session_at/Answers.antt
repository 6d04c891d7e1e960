use Rattle.std.proofs.Common.{◌≡◌, ap, sym, ◌∙◌, arith}
use Rattle.std.specs.Prelude.{slice_index_or}
use Rattle.bid_desk.proofs.SlotFacts.{few-sessions, limit-at, slot-place}
use Rattle.auction_terms.specs.declared.rules.Bidder.{Bidder}
use Rattle.bid_desk.specs.Sessions.{session_limit}
use Rattle.bid_desk.proofs.slots.session_at.Goals as goal

pub returns-else-session-from-clause-none : goal.returns-else-session-from-clause-none
returns-else-session-from-clause-none c b s known is =
    let t = c.args.rules.now in
    let at = slot-place b s c.args.place known.bidder_least known.session_least (few-sessions t c.bidders.ensures.terms b s known) is in
    let least = known.bidder_least in
    let most = known.bidder_most in
    let x = c.index-bidders-bidder.result in
    let limit : session_limit t b ≡ x.sessions =
    limit-at t b x (omega arith) ∙ ap (λ (y : Bidder). y.sessions)
    (sym (c.index-bidders-bidder.is ∙ (λ i. slice_index_or (c.bidders.ensures.value i) (at.0 i) x))) in
    let read : c.from.result ≡ x.sessions = c.from.ensures ∙ sym (ap (λ (y : Bidder). y.sessions) c.index-bidders-bidder.is) in
    omega (arith, limit, read, known.session_most, known.session_least, at.1, c.if-session-from.false)
