use Rattle.std.proofs.Common.{◌≡◌, ◌<◌, ◌∙◌, arith, ap, List, length}
use Rattle.auction_input.proofs.LastFormFacts.{one-more-held}
use Rattle.auction_input.specs.declared.last_forms.TheConstants.{FORMS_LEN}
use Rattle.auction_terms.specs.declared.bids.Bid.{Bid}
use Rattle.auction_input.proofs.last_forms.LastForms.add.Goals as goal

pub returns : goal.returns
returns c forms holds =
    let form = c.args.form.now in
    let bidder : c.from.result ≡ form.bidder = c.from.ensures ∙ c.bidder.ensures.bidder in
    let small : form.bidder < FORMS_LEN = (let few = c.bidder.ensures.form.bidders in omega arith) in
    rw bidder (one-more-held c.args.self.now forms (form, c.args.bytes.now) _ holds small
    (ap (λ (bids : List Bid). (length bids, c.args.bytes.now)) c.bids-bids.ensures.bids))
