use Rattle.std.proofs.Common.{◌≡◌, take}
use Rattle.auction_input.specs.Submissions.{AreAccepted}
use Rattle.auction_input.specs.inside.Submissions.{form_values}
use Rattle.auction_input.proofs.bidder_thread.submit_each.Given as goal

abbrev pub invariant-loop-form : goal.invariant-loop-form
invariant-loop-form g l =
    (l.session.bidder ≡ l.initial.session.bidder) × (l.session.session ≡ l.initial.session.session)
    × AreAccepted (take l.form-index (form_values l.forms)) l.session.pairs
