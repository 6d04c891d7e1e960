use Rattle.std.proofs.Common.{◌≡◌, ◌+◌, ◌++◌, vec_len}
use Rattle.auction_input.specs.inside.Submissions.{AreByBidder}
use Rattle.auction_input.proofs.by_bidder.by_bidder.Given as goal

abbrev pub invariant-loop-form : goal.invariant-loop-form
invariant-loop-form l =
    goal.iterator-loop-form.can_next l.form-iterator × goal.iterator-loop-form.is_finite l.form-iterator
    × (vec_len l.lists ≡ l.fn.bidders + 1) × AreByBidder l.yielded l.lists.items
    × (l.yielded ++ l.form-iterator.rest.items ≡ l.fn.forms.items)
