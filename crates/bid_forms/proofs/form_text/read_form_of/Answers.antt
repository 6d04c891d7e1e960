use Rattle.std.proofs.Common.{◌≡◌, length, refl, rules}
use Rattle.bid_forms.proofs.BidFacts.{allowed-within}
use Rattle.bid_forms.proofs.FormFacts.{enough-none}
use Rattle.bid_forms.specs.Offers.{eligibility_of}
use Rattle.bid_forms.proofs.form_text.read_form_of.Goals as goal

pub new-requires : goal.new-requires
new-requires c =
    let items : c.shrink_to_fit.new.self.items ≡ c.in_ok-bids.bids.items = search rules in
    let are = rw c.eligibility_of-eligibility.ensures.value at c.in_ok-bids.ensures.are in
    rw items (record {
      some_bidder = c.requires.some;
      bidders = c.eligibility_of-eligibility.ensures.few;
      few = are.few;
      each = λ k d small. allowed-within c.args.rules.now (eligibility_of c.args.rules.now c.args.bidder) _ c.eligibility_of-eligibility.ensures.terms
          (are.each k d small);
      differ = are.differ;
    })

pub returns-clause-none : goal.returns-clause-none
returns-clause-none c =
    let empty : length c.read_bids.new.faults.kept.items ≡ 0 = search rules in
    enough-none c.args.faults.now.most c.args.faults.now c.read_bids.new.faults _ c.requires.room c.requires.none
    (rw c.eligibility_of-eligibility.ensures.value at c.in_ok-bids.ensures.found) empty

pub returns-clause-form : goal.returns-clause-form
returns-clause-form c =
    let empty : length c.read_bids.new.faults.kept.items ≡ 0 = search rules in
    let found = rw c.eligibility_of-eligibility.ensures.value at c.in_ok-bids.ensures.found in
    let none = enough-none c.args.faults.now.most c.args.faults.now c.read_bids.new.faults _ c.requires.room c.requires.none found empty in
    let bids = rw c.eligibility_of-eligibility.ensures.value at c.in_ok-bids.ensures.bids in
    let items : c.shrink_to_fit.new.self.items ≡ c.in_ok-bids.bids.items = search rules in
    rw (c.new.ensures, items, bids empty none) refl
