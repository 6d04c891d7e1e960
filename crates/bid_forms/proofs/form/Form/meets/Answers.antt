use Rattle.std.proofs.Common.{◌≡◌, ◌≤◌, ◌∙◌, ap, arith, length, sym}
use Rattle.std.specs.List.{list_all}
use Rattle.std.proofs.lemmas.List.Sums.{AllPass-from_list_all, list_all-from_AllPass}
use Rattle.bid_forms.specs.Offers.{IsForm, eligibility_of, is_bid_under}
use Rattle.bid_forms.proofs.form.Form.meets.Goals as goal

pub returns : goal.returns
returns c =
    let o = c.args.self.now in
    let t = c.args.rules.now in
    let test = is_bid_under t (eligibility_of t o.bidder) in
    let kept : IsForm o = rw c.self.view_is at c.self.invariant in
    let bids : c.deref.result.now ≡ o.bids = c.deref.ensures.value ∙ ap (λ x. x.bids) c.self.view_is in
    let bidder : c.self.inside.bidder ≡ o.bidder = ap (λ x. x.bidder) c.self.view_is in
    let answer : c.all_meet.result ≡ list_all test o.bids = rw (c.eligibility_of.ensures.value, bids, bidder) at c.all_meet.ensures in
    let known : o.bidder ≤ length t.bidders = (let n = c.from.ensures in let v : length c.bidders.result.now ≡ length t.bidders =
    ap length c.bidders.ensures.value in let f = c.if-from-bidders.false in omega arith) in (
      λ yes. record {
        some_bidder = kept.some_bidder;
        known_bidder = known;
        few = kept.few;
        each = AllPass-from_list_all test o.bids (sym answer ∙ yes);
        differ = kept.differ;
      },
      λ meets. answer ∙ list_all-from_AllPass test o.bids meets.each,
    )
