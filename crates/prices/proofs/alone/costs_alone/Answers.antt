use Rattle.std.proofs.Common.{◌≡◌, ◌⊎◌, ◌∙◌, ◌+◌, ◌<◌, ◌≤◌, Err, Ok, ap, arith, inr, length, refl, sym}
use Rattle.auction_terms.specs.Terms.{Terms, lots_in}
use Rattle.bid_desk.specs.Closing.{book_of}
use Rattle.prices.specs.declared.alone.AloneFault.{AloneFault}
use Rattle.prices.specs.declared.alone.AloneFault.TheVariants.{OutOfMemory}
use Rattle.prices.specs.Alone.{bidder_alone, costs_alone}
use Rattle.prices.specs.Prices.{reserves_in}
use Rattle.prices.proofs.AloneFacts.{listed_are_costs_alone, turn_ends, turn_fails, turn_goes_on}
use Rattle.prices.proofs.CodeFacts.{if-err-of}
use Rattle.prices.proofs.alone.costs_alone.Goals as goal

pub returns-in_err-bidder_alone-clause-refused : goal.returns-in_err-bidder_alone-clause-refused
returns-in_err-bidder_alone-clause-refused c =
    let book = c.args.book.now in
    let groups = c.args.listed.now.groups.now in
    let won = c.args.listed.now.won.now in
    let i = c.loop-place.place in
    let test = c.loop-place-test.true in
    let many = ap length c.bidders-count.ensures.value ∙ ap (λ (t : Terms). length t.bidders) c.rules.ensures.rules ∙ sym c.rules.ensures.bidders in
    let within : i < length (book_of book) = omega arith in
    let fails = turn_fails (bidder_alone (reserves_in book.rules) (lots_in book.rules) (book_of book) c.args.first.now groups won) (book_of book) i (i + 1)
    c.loop-place.costs.items (costs_alone (reserves_in book.rules) (lots_in book.rules) (book_of book) c.args.first.now groups won) refl within
    c.loop-place.invariant c.in_err-bidder_alone.field-0.0 (sym c.in_err-bidder_alone.ensures.exact) in
    if-err-of (λ (x : AloneFault). (x ≡ OutOfMemory) ⊎ (costs_alone (reserves_in book.rules) (lots_in book.rules) (book_of book) c.args.first.now groups won ≡ Err x))
    c.from_residual.result c.in_err-bidder_alone.field-0.0 c.from_residual.ensures.1 (inr fails)

pub loop-place-preserved : goal.loop-place-preserved
loop-place-preserved c =
    let book = c.args.book.now in
    let groups = c.args.listed.now.groups.now in
    let won = c.args.listed.now.won.now in
    let i = c.loop-place.place in
    let test = c.loop-place-test.true in
    let many = ap length c.bidders-count.ensures.value ∙ ap (λ (t : Terms). length t.bidders) c.rules.ensures.rules ∙ sym c.rules.ensures.bidders in
    let within : i < length (book_of book) = omega arith in
    turn_goes_on (bidder_alone (reserves_in book.rules) (lots_in book.rules) (book_of book) c.args.first.now groups won) (book_of book) i (i + 1)
    c.loop-place.costs.items (costs_alone (reserves_in book.rules) (lots_in book.rules) (book_of book) c.args.first.now groups won) refl within
    c.loop-place.invariant c.in_ok-bidder_alone.field-0 c.push.new.self.items (sym c.in_ok-bidder_alone.ensures.exact) c.in_ok-push.ensures.items

module _ (c : goal.After-loop-place) where
  ends : costs_alone (reserves_in c.args.book.now.rules) (lots_in c.args.book.now.rules) (book_of c.args.book.now) c.args.first.now
      c.args.listed.now.groups.now c.args.listed.now.won.now ≡ Ok c.loop-place.costs.items
  ends =
      let book = c.args.book.now in
      let groups = c.args.listed.now.groups.now in
      let won = c.args.listed.now.won.now in
      let i = c.loop-place.place in
      let test = c.loop-place-test.false in
      let many = ap length c.bidders-count.ensures.value ∙ ap (λ (t : Terms). length t.bidders) c.rules.ensures.rules ∙ sym c.rules.ensures.bidders in
      let beyond : length (book_of book) ≤ i = omega arith in
      turn_ends (bidder_alone (reserves_in book.rules) (lots_in book.rules) (book_of book) c.args.first.now groups won) (book_of book) i
      c.loop-place.costs.items (costs_alone (reserves_in book.rules) (lots_in book.rules) (book_of book) c.args.first.now groups won) beyond
      c.loop-place.invariant

pub returns-clause-exact : goal.returns-clause-exact
returns-clause-exact c = ends c

pub returns-clause-alone : goal.returns-clause-alone
returns-clause-alone c = listed_are_costs_alone (reserves_in c.args.book.now.rules) (lots_in c.args.book.now.rules) (book_of c.args.book.now)
    c.args.first.now c.args.listed.now.groups.now c.args.listed.now.won.now c.loop-place.costs.items c.requires.first.feasible c.requires.without (ends c)
