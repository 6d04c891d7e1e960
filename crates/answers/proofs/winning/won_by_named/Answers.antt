use Rattle.std.proofs.Common.{subst}
use Rattle.auction_terms.specs.Limits.{IsBook}
use Rattle.auction_terms.specs.Terms.{lots_in}
use Rattle.bid_desk.specs.Closing.{Closing, book_of}
use Rattle.answers.proofs.WinningFacts.{allowed-length, feasible-by-some, is-map-by-some, won-by-some}
use Rattle.answers.proofs.winning.won_by_named.Goals as goal

pub map_back-requires : goal.map_back-requires
map_back-requires c =
    let p = c.in_ok-program.program in
    let within = subst (λ (book : Closing). IsBook (lots_in book.rules) (book_of book)) c.book.ensures c.within_limits.ensures.book in
    record {
      sized = allowed-length p.columns c.in-Ok.point c.in-Ok.ensures.point.allowed;
      map = is-map-by-some c.args.compiler.now.book c.args.group.now c.in_ok-choices.choices.items c.args.text.now p c.in-Ok.point within
          c.in_ok-program.ensures c.in-Ok.ensures.answer;
    }

pub returns-in-Ok-clause-feasible : goal.returns-in-Ok-clause-feasible
returns-in-Ok-clause-feasible c =
    let p = c.in_ok-program.program in
    let within = subst (λ (book : Closing). IsBook (lots_in book.rules) (book_of book)) c.book.ensures c.within_limits.ensures.book in
    rw c.in_ok-map_back-in-Ok.ensures (feasible-by-some c.args.compiler.now.book c.args.group.now c.in_ok-choices.choices.items
    c.args.text.now p c.in-Ok.point within c.in_ok-program.ensures c.in-Ok.ensures.answer)

pub returns-in-Ok-clause-won : goal.returns-in-Ok-clause-won
returns-in-Ok-clause-won c =
    let p = c.in_ok-program.program in
    let within = subst (λ (book : Closing). IsBook (lots_in book.rules) (book_of book)) c.book.ensures c.within_limits.ensures.book in
    rw c.in_ok-map_back-in-Ok.ensures (won-by-some c.args.compiler.now.book c.args.group.now c.in_ok-choices.choices.items c.args.text.now p
    c.in-Ok.point within c.in_ok-program.ensures c.in-Ok.ensures.answer)
