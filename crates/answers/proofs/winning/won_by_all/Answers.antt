use Rattle.std.proofs.Common.{◌≡◌, Ok, subst, IfErr, IfOk}
use Rattle.auction_terms.specs.Groups.{has}
use Rattle.auction_terms.specs.Limits.{IsBook}
use Rattle.auction_terms.specs.Terms.{lots_in}
use Rattle.bid_desk.specs.Closing.{Closing, book_of}
use Rattle.program_rows.proofs.FaithfulFacts.{presolved_is_faithful}
use Rattle.auction_input.specs.Refused.{Refuses}
use Rattle.program_rows.specs.Program.{Table}
use Rattle.answers.specs.SolutionWinners.{winners_by}
use Rattle.answers.proofs.winning.won_by_all.Goals as goal

pub allocation_won-requires : goal.allocation_won-requires
allocation_won-requires c =
    let book = c.args.compiler.now.book in
    let within = subst (λ (book : Closing). IsBook (lots_in book.rules) (book_of book)) c.book.ensures c.within_limits.ensures.book in
    rw (c.in_ok-program.ensures, c.book-2.ensures) (presolved_is_faithful (lots_in book.rules) (book_of book) (has c.args.group.now) within)

pub returns-clause-won : goal.returns-clause-won
returns-clause-won c =
    subst (λ (p : Table). IfOk c.allocation_won.result (λ a. winners_by p c.args.solution c.args.text.now ≡ Ok a)) c.in_ok-program.ensures
    c.allocation_won.ensures.won

pub returns-clause-refuses : goal.returns-clause-refuses
returns-clause-refuses c =
    subst (λ (p : Table). IfErr c.allocation_won.result (Refuses (winners_by p c.args.solution c.args.text.now))) c.in_ok-program.ensures
    c.allocation_won.ensures.refuses
