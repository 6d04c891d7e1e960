use Rattle.std.proofs.Common.{◌≤◌, ◌∙◌, ℕ, List, ap, ap₂, length, subst, sym}
use Rattle.auction_terms.specs.Terms.{lots_in}
use Rattle.auction_terms.specs.declared.limits.TheConstants.{MOST_BIDDERS}
use Rattle.bid_desk.specs.Closing.{book_of}
use Rattle.group_compiler.specs.Pages.{PageText, all_pages, page_of_lots}
use Rattle.group_compiler.proofs.OrderFacts.{pages_in_order}
use Rattle.group_compiler.proofs.JoinedFacts.{length_pages}
use Rattle.group_compiler.proofs.pages.Pages.made_by.Goals as goal

pub returns-clause-pages : goal.returns-clause-pages
returns-clause-pages g c =
    let forms = pages_in_order c.args.book.now c.in_ok-forms.forms.items c.in_ok-forms.ensures.made in
    ap₂ all_pages forms (c.in_ok-lots.ensures ∙ ap (λ r. page_of_lots (lots_in r)) c.rules.ensures.rules)

pub invariant_of-result : goal.invariant_of-result
invariant_of-result g c =
    let book = book_of c.args.book.now in
    let forms = pages_in_order c.args.book.now c.in_ok-forms.forms.items c.in_ok-forms.ensures.made in (
      subst (λ (n : ℕ). n ≤ MOST_BIDDERS) (sym (ap (λ (ps : List PageText). length ps) forms ∙ length_pages (lots_in c.args.book.now.rules) 1
          book)) c.rules.ensures.book.bidders,
      tt,
    )
