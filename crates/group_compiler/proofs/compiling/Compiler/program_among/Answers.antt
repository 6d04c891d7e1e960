use Rattle.std.proofs.Common.{◌≡◌, ◌∙◌, List, ap, ap₂, subst, sym}
use Rattle.std.specs.Prelude.{All, length}
use Rattle.std.proofs.lemmas.Result.{IfOk-weaker}
use Rattle.auction_terms.specs.Groups.{has}
use Rattle.auction_terms.specs.Keeping.{Offer}
use Rattle.auction_terms.specs.Offers.{offers}
use Rattle.auction_terms.specs.Terms.{Terms, lots_in}
use Rattle.auction_terms.specs.declared.bids.KeptBid.{KeptBid}
use Rattle.bid_desk.specs.Closing.{book_of}
use Rattle.program_rows.specs.Program.{Table}
use Rattle.program_rows.specs.Rows.{program_of}
use Rattle.group_compiler.specs.Compiled.{Compiling, program_among}
use Rattle.group_compiler.proofs.CompileFacts.{among_are_sized}
use Rattle.group_compiler.proofs.compiling.Compiler.program_among.Goals as goal

pub build-requires : goal.build-requires
build-requires c =
    let book = c.self.inside.book.now in record {
      sized = subst (λ (t : Terms). All (λ (k : KeptBid). length k.offer.now.package ≡ length t.categories) c.in_ok-kept.kept) (sym c.rules.ensures.rules)
          (among_are_sized book.rules (book_of book) (has c.args.group.now) c.args.choices.items c.in_ok-kept.kept c.rules.ensures.book c.in_ok-kept.ensures);
    }

pub returns : goal.returns
returns c =
    let group = c.args.group.now in
    let choices = c.args.choices.items in
    let kept = c.in_ok-kept.kept in
    IfOk-weaker c.build.result (λ (p : Table). p ≡ program_of (lots_in c.rules.result.now) (offers kept))
    (λ (p : Table). p ≡ program_among c.args.self.now.book group choices)
    (λ p e. e ∙ ap₂ (λ (t : Terms) (os : List Offer). program_of (lots_in t) os) c.rules.ensures.rules c.in_ok-kept.ensures ∙ ap
    (λ (k : Compiling). program_among k.book group choices) c.self.view_is)
    c.build.ensures
