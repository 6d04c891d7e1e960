use Rattle.std.proofs.Common.{◌≡◌, ◌-◌, ℕ, List, [], Ok, ap₂, inr, refl, subst, IfErr, IfOk, slice_index_or, false}
use Rattle.auction_terms.specs.Allocations.{IsFeasible}
use Rattle.auction_terms.specs.Groups.{has}
use Rattle.auction_terms.specs.Terms.{lots_in}
use Rattle.bid_desk.specs.Closing.{book_of}
use Rattle.group_compiler.specs.Compiled.{Compiling, program_without}
use Rattle.auction_input.specs.Refused.{Refuses}
use Rattle.answers.specs.SolutionWinners.{winners_by}
use Rattle.auction_input.specs.declared.refusal.Refusal.TheVariants as refusal
use Rattle.auction_input.proofs.StepFacts.{if-err-of}
use Rattle.answers.proofs.WinningFacts.{feasible-for_all, if-ok-weaker}
use Rattle.answers.proofs.commands.map.won_by_group.Goals as goal

pub returns : goal.returns
returns g c =
    let made = c.in_ok-compiler.ensures in
    let group = has c.group.result.now in
    let compiler = c.in_ok-compiler.compiler in
    let program : program_without compiler.book c.group.result.now ≡ program_without c.args.book.now (slice_index_or c.args.groups.now (c.args.k - 1) []) =
    ap₂ (λ (k : Compiling) (g : List ℕ). program_without k.book g) made c.group.ensures in
    record {
      feasible = if-ok-weaker (IsFeasible (lots_in compiler.book.rules) (book_of compiler.book) group)
          (IsFeasible (lots_in c.args.book.now.rules) (book_of c.args.book.now) (λ b. false)) c.won_without.result
          (λ a is. subst (λ (k : Compiling). IsFeasible (lots_in k.book.rules) (book_of k.book) (λ b. false) a) made
          (feasible-for_all (lots_in compiler.book.rules) (book_of compiler.book) group a is)) c.won_without.ensures.feasible;
      won = subst (λ p. IfOk c.won_without.result (λ a. winners_by p 1 c.args.text.now ≡ Ok a)) program c.won_without.ensures.won;
      refuses = subst (λ p. IfErr c.won_without.result (Refuses (winners_by p 1 c.args.text.now))) program c.won_without.ensures.refuses;
    }

pub returns-in_err-compiler-clause-refuses : goal.returns-in_err-compiler-clause-refuses
returns-in_err-compiler-clause-refuses g c =
    let p = program_without c.args.book.now (slice_index_or c.args.groups.now (c.args.k - 1) []) in
    if-err-of (Refuses (winners_by p 1 c.args.text.now)) c.from_residual.result refusal.OutOfMemory c.from_residual.ensures.1 (inr refl)
