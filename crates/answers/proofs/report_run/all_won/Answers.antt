use Rattle.std.proofs.Common.{◌≡◌, ◌<◌, ◌≤◌, ◌+◌, ◌-◌, ◌∷◌, ◌++◌, ◌∙◌, [], ℕ, List, Ok, Option, rules, sym, subst, ap, arith, length, length-append}
use Rattle.std.proofs.lemmas.List.{length-map}
use Rattle.auction_terms.specs.declared.bids.Choice.{Choice}
use Rattle.auction_terms.specs.Lines.{bytes_of}
use Rattle.bid_desk.specs.Sale.{sale_of}
use Rattle.auction_input.specs.Refused.{Refuses}
use Rattle.auction_input.proofs.StepFacts.{if-err-of}
use Rattle.answers.specs.inside.SolutionWinners.{winners_at, parsed_winners}
use Rattle.answers.specs.declared.report_run.Winning.{Winning}
use Rattle.answers.proofs.ReportFacts.{IsLeftFrom, IsMade, MadeFrom, left-ends, left-first-of, left-on, left-whole, made-all, made-next}
use Rattle.answers.proofs.report_run.all_won.Goals as goal

abbrev Found : Type 0
Found = Option (List Choice)

as-long : (w : Winning) → length (bytes_of w.solutions.now) ≡ length w.compiler.now.groups
as-long w = length-map w.solutions.now _ ∙ w.each

pub loop-found-init : goal.loop-found-init
loop-found-init c =
    let w = c.args.winning.now in
    let texts = bytes_of w.solutions.now in
    let none = c.new-all.ensures.items in
    let empty : length c.new-all.result.items ≡ 0 = ap (λ (xs : List (List Choice)). length xs) none in
    let whole = c.into_iter-found-iterator.ensures.into_iter_gives.0 in
    record {
      made = (
        length w.compiler.now.groups,
        omega arith,
        subst (λ (n : ℕ). MadeFrom w.compiler.now texts n (length w.compiler.now.groups) c.into_iter-found-iterator.result.rest.items) (sym empty)
            (subst (λ (xs : List Found). MadeFrom w.compiler.now texts 0 (length w.compiler.now.groups) xs) (sym whole) c.requires),
      );
      left = subst (IsLeftFrom w.compiler.now texts) (sym none) (left-first-of w.compiler.now texts (as-long w));
    }

pub answer-requires-clause-made : goal.answer-requires-clause-made
answer-requires-clause-made c =
    let w = c.args.winning.now in
    let texts = bytes_of w.solutions.now in
    let all = c.loop-found.all.items in
    let made = c.loop-found.invariant.made in
    let next = made-next w.compiler.now texts (length all) made.0 c.in-Some.found c.next.new.self.rest.items
    (subst (λ (xs : List Found). MadeFrom w.compiler.now texts (length all) made.0 xs) c.in-Some.ensures.steps.0 made.2) in
    let number : length all ≡ c.len-number.result = (let count = c.len-number.ensures in omega (arith, c.loop-found.all.ok.0)) in
    subst (λ (n : ℕ). IsMade w.compiler.now texts n c.in-Some.found) number next.1

pub returns-in_err-answer-clause-refuses : goal.returns-in_err-answer-clause-refuses
returns-in_err-answer-clause-refuses c =
    let w = c.args.winning.now in
    let texts = bytes_of w.solutions.now in
    let all = c.loop-found.all.items in
    let made = c.loop-found.invariant.made in
    let next = made-next w.compiler.now texts (length all) made.0 c.in-Some.found c.next.new.self.rest.items
    (subst (λ (xs : List Found). MadeFrom w.compiler.now texts (length all) made.0 xs) c.in-Some.ensures.steps.0 made.2) in
    let within : length all < length w.compiler.now.groups = (let some = next.0 in let sum = made.1 in omega arith) in
    let number : c.len-number.result ≡ length all = (let count = c.len-number.ensures in omega (arith, c.loop-found.all.ok.0)) in
    let refusal = c.in_err-answer.field-0.0 in
    let refuses = subst (λ (n : ℕ). Refuses (winners_at (sale_of w.compiler.now.book) w.compiler.now.groups texts n) refusal) number
    c.in_err-answer.ensures.1 in
    if-err-of (Refuses (parsed_winners w.compiler.now texts)) c.from_residual.result refusal c.from_residual.ensures.1
    (left-ends w.compiler.now texts (as-long w) all refusal within c.loop-found.invariant.left refuses)

pub loop-found-preserved : goal.loop-found-preserved
loop-found-preserved c =
    let w = c.args.winning.now in
    let texts = bytes_of w.solutions.now in
    let all = c.loop-found.all.items in
    let won = c.in_ok-answer.field-0 in
    let made = c.loop-found.invariant.made in
    let rest = c.next.new.self.rest.items in
    let next = made-next w.compiler.now texts (length all) made.0 c.in-Some.found rest
    (subst (λ (xs : List Found). MadeFrom w.compiler.now texts (length all) made.0 xs) c.in-Some.ensures.steps.0 made.2) in
    let within : length all < length w.compiler.now.groups = (let some = next.0 in let sum = made.1 in omega arith) in
    let number : c.len-number.result ≡ length all = (let count = c.len-number.ensures in omega (arith, c.loop-found.all.ok.0)) in
    let tells = subst (λ (n : ℕ). winners_at (sale_of w.compiler.now.book) w.compiler.now.groups texts n ≡ Ok won) number c.in_ok-answer.ensures.0 in
    let pushed : c.push.new.self.items ≡ all ++ won ∷ [] = search rules in
    let grown : length c.push.new.self.items ≡ length all + 1 = ap (λ (xs : List (List Choice)). length xs) pushed ∙ length-append all (won ∷ []) in
    record {
      made = (
        made.0 - 1,
        (let some = next.0 in let sum = made.1 in omega arith),
        subst (λ (n : ℕ). MadeFrom w.compiler.now texts n (made.0 - 1) rest) (sym grown) next.2,
      );
      left = subst (IsLeftFrom w.compiler.now texts) (sym pushed)
          (left-on w.compiler.now texts (as-long w) all won within c.loop-found.invariant.left tells);
    }

pub returns-clause-won : goal.returns-clause-won
returns-clause-won c =
    let w = c.args.winning.now in
    let texts = bytes_of w.solutions.now in
    let all = c.loop-found.all.items in
    let made = c.loop-found.invariant.made in
    let rest = c.loop-found.found-iterator.rest in
    let none : length rest.items ≡ 0 = (let len = c.in-None.ensures.steps.0 in omega (arith, rest.ok.0)) in
    let every : length w.compiler.now.groups ≤ length all =
    (let zero = made-all w.compiler.now texts (length all) made.0 rest.items none made.2 in let sum = made.1 in omega arith) in
    left-whole w.compiler.now texts (as-long w) all every c.loop-found.invariant.left
