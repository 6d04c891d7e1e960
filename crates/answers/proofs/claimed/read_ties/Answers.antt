use Rattle.std.proofs.Common.{◌≡◌, ◌∙◌, ◌+◌, ◌<◌, ◌++◌, ◌∷◌, [], ℕ, List, Bool, Ok, ap, ap₂, drop, inr, length, map, refl, slice_index_or, subst, sym}
use Rattle.std.specs.Prelude.{All}
use Rattle.std.proofs.lemmas.List.{get_or_default, length-append}
use Rattle.auction_terms.specs.Lines.{bytes_of}
use Rattle.auction_terms.specs.declared.bids.Choice.{Choice}
use Rattle.auction_input.specs.Refused.{Refuses}
use Rattle.auction_input.specs.Settled.{held}
use Rattle.auction_input.specs.declared.refusal.Refusal.TheVariants as refusal
use Rattle.auction_input.proofs.InputTextFacts.{Text}
use Rattle.auction_input.proofs.StepFacts.{if-err-of}
use Rattle.group_compiler.specs.Compiled.{program_without}
use Rattle.outcome.specs.PointAllocation.{allocation_of}
use Rattle.program_rows.specs.Points.{IsPoint}
use Rattle.program_rows.specs.Program.{Table}
use Rattle.answers.specs.Claimed.{parsed_tie, parsed_ties}
use Rattle.answers.proofs.ClaimedFacts.{one-award-more, one-point-more, onto, texts-from, tie-taken}
use Rattle.answers.proofs.claimed.read_ties.Goals as goal

pub returns-in_err-add-clause-refuses : goal.returns-in_err-add-clause-refuses
returns-in_err-add-clause-refuses c =
    if-err-of (Refuses (parsed_ties (held c.args.auction.now) c.args.first.now [] (held c.args.auction.now).ties)) c.from_residual-in_err-add.result
    refusal.OutOfMemory c.from_residual-in_err-add.ensures.1 (inr refl)

pub loop-text-preserved : goal.loop-text-preserved
loop-text-preserved c =
    let auction = c.args.auction.now in
    let first = c.args.first.now in
    let p = c.args.program.now in
    let at = c.loop-text.text-index in
    let items : List Text = auction.ties.items in
    let blank : Text = record { ref_ptr = (0, 0); now = [] } in
    let text : Text = slice_index_or items at blank in
    let points = c.loop-text.ties.points.items in
    let awards = c.loop-text.ties.awards.items in
    let tie = c.in_ok-tie.tie in
    let slice : c.as_slice-text-items.result.now ≡ items = c.as_slice-text-items.ensures.value in
    let within : at < length items = subst (λ (xs : List Text). at < length xs) slice c.loop-text-test.true in
    let rest : List (List ℕ) = bytes_of (drop (at + 1) items) in
    let ahead = texts-from items at text within (get_or_default items at blank text within) in
    let here = subst (λ (before : List (List Choice)). parsed_tie (held auction) first before
    (slice_index_or c.as_slice-text-items.result.now at blank).now ≡ Ok tie.point) c.deref.ensures.value c.in_ok-tie.ensures.parsed in
    let taken = subst (λ (xs : List Text). parsed_tie (held auction) first awards (slice_index_or xs at blank).now ≡ Ok tie.point) slice here in
    let award = subst (λ (q : Table). tie.award ≡ allocation_of q tie.point) c.requires.program c.in_ok-tie.ensures.award in
    let new_points = c.in_ok-add.ensures.points in
    let new_awards : c.add.new.self.awards.items ≡ awards ++ allocation_of (program_without auction.book []) tie.point ∷ [] =
    c.in_ok-add.ensures.awards ∙ ap (λ (a : List Choice). awards ++ a ∷ []) award in
    record {
      parsed = c.loop-text.invariant.parsed
          ∙ ap (λ (texts : List (List ℕ)). onto points (parsed_ties (held auction) first awards texts)) ahead
          ∙ tie-taken (held auction) first points awards text.now rest tie.point taken
          ∙ ap₂ (λ (ps : List (List Bool)) (won : List (List Choice)). onto ps (parsed_ties (held auction) first won rest)) (sym new_points) (sym new_awards);
      points = subst (All (IsPoint p)) (sym new_points) (one-point-more p points tie.point c.loop-text.invariant.points c.in_ok-tie.ensures.point);
      awards = c.in_ok-add.ensures.awards
          ∙ ap₂ (λ (won : List (List Choice)) (a : List Choice). won ++ a ∷ []) c.loop-text.invariant.awards c.in_ok-tie.ensures.award
          ∙ sym (one-award-more p points tie.point) ∙ ap (λ (ps : List (List Bool)). map (allocation_of p) ps) (sym new_points);
      count = ap (λ (xs : List (List Choice)). length xs) c.in_ok-add.ensures.awards ∙ length-append awards (tie.award ∷ [])
          ∙ ap (λ (n : ℕ). n + 1) c.loop-text.invariant.count;
    }
