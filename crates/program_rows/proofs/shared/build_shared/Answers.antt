use Rattle.std.proofs.Common.{◌≡◌, ◌++◌, ◌∷◌, ◌==◌, [], ◌∙◌, ℕ, List, Option, None, Some, ap, map, refl, sym}
use Rattle.std.proofs.lemmas.Bool.{cond-false, cond-true, eq-eqb, ne_eqb}
use Rattle.std.proofs.lemmas.List.{append-nil}
use Rattle.auction_terms.specs.Offers.{offers}
use Rattle.auction_terms.specs.Packages.{Lots, worth_of_all}
use Rattle.auction_terms.specs.Terms.{lots_in}
use Rattle.auction_terms.proofs.LotsFacts.{are_lots}
use Rattle.program_rows.specs.Program.{TableColumn}
use Rattle.program_rows.specs.Rows.{subjects, worth_column}
use Rattle.program_rows.specs.Selections.{owner_of, shared}
use Rattle.program_rows.proofs.BuiltFacts.{listed}
use Rattle.program_rows.proofs.KeptFacts.{are_offers}
use Rattle.program_rows.proofs.shared.build_shared.Goals.{then-worth_of_all-ne0+in_ok-push, else-worth_of_all-ne0}
use Rattle.program_rows.proofs.shared.build_shared.Goals as goal

-- the owners with nobody for the column of the worth, if there is a worth
with_nobody : (lots : Lots) (owners more : List (Option ℕ)) (worth : ℕ) → worth ≡ worth_of_all lots → (worth ≡ 0 → ⊥) → more ≡ owners ++ None ∷ []
    → more ≡ owners ++ map (λ k. None) (worth_column lots)
with_nobody lots owners more worth is some pushed =
    pushed ∙ ap (λ (cs : List TableColumn). owners ++ map (λ k. None) cs)
    (sym (cond-false (worth_of_all lots == 0) [] _ (ne_eqb _ _ (λ e. some (is ∙ e)))))

without_nobody : (lots : Lots) (owners : List (Option ℕ)) (worth : ℕ) → worth ≡ worth_of_all lots → worth ≡ 0
    → owners ≡ owners ++ map (λ k. None) (worth_column lots)
without_nobody lots owners worth is none =
    sym (append-nil owners) ∙ ap (λ (cs : List TableColumn). owners ++ map (λ k. None) cs)
    (sym (cond-true (worth_of_all lots == 0) [] _ (eq-eqb _ _ (sym is ∙ none))))

pub invariant_of-result : goal.invariant_of-result
invariant_of-result c =
    let rules_ = c.args.rules.now in
    let lots = lots_in rules_ in
    let bids = c.bids-bids.ensures.bids in
    let subjects_are = listed rules_ (offers c.bids-bids.result.now) _ _ _ _ _ c.in_ok-subjects.ensures refl c.in_ok-add_lots.ensures refl refl in
    let rows : c.in_ok-rows.rows.items ≡ map owner_of (subjects lots (offers c.args.kept.now)) =
    c.in_ok-rows.ensures ∙ ap (λ ss. map owner_of ss) (c.deref.ensures.value ∙ subjects_are)
    ∙ ap (λ ks. map owner_of (subjects lots (offers ks))) bids in
    let more : c.if-worth_of_all-ne0.columns.items ≡ c.in_ok-columns.columns.items ++ map (λ k. None) (worth_column lots) = elim c.if-worth_of_all-ne0.branch [
      | then-worth_of_all-ne0+in_ok-push w ↦ ap (λ os. os.items) w.columns-is
          ∙ with_nobody lots c.in_ok-columns.columns.items w.push.new.self.items c.worth_of_all.result c.worth_of_all.ensures.worth
          w.if-worth_of_all-ne0.true w.in_ok-push.ensures.items
      | else-worth_of_all-ne0 w ↦ ap (λ os. os.items) w.columns-is
          ∙ without_nobody lots c.in_ok-columns.columns.items c.worth_of_all.result c.worth_of_all.ensures.worth w.if-worth_of_all-ne0.false
    ] in
    let columns = more ∙ ap (λ os. os ++ map (λ k. None) (worth_column lots))
    (c.in_ok-columns.ensures ∙ ap (λ ks. map (λ o. Some o.bidder) (offers ks)) bids) in
    record {
      lots = lots;
      offers = offers c.args.kept.now;
      is = λ i. shared (c.in_ok-program.ensures i) (rows i) (columns i);
      within = are_lots rules_ c.within_limits.ensures.terms;
      each = are_offers rules_ c.args.kept.now c.requires.sized c.bids-bids.ensures.kept;
    }

pub returns : goal.returns
returns c =
    let rules_ = c.args.rules.now in
    let lots = lots_in rules_ in
    let bids = c.bids-bids.ensures.bids in
    let subjects_are = listed rules_ (offers c.bids-bids.result.now) _ _ _ _ _ c.in_ok-subjects.ensures refl c.in_ok-add_lots.ensures refl refl in
    let rows : c.in_ok-rows.rows.items ≡ map owner_of (subjects lots (offers c.args.kept.now)) =
    c.in_ok-rows.ensures ∙ ap (λ ss. map owner_of ss) (c.deref.ensures.value ∙ subjects_are)
    ∙ ap (λ ks. map owner_of (subjects lots (offers ks))) bids in
    let more : c.if-worth_of_all-ne0.columns.items ≡ c.in_ok-columns.columns.items ++ map (λ k. None) (worth_column lots) = elim c.if-worth_of_all-ne0.branch [
      | then-worth_of_all-ne0+in_ok-push w ↦ ap (λ os. os.items) w.columns-is
          ∙ with_nobody lots c.in_ok-columns.columns.items w.push.new.self.items c.worth_of_all.result c.worth_of_all.ensures.worth
          w.if-worth_of_all-ne0.true w.in_ok-push.ensures.items
      | else-worth_of_all-ne0 w ↦ ap (λ os. os.items) w.columns-is
          ∙ without_nobody lots c.in_ok-columns.columns.items c.worth_of_all.result c.worth_of_all.ensures.worth w.if-worth_of_all-ne0.false
    ] in
    let columns = more ∙ ap (λ os. os ++ map (λ k. None) (worth_column lots))
    (c.in_ok-columns.ensures ∙ ap (λ ks. map (λ o. Some o.bidder) (offers ks)) bids) in
    λ i. shared (c.in_ok-program.ensures i) (rows i) (columns i)
