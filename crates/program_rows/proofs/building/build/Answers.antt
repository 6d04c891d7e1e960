use Rattle.std.proofs.Common.{◌≡◌, ◌∙◌, ◌++◌, ◌∷◌, ◌==◌, [], ℕ, ℤ, List, ap, neg_ℤ, pos, refl, rules, sym}
use Rattle.std.specs.Prelude.{codes}
use Rattle.std.proofs.lemmas.Bool.{cond-false, cond-true, eq-eqb, ne_eqb}
use Rattle.std.proofs.lemmas.List.{append-nil}
use Rattle.auction_terms.specs.Offers.{offers}
use Rattle.auction_terms.specs.Packages.{Lots, worth_of_all}
use Rattle.auction_terms.specs.Terms.{lots_in}
use Rattle.program_rows.specs.declared.column.Bounds.TheVariants.{One}
use Rattle.program_rows.specs.Parts.{table_of}
use Rattle.program_rows.specs.Program.{TableColumn}
use Rattle.program_rows.specs.Rows.{program_of, subjects, worth_column}
use Rattle.program_rows.proofs.LegalFacts.{built_is_legal}
use Rattle.auction_terms.proofs.LotsFacts.{are_lots}
use Rattle.program_rows.proofs.KeptFacts.{are_offers}
use Rattle.program_rows.proofs.BuiltFacts.{is_built, is_legal}
use Rattle.program_rows.proofs.building.build.Goals.{then-worth-ne0+in_ok-push, else-worth-ne0}
use Rattle.program_rows.proofs.building.build.Goals as goal

-- the columns with that of the worth, if there is a worth
with_worth : (lots : Lots) (columns more : List TableColumn) (worth : ℕ) (cost : ℤ) → worth ≡ worth_of_all lots → (worth ≡ 0 → ⊥)
    → cost ≡ neg_ℤ (pos (worth_of_all lots)) → more ≡ columns ++ record { name = codes "K"; bounds = One; cost = cost; entries = [] } ∷ []
    → more ≡ columns ++ worth_column lots
with_worth lots columns more worth cost is some negated pushed =
    pushed ∙ ap (λ (n : ℤ). columns ++ record { name = codes "K"; bounds = One; cost = n; entries = [] } ∷ []) negated
    ∙ ap (λ (cs : List TableColumn). columns ++ cs) (sym (cond-false (worth_of_all lots == 0) [] _ (ne_eqb _ _ (λ e. some (is ∙ e)))))

without_worth : (lots : Lots) (columns : List TableColumn) (worth : ℕ) → worth ≡ worth_of_all lots → worth ≡ 0 → columns ≡ columns ++ worth_column lots
without_worth lots columns worth is none =
    sym (append-nil columns) ∙ ap (λ (cs : List TableColumn). columns ++ cs) (sym (cond-true (worth_of_all lots == 0) [] _ (eq-eqb _ _ (sym is ∙ none))))

pub from_parts-requires : goal.from_parts-requires
from_parts-requires c =
    let lots = lots_in c.args.rules.now in
    let os = offers c.args.kept.now in
    let built : table_of c.if-worth-ne0.parts ≡ program_of lots os = elim c.if-worth-ne0.branch [
      | then-worth-ne0+in_ok-push w ↦ ap table_of w.parts-is
          ∙ is_built lots os _ (subjects lots os) _ _ c.in_ok-parts.ensures.objective refl c.in_ok-parts.ensures.rows
          (with_worth lots c.in_ok-parts.parts.columns w.push.new.self c.worth_of_all-worth.result _ c.worth_of_all-worth.ensures.worth
          w.if-worth-ne0.true (search rules) w.in_ok-push.ensures.ok ∙ ap (λ cs. cs ++ worth_column lots) c.in_ok-parts.ensures.columns)
      | else-worth-ne0 w ↦ ap table_of w.parts-is
          ∙ is_built lots os _ (subjects lots os) _ _ c.in_ok-parts.ensures.objective refl c.in_ok-parts.ensures.rows
          (without_worth lots c.in_ok-parts.parts.columns c.worth_of_all-worth.result c.worth_of_all-worth.ensures.worth w.if-worth-ne0.false
          ∙ ap (λ cs. cs ++ worth_column lots) c.in_ok-parts.ensures.columns)
    ] in
    is_legal _ _ built (built_is_legal lots os (are_lots c.args.rules.now c.within_limits.ensures.terms)
    (are_offers c.args.rules.now c.args.kept.now c.requires.sized c.bids-bids.ensures.kept))

pub returns : goal.returns
returns c =
    let lots = lots_in c.args.rules.now in
    let os = offers c.args.kept.now in
    let built : table_of c.if-worth-ne0.parts ≡ program_of lots os = elim c.if-worth-ne0.branch [
      | then-worth-ne0+in_ok-push w ↦ ap table_of w.parts-is
          ∙ is_built lots os _ (subjects lots os) _ _ c.in_ok-parts.ensures.objective refl c.in_ok-parts.ensures.rows
          (with_worth lots c.in_ok-parts.parts.columns w.push.new.self c.worth_of_all-worth.result _ c.worth_of_all-worth.ensures.worth
          w.if-worth-ne0.true (search rules) w.in_ok-push.ensures.ok ∙ ap (λ cs. cs ++ worth_column lots) c.in_ok-parts.ensures.columns)
      | else-worth-ne0 w ↦ ap table_of w.parts-is
          ∙ is_built lots os _ (subjects lots os) _ _ c.in_ok-parts.ensures.objective refl c.in_ok-parts.ensures.rows
          (without_worth lots c.in_ok-parts.parts.columns c.worth_of_all-worth.result c.worth_of_all-worth.ensures.worth w.if-worth-ne0.false
          ∙ ap (λ cs. cs ++ worth_column lots) c.in_ok-parts.ensures.columns)
    ] in
    c.from_parts.ensures ∙ built
