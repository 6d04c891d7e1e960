use Rattle.std.proofs.Common.{◌≡◌, ◌∙◌, ◌&&◌, Bool, true, false, ap₂, refl, sym}
use Rattle.std.specs.Prelude.{bytes_eq}
use Rattle.program_rows.specs.Parts.{table_of}
use Rattle.program_rows.specs.inside.Comparing as comparing
use Rattle.program_rows.proofs.SameFacts.{same_by_test, test_by_same}
use Rattle.program_rows.proofs.same.same_program.Goals.{then-is_same_name, else-is_same_name}
use Rattle.program_rows.proofs.same.same_program.Goals as goal

-- three tests: the third decides if the first two hold, and all fail with them
third : (a b d : Bool) → a ≡ true → b ≡ true → a && (b && d) ≡ d
third true true d e f = refl
third a b d e f = cc

none : (a b d : Bool) → a && b ≡ false → a && (b && d) ≡ false
none true false d e = refl
none false b d e = refl
none true true d e = cc

pub returns-then-stands_in : goal.returns-then-stands_in
returns-then-stands_in c =
    let p = table_of c.parts-parts.result.now in
    let q = table_of c.parts-others.result.now in
    let names : c.is_same_name.result ≡ bytes_eq p.objective q.objective = c.is_same_name.ensures
    ∙ ap₂ bytes_eq c.as_slice.ensures.value c.as_slice-2.ensures.value in
    let tested : c.stands_in-then-stands_in.result ≡ comparing.is_same_program p q = elim c.if-is_same_name.branch [
      | then-is_same_name w ↦ c.stands_in-then-stands_in.ensures
          ∙ sym (third (bytes_eq p.objective q.objective) (comparing.stands_in p q) (comparing.stands_in q p) (sym names ∙ w.if-is_same_name.true)
          (sym w.stands_in.ensures ∙ sym w.value-is ∙ c.if-stands_in.true))
      | else-is_same_name w ↦ cc
    ] in
    let same = tested ∙ ap₂ comparing.is_same_program c.parts-parts.ensures.parts c.parts-others.ensures.parts in (
      λ h. same_by_test c.args.program.now c.args.other.now (sym same ∙ h),
      λ h. same ∙ test_by_same c.args.program.now c.args.other.now c.parts-parts.ensures.program c.parts-others.ensures.program h,
    )

pub returns-else-stands_in : goal.returns-else-stands_in
returns-else-stands_in c =
    let p = table_of c.parts-parts.result.now in
    let q = table_of c.parts-others.result.now in
    let names : c.is_same_name.result ≡ bytes_eq p.objective q.objective = c.is_same_name.ensures
    ∙ ap₂ bytes_eq c.as_slice.ensures.value c.as_slice-2.ensures.value in
    let front : bytes_eq p.objective q.objective && comparing.stands_in p q ≡ false = elim c.if-is_same_name.branch [
      | then-is_same_name w ↦ ap₂ (λ a b. a && b) (sym names ∙ w.if-is_same_name.true)
          (sym w.stands_in.ensures ∙ sym w.value-is ∙ c.if-stands_in.false)
      | else-is_same_name w ↦ ap₂ (λ a b. a && b) (sym names ∙ w.if-is_same_name.false) refl
    ] in
    let same = c.if-stands_in.false ∙ sym (none (bytes_eq p.objective q.objective) (comparing.stands_in p q) (comparing.stands_in q p) front)
    ∙ ap₂ comparing.is_same_program c.parts-parts.ensures.parts c.parts-others.ensures.parts in (
      λ h. same_by_test c.args.program.now c.args.other.now (sym same ∙ h),
      λ h. same ∙ test_by_same c.args.program.now c.args.other.now c.parts-parts.ensures.program c.parts-others.ensures.program h,
    )
