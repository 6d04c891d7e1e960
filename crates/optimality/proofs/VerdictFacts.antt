-- A text has no fault if and only if it describes a certificate that shows least.
use Rattle.std.proofs.Common.{◌≡◌, ℕ, suc, Bool, true, false, cond, List, [], ◌∷◌, ◌++◌, Option, Some, None, Result, Ok}
use Rattle.std.proofs.Common.{Err, length, map, refl, sym, subst, ◌∙◌, arith, ℤ, pos, neg_ℤ, inl, inr}
use Rattle.std.proofs.lemmas.List.{length-map, length-reverse, reverse-append}
use Rattle.std.specs.Prelude.{⊤, OnOk, IfErr, not, ◌↔◌, ◌⊎◌, ◌<ℤ◌, ◌*ℤ◌, ◌-ℤ◌, int_lt, if◌then◌else◌, bytes_eq, codes}
use Rattle.std.specs.List.{AllByRecursion, list_all}
use Rattle.std.specs.Option.{ok_or}
use Rattle.std.proofs.lemmas.Int.{ints}
use Rattle.auction_terms.specs.Lines.{lines_of}
use Rattle.program_rows.specs.Program.{Table}
use Rattle.auction_terms.specs.LineFields.{fields, is_skipped}
use Rattle.program_rows.proofs.NamedItemFacts.{all_true}
use Rattle.program_rows.specs.declared.certificate_fault.CertificateFaultKind.{CertificateFaultKind}
use Rattle.program_rows.specs.declared.certificate_fault.CertificateFaultKind.TheVariants.{Beyond, Fields, NotShown, Sign}
use Rattle.program_rows.specs.declared.certificate_fault.CertificateFault.{CertificateFault}
use Rattle.optimality.specs.Answers.{IsLimit, IsVerdict}
use Rattle.optimality.specs.Certificates.{Form, Certificate, Bound, Split, side}
use Rattle.optimality.specs.Shows.{may_have, leaf_value, LeafShows, ShowsWithin}
use Rattle.optimality.specs.Lines.{certificate_lines}
use Rattle.auction_terms.specs.Stages.{and_then}
use Rattle.auction_terms.specs.Decimals.{number}
use Rattle.program_rows.specs.ProgramNames.{row_names, column_names}
use Rattle.optimality.specs.LineMeaning.{ParsedLine, BoundLine, SplitLine, parsed_natural, parsed_naturals, parsed_integer}
use Rattle.optimality.specs.LineMeaning.{named_numbers, parsed_certificate_line}
use Rattle.optimality.specs.inside.LineMeaning.{bound_after, split_after}
use Rattle.optimality.proofs.LineFacts.{line_by_word}
use Rattle.optimality.specs.CertificateText.{TellsCertificate, IsShownBy}
use Rattle.optimality.specs.Branches.{Branch, At, cuts_above, closed}
use Rattle.optimality.specs.Verdict.{taken, fault_from, certificate_fault}
use Rattle.optimality.specs.OnlyPoints.{all_but, all_others, distance, free_ones, one_above, only_fault, IsShownOnlyBy}

-- ---------- what lines still have to tell ----------

-- after a subtree: the second sides that are to come
abbrev Completes : Table → ℤ → List Branch → List (List ℕ) → Type 0
Completes p least [] lines = lines ≡ []
Completes p least (At true form most ∷ above) lines = Completes p least above lines
Completes p least (At false form most ∷ above) lines =
    (t : Certificate) × (left : List (List ℕ)) × TellsCertificate p (suc (length above)) t lines left
    × ShowsWithin p least (cuts_above above ++ side true form most ∷ []) t × Completes p least above left

-- within open splits: a subtree, and what is to come after it
abbrev Awaits : Table → ℤ → List Branch → List (List ℕ) → Type 0
Awaits p least branches lines =
    (t : Certificate) × (left : List (List ℕ)) × TellsCertificate p (length branches) t lines left
    × ShowsWithin p least (cuts_above branches) t × Completes p least branches left

abbrev Holds : Table → ℤ → Option (List Branch) → List (List ℕ) → Type 0
Holds p least None lines = lines ≡ []
Holds p least (Some branches) lines = Awaits p least branches lines

closes : (p : Table) (least : ℤ) (branches : List Branch) (lines : List (List ℕ)) → Completes p least branches lines ↔ Holds p least (closed branches) lines
closes p least (At true form most ∷ above) lines = closes p least above lines
closes p least _ lines = (λ h. h, λ h. h)

nothing-parsed : (p : Table) (depth : ℕ) (t : Certificate) (left : List (List ℕ)) → TellsCertificate p depth t [] left → ⊥
nothing-parsed p depth (Bound scale ys rows) left h = h
nothing-parsed p depth (Split form most low high) left h = h

-- ---------- one line ----------

abbrev parsed_ok : ParsedLine → Result ParsedLine CertificateFaultKind
parsed_ok parsed = Ok parsed

abbrev parsed_err : CertificateFaultKind → Result ParsedLine CertificateFaultKind
parsed_err kind = Err kind

to-first-side : (p : Table) (least : ℤ) (branches : List Branch) (line : List ℕ) (lines : List (List ℕ)) (form : Form) (most : ℤ)
    → parsed_certificate_line p (length branches) (fields line) ≡ Ok (SplitLine form most)
    → (t : Certificate) (left : List (List ℕ)) → TellsCertificate p (length branches) t (line ∷ lines) left
    → ShowsWithin p least (cuts_above branches) t → Completes p least branches left
    → Awaits p least (At false form most ∷ branches) lines
to-first-side p least branches line lines form most e (Bound scale ys rows) left h shows after =
    let other : parsed_ok (SplitLine form most) ≡ parsed_ok (BoundLine scale ys rows) = sym e ∙ h.0 in absurd cc
to-first-side p least branches line lines form most e (Split f m low high) left h shows after =
    let same : parsed_ok (SplitLine form most) ≡ parsed_ok (SplitLine f m) = sym e ∙ h.0 in
    let form_is : f ≡ form = cc in
    let most_is : m ≡ most = cc in
    subst (λ (k : ℤ). Awaits p least (At false form k ∷ branches) lines) most_is
    (subst (λ (g : Form). Awaits p least (At false g m ∷ branches) lines) form_is
    (low, h.1.0, h.1.1, shows.0, (high, left, h.1.2, shows.1, after)))

splits : (p : Table) (least : ℤ) (branches : List Branch) (line : List ℕ) (lines : List (List ℕ)) (form : Form) (most : ℤ)
    → parsed_certificate_line p (length branches) (fields line) ≡ Ok (SplitLine form most)
    → Awaits p least (At false form most ∷ branches) lines ↔ Awaits p least branches (line ∷ lines)
splits p least branches line lines form most e = (
  (λ h. (Split form most h.0 h.4.0, h.4.1, (e, (h.1, h.2, h.4.2)), (h.3, h.4.3), h.4.4)),
  (λ h. to-first-side p least branches line lines form most e h.0 h.1 h.2 h.3 h.4),
)

to-end : (p : Table) (least : ℤ) (branches : List Branch) (line : List ℕ) (lines : List (List ℕ)) (scale : ℕ) (ys : List ℕ) (rows : Form)
    → parsed_certificate_line p (length branches) (fields line) ≡ Ok (BoundLine scale ys rows)
    → (t : Certificate) (left : List (List ℕ)) → TellsCertificate p (length branches) t (line ∷ lines) left
    → ShowsWithin p least (cuts_above branches) t → Completes p least branches left
    → LeafShows p least (cuts_above branches) scale ys rows × Completes p least branches lines
to-end p least branches line lines scale ys rows e (Split f m low high) left h shows after =
    let other : parsed_ok (BoundLine scale ys rows) ≡ parsed_ok (SplitLine f m) = sym e ∙ h.0 in absurd cc
to-end p least branches line lines scale ys rows e (Bound s y r) left h shows after =
    let same : parsed_ok (BoundLine scale ys rows) ≡ parsed_ok (BoundLine s y r) = sym e ∙ h.0 in
    let scale_is : s ≡ scale = cc in
    let ys_is : y ≡ ys = cc in
    let rows_is : r ≡ rows = cc in (
      subst (λ (k : ℕ). LeafShows p least (cuts_above branches) k ys rows) scale_is
          (subst (λ (k : List ℕ). LeafShows p least (cuts_above branches) s k rows) ys_is
          (subst (λ (k : Form). LeafShows p least (cuts_above branches) s y k) rows_is shows)),
      subst (λ (k : List (List ℕ)). Completes p least branches k) (sym h.1) after,
    )

refused : (p : Table) (least : ℤ) (branches : List Branch) (line : List ℕ) (lines : List (List ℕ)) (kind : CertificateFaultKind)
    → parsed_certificate_line p (length branches) (fields line) ≡ Err kind
    → (t : Certificate) (left : List (List ℕ)) → TellsCertificate p (length branches) t (line ∷ lines) left → ⊥
refused p least branches line lines kind e (Bound scale ys rows) left h = let other : parsed_err kind ≡ parsed_ok (BoundLine scale ys rows) = sym e ∙ h.0 in cc
refused p least branches line lines kind e (Split form most low high) left h = let other : parsed_err kind ≡ parsed_ok (SplitLine form most) = sym e ∙ h.0 in cc

-- ---------- signs ----------

passed : {X Y : Type 0} (r : Result X CertificateFaultKind) (next : X → Result Y CertificateFaultKind) (y : Y) → and_then r next ≡ Ok y
    → (x : X) × (next x ≡ Ok y)
passed (Ok x) next y e = (x, e)
passed (Err kind) next y e = absurd cc

-- a bound names rows that may have their multipliers
signed : (p : Table) (found rows : Form) (s scale : ℕ) (y ys : List ℕ)
    → (if list_all (may_have p.rows) found then Ok (BoundLine s y found) else Err Sign) ≡ Ok (BoundLine scale ys rows)
    → list_all (may_have p.rows) rows ≡ true
signed p found rows s scale y ys e = by (list_all (may_have p.rows) found) refl e
  where
    by : (b : Bool) → list_all (may_have p.rows) found ≡ b
        → (if b then Ok (BoundLine s y found) else Err Sign) ≡ Ok (BoundLine scale ys rows) → list_all (may_have p.rows) rows ≡ true
    by true t e = let same : found ≡ rows = cc in subst (λ (f : Form). list_all (may_have p.rows) f ≡ true) same t
    by false t e = absurd cc

bound-signed : (p : Table) (depth : ℕ) (fs : List (List ℕ)) (scale : ℕ) (ys : List ℕ) (rows : Form)
    → bound_after p depth fs ≡ Ok (BoundLine scale ys rows) → list_all (may_have p.rows) rows ≡ true
bound-signed p depth [] scale ys rows e = absurd cc
bound-signed p depth (token ∷ fs) scale ys rows e =
    let a = passed (parsed_natural token) (λ s. and_then (parsed_naturals depth fs)
    (λ m. and_then (named_numbers (row_names p) _ m.1) (λ r. if list_all (may_have p.rows) r then Ok (BoundLine s m.0 r) else Err
    Sign))) (BoundLine scale ys rows) e in
    let b = passed (parsed_naturals depth fs) (λ m. and_then (named_numbers (row_names p) _ m.1)
    (λ r. if list_all (may_have p.rows) r then Ok (BoundLine a.0 m.0 r) else Err Sign)) (BoundLine scale ys rows) a.1 in
    let d = passed (named_numbers (row_names p) _ b.0.1) (λ r. if list_all (may_have p.rows) r then Ok (BoundLine a.0 b.0.0 r) else Err
    Sign) (BoundLine scale ys rows) b.1 in
    signed p d.0 rows a.0 scale b.0.0 ys d.1

split-apart : (p : Table) (fs : List (List ℕ)) (scale : ℕ) (ys : List ℕ) (rows : Form) → split_after p fs ≡ Ok (BoundLine scale ys rows) → ⊥
split-apart p [] scale ys rows e = cc
split-apart p (token ∷ fs) scale ys rows e =
    let a = passed (parsed_integer (number token)) (λ most. and_then (named_numbers (column_names p) _ fs)
    (λ form. Ok (SplitLine form most))) (BoundLine scale ys rows) e in
    let b = passed (named_numbers (column_names p) _ fs) (λ form. Ok (SplitLine form a.0)) (BoundLine scale ys rows) a.1 in
    let other = b.1 in cc

line-signed : (p : Table) (depth : ℕ) (fs : List (List ℕ)) (scale : ℕ) (ys : List ℕ) (rows : Form)
    → parsed_certificate_line p depth fs ≡ Ok (BoundLine scale ys rows) → list_all (may_have p.rows) rows ≡ true
line-signed p depth [] scale ys rows e = absurd cc
line-signed p depth (word ∷ fs) scale ys rows e = by (bytes_eq word (codes "split")) (bytes_eq word (codes "bound")) (sym (line_by_word p depth word fs) ∙ e)
  where
    by : (b d : Bool) → (if b then split_after p fs else (if d then bound_after p depth fs else Err Fields))
        ≡ Ok (BoundLine scale ys rows) → list_all (may_have p.rows) rows ≡ true
    by true d e = absurd (split-apart p fs scale ys rows e)
    by false true e = bound-signed p depth fs scale ys rows e
    by false false e = absurd cc

-- ---------- all lines ----------

abbrev Stands : Table → ℤ → List (List ℕ) → Type 0
Stands p least lines = (branches : Option (List Branch)) (place : ℕ)
    → (fault_from p least (Ok branches) place lines ≡ None) ↔ Holds p least branches (certificate_lines lines)

end-of-text : (p : Table) (least : ℤ) → (branches : Option (List Branch)) (place : ℕ)
    → (fault_from p least (Ok branches) place [] ≡ None) ↔ Holds p least branches []
end-of-text p least None place = (λ h. refl, λ h. refl)
end-of-text p least (Some branches) place = (λ h. absurd cc, λ h. absurd (nothing-parsed p (length branches) h.0 h.1 h.2))

above : (a b : ℤ) → int_lt a b ≡ true → a <ℤ b
above a b h = omega (arith, ints)

not-above : (a b : ℤ) → int_lt a b ≡ false → a <ℤ b → ⊥
not-above a b h k = omega (arith, ints)

bound-stands : (p : Table) (least : ℤ) (lines : List (List ℕ)) → Stands p least lines
    → (branches : List Branch) (place : ℕ) (line : List ℕ) (scale : ℕ) (ys : List ℕ) (rows : Form)
    → parsed_certificate_line p (length branches) (fields line) ≡ Ok (BoundLine scale ys rows)
    → (b : Bool) → int_lt (pos scale *ℤ (least -ℤ pos 1)) (leaf_value p (cuts_above branches) scale ys rows) ≡ b
    → (fault_from p least (if b then Ok (closed branches) else Err NotShown) (suc place) lines ≡ None)
    ↔ Awaits p least branches (line ∷ certificate_lines lines)
bound-stands p least lines later branches place line scale ys rows e true a =
    let rest = certificate_lines lines in
    let shows : LeafShows p least (cuts_above branches) scale ys rows = record {
      signs = all_true (may_have p.rows) rows (line-signed p (length branches) (fields line) scale ys rows e);
      above = above
          (pos scale *ℤ (least -ℤ pos 1)) (leaf_value p (cuts_above branches) scale ys rows) a;
    } in (
      (λ h. (Bound scale ys rows, rest, (e, refl), shows, (closes p least branches rest).1 ((later (closed branches) (suc place)).0 h))),
      (λ h. (later (closed branches) (suc place)).1 ((closes p least branches rest).0
          (to-end p least branches line rest scale ys rows e h.0 h.1 h.2 h.3 h.4).1)),
    )
bound-stands p least lines later branches place line scale ys rows e false a = (
  (λ h. absurd cc),
  (λ h. absurd (not-above (pos scale *ℤ (least -ℤ pos 1)) (leaf_value p (cuts_above branches) scale ys rows) a
      (to-end p least branches line (certificate_lines lines) scale ys rows e h.0 h.1 h.2 h.3 h.4).0.above)),
)

line-stands : (p : Table) (least : ℤ) (lines : List (List ℕ)) → Stands p least lines
    → (branches : List Branch) (place : ℕ) (line : List ℕ) (r : Result ParsedLine CertificateFaultKind)
    → parsed_certificate_line p (length branches) (fields line) ≡ r
    → (fault_from p least (and_then r (taken p least branches)) (suc place) lines ≡ None) ↔ Awaits p least branches (line ∷ certificate_lines lines)
line-stands p least lines later branches place line (Err kind) e =
    ((λ h. absurd cc), (λ h. absurd (refused p least branches line (certificate_lines lines) kind e h.0 h.1 h.2)))
line-stands p least lines later branches place line (Ok (SplitLine form most)) e =
    let next = later (Some (At false form most ∷ branches)) (suc place) in
    let same = splits p least branches line (certificate_lines lines) form most e in
    ((λ h. same.0 (next.0 h)), (λ h. next.1 (same.1 h)))
line-stands p least lines later branches place line (Ok (BoundLine scale ys rows)) e = bound-stands p least lines later branches place line
    scale ys rows e (int_lt (pos scale *ℤ (least -ℤ pos 1)) (leaf_value p (cuts_above branches) scale ys rows)) refl

any-stands : (p : Table) (least : ℤ) (line : List ℕ) (lines : List (List ℕ)) → Stands p least lines → (branches : Option (List Branch)) (place : ℕ) (b : Bool)
    → (fault_from p least (if b then Ok branches else and_then (ok_or branches Beyond)
    (λ open_splits. and_then (parsed_certificate_line p (length open_splits) (fields line)) (taken p least open_splits))) (suc place)
    lines ≡ None) ↔ Holds p least branches (cond (not b) (line ∷ certificate_lines lines) (certificate_lines lines))
any-stands p least line lines later branches place true = later branches (suc place)
any-stands p least line lines later None place false = ((λ h. absurd cc), (λ h. absurd cc))
any-stands p least line lines later (Some branches) place false =
    line-stands p least lines later branches place line (parsed_certificate_line p (length branches) (fields line)) refl

stands : (p : Table) (least : ℤ) (lines : List (List ℕ)) → Stands p least lines
stands p least [] = end-of-text p least
stands p least (line ∷ lines) = λ branches place. any-stands p least line lines (stands p least lines) branches place (is_skipped line)

pub verdict : (p : Table) (least : ℤ) (text : List ℕ) → (certificate_fault p least text ≡ None) ↔ IsShownBy p least text
verdict p least text =
    let all = stands p least (lines_of text) (Some []) 0 in (
      (λ h. let a = all.0 h in (a.0, subst (λ (left : List (List ℕ)). TellsCertificate p 0 a.0 (certificate_lines (lines_of text)) left) a.4 a.2, a.3)),
      (λ h. all.1 (h.0, [], h.1, h.2, refl)),
    )

abbrev IsSecond : Branch → Type 0
IsSecond (At true form most) = ⊤
IsSecond (At false form most) = ⊥

seconds-more : (branches : List Branch) (form : Form) (most : ℤ) → AllByRecursion IsSecond branches → AllByRecursion IsSecond (branches ++ At true form most ∷ [])
seconds-more [] form most h = (tt, tt)
seconds-more (b ∷ branches) form most h = (h.0, seconds-more branches form most h.1)

seconds : (p : Table) (listed : List (List Bool)) → AllByRecursion IsSecond (all_but p listed)
seconds p [] = tt
seconds p (v ∷ listed) = subst (λ (bs : List Branch). AllByRecursion IsSecond bs) (sym (reverse-append (all_others p v ∷ []) (map (all_others p) listed)))
    (seconds-more (all_but p listed) (distance 0 p.columns v) (neg_ℤ (pos (free_ones p.columns v))) (seconds p listed))

-- nothing is to come after the second sides of splits
nothing-left : (p : Table) (least : ℤ) (branches : List Branch) (lines : List (List ℕ)) → AllByRecursion IsSecond branches
    → Completes p least branches lines ↔ (lines ≡ [])
nothing-left p least [] lines h = (λ e. e, λ e. e)
nothing-left p least (At true form most ∷ branches) lines h = nothing-left p least branches lines h.1
nothing-left p least (At false form most ∷ branches) lines h = absurd h.0

-- the same after the splits from points
pub only-verdict : (p : Table) (first : List Bool) (others : List (List Bool)) (text : List ℕ)
    → (only_fault p first others text ≡ None) ↔ IsShownOnlyBy p first others text
only-verdict p first others text =
    let depth : length (all_but p (first ∷ others)) ≡ suc (length others) =
    length-reverse (map (all_others p) (first ∷ others)) ∙ length-map (first ∷ others) (all_others p) in
    let all = stands p (one_above p first) (lines_of text) (Some (all_but p (first ∷ others))) 0 in
    let lines : List (List ℕ) = certificate_lines (lines_of text) in (
      (λ h. let a = all.0 h in (
        a.0,
        subst (λ (d : ℕ). TellsCertificate p d a.0 lines []) depth (subst (λ (left : List (List ℕ)). TellsCertificate p (length
            (all_but p (first ∷ others))) a.0 lines left) ((nothing-left p (one_above p first) (all_but p (first ∷ others)) a.1 (seconds p (first ∷ others))).0 a.4) a.2),
        a.3,
      )),
      (λ h. all.1 (
        h.0,
        [],
        subst (λ (d : ℕ). TellsCertificate p d h.0 lines []) (sym depth) h.1,
        h.2,
        (nothing-left p (one_above p first) (all_but p (first ∷ others)) [] (seconds p (first ∷ others))).1 refl,
      )),
    )

-- ---------- an answer ----------

pub shown : {S : Type 0} (first : Option (ℕ × CertificateFaultKind)) (r : Result (Unit {0}) CertificateFault) → (first ≡ None) ↔ S
    → IsVerdict r first → OnOk r S
shown first (Ok u) exact h = exact.0 h
shown first (Err fault) exact h = tt

pub not-shown : {S : Type 0} (first : Option (ℕ × CertificateFaultKind)) (r : Result (Unit {0}) CertificateFault) → (first ≡ None) ↔ S
    → IsVerdict r first → IfErr r (λ fault. IsLimit fault.kind ⊎ ¬ S)
not-shown first (Ok u) exact h = tt
not-shown first (Err fault) exact (inl limit) = inl limit
not-shown first (Err fault) exact (inr e) = inr (λ s. let none = exact.1 s in cc)
