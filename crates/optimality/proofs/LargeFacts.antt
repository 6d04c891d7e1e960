-- Which lines are reported to be too large: no fault that a line tells is, and a refused one is a leaf of that size.
use Rattle.std.proofs.Common.{◌≡◌, ◌≢◌, ℕ, zero, suc, ◌+◌, Bool, true, false, List, [], ◌∷◌, Option, Some, None, Result, Ok}
use Rattle.std.proofs.Common.{Err, inl, inr, arith, ap, length, subst, sym, ◌∙◌, ℤ, pos, ◌*ℤ◌}
use Rattle.std.specs.Prelude.{◌-ℤ◌, bytes_eq, codes, if◌then◌else◌, int_lt, nat_abs, position}
use Rattle.std.specs.List.{list_all}
use Rattle.std.specs.Option.{ok_or}
use Rattle.auction_terms.specs.Stages.{and_then}
use Rattle.auction_terms.specs.LineFields.{fields, is_skipped}
use Rattle.auction_terms.specs.Decimals.{number}
use Rattle.program_rows.specs.Program.{Table}
use Rattle.program_rows.specs.ProgramNames.{column_names, row_names}
use Rattle.auction_terms.specs.declared.decimals.NumberFault.{NumberFault}
use Rattle.auction_terms.specs.declared.decimals.NumberFault.TheVariants as numbers
use Rattle.program_rows.specs.declared.certificate_fault.CertificateFault.{CertificateFault}
use Rattle.program_rows.specs.declared.certificate_fault.CertificateFaultKind.{CertificateFaultKind}
use Rattle.program_rows.specs.declared.certificate_fault.CertificateFaultKind.TheVariants.{Beyond, Fields, NotShown, Sign, TooLarge, UnknownColumn, UnknownRow}
use Rattle.optimality.specs.Branches.{Branch, closed, cuts_above}
use Rattle.optimality.specs.LineMeaning.{ParsedLine, BoundLine, SplitLine, parsed_integer, parsed_natural, parsed_naturals}
use Rattle.optimality.specs.LineMeaning.{named_numbers, parsed_certificate_line}
use Rattle.optimality.specs.inside.LineMeaning.{bound_after, split_after}
use Rattle.optimality.proofs.LineFacts.{line_by_word}
use Rattle.optimality.specs.Shows.{leaf_value, may_have}
use Rattle.optimality.specs.Sizes.{IsLargeFrom, IsLargeLine}
use Rattle.optimality.specs.Verdict.{open_after, fault_from, taken}
use Rattle.optimality.specs.declared.refusal.Limit.TheVariants as limits
use Rattle.optimality.specs.declared.checker.OpenSplit.{OpenSplit}
use Rattle.optimality.specs.declared.refusal.Refusal.{Refusal}
use Rattle.optimality.specs.declared.refusal.Refusal.TheVariants.{Stopped, Fault}
use Rattle.optimality.specs.inside.Answers.{IsRefusedCertificate}
use Rattle.optimality.specs.inside.Branches.{AnswersAlike, GoOnAlike}
use Rattle.optimality.specs.inside.Stopping.{RefusedLargeOnly}

-- ---------- what is reported ----------

abbrev NotLarge : {X : Type 0} → Result X CertificateFaultKind → Type 0
NotLarge (Ok x) = Unit {0}
NotLarge (Err kind) = kind ≢ TooLarge

in-turn : {X Y : Type 0} (r : Result X CertificateFaultKind) (f : X → Result Y CertificateFaultKind) → NotLarge r
    → ((x : X) → NotLarge (f x)) → NotLarge (and_then r f)
in-turn (Ok x) f h later = later x
in-turn (Err kind) f h later = h

of-option : {X : Type 0} (o : Option X) (kind : CertificateFaultKind) → kind ≢ TooLarge → NotLarge (ok_or o kind)
of-option (Some x) kind h = tt
of-option None kind h = h

either : {X : Type 0} (b : Bool) (r other : Result X CertificateFaultKind) → NotLarge r → NotLarge other → NotLarge (if b then r else other)
either true r other h k = h
either false r other h k = k

integer-not : (r : Result ℤ NumberFault) → NotLarge (parsed_integer r)
integer-not (Ok n) = tt
integer-not (Err numbers.NumberText) = λ e. absurd cc
integer-not (Err numbers.NumberRange) = λ e. absurd cc
integer-not (Err numbers.NotWhole) = λ e. absurd cc

natural-not : (token : List ℕ) → NotLarge (parsed_natural token)
natural-not token = in-turn (parsed_integer (number token)) (λ n. if int_lt n (pos 0) then Err Sign else Ok (nat_abs n))
    (integer-not (number token)) (λ n. either (int_lt n (pos 0)) (Err Sign) (Ok (nat_abs n)) (λ e. absurd cc) tt)

naturals-not : (count : ℕ) (fs : List (List ℕ)) → NotLarge (parsed_naturals count fs)
naturals-not zero fs = tt
naturals-not (suc count) [] = λ e. absurd cc
naturals-not (suc count) (token ∷ fs) =
    in-turn (parsed_natural token) (λ n. and_then (parsed_naturals count fs) (λ ns. Ok (n ∷ ns.0, ns.1))) (natural-not token)
    (λ n. in-turn (parsed_naturals count fs) (λ ns. Ok (n ∷ ns.0, ns.1)) (naturals-not count fs) (λ ns. tt))

named-not : (names : List (List ℕ)) (unknown : CertificateFaultKind) → unknown ≢ TooLarge → (fs : List (List ℕ)) → NotLarge (named_numbers names unknown fs)
named-not names unknown h [] = tt
named-not names unknown h (name ∷ []) = λ e. absurd cc
named-not names unknown h (name ∷ token ∷ fs) =
    in-turn (and_then (ok_or (position (bytes_eq name) names) unknown)
    (λ place. and_then (parsed_integer (number token)) (λ n. Ok (place, n))))
    (λ term. and_then (named_numbers names unknown fs) (λ form. Ok (term ∷ form)))
    (in-turn (ok_or (position (bytes_eq name) names) unknown) (λ place. and_then (parsed_integer (number token)) (λ n. Ok (place, n)))
    (of-option (position (bytes_eq name) names) unknown h)
    (λ place. in-turn (parsed_integer (number token)) (λ n. Ok (place, n)) (integer-not (number token)) (λ n. tt)))
    (λ term. in-turn (named_numbers names unknown fs) (λ form. Ok (term ∷ form)) (named-not names unknown h fs) (λ form. tt))

bound-not : (p : Table) (depth : ℕ) (fs : List (List ℕ)) → NotLarge (bound_after p depth fs)
bound-not p depth [] = λ e. absurd cc
bound-not p depth (token ∷ fs) =
    in-turn (parsed_natural token) _ (natural-not token)
    (λ scale. in-turn (parsed_naturals depth fs) _ (naturals-not depth fs)
    (λ ys. in-turn (named_numbers (row_names p) UnknownRow ys.1) _ (named-not (row_names p) UnknownRow (λ e. absurd cc) ys.1)
    (λ rows. either (list_all (may_have p.rows) rows) (Ok (BoundLine scale ys.0 rows)) (Err Sign) tt (λ e. absurd cc))))

split-not : (p : Table) (fs : List (List ℕ)) → NotLarge (split_after p fs)
split-not p [] = λ e. absurd cc
split-not p (token ∷ fs) =
    in-turn (parsed_integer (number token)) _ (integer-not (number token))
    (λ most. in-turn (named_numbers (column_names p) UnknownColumn fs) _ (named-not (column_names p) UnknownColumn (λ e. absurd cc) fs) (λ form. tt))

line-not : (p : Table) (depth : ℕ) (fs : List (List ℕ)) → NotLarge (parsed_certificate_line p depth fs)
line-not p depth [] = λ e. absurd cc
line-not p depth (word ∷ fs) =
    subst NotLarge (sym (line_by_word p depth word fs)) (either (bytes_eq word (codes "split")) (split_after p fs)
    (if bytes_eq word (codes "bound") then bound_after p depth fs else Err Fields) (split-not p fs)
    (either (bytes_eq word (codes "bound")) (bound_after p depth fs) (Err Fields) (bound-not p depth fs) (λ e. absurd cc)))

taken-not : (p : Table) (least : ℤ) (branches : List Branch) (parsed : ParsedLine) → NotLarge (taken p least branches parsed)
taken-not p least branches (SplitLine form most) = tt
taken-not p least branches (BoundLine scale ys rows) =
    either (int_lt (pos scale *ℤ (least -ℤ pos 1)) (leaf_value p (cuts_above branches) scale ys rows)) (Ok (closed branches)) (Err NotShown) tt (λ e. absurd cc)

after-not : (p : Table) (least : ℤ) (branches : Option (List Branch)) (line : List ℕ) → NotLarge (open_after p least branches line)
after-not p least branches line = by (is_skipped line)
  where
    by : (b : Bool) → NotLarge (if b then Ok branches else and_then (ok_or branches Beyond)
        (λ above. and_then (parsed_certificate_line p (length above) (fields line)) (taken p least above)))
    by true = tt
    by false = in-turn (ok_or branches Beyond) (λ above. and_then (parsed_certificate_line p (length above) (fields line))
        (taken p least above)) (of-option branches Beyond (λ e. absurd cc))
        (λ above. in-turn (parsed_certificate_line p (length above) (fields line)) (taken p least above)
        (line-not p (length above) (fields line)) (taken-not p least above))

parsed-not : {X : Type 0} (r : Result X CertificateFaultKind) (kind : CertificateFaultKind) → NotLarge r → r ≡ Err kind → kind ≢ TooLarge
parsed-not (Ok x) kind h e = absurd cc
parsed-not (Err other) kind h e = λ same. let is : other ≡ kind = cc in h (is ∙ same)

-- ---------- what is refused ----------

-- the line that is refused as too large
pub refused-large : (p : Table) (least : ℤ) (branches : Option (List Branch)) (place : ℕ) (line : List ℕ) (lines : List (List ℕ))
    (splits : List OpenSplit) (refusal : Refusal) (fault : CertificateFault)
    → IsRefusedCertificate (place + 1) refusal fault → AnswersAlike p least splits (Err refusal) (open_after p least branches line)
    → RefusedLargeOnly {X = Bool} (IsLargeLine p least branches line) (Err refusal)
    → fault.kind ≡ TooLarge → IsLargeFrom p least (Ok branches) place (line ∷ lines) fault.line
refused-large p least branches place line lines splits (Stopped limits.Memory) fault refused parsed large e = absurd cc
refused-large p least branches place line lines splits (Stopped limits.TooLarge) fault refused parsed large e =
    let at : fault.line ≡ place + 1 = ap (λ (f : CertificateFault). f.line) refused in
    inl (omega arith, large)
refused-large p least branches place line lines splits (Fault kind) fault refused parsed large e =
    let of_fault : fault.kind ≡ kind = ap (λ (f : CertificateFault). f.kind) refused in
    absurd (parsed-not (open_after p least branches line) kind (after-not p least branches line) parsed (sym of_fault ∙ e))

-- a line more
pub line-passed : (p : Table) (least : ℤ) (branches after : Option (List Branch)) (place : ℕ) (line : List ℕ) (lines rest : List (List ℕ))
    (first : Option (ℕ × CertificateFaultKind)) (IsLarge : ℕ → Type 0) → lines ≡ line ∷ rest
    → GoOnAlike p least (open_after p least branches line) (Ok after) → fault_from p least (Ok branches) place lines ≡ first
    → ((number : ℕ) → IsLargeFrom p least (Ok branches) place lines number → IsLarge number)
    → (fault_from p least (Ok after) (place + 1) rest ≡ first) × ((number : ℕ) → IsLargeFrom p least (Ok after) (place + 1) rest number → IsLarge number)
line-passed p least branches after place line lines rest first IsLarge e alike before large =
    let next : place + 1 ≡ suc place = omega arith in
    let now : fault_from p least (open_after p least branches line) (suc place) rest ≡ first =
    subst (λ (ls : List (List ℕ)). fault_from p least (Ok branches) place ls ≡ first) e before in (
      subst (λ (k : ℕ). fault_from p least (Ok after) k rest ≡ first) (sym next) (sym (alike (suc place) rest).0 ∙ now),
      λ number h.
          large number (subst (λ (ls : List (List ℕ)). IsLargeFrom p least (Ok branches) place ls number) (sym e)
          (inr ((alike (suc place) rest).1 number (subst (λ (k : ℕ). IsLargeFrom p least (Ok after) k rest number) next h)))),
    )
