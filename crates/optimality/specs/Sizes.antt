-- How large the numbers of a leaf get: all that its value adds up, each number without its sign.
use Rattle.std.specs.Prelude.{◌≡◌, ◌⊎◌, ℕ, suc, ◌+◌, ◌*◌, ◌^◌, ◌≤◌, List, [], ◌∷◌, length, ℤ, pos, ◌-ℤ◌, Option, Some, None, Result, Ok, unsigned_abs}
use Rattle.std.specs.List.{zip}
use Rattle.auction_terms.specs.Lines.{lines_of}
use Rattle.auction_terms.specs.LineFields.{fields}
use Rattle.program_rows.specs.Points.{coefficient_at}
use Rattle.program_rows.specs.Program.{Table, TableColumn}
use Rattle.program_rows.specs.declared.certificate_fault.CertificateFaultKind.{CertificateFaultKind}
use Rattle.optimality.specs.Branches.{Branch, cuts_above}
use Rattle.optimality.specs.Certificates.{Form, Cut}
use Rattle.optimality.specs.LineMeaning.{ParsedLine, BoundLine, parsed_certificate_line}
use Rattle.optimality.specs.Reduced.{right_side_at}
use Rattle.optimality.specs.Verdict.{open_after}

-- the sum of these sizes
abbrev pub size_of : {X : Type 0} → (X → ℕ) → List X → ℕ
size_of f [] = 0
size_of f (x ∷ xs) = f x + size_of f xs

-- of a cut: the numbers of its form, and its right side
abbrev pub cut_size : Cut → ℕ
cut_size cut = size_of (λ t. unsigned_abs t.1) cut.form + unsigned_abs cut.most

-- of the row at a place: its coefficients, and with its right side
abbrev pub coefficients_size : List TableColumn → ℕ → ℕ
coefficients_size columns row = size_of (λ c. unsigned_abs (coefficient_at row c)) columns

-- of the row at a place: the absolute values of its coefficients and of its right side, added up
abbrev pub row_size : Table → ℕ → ℕ
row_size p row = coefficients_size p.columns row + unsigned_abs (right_side_at p.rows row)

-- of all costs
abbrev pub costs_size : List TableColumn → ℕ
costs_size columns = size_of (λ c. unsigned_abs c.cost) columns

-- of a leaf: the costs and one less than the bound, times the scale, and each cut and row, times its multiplier
abbrev pub leaf_size : Table → ℤ → List Cut → ℕ → List ℕ → Form → ℕ
leaf_size p least cuts scale ys rows =
    scale * (costs_size p.columns + unsigned_abs (least -ℤ pos 1)) +
    (size_of (λ e. e.0 * cut_size e.1) (zip ys cuts) + size_of (λ t. unsigned_abs t.1 * row_size p t.0) rows)

-- ---------- lines ----------

-- what a line tells below these splits is a leaf of size 2^126 or more
abbrev pub IsLargeParsed : Table → ℤ → List Branch → Result ParsedLine CertificateFaultKind → Type 0
IsLargeParsed p least above (Ok (BoundLine scale ys rows)) = 2 ^ 126 ≤ leaf_size p least (cuts_above above) scale ys rows
IsLargeParsed p least above parsed = ⊥

-- a line below the splits that are open describes a leaf of size 2^126 or more; no line does after the last subtree
abbrev pub IsLargeLine : Table → ℤ → Option (List Branch) → List ℕ → Type 0
IsLargeLine p least None line = ⊥
IsLargeLine p least (Some above) line = IsLargeParsed p least above (parsed_certificate_line p (length above) (fields line))

-- the line of this number is such a leaf, and no line before it has a fault; `place` lines were before these
abbrev pub IsLargeFrom : Table → ℤ → Result (Option (List Branch)) CertificateFaultKind → ℕ → List (List ℕ) → ℕ → Type 0
IsLargeFrom p least (Ok branches) place (line ∷ lines) number = ((suc place ≡ number) × IsLargeLine p least branches line)
    ⊎ IsLargeFrom p least (open_after p least branches line) (suc place) lines number
IsLargeFrom p least parsed place lines number = ⊥

-- the line of this number in a text that is to show `least`
abbrev pub IsLargeAt : Table → ℤ → List ℕ → ℕ → Type 0
IsLargeAt p least text number = IsLargeFrom p least (Ok (Some [])) 0 (lines_of text) number
