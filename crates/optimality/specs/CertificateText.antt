-- The certificate that a text describes: its lines in preorder.
use Rattle.std.specs.Prelude.{◌≡◌, ℕ, suc, List, [], ◌∷◌, ℤ, Ok}
use Rattle.auction_terms.specs.Lines.{lines_of}
use Rattle.program_rows.specs.Program.{Table}
use Rattle.auction_terms.specs.LineFields.{fields}
use Rattle.optimality.specs.Certificates.{Certificate, Bound, Split}
use Rattle.optimality.specs.Shows.{Shows}
use Rattle.optimality.specs.Lines.{certificate_lines}
use Rattle.optimality.specs.LineMeaning.{BoundLine, SplitLine, parsed_certificate_line}

-- the first of the lines tell a certificate below as many splits as `depth`, and these are left
abbrev pub TellsCertificate : Table → ℕ → Certificate → List (List ℕ) → List (List ℕ) → Type 0
TellsCertificate p depth certificate [] left = ⊥
TellsCertificate p depth (Bound scale ys rows) (line ∷ lines) left =
    (parsed_certificate_line p depth (fields line) ≡ Ok (BoundLine scale ys rows)) × (lines ≡ left)
TellsCertificate p depth (Split form most low high) (line ∷ lines) left =
    (parsed_certificate_line p depth (fields line) ≡ Ok (SplitLine form most))
    × ((middle : List (List ℕ)) × TellsCertificate p (suc depth) low lines middle × TellsCertificate p (suc depth) high middle left)

-- the text describes a certificate that shows `least`
abbrev pub IsShownBy : Table → ℤ → List ℕ → Type 0
IsShownBy p least text = (certificate : Certificate) × TellsCertificate p 0 certificate (certificate_lines (lines_of text)) [] × Shows p least certificate
