-- The first faulty line of a certificate.
use Rattle.std.specs.Prelude.{ℕ, suc, false, List, [], ◌∷◌, length, ℤ, pos, ◌-ℤ◌, ◌*ℤ◌, int_lt, Option, Some, Result, Ok, Err, if◌then◌else◌}
use Rattle.std.specs.Option.{ok_or, option_map}
use Rattle.auction_terms.specs.Lines.{lines_of}
use Rattle.program_rows.specs.Program.{Table}
use Rattle.auction_terms.specs.LineFields.{fields, is_skipped}
use Rattle.program_rows.specs.declared.certificate_fault.CertificateFaultKind.{CertificateFaultKind}
use Rattle.program_rows.specs.declared.certificate_fault.CertificateFaultKind.TheVariants.{NotShown, NoEnd, Beyond}
use Rattle.optimality.specs.Shows.{leaf_value}
use Rattle.auction_terms.specs.Stages.{and_then}
use Rattle.optimality.specs.LineMeaning.{ParsedLine, BoundLine, SplitLine, parsed_certificate_line}
use Rattle.optimality.specs.Branches.{Branch, At, cuts_above, closed}

-- what is open after what a line tells: a split opens its first side, and a leaf that shows `least` closes its subtree
abbrev pub taken : Table → ℤ → List Branch → ParsedLine → Result (Option (List Branch)) CertificateFaultKind
taken p least branches (SplitLine form most) = Ok (Some (At false form most ∷ branches))
taken p least branches (BoundLine scale ys rows) =
    if int_lt (pos scale *ℤ (least -ℤ pos 1)) (leaf_value p (cuts_above branches) scale ys rows) then Ok (closed branches) else Err NotShown

-- what is open after a line; nothing may follow the last subtree
abbrev pub open_after : Table → ℤ → Option (List Branch) → List ℕ → Result (Option (List Branch)) CertificateFaultKind
open_after p least branches line =
    if is_skipped line then Ok branches else and_then (ok_or branches Beyond)
    (λ above. and_then (parsed_certificate_line p (length above) (fields line)) (taken p least above))

-- the fault of the line at this place, or else the first one after it; the text may not end before the last subtree
abbrev pub fault_from : Table → ℤ → Result (Option (List Branch)) CertificateFaultKind → ℕ → List (List ℕ) → Option (ℕ × CertificateFaultKind)
fault_from p least (Err kind) place lines = Some (place, kind)
fault_from p least (Ok branches) place [] = option_map (λ b. (place, NoEnd)) branches
fault_from p least (Ok branches) place (line ∷ lines) = fault_from p least (open_after p least branches line) (suc place) lines

-- the first fault of a text that is to show `least`
abbrev pub certificate_fault : Table → ℤ → List ℕ → Option (ℕ × CertificateFaultKind)
certificate_fault p least text = fault_from p least (Ok (Some [])) 0 (lines_of text)
