-- Texts of programs that say of a sale what its allocations say.
use Rattle.std.specs.Prelude.{◌≡◌, ◌+◌, ◌++◌, ℕ, List, [], ◌∷◌, Option, codes}
use Rattle.std.specs.Io.KnownBytes.{Appends}
use Rattle.auction_terms.specs.Groups.{has}
use Rattle.bid_desk.specs.Sale.{Sale}
use Rattle.mps_text.specs.FaithfulText.{IsFaithfulText}
use Rattle.outcome.specs.Report.{heading}

-- for each group, numbered from k on, its line, and a text that is faithful to the sale without the group
abbrev pub AreFaithfulTexts : Sale → ℕ → List (List ℕ) → List ℕ → Type 0
AreFaithfulTexts sale k [] out = out ≡ []
AreFaithfulTexts sale k (group ∷ groups) out =
    (text : List ℕ) × (more : List ℕ) × (out ≡ heading (codes "* program ") sale.names k group ++ (text ++ more))
    × IsFaithfulText sale.lots sale.book (has group) text × AreFaithfulTexts sale (k + 1) groups more

-- such texts were written, and nothing else
abbrev pub WritesFaithfulTexts : Sale → List (List ℕ) → Option (List ℕ) → Option (List ℕ) → Type 0
WritesFaithfulTexts sale groups taken taken' = (out : List ℕ) × AreFaithfulTexts sale 1 groups out × Appends taken taken' out
