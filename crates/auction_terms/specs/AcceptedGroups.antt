-- A text of groups that is accepted: at most as many lines as there may be groups, each a dash, or names of bidders, none of them twice.
use Rattle.std.specs.Prelude.{◌≡◌, ◌≢◌, ◌<◌, ◌++◌, true, false, ℕ, List, [], ◌∷◌, length}
use Rattle.std.specs.List.{list_any}
use Rattle.std.specs.Str.{bytes_eq}
use Rattle.auction_terms.specs.GroupNames.{names_in}
use Rattle.auction_terms.specs.Lines.{lines_of}
use Rattle.auction_terms.specs.declared.limits.TheConstants.{MOST_GROUPS}
use Rattle.auction_terms.specs.declared.rules.Bidder.{Bidder}

-- of each item of a list this is true, given the items before it
abbrev pub Each : {R : Type 0} → (List R → R → Type 0) → List R → Type 0
Each {R} Is items = (before : List R) (item : R) (after : List R) → items ≡ before ++ item ∷ after → Is before item

-- a bidder's name, and none of those before it
abbrev pub IsNewName : List Bidder → List (List ℕ) → List ℕ → Type 0
IsNewName bidders before name =
    (list_any (λ bidder. bytes_eq bidder.name name) bidders ≡ true) × (list_any (λ other. bytes_eq other name) before ≡ false)

-- a line of groups: a dash, or names of bidders, none of them twice
abbrev pub IsGroupLine : List Bidder → List ℕ → Type 0
IsGroupLine bidders line = (line ≢ []) × Each (IsNewName bidders) (names_in line)

-- a text whose lines are those of groups, at most as many as there may be groups
abbrev pub AreGroupLines : List Bidder → List ℕ → Type 0
AreGroupLines bidders text = Each (λ before line. (length before < MOST_GROUPS) × IsGroupLine bidders line) (lines_of text)
