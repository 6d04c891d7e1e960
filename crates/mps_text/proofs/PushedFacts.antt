-- Lines put onto a list one after the other, and what they leave under each section.
use Rattle.std.proofs.Common.{◌≡◌, ℕ, List, [], ◌∷◌, ◌++◌, map, reverse, refl, sym, ◌∙◌, append_assoc}
use Rattle.std.specs.Prelude.{codes}
use Rattle.std.proofs.lemmas.List.{reverse-append, append-nil}
use Rattle.auction_terms.specs.LineFields.{LineFields}
use Rattle.program_rows.specs.MpsLines.{Data}
use Rattle.program_rows.specs.MpsSections.{Sections}
use Rattle.mps_text.proofs.BlockFacts.{onto}

-- the elements xs, put in front of others one after the other
abbrev pub push : {X : Type 0} → List X → List X → List X
push [] before = before
push (x ∷ xs) before = push xs (x ∷ before)

pub push-append : {X : Type 0} (xs ys before : List X) → push (xs ++ ys) before ≡ push ys (push xs before)
push-append [] ys before = refl
push-append (x ∷ xs) ys before = push-append xs ys (x ∷ before)

pub push-reverse : {X : Type 0} (xs before : List X) → push xs before ≡ reverse xs ++ before
push-reverse [] before = refl
push-reverse (x ∷ xs) before = push-reverse xs (x ∷ before) ∙ rw (reverse-append (x ∷ []) xs) (sym (append_assoc (reverse xs) (x ∷ []) before))

pub push-onto_none : {X : Type 0} (xs : List X) → push xs [] ≡ reverse xs
push-onto_none xs = push-reverse xs [] ∙ append-nil (reverse xs)

-- the open section, and the data lines of each
abbrev pub held : List ℕ → List LineFields → List LineFields → List LineFields → List LineFields → Sections
held word rs cs ss bs = record { section = word; rows = rs; columns = cs; right_sides = ss; bounds = bs }

pub holds-rows : (lines rs cs ss bs : List LineFields) → onto (map Data lines) (held (codes "ROWS") rs cs ss bs) ≡ held (codes "ROWS") (push lines rs) cs ss bs
holds-rows [] rs cs ss bs = refl
holds-rows (line ∷ lines) rs cs ss bs = holds-rows lines (line ∷ rs) cs ss bs

pub holds-columns : (lines rs cs ss bs : List LineFields)
    → onto (map Data lines) (held (codes "COLUMNS") rs cs ss bs) ≡ held (codes "COLUMNS") rs (push lines cs) ss bs
holds-columns [] rs cs ss bs = refl
holds-columns (line ∷ lines) rs cs ss bs = holds-columns lines rs (line ∷ cs) ss bs

pub holds-sides : (lines rs cs ss bs : List LineFields) → onto (map Data lines) (held (codes "RHS") rs cs ss bs) ≡ held (codes "RHS") rs cs (push lines ss) bs
holds-sides [] rs cs ss bs = refl
holds-sides (line ∷ lines) rs cs ss bs = holds-sides lines rs cs (line ∷ ss) bs

pub holds-bounds : (lines rs cs ss bs : List LineFields)
    → onto (map Data lines) (held (codes "BOUNDS") rs cs ss bs) ≡ held (codes "BOUNDS") rs cs ss (push lines bs)
holds-bounds [] rs cs ss bs = refl
holds-bounds (line ∷ lines) rs cs ss bs = holds-bounds lines rs cs ss (line ∷ bs)
