-- Forms that are read stage by stage.
use Rattle.std.proofs.Common.{◌≡◌, ◌≤◌, ◌+◌, ◌-◌, ◌++◌, ◌∙◌, [], ℕ, List, Ok, ap, arith, drop, drop_of_length-le, length, refl, subst, sym, All}
use Rattle.std.specs.List.{slice_range}
use Rattle.std.proofs.lemmas.List.{length-append, length-drop, length-map, length-take, map-append}
use Rattle.std.proofs.lemmas.List.Elements.{All-append, All-nil}
use Rattle.std.proofs.lemmas.List.Folds.{drop_split}
use Rattle.auction_terms.specs.Terms.{Terms}
use Rattle.bid_forms.specs.Offers.{Meets, Offers}
use Rattle.auction_terms.specs.Lines.{bytes_of}
use Rattle.auction_input.specs.Refused.{Refuses}
use Rattle.auction_input.specs.declared.refusal.Refusal.{Refusal}
use Rattle.auction_terms.specs.Stages.{each_in_turn}
use Rattle.auction_input.specs.inside.ParsedTexts.{HaveMore, parsed_more}
use Rattle.auction_input.specs.ParsedTexts.{parsed_form}
use Rattle.auction_input.proofs.InputTextFacts.{Text}
use Rattle.auction_input.proofs.StageFacts.{IsLeft, each-count, left-first, left-none, left-stage, left-stage-refused}

-- the forms are what so many texts describe, and what the others describe comes after them
abbrev pub AreRead : Terms → List Text → ℕ → List Offers → Type 0
AreRead t texts count forms = (count ≤ length texts) × (length forms ≡ count)
    × IsLeft (parsed_form t) (count + 1) (bytes_of texts) forms (bytes_of (drop count texts)) × All (Meets t) forms

pub none-read : (t : Terms) (texts : List Text) (forms : List Offers) → forms ≡ [] → AreRead t texts 0 forms
none-read t texts forms none = subst (AreRead t texts 0) (sym none) (omega arith, refl, left-first (parsed_form t) (bytes_of texts), All-nil (Meets t))

stage-count : (texts : List Text) (start end : ℕ) → start ≤ end → end ≤ length texts → start + length (bytes_of (slice_range texts start end)) ≡ end
stage-count texts start end order within =
    let values = length-map (slice_range texts start end) (λ (text : Text). text.now) in
    let taken = length-take (end - start) (drop start texts) in
    let left = length-drop start texts in
    omega arith

-- a stage of the texts, and those after it
left-of : (t : Terms) (texts : List Text) (start end : ℕ) (forms : List Offers) → start ≤ end
    → IsLeft (parsed_form t) (start + 1) (bytes_of texts) forms (bytes_of (drop start texts))
    → IsLeft (parsed_form t) (start + 1) (bytes_of texts) forms (bytes_of (slice_range texts start end) ++ bytes_of (drop end texts))
left-of t texts start end forms order left =
    let cut = ap (λ (xs : List Text). bytes_of xs) (drop_split texts start end order)
    ∙ map-append (λ (text : Text). text.now) (slice_range texts start end) (drop end texts) in
    subst (λ (rest : List (List ℕ)). IsLeft (parsed_form t) (start + 1) (bytes_of texts) forms rest) cut left

-- a stage more
pub stage-read : (t : Terms) (texts : List Text) (start end : ℕ) (old new : List Offers) → start ≤ end → end ≤ length texts
    → AreRead t texts start old → HaveMore t (bytes_of (slice_range texts start end)) old new
    → AreRead t texts end new
stage-read t texts start end old new order within (few, count, left, meet) (more, added, parsed, meets) =
    let stage = bytes_of (slice_range texts start end) in
    let size = stage-count texts start end order within in
    let parsed_here = subst (λ (n : ℕ). each_in_turn (parsed_form t) (n + 1) stage ≡ Ok more) count parsed in
    let as_many = each-count (parsed_form t) (start + 1) stage more parsed_here in
    let both = length-append old more in
    let all = left-stage (parsed_form t) (start + 1) (end + 1) (bytes_of texts) old stage (bytes_of (drop end texts)) more (omega arith)
    (left-of t texts start end old order left) parsed_here in
    subst (AreRead t texts end) (sym added) (within, omega arith, all, All-append (Meets t) old more meet meets)

pub stage-refused : (t : Terms) (texts : List Text) (start end : ℕ) (forms : List Offers) (r : Refusal) → start ≤ end
    → AreRead t texts start forms → Refuses (parsed_more t (length forms) (bytes_of (slice_range texts start end))) r
    → Refuses (each_in_turn (parsed_form t) 1 (bytes_of texts)) r
stage-refused t texts start end forms r order (few, count, left, meet) refuses =
    let stage = bytes_of (slice_range texts start end) in
    let here = subst (λ (n : ℕ). Refuses (each_in_turn (parsed_form t) (n + 1) stage) r) count refuses in
    left-stage-refused (parsed_form t) (start + 1) (bytes_of texts) forms stage (bytes_of (drop end texts)) r (left-of t texts start end forms order left) here

-- all are read
pub all-read : (t : Terms) (texts : List Text) (count : ℕ) (forms : List Offers) → length texts ≤ count → AreRead t texts count forms
    → each_in_turn (parsed_form t) 1 (bytes_of texts) ≡ Ok forms
all-read t texts count forms all (few, is, left, meet) =
    let none = drop_of_length-le texts all in
    left-none (parsed_form t) (count + 1) (bytes_of texts) forms (subst
    (λ (rest : List Text). IsLeft (parsed_form t) (count + 1) (bytes_of texts) forms (bytes_of rest)) none left)
