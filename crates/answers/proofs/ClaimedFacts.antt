-- What comes of claims of other awards, as the code finds it.
use Rattle.std.proofs.Common.{◌≡◌, ◌≤◌, ◌+◌, ◌++◌, ◌==◌, ◌∷◌, ◌∙◌, [], ℕ, Bool, List, Option, None, Some, Result, Ok, Err, ap, append_assoc, append-nil}
use Rattle.std.proofs.Common.{arith, drop, eqb-true, false, inl, inr, length, map, refl, subst, sym, ◌<◌, ◌⊎◌}
use Rattle.std.proofs.Common.{slice_index_or, true, zip, option_map}
use Rattle.std.proofs.lemmas.List.{drop_more, length-map}
use Rattle.std.proofs.lemmas.List.Elements.{All-append, All-from_recursion}
use Rattle.std.specs.Prelude.{All}
use Rattle.program_rows.specs.Points.{IsPoint}
use Rattle.auction_terms.specs.FirstFault.{first_failed}
use Rattle.auction_terms.specs.Lines.{bytes_of}
use Rattle.auction_terms.specs.Groups.{starts_empty}
use Rattle.auction_terms.specs.Stages.{and_then, each_in_turn, refused_as, unless}
use Rattle.auction_terms.specs.declared.bids.Choice.{Choice}
use Rattle.auction_input.specs.Auction.{Auction}
use Rattle.answers.specs.Programs.{program_for}
use Rattle.auction_input.specs.Refused.{Refuses}
use Rattle.auction_input.specs.Settled.{held}
use Rattle.auction_input.specs.declared.auction.Auction as declared
use Rattle.auction_input.specs.declared.part_kind.PartKind.TheVariants as part
use Rattle.auction_input.specs.declared.refusal.Refusal.TheVariants as refusal
use Rattle.auction_input.specs.declared.refusal.Refusal.{Refusal}
use Rattle.auction_input.proofs.AnswerFacts.{ok-after, ok-is}
use Rattle.auction_input.proofs.InputTextFacts.{Text}
use Rattle.auction_input.proofs.StageFacts.{next, stop}
use Rattle.optimality.specs.Answers.{IsLimit, IsVerdict}
use Rattle.optimality.specs.OnlyPoints.{IsLargeOnlyAt, only_fault}
use Rattle.outcome.specs.Others.{Others, others_of}
use Rattle.outcome.specs.PointAllocation.{allocation_of}
use Rattle.outcome.specs.Solution.{solution}
use Rattle.outcome.specs.Ties.{same_choices}
use Rattle.outcome.specs.declared.others.Further.TheVariants as further
use Rattle.program_rows.specs.declared.certificate_fault.CertificateFault.{CertificateFault}
use Rattle.program_rows.specs.declared.certificate_fault.CertificateFaultKind.{CertificateFaultKind}
use Rattle.program_rows.specs.declared.certificate_fault.CertificateFaultKind.TheVariants as kind
use Rattle.program_rows.specs.declared.solution_fault.SolutionFault.{SolutionFault}
use Rattle.program_rows.specs.Program.{Table}
use Rattle.bid_desk.specs.Sale.{Sale}
use Rattle.answers.specs.Claimed.{IsTooWideClaim, claim_counts, first_program, known_others, parsed_claims, parsed_tie, parsed_ties, same_tie, unique_refused}
use Rattle.group_compiler.specs.Compiled.{Compiling, compiling, program_without}
use Rattle.answers.specs.SolutionWinners.{solution_refused, winners_by, winners_of_groups}
use Rattle.answers.specs.inside.Claiming.{HasUniqueFault, IsShownUnique, IsUniqueRefused, IsWonFirst}
use Rattle.answers.specs.inside.SolutionWinners.{winners}
use Rattle.answers.proofs.CheckFacts.{when-both}

-- ---- what the first solution wins

first-of : (sale : Sale) (n : ℕ) (groups texts : List (List ℕ)) (won : List (List Choice)) → starts_empty groups ≡ true → length texts ≡ length groups
    → each_in_turn (winners sale) n (zip groups texts) ≡ Ok won
    → (1 ≤ length texts) × (1 ≤ length won) × (winners_by (program_for sale []) n (slice_index_or texts 0 []) ≡ Ok
    (slice_index_or won 0 []))
first-of sale n [] texts won starts count wins = absurd (cc)
first-of sale n (group ∷ groups) [] won starts count wins = absurd (omega arith)
first-of sale n ([] ∷ groups) (text ∷ texts) won starts count wins =
    let (a, a_is, more_wins) = ok-after (winners sale n ([], text)) _ won wins in
    let (more, more_are, are) = ok-after (each_in_turn (winners sale) (n + 1) (zip groups texts)) _ won more_wins in
    let is : a ∷ more ≡ won = ok-is _ (a ∷ more) won refl are in (
      omega arith,
      subst (λ (xs : List (List Choice)). 1 ≤ length xs) is (omega arith),
      subst (λ (xs : List (List Choice)). winners_by
          (program_for sale []) n text ≡ Ok (slice_index_or xs 0 [])) is a_is,
    )
first-of sale n ((b ∷ group) ∷ groups) (text ∷ texts) won starts count wins =
    (let none : length (b ∷ group) ≡ 0 = eqb-true (length (b ∷ group)) 0 starts in absurd (omega arith))

pub wins-first : (auction : Auction) (won : List (List Choice)) → winners_of_groups auction ≡ Ok won
    → (starts_empty auction.groups ≡ true) × (1 ≤ length auction.solutions) × (1 ≤ length won)
    × (winners_by (first_program auction) 1 (slice_index_or auction.solutions 0 []) ≡ Ok (slice_index_or won 0 []))
wins-first auction won parsed =
    let (starts, count, each) = when-both refusal.FirstGroupNotEmpty (refusal.PartCount part.Solution) (starts_empty auction.groups)
    (length auction.solutions == length auction.groups) _ won parsed in
    let (some, few, is) = first-of auction.sale 1 auction.groups auction.solutions won starts (eqb-true _ _ count) each in
    (starts, some, few, is)

is-won-first : (auction : declared.Auction) (won : List (List Choice)) → winners_of_groups (held auction) ≡ Ok won
    → IsWonFirst auction (slice_index_or won 0 [])
is-won-first auction won parsed =
    let (starts, some, few, is) = wins-first (held auction) won parsed in
    let count = length-map auction.solutions.items (λ (text : Text). text.now) in
    record { starts = starts; some = omega arith; won = is }

first-at : (won : List (List Choice)) (first : List Choice) → 1 ≤ length won → first ≡ slice_index_or won 0 first → slice_index_or won 0 [] ≡ first
first-at [] first some is = absurd (omega arith)
first-at (a ∷ won) first some is = sym is

-- the first of what is won
pub first-won : (auction : Auction) (won : List (List Choice)) (first : List Choice) → winners_of_groups auction ≡ Ok won
    → first ≡ slice_index_or won 0 first → slice_index_or won 0 [] ≡ first
first-won auction won first parsed is = first-at won first (wins-first auction won parsed).2 is

pub is-first-won : (auction : declared.Auction) (won : List (List Choice)) (first : List Choice) → winners_of_groups (held auction) ≡ Ok won
    → first ≡ slice_index_or won 0 first → IsWonFirst auction first
is-first-won auction won first parsed is = subst (IsWonFirst auction) (first-won (held auction) won first parsed is) (is-won-first auction won parsed)

-- nobody is in the first group
pub first-empty : (groups : List (List ℕ)) → starts_empty groups ≡ true → slice_index_or groups 0 [] ≡ []
first-empty [] starts = absurd (cc)
first-empty ([] ∷ groups) starts = refl
first-empty ((b ∷ group) ∷ groups) starts = (let none : length (b ∷ group) ≡ 0 = eqb-true (length (b ∷ group)) 0 starts in absurd (omega arith))

-- the compiler's program for the first group is the auction's without anybody
pub first-program : (auction : declared.Auction) (compiler : Compiling) (group : List ℕ) → compiler ≡ compiling auction.book auction.groups
    → starts_empty auction.groups ≡ true → group ≡ slice_index_or auction.groups 0 []
    → program_without compiler.book group ≡ program_without auction.book []
first-program auction compiler group own starts is =
    ap (λ (k : Compiling). program_without k.book group) own ∙ ap (λ (g : List ℕ). program_without auction.book g) (is ∙ first-empty auction.groups starts)

pub some-group : (groups : List (List ℕ)) → starts_empty groups ≡ true → 1 ≤ length groups
some-group [] starts = absurd (cc)
some-group (group ∷ groups) starts = omega arith

-- ---- the ties before

-- the tie at a place, where none before it has the same winners
module _ (ties : List (List Choice)) (award : List Choice) (n : ℕ) (a : List Choice) (is : a ≡ slice_index_or ties n a) (within : n < length ties) where
  ahead : drop n ties ≡ a ∷ drop (n + 1) ties
  ahead = drop_more ties n a within ∙ ap (λ (b : List Choice). b ∷ drop (n + 1) ties) (sym is)

  pub same-here : same_choices a award ≡ true → same_tie (n + 1) (drop n ties) award ≡ Some (n + 1)
  same-here same = rw (ahead, same) refl

  pub same-later : same_choices a award ≡ false → same_tie (n + 1) (drop n ties) award ≡ same_tie (n + 1 + 1) (drop (n + 1) ties) award
  same-later other = rw (ahead, other) refl

-- ---- one tie after the other

pub one-point-more : (p : Table) (points : List (List Bool)) (point : List Bool) → All (IsPoint p) points → IsPoint p point
    → All (IsPoint p) (points ++ point ∷ [])
one-point-more p points point each here = All-append (IsPoint p) points (point ∷ []) each (All-from_recursion (IsPoint p) (point ∷ []) (here, tt))

pub one-award-more : (p : Table) (points : List (List Bool)) (point : List Bool)
    → map (allocation_of p) (points ++ point ∷ []) ≡ map (allocation_of p) points ++ allocation_of p point ∷ []
one-award-more p [] point = refl
one-award-more p (v ∷ points) point = ap (λ (xs : List (List Choice)). allocation_of p v ∷ xs) (one-award-more p points point)

-- the texts from a place on
pub texts-from : (texts : List Text) (n : ℕ) (text : Text) → n < length texts → text ≡ slice_index_or texts n text
    → bytes_of (drop n texts) ≡ text.now ∷ bytes_of (drop (n + 1) texts)
texts-from texts n text within is =
    ap bytes_of (drop_more texts n text within ∙ ap (λ (t : Text). t ∷ drop (n + 1) texts) (sym is))

-- these points, and after them those that are described
abbrev pub onto : List (List Bool) → Result (List (List Bool)) Refusal → Result (List (List Bool)) Refusal
onto points parsed = and_then parsed (λ more. Ok (points ++ more))

pub onto-none : (parsed : Result (List (List Bool)) Refusal) → onto [] parsed ≡ parsed
onto-none (Ok points) = refl
onto-none (Err r) = refl

onto-one : (points : List (List Bool)) (point : List Bool) (parsed : Result (List (List Bool)) Refusal)
    → onto points (and_then parsed (λ more. Ok (point ∷ more))) ≡ onto (points ++ point ∷ []) parsed
onto-one points point (Ok more) = ap (λ (xs : List (List Bool)). Ok xs) (sym (append_assoc points (point ∷ []) more))
onto-one points point (Err r) = refl

module _ (auction : Auction) (first : List Choice) (points : List (List Bool)) (awards : List (List Choice)) (text : List ℕ) (texts : List (List ℕ)) where
  abbrev award : List Bool → List Choice
  award = allocation_of (first_program auction)

  -- a tie that is taken
  pub tie-taken : (point : List Bool) → parsed_tie auction first awards text ≡ Ok point
      → onto points (parsed_ties auction first awards (text ∷ texts)) ≡ onto (points ++ point ∷ []) (parsed_ties auction first (awards ++ award point ∷ []) texts)
  tie-taken point taken =
      ap (onto points) (next (parsed_tie auction first awards text) point _ _ taken refl) ∙ onto-one points point (parsed_ties auction first (awards ++ award point ∷ []) texts)

  -- a tie that is refused
  pub tie-refused : (r : Refusal) → Refuses (parsed_tie auction first awards text) r
      → Refuses (onto points (parsed_ties auction first awards (text ∷ texts))) r
  tie-refused r refused = stop _ _ r (stop _ _ r refused)

pub ties-end : (auction : Auction) (first : List Choice) (points : List (List Bool)) (awards : List (List Choice))
    → onto points (parsed_ties auction first awards []) ≡ Ok points
ties-end auction first points awards = ap (λ (xs : List (List Bool)). Ok xs) (append-nil points)

-- ---- what comes of ties

pub one-text : (texts : List Text) (text : Text) → length texts ≡ 1 → text ≡ slice_index_or texts 0 text → bytes_of texts ≡ text.now ∷ []
one-text [] text one is = absurd (omega arith)
one-text (t ∷ []) text one is = ap (λ (x : Text). x.now ∷ []) (sym is)
one-text (t ∷ u ∷ texts) text one is = absurd (omega arith)

module _ (auction : Auction) (first : List Choice) (counted : first_failed (claim_counts auction) ≡ None) where
  abbrev parsed : Result (List (List Bool)) Refusal
  parsed = parsed_ties auction first [] auction.ties

  goes-on : parsed_claims auction first ≡ and_then parsed (λ points. known_others auction first points auction.uniques)
  goes-on = ap (λ (o : Option Refusal). unless o (and_then parsed (λ points. known_others auction first points auction.uniques))) counted

  pub untied : (r : Refusal) → Refuses parsed r → Refuses (parsed_claims auction first) r
  untied r refused = subst (λ (x : Result Others Refusal). Refuses x r) (sym goes-on) (stop _ _ r refused)

  module _ (points : List (List Bool)) (tied : parsed ≡ Ok points) where
    abbrev p : Table
    p = first_program auction

    abbrev solved : List ℕ
    solved = slice_index_or auction.solutions 0 []

    known : parsed_claims auction first ≡ known_others auction first points auction.uniques
    known = goes-on ∙ next parsed points _ _ tied refl

    pub nothing-shown : auction.uniques ≡ [] → parsed_claims auction first ≡ Ok (record { awards = map (allocation_of p) points; further = further.Unknown })
    nothing-shown none = known ∙ ap (known_others auction first points) none

    -- the one text is judged
    abbrev judged : List Bool → List ℕ → Result Others Refusal
    judged point text = unless (option_map unique_refused (only_fault p point points text))
        (Ok (others_of auction.sale.lots auction.sale.book (first ∷ map (allocation_of p) points)))

    by-one : (point : List Bool) (text : List ℕ) → auction.uniques ≡ text ∷ [] → solution p solved ≡ Ok point → parsed_claims auction first ≡ judged point text
    by-one point text one is = known ∙ ap (known_others auction first points) one
        ∙ next _ point _ _ (ap (λ (r : Result (List Bool) SolutionFault). refused_as (solution_refused p 1) r) is) refl

    pub all-shown : IsShownUnique auction points
        → parsed_claims auction first ≡ Ok (others_of auction.sale.lots auction.sale.book (first ∷ map (allocation_of p) points))
    all-shown u = by-one u.point u.text u.one u.solved ∙ ap (λ (o : Option (ℕ × CertificateFaultKind)). unless (option_map unique_refused o)
        (Ok (others_of auction.sale.lots auction.sale.book (first ∷ map (allocation_of p) points)))) u.shown

    unshown-so : (f : CertificateFault) → HasUniqueFault auction points f
        → Refuses (parsed_claims auction first) (refusal.Unique f) ⊎ IsTooWideClaim auction first (refusal.Unique f)
    unshown-so f u = by u.found
      where
        by : (f.kind ≡ kind.TooLarge × IsLargeOnlyAt p u.point points u.text f.line) ⊎ (only_fault p u.point points u.text ≡ Some (f.line, f.kind))
            → Refuses (parsed_claims auction first) (refusal.Unique f) ⊎ IsTooWideClaim auction first (refusal.Unique f)
        by (inl (large, wide)) = inr (record {
          text = u.text;
          point = u.point;
          points = points;
          line = f.line;
          counted = counted;
          one = u.one;
          tied = tied;
          solved = u.solved;
          wide = wide;
          is = ap (λ (k : CertificateFaultKind). refusal.Unique (record { line = f.line; kind = k })) large;
        })
        by (inr found) = inl (inl (by-one u.point u.text u.one u.solved ∙ ap (λ (o : Option (ℕ × CertificateFaultKind)). unless (option_map unique_refused o)
            (Ok (others_of auction.sale.lots auction.sale.book (first ∷ map (allocation_of p) points)))) found))

    pub unshown : (r : Refusal) → IsUniqueRefused auction points r → Refuses (parsed_claims auction first) r ⊎ IsTooWideClaim auction first r
    unshown r (inl memory) = inl (inr memory)
    unshown r (inr (f, u, is)) = subst (λ (s : Refusal). Refuses (parsed_claims auction first) s ⊎ IsTooWideClaim auction first s) (sym is) (unshown-so f u)

-- the same of what the code makes
module _ (auction : Auction) (first : List Choice) (counted : first_failed (claim_counts auction) ≡ None) (points : List (List Bool))
    (tied : parsed_ties auction first [] auction.ties ≡ Ok points) (awards : List (List Choice))
    (are : awards ≡ map (allocation_of (first_program auction)) points) (result : Others) where
  abbrev said : List (List Choice) → Others
  said xs = record { awards = xs; further = further.Unknown }

  abbrev fine : Others → Result Others Refusal
  fine o = Ok o

  pub nothing-shown-so : auction.uniques ≡ [] → result ≡ said awards → parsed_claims auction first ≡ Ok result
  nothing-shown-so none is = nothing-shown auction first counted points tied none ∙ ap (λ (xs : List (List Choice)). fine (said xs)) (sym are) ∙ ap fine (sym is)

  pub all-shown-so : IsShownUnique auction points → result ≡ others_of auction.sale.lots auction.sale.book (first ∷ awards)
      → parsed_claims auction first ≡ Ok result
  all-shown-so shown is = all-shown auction first counted points tied shown
      ∙ ap (λ (xs : List (List Choice)). fine (others_of auction.sale.lots auction.sale.book (first ∷ xs))) (sym are) ∙ ap fine (sym is)

-- a fault of the one text, as it is reported
pub unique-refused : (auction : Auction) (points : List (List Bool)) (point : List Bool) (text : List ℕ) (f : CertificateFault) → auction.uniques ≡ text ∷ []
    → solution (first_program auction) (slice_index_or auction.solutions 0 []) ≡ Ok point
    → IsLimit f.kind ⊎ (only_fault (first_program auction) point points text ≡ Some (f.line, f.kind))
    → (f.kind ≡ kind.TooLarge → IsLargeOnlyAt (first_program auction) point points text f.line)
    → IsUniqueRefused auction points (refusal.Unique f)
unique-refused auction points point text f one solved (inl (inl memory)) large = inl (rw memory refl)
unique-refused auction points point text f one solved (inl (inr wide)) large =
    inr (f, record { text = text; point = point; one = one; solved = solved; found = inl (wide, large wide) }, refl)
unique-refused auction points point text f one solved (inr found) large =
    inr (f, record { text = text; point = point; one = one; solved = solved; found = inr found }, refl)

pub no-texts : (texts : List Text) → length texts ≡ 0 → bytes_of texts ≡ []
no-texts [] none = refl
no-texts (t ∷ texts) none = absurd (omega arith)

-- ---- the text that is to show that there is no other

-- a verdict that is no fault
pub no-fault : (verdict : Result (Unit {0}) CertificateFault) (first : Option (ℕ × CertificateFaultKind))
    → ((f : CertificateFault) → verdict ≡ Err f → ⊥) → IsVerdict verdict first → first ≡ None
no-fault (Ok u) first fine judged = judged
no-fault (Err f) first fine judged = absurd (fine f refl)
