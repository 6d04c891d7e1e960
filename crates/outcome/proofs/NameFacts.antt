-- A point takes the bids whose columns are at 1.
use Rattle.std.proofs.Common.{◌≡◌, ℕ, ◌+◌, Bool, true, false, ◌&&◌, ◌==◌, cond, List, [], ◌∷◌, Option, Some, None, refl}
use Rattle.std.proofs.Common.{sym, ap, ap₂, ◌∙◌, arith, eqb-true, eq-eqb, zero-add}
use Rattle.std.specs.Prelude.{count_by, bytes_eq}
use Rattle.std.specs.Option.{option_to_list}
use Rattle.std.proofs.lemmas.Bool.{and_parts, and_from, both_ways}
use Rattle.std.proofs.lemmas.Slice.Eq.{bytes_eq-Decides}
use Rattle.std.proofs.lemmas.List.Sums.{sum_by-cons, sum_by-append}
use Rattle.auction_terms.specs.declared.bids.Choice.{Choice}
use Rattle.program_rows.specs.Program.{TableColumn}
use Rattle.program_rows.specs.Spelling.{bid_name, column_bid, is_bid}
use Rattle.program_rows.specs.Faithful.{back}
use Rattle.program_rows.proofs.SpellingFacts.{reads_back, reads_names_alone}
use Rattle.outcome.specs.PointAllocation.{is_choice, ones_named, TakesWhatIsNamed}
use Rattle.outcome.proofs.BackFacts.{same_sum, back_bidders}

count_one : (b j : ℕ) (c : Choice) → count_by (is_choice b j) (c ∷ []) ≡ cond (is_choice b j c) 1 0
count_one b j c = let s = sum_by-cons (λ (d : Choice). cond (is_choice b j d) 1 0) c [] in omega (arith, s)

name_counts : (b j : ℕ) (name : List ℕ) → count_by (is_choice b j) (option_to_list (column_bid name))
    ≡ cond (is_bid b j) (cond (bytes_eq name (bid_name b j)) 1 0) 0
name_counts b j name = by (is_bid b j) (bytes_eq name (bid_name b j)) (column_bid name) refl refl refl
  where
    other : (s t : Bool) (o : Option Choice) → is_bid b j ≡ s → bytes_eq name (bid_name b j) ≡ t → column_bid name ≡ o → (s && t) ≡ false
        → count_by (is_choice b j) (option_to_list o) ≡ 0
    other s t None es et eo never = refl
    other s t (Some c) es et eo never = count_one b j c ∙ rest (is_choice b j c) refl
      where
        rest : (u : Bool) → is_choice b j c ≡ u → cond {A = ℕ} (is_choice b j c) 1 0 ≡ 0
        rest false eu = rw eu refl
        rest true eu =
            let named = reads_names_alone name c eo in
            let parts = and_parts (c.bidder == b) (c.bid == j) eu in
            let bidder = eqb-true c.bidder b parts.0 in
            let bid = eqb-true c.bid j parts.1 in
            let yes_bid : is_bid b j ≡ true = rw (bidder, bid) at named.0 in
            let yes_name : bytes_eq name (bid_name b j) ≡ true = (bytes_eq-Decides name (bid_name b j)).1 (rw (bidder, bid) at named.1) in
            let both : (s && t) ≡ true = rw (sym es ∙ yes_bid, sym et ∙ yes_name) refl in
            absurd (both_ways false (refl) (sym never ∙ both))

    by : (s t : Bool) (o : Option Choice) → is_bid b j ≡ s → bytes_eq name (bid_name b j) ≡ t → column_bid name ≡ o
        → count_by (is_choice b j) (option_to_list (column_bid name)) ≡ cond (is_bid b j) (cond (bytes_eq name (bid_name b j)) 1 0) 0
    by true true o es et eo =
        let same : name ≡ bid_name b j = (bytes_eq-Decides name (bid_name b j)).0 et in
        let read = ap column_bid same ∙ reads_back b j es in
        let here : is_choice b j (record { bidder = b; bid = j }) ≡ true = and_from (b == b) (j == j) (eq-eqb b b refl) (eq-eqb j j refl) in
        rw (read, es, et) (count_one b j (record { bidder = b; bid = j }) ∙ rw here refl)
    by true false o es et eo = ap (λ (x : Option Choice). count_by (is_choice b j) (option_to_list x)) eo ∙ other true false o es et eo refl ∙ rw (es, et) refl
    by false true o es et eo = ap (λ (x : Option Choice). count_by (is_choice b j) (option_to_list x)) eo ∙ other false true o es et eo refl ∙ rw es refl
    by false false o es et eo = ap (λ (x : Option Choice). count_by (is_choice b j) (option_to_list x)) eo ∙ other false false o es et eo refl ∙ rw es refl

plus_cond : (s : Bool) (m n : ℕ) → cond s m 0 + cond s n 0 ≡ cond s (m + n) 0
plus_cond true m n = refl
plus_cond false m n = refl

nothing : (s : Bool) → ◌≡◌ {A = ℕ} 0 (cond s 0 0)
nothing true = refl
nothing false = refl

back_counts : (b j : ℕ) (columns : List TableColumn) (values : List Bool)
    → count_by (is_choice b j) (back columns values) ≡ cond (is_bid b j) (ones_named columns values (bid_name b j)) 0
back_counts b j [] values = nothing (is_bid b j)
back_counts b j (c ∷ columns) [] = nothing (is_bid b j)
back_counts b j (c ∷ columns) (true ∷ values) =
    sum_by-append (λ (d : Choice). cond (is_choice b j d) 1 0) (option_to_list (column_bid c.name)) (back columns values)
    ∙ ap₂ (λ (m n : ℕ). m + n) (name_counts b j c.name) (back_counts b j columns values)
    ∙ plus_cond (is_bid b j) (cond (bytes_eq c.name (bid_name b j)) 1 0) (ones_named columns values (bid_name b j))
back_counts b j (c ∷ columns) (false ∷ values) =
    back_counts b j columns values ∙ ap (λ (n : ℕ). cond (is_bid b j) n 0) (sym (zero-add (ones_named columns values (bid_name b j))))

pub takes_what_is_named : TakesWhatIsNamed
takes_what_is_named p values bidder bid = same_sum (λ c. cond (is_choice bidder bid c) 1 0) (back p.columns values)
    (back_bidders p.columns values) ∙ back_counts bidder bid p.columns values
