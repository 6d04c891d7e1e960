-- A row more.
use Rattle.std.proofs.Common.{◌≡◌, ℕ, zero, suc, ◌+◌, ◌<◌, ◌≤◌, false, List, [], ◌∷◌, ◌++◌, length, map, refl, sym, ap}
use Rattle.std.proofs.Common.{subst, ◌∙◌, arith, Option, Some, None, get_or, length-append}
use Rattle.std.specs.Prelude.{bytes_eq, is_none, IfSome, if◌then◌else◌}
use Rattle.std.specs.List.{list_any, AllByRecursion, IsDistinct}
use Rattle.std.proofs.lemmas.List.{map_push, length-map}
use denote.Ref.{Bor}
use Rattle.program_rows.specs.declared.row.Row.{Row}
use Rattle.program_rows.specs.Program.{TableRow}
use Rattle.program_rows.specs.Parts.{IsName, shown_row}
use Rattle.auction_terms.specs.LineFields.{field}
use Rattle.auction_terms.specs.Lines.{bytes_of}
use Rattle.mps_reader.specs.inside.Rows.{names_of, option_now, declared_row_names, IsObjective, RowsFit, AddsFree, AddsBound}
use Rattle.mps_reader.specs.declared.tables.Rows.{Rows}
use Rattle.mps_reader.proofs.NameFacts.{length-bytes, others, all-push, differs, any-push, any-last, at-free, at-bound, all-rows}

abbrev pub no_name : Bor (List ℕ)
no_name = record { ref_ptr = (0, 0); now = [] }

pub field-at : (fields : List (Bor (List ℕ))) (n : ℕ) → n < length fields → field n (bytes_of fields) ≡ (get_or fields n no_name).now
field-at [] n h = absurd (omega arith)
field-at (f ∷ fields) zero h = refl
field-at (f ∷ fields) (suc n) h = field-at fields n (omega arith)

pub name-at : (fields : List (Bor (List ℕ))) (n : ℕ) → n < length fields → AllByRecursion IsName (bytes_of fields) → IsName (get_or fields n no_name).now
name-at [] n h a = absurd (omega arith)
name-at (f ∷ fields) zero h a = a.0
name-at (f ∷ fields) (suc n) h a = name-at fields n (omega arith) a.1

pub now-from : (P : List ℕ → Type 0) (o : Option (Bor (List ℕ))) (t : Option (List ℕ)) → option_now o ≡ t → IfSome t P → IfSome o (λ x. P x.now)
now-from P None t e h = tt
now-from P (Some x) None e h = absurd cc
now-from P (Some x) (Some n) e h = let same : n ≡ x.now = cc in subst P same h

now-if : (P : List ℕ → Type 0) (o : Option (Bor (List ℕ))) (name : List ℕ) → IfSome o (λ x. P x.now) → P name
    → IfSome (if is_none o then Some name else option_now o) P
now-if P None name h p = p
now-if P (Some x) name h p = h

if-weaker : (P Q : List ℕ → Type 0) (o : Option (Bor (List ℕ))) → ((n : List ℕ) → P n → Q n) → IfSome o (λ x. P x.now) → IfSome o (λ x. Q x.now)
if-weaker P Q None f h = tt
if-weaker P Q (Some x) f h = f x.now h

pub added-free : (old mid new : Rows) (name : List ℕ) → RowsFit old → names_of mid.names ≡ names_of old.names ++ name ∷ []
    → list_any (bytes_eq name) (names_of old.names) ≡ false → IsDistinct bytes_eq (names_of mid.names) → IsName name
    → mid.places ≡ old.places → mid.stamps ≡ old.stamps → mid.rows ≡ old.rows → mid.objective ≡ old.objective → AddsFree name mid new → RowsFit new
added-free old mid new name fit names fresh distinct plain places stamps rows objective adds =
    let all : names_of new.names ≡ names_of old.names ++ name ∷ [] = ap names_of adds.names ∙ names in
    let there : new.places.items ≡ old.places.items ++ None ∷ [] = adds.places ∙ ap (λ p. p.items ++ None ∷ []) places in
    let same-rows : declared_row_names new.rows.items ≡ declared_row_names old.rows.items = ap (λ r. declared_row_names r.items) (adds.rows ∙ rows) in
    let known : IfSome old.objective (λ o. IsObjective (names_of new.names) (declared_row_names new.rows.items) o.now) =
    if-weaker (λ n. IsObjective (names_of old.names) (declared_row_names old.rows.items) n)
    (λ n. IsObjective (names_of new.names) (declared_row_names new.rows.items) n) old.objective
    (λ n h. record { known = rw all (any-push n (names_of old.names) name h.known); name = h.name; apart = rw same-rows h.apart }) fit.objective in
    let own : IsObjective (names_of new.names) (declared_row_names new.rows.items) name =
    record {
      known = rw all (any-last name (names_of old.names));
      name = plain;
      apart =
          rw same-rows (all-rows (λ r. bytes_eq name r ≡ false) 0 (names_of old.names) old.places.items (declared_row_names old.rows.items) fit.places
          (others name (names_of old.names) fresh));
    } in
    record {
      distinct = rw (ap names_of adds.names) distinct;
      plain = rw all (all-push IsName (names_of old.names) name fit.plain plain);
      stamps = ap length (adds.stamps ∙ ap (λ s. s.items ++ 0 ∷ []) stamps) ∙ length-append old.stamps.items (0 ∷ [])
          ∙ ap (λ (n : ℕ). n + 1) (fit.stamps ∙ sym (length-bytes old.names.keys)) ∙ sym (length-append (names_of old.names) (name ∷ []))
          ∙ sym (ap length all) ∙ length-bytes new.names.keys;
      places = rw (all, there, same-rows) (at-free 0 (names_of old.names) old.places.items (declared_row_names old.rows.items) name fit.places);
      objective = now-from (λ n. IsObjective (names_of new.names) (declared_row_names new.rows.items) n) new.objective
          (if is_none old.objective then Some name else option_now old.objective)
          (adds.objective ∙ ap (λ o. if is_none o then Some name else option_now o) objective)
          (now-if (λ n. IsObjective (names_of new.names) (declared_row_names new.rows.items) n) old.objective name known own);
    }

pub names-shown : (rows : List Row) → declared_row_names rows ≡ map (λ (r : TableRow). r.name) (map shown_row rows)
names-shown [] = refl
names-shown (r ∷ rows) = ap (λ ns. r.name.items ∷ ns) (names-shown rows)

pub added-bound : (old mid new : Rows) (letter name : List ℕ) → RowsFit old → names_of mid.names ≡ names_of old.names ++ name ∷ []
    → list_any (bytes_eq name) (names_of old.names) ≡ false → IsDistinct bytes_eq (names_of mid.names) → IsName name
    → mid.places ≡ old.places → mid.stamps ≡ old.stamps → mid.rows ≡ old.rows → mid.objective ≡ old.objective → AddsBound letter name mid new → RowsFit new
added-bound old mid new letter name fit names fresh distinct plain places stamps rows objective adds =
    let all : names_of new.names ≡ names_of old.names ++ name ∷ [] = ap names_of adds.names ∙ names in
    let there : new.places.items ≡ old.places.items ++ Some (length old.rows.items) ∷ [] =
    adds.places ∙ ap (λ p. p.items ++ Some (length mid.rows.items) ∷ []) places ∙ ap (λ r. old.places.items ++ Some (length r.items) ∷ []) rows in
    let more-rows : declared_row_names new.rows.items ≡ declared_row_names old.rows.items ++ name ∷ [] =
    names-shown new.rows.items ∙ ap (map (λ (r : TableRow). r.name)) adds.rows ∙ map_push (λ (r : TableRow). r.name) (map shown_row mid.rows.items) _
    ∙ ap (λ ns. ns ++ name ∷ []) (sym (names-shown mid.rows.items)) ∙ ap (λ r. declared_row_names r.items ++ name ∷ []) rows in
    let count : length old.rows.items ≡ 0 + length (declared_row_names old.rows.items) = sym (omega (arith, length-map old.rows.items (λ r. r.name.items))) in
    record {
      distinct = rw (ap names_of adds.names) distinct;
      plain = rw all (all-push IsName (names_of old.names) name fit.plain plain);
      stamps = ap length (adds.stamps ∙ ap (λ s. s.items ++ 0 ∷ []) stamps) ∙ length-append old.stamps.items (0 ∷ [])
          ∙ ap (λ (n : ℕ). n + 1) (fit.stamps ∙ sym (length-bytes old.names.keys)) ∙ sym (length-append (names_of old.names) (name ∷ []))
          ∙ sym (ap length all) ∙ length-bytes new.names.keys;
      places = rw (all, there, more-rows) (at-bound 0 (length old.rows.items) (names_of old.names) old.places.items
          (declared_row_names old.rows.items) name count fit.places);
      objective = subst (λ o. IfSome o (λ x. IsObjective (names_of new.names) (declared_row_names new.rows.items) x.now)) (sym (adds.objective ∙ objective))
          (if-weaker (λ n. IsObjective (names_of old.names) (declared_row_names old.rows.items) n)
          (λ n. IsObjective (names_of new.names) (declared_row_names new.rows.items) n) old.objective
          (λ n h. record {
            known = rw all (any-push n (names_of old.names) name h.known);
            name = h.name;
            apart =
                rw more-rows (all-push (λ r. bytes_eq n r ≡ false) (declared_row_names old.rows.items) name h.apart
                (differs n name (names_of old.names) h.known fresh));
          }) fit.objective);
    }

pub grown : (new old : List Row) (r : TableRow) → map shown_row new ≡ map shown_row old ++ r ∷ [] → length old ≤ length new
grown new old r h = omega (arith, ap length h ∙ length-append (map shown_row old) (r ∷ []), length-map new shown_row, length-map old shown_row)
