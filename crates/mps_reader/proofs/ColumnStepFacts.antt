-- A column begins, and ends.
use Rattle.std.proofs.Common.{◌≡◌, ℕ, ◌+◌, true, false, List, [], ◌∷◌, ◌++◌, length, map, refl, sym, ap, subst, ◌∙◌, Option, Some, None, ℤ, length-append}
use Rattle.std.specs.Prelude.{IfSome, is_some, ◌==◌, bytes_eq}
use Rattle.std.specs.Option.{option_to_list, option_map_or}
use Rattle.std.proofs.lemmas.Bool.{both_ways}
use Rattle.std.specs.List.{AllByRecursion, IsDistinct}
use Rattle.std.specs.List.Sorted.{IsPermutation, IsNonDecreasingBy}
use Rattle.std.proofs.lemmas.List.{map_push, append-nil}
use denote.Ref.{Bor}
use Rattle.program_rows.specs.declared.column.Bounds.TheVariants.{ZeroOrOne}
use Rattle.program_rows.specs.Program.{TableColumn}
use Rattle.program_rows.specs.Parts.{IsName, AreEntries}
use Rattle.mps_reader.specs.inside.Rows.{names_of, option_now}
use Rattle.mps_reader.specs.inside.Columns.{AreDistinctEntries, IsApart, ColumnsFit, AddsColumn, PairsFit, BothFit}
use Rattle.mps_reader.specs.declared.tables.ColumnTable.{ColumnTable}
use Rattle.mps_reader.specs.declared.tables.Rows.{Rows}
use Rattle.mps_reader.specs.declared.tables.OpenColumn.{OpenColumn}
use Rattle.mps_reader.proofs.NameFacts.{length-bytes, all-push, same_name}
use Rattle.mps_reader.proofs.EntryFacts.{sorted-entries}

pub none-from : {A : Type 0} (o : Option A) → is_some o ≡ false → o ≡ None
none-from None h = refl
none-from (Some x) h = absurd cc

pub no-column : (P : List ℕ → Type 0) (o : Option (Bor (List ℕ))) → is_some o ≡ false → IfSome o (λ n. P n.now)
no-column P None h = tt
no-column P (Some x) h = absurd cc

pub no-entries : (count : ℕ) → AreDistinctEntries count []
unfolding IsDistinct
no-entries count = record { distinct = tt; inside = tt }

pub closed-fit : (count : ℕ) (old new : ColumnTable) (sorted : List (ℕ × ℤ)) (name : Bor (List ℕ)) (cost : ℤ) → ColumnsFit count old
    → old.current ≡ Some name → IsPermutation old.current_column.entries.items sorted → IsNonDecreasingBy (λ (e : ℕ × ℤ). e.0) sorted
    → new.names ≡ old.names → new.states ≡ old.states
    → new.done ≡ old.done ++ record { name = name.now; bounds = ZeroOrOne; cost = cost; entries = sorted } ∷ [] → new.current ≡ None
    → new.current_column.entries.items ≡ [] → ColumnsFit count new
closed-fit count old new sorted name cost fit current moved up names states done none empty =
    let last : TableColumn = record { name = name.now; bounds = ZeroOrOne; cost = cost; entries = sorted } in
    let all : map (λ (k : TableColumn). k.name) new.done ≡ map (λ (k : TableColumn). k.name) old.done ++ name.now ∷ [] =
    ap (map (λ (k : TableColumn). k.name)) done ∙ map_push (λ (k : TableColumn). k.name) old.done last in
    record {
      distinct = subst (λ s. IsDistinct bytes_eq (names_of s)) (sym names) fit.distinct;
      plain = subst (λ s. AllByRecursion IsName (names_of s)) (sym names) fit.plain;
      states = ap (λ s. length s.items) states ∙ fit.states ∙ ap (λ s. length s.keys) (sym names);
      done = ap names_of names ∙ fit.done ∙ ap (λ o. map (λ (k : TableColumn). k.name) old.done ++ option_to_list (option_now o)) current ∙ sym all
          ∙ sym (append-nil (map (λ (k : TableColumn). k.name) new.done)) ∙ ap (λ o. map (λ (k : TableColumn). k.name) new.done
          ++ option_to_list (option_now o)) (sym none);
      entries = subst (λ ks. AllByRecursion (λ (k : TableColumn). AreEntries count k.entries) ks) (sym done)
          (all-push (λ (k : TableColumn). AreEntries count k.entries) old.done last fit.entries
          (sorted-entries count old.current_column.entries.items sorted moved up fit.opened));
      opened = subst (λ es. AreDistinctEntries count es) (sym empty) (no-entries count);
      closed = λ _. empty;
    }

pub opened-fit : (count : ℕ) (old new : ColumnTable) (name : List ℕ) → ColumnsFit count old → is_some old.current ≡ false → IsName name
    → AddsColumn name old new → ColumnsFit count new
opened-fit count old new name fit none plain adds =
    let now : old.current ≡ None = none-from old.current none in
    record {
      distinct = adds.distinct;
      plain = subst (λ ns. AllByRecursion IsName ns) (sym adds.names) (all-push IsName (names_of old.names) name fit.plain plain);
      states = ap length adds.states ∙ length-append old.states.items _ ∙ ap (λ (n : ℕ). n + 1) (fit.states ∙ sym (length-bytes old.names.keys))
          ∙ sym (length-append (names_of old.names) (name ∷ [])) ∙ sym (ap length adds.names) ∙ length-bytes new.names.keys;
      done = adds.names ∙ ap (λ ns. ns ++ name ∷ []) (fit.done ∙ ap (λ o. map (λ (k : TableColumn). k.name) old.done ++ option_to_list (option_now o))
          now ∙ append-nil (map (λ (k : TableColumn). k.name) old.done)) ∙ ap (λ ks. map (λ (k : TableColumn). k.name) ks ++ name ∷ [])
          (sym adds.done) ∙ ap (λ o. map (λ (k : TableColumn). k.name) new.done ++ option_to_list o) (sym adds.current);
      entries = subst (λ ks. AllByRecursion (λ (k : TableColumn). AreEntries count k.entries) ks) (sym adds.done) fit.entries;
      opened = subst (λ c. AreDistinctEntries count c.entries.items) (sym adds.opened) fit.opened;
      closed = λ e. ap (λ c. c.entries.items) adds.opened ∙ fit.closed none;
    }

pub apart-none : (stamps : List ℕ) (places : List (Option ℕ)) (stamp : ℕ) (entries : List (ℕ × ℤ)) → entries ≡ [] → IsApart stamps places stamp entries
apart-none stamps places stamp entries h = λ i p d there stamped other. subst (λ es. AllByRecursion (λ (e : ℕ × ℤ). (e.0 == p) ≡ false) es) (sym h) tt

-- a flag that changes leaves all else
pub begun-fit : (count : ℕ) (old new : ColumnTable) → ColumnsFit count old → new.names ≡ old.names → new.states ≡ old.states
    → new.done ≡ old.done → new.current ≡ old.current → new.current_column ≡ old.current_column → ColumnsFit count new
begun-fit count old new fit names states done current column = record {
  distinct = subst (λ s. IsDistinct bytes_eq (names_of s)) (sym names) fit.distinct;
  plain = subst (λ s. AllByRecursion IsName (names_of s)) (sym names) fit.plain;
  states = ap (λ s. length s.items) states ∙ fit.states ∙ ap (λ s. length s.keys) (sym names);
  done = ap names_of names ∙ fit.done ∙ ap (λ ks. map (λ (k : TableColumn). k.name) ks ++ option_to_list (option_now old.current)) (sym done)
      ∙ ap (λ o. map (λ (k : TableColumn). k.name) new.done ++ option_to_list (option_now o)) (sym current);
  entries = subst (λ ks. AllByRecursion (λ (k : TableColumn). AreEntries count k.entries) ks) (sym done) fit.entries;
  opened = subst (λ c. AreDistinctEntries count c.entries.items) (sym column) fit.opened;
  closed = λ e. ap (λ c. c.entries.items) column ∙ fit.closed (ap is_some (sym current) ∙ e);
}

pub current-is : (o : Option (Bor (List ℕ))) (name : List ℕ) → option_map_or (λ other. bytes_eq name other.now) o false ≡ true → option_now o ≡ Some name
current-is None name h = absurd cc
current-is (Some x) name h = ap (λ n. Some n) (sym (same_name name x.now h))

pub some-current : (o : Option (Bor (List ℕ))) (name : List ℕ) → option_now o ≡ Some name → is_some o ≡ true
some-current None name h = absurd cc
some-current (Some x) name h = refl

pub line-fits : (r new : Rows) (mid : ColumnTable) (column : OpenColumn) (stamp : ℕ) (name : List ℕ)
    → new ≡ record r { stamps = new.stamps } → ColumnsFit (length r.rows.items) mid
    → IsApart r.stamps.items r.places.items (length (names_of mid.names)) mid.current_column.entries.items
    → stamp ≡ length (names_of mid.names) → option_now mid.current ≡ Some name
    → (PairsFit stamp r mid.current_column → PairsFit stamp new column) → BothFit new (record mid { current_column = column })
line-fits r new mid column stamp name same fit apart size current pairs =
    let rows : new.rows ≡ r.rows = ap (λ q. q.rows) same in
    let after = pairs (record {
      entries = fit.opened;
      apart =
          subst (λ n. IsApart r.stamps.items r.places.items n mid.current_column.entries.items) (sym size) apart;
    }) in
    record {
      columns = subst (λ q. ColumnsFit (length q.items) (record mid { current_column = column })) (sym rows) (record {
        distinct = fit.distinct;
        plain = fit.plain;
        states = fit.states;
        done = fit.done;
        entries = fit.entries;
        opened = subst (λ q. AreDistinctEntries (length q.items) column.entries.items) rows after.entries;
        closed = λ e. absurd (both_ways (is_some mid.current) e (some-current mid.current name current));
      });
      apart = subst (λ n. IsApart new.stamps.items new.places.items n column.entries.items) size after.apart;
    }
