-- All faults of rules are those of their records.
use Rattle.std.proofs.Common.{◌≡◌, ◌≢◌, ◌⊎◌, ◌+◌, ◌∷◌, ◌++◌, ◌∙◌, ℕ, List, [], append-nil, inl, inr, length, refl}
use Rattle.std.specs.Prelude.{Option, Some, None}
use Rattle.std.specs.List.{Contains}
use Rattle.std.specs.Option.{option_map_or}
use Rattle.std.proofs.lemmas.List.Elements.{Contains-append_cases}
use Rattle.auction_terms.proofs.AcceptedFacts.{are-of-items, fail-alike, tests_of}
use Rattle.auction_terms.specs.Accepted.{AreOfItems, StaysFaultless}
use Rattle.auction_terms.specs.FaultsOfRules.{RulesFaultsAreOfRecords, accepted_entries, lacking}
use Rattle.auction_terms.specs.AllFaults.{all_faults, or_else}
use Rattle.auction_terms.specs.Entries.{Entries}
use Rattle.auction_terms.specs.Records.{Record}
use Rattle.auction_terms.specs.RulesText.{count_check, entries_of, entry_checks, fault_of_entry, faults_of_version, header_checks, kind_checks, no_kind, record_kind, rules_faults, version_of}
use Rattle.auction_terms.specs.Judged.{Fault, fault_of}
use Rattle.auction_terms.proofs.JudgeFacts.{failed-none, none-failed}
use Rattle.auction_terms.specs.declared.record_kinds.RecordKind.{RecordKind}
use Rattle.auction_terms.specs.declared.record_kinds.RecordKind.TheVariants as kind
use Rattle.auction_terms.specs.declared.record_kinds.Version.{Version}
use Rattle.auction_terms.specs.declared.rules_text.RulesFault.{RulesFault}

-- the tests of a record don't look at its place
same-tests : (v : Version) (m n : ℕ) (before : Entries) (r : Record) → tests_of (entry_checks v m before r) ≡ tests_of (entry_checks v n before r)
same-tests v m n before r = by (record_kind v r)
  where
    by : (o : Option RecordKind) → tests_of (count_check v m r ∷ option_map_or (kind_checks v m before r) o (no_kind m r ∷ []))
        ≡ tests_of (count_check v n r ∷ option_map_or (kind_checks v n before r) o (no_kind n r ∷ []))
    by None = refl
    by (Some kind.Category) = refl
    by (Some kind.Bidder) = refl
    by (Some kind.Pool) = refl
    by (Some kind.Member) = refl

entry-stays : (v : Version) → StaysFaultless (fault_of_entry v)
entry-stays v m n before r low none =
    let e = entries_of v before in
    failed-none (entry_checks v m e r) (fail-alike (entry_checks v n e r) (entry_checks v m e r) (same-tests v n m e r)
    (none-failed (entry_checks v n e r) none))

pub entries-are-of-items : (v : Version) → AreOfItems (fault_of_entry v)
entries-are-of-items v = are-of-items (fault_of_entry v) (entry-stays v)

-- where some faults come first, the others aren't looked at
or_else-cases : {X : Type 0} (some others : List X) (x : X) → Contains (or_else some others) x → Contains some x ⊎ Contains others x
or_else-cases [] others x has = inr has
or_else-cases (y ∷ ys) others x has = inl has

or_else-some : {X : Type 0} (front some others : List X) → some ≢ [] → or_else (front ++ some) others ≡ front ++ some
or_else-some [] [] others is = absurd (is refl)
or_else-some [] (x ∷ xs) others is = refl
or_else-some (y ∷ front) some others is = refl

pub of-records : (v : Version) (header : Record) (entries : List Record) → version_of header ≡ Some v → RulesFaultsAreOfRecords v header entries
of-records v header entries is =
    let own = entries-are-of-items v in
    let of_header = fault_of (header_checks v header) in
    let whole : (records : List Record) → rules_faults (header ∷ records) ≡ faults_of_version header records v = λ records. rw is refl in
    record {
      each = λ f has.
          let found_in : List (Fault RulesFault) = all_faults (fault_of_entry v) 2 [] entries in
          elim (or_else-cases (of_header ++ found_in) (lacking v entries) f (rw (whole entries) at has)) [
            | inr end ↦ inr (inr end)
            | inl some ↦ elim (Contains-append_cases of_header found_in f some)
                [ inl front ↦ inl front | inr record_ ↦ inr (inl ((own.each 2 entries f).0 record_)) ]
          ];
      none = whole (accepted_entries v entries) ∙ rw (own.none 2 entries, append-nil of_header) refl;
      alone = λ r some.
          let accepted = accepted_entries v entries in
          whole (accepted ++ r ∷ []) ∙ rw (own.alone 2 entries r) (or_else-some of_header
          (fault_of_entry v (2 + length accepted) accepted r) (lacking v (accepted ++ r ∷ [])) some);
    }
