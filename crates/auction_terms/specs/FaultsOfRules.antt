-- What all faults of a text of rules are, after a header that gives a version.
use Rattle.std.specs.Prelude.{◌≡◌, ◌≢◌, ◌⊎◌, ◌+◌, ◌++◌, List, [], ◌∷◌, length}
use Rattle.std.specs.List.{Contains}
use Rattle.auction_terms.specs.Accepted.{IsOfItem, accepted_of}
use Rattle.auction_terms.specs.AllFaults.{or_else}
use Rattle.auction_terms.specs.Judged.{Fault, fault_of}
use Rattle.auction_terms.specs.Records.{Record}
use Rattle.auction_terms.specs.RulesText.{end_checks, entries_of, fault_of_entry, header_checks, rules_faults}
use Rattle.auction_terms.specs.declared.record_kinds.Version.{Version}
use Rattle.auction_terms.specs.declared.rules_text.RulesFault.{RulesFault}

-- what all records after a header lack: a category, or else a bidder
abbrev pub lacking : Version → List Record → List (Fault RulesFault)
lacking v entries = fault_of (end_checks (length entries + 1) (entries_of v entries))

-- the records after a header without those that have a fault
abbrev pub accepted_entries : Version → List Record → List Record
accepted_entries v entries = accepted_of (fault_of_entry v) 2 [] entries

-- each fault is the header's, or a record's by the accepted ones before it, or what all lack. Of the accepted ones alone the header's is
-- left, and what these lack; and with one more record after them that has a fault just the header's and that one
pub record RulesFaultsAreOfRecords (v : Version) (header : Record) (entries : List Record) : Type 0 where
  pub each : (f : Fault RulesFault) → Contains (rules_faults (header ∷ entries)) f
      → Contains (fault_of (header_checks v header)) f ⊎ (IsOfItem (fault_of_entry v) 2 entries f ⊎ Contains (lacking v entries) f)
  pub none : rules_faults (header ∷ accepted_entries v entries) ≡ or_else (fault_of (header_checks v header)) (lacking v (accepted_entries v entries))
  pub alone : (r : Record) →
      let accepted = accepted_entries v entries in
      let faults = fault_of_entry v (2 + length accepted) accepted r in
      faults ≢ [] → rules_faults (header ∷ accepted ++ r ∷ []) ≡ fault_of (header_checks v header) ++ faults
