use Rattle.std.proofs.Common.{◌≡◌, ◌+◌, ◌++◌, [], None, Some, length, rules}
use Rattle.csv.specs.Records.{fields_of}
use Rattle.auction_terms.proofs.AcceptedFacts.{both-none}
use Rattle.auction_terms.proofs.JudgeFacts.{gives-same, held-some, none-held}
use Rattle.auction_terms.proofs.RulesTextFacts.{end-none, end-some}
use Rattle.auction_terms.specs.AllFaults.{all_faults}
use Rattle.auction_terms.specs.FirstFault.{first_failed}
use Rattle.auction_terms.specs.Judged.{Holds, fault_of, kept_fault}
use Rattle.auction_terms.specs.RulesText.{end_checks, entries_of, fault_of_entry, header_checks}
use Rattle.auction_terms.proofs.rules_text.judge_records.Goals as goal

pub returns-then-not-is_empty-clause-told : goal.returns-then-not-is_empty-clause-told
returns-then-not-is_empty-clause-told c =
    let held = c.in_ok-count.ensures.told _ _ (c.in_ok-step.ensures.told _ [] c.requires.none) in
    (held-some _ _ _ _ held (λ none. (let e = c.is_empty.ensures in let f = c.if-not-is_empty.true in search rules))).0

pub returns-then-not-is_empty-clause-step : goal.returns-then-not-is_empty-clause-step
returns-then-not-is_empty-clause-step c =
    let held = c.in_ok-count.ensures.told _ _ (c.in_ok-step.ensures.told _ [] c.requires.none) in
    (held-some _ _ _ _ held (λ none. (let e = c.is_empty.ensures in let f = c.if-not-is_empty.true in search rules))).1

pub returns-in_ok-add-in-Some-clause-told : goal.returns-in_ok-add-in-Some-clause-told
returns-in_ok-add-in-Some-clause-told c =
    let v = c.args.version in
    let more = c.args.reader.now in
    let header = fault_of (header_checks v (fields_of c.args.header.now)) in
    let entries = all_faults (fault_of_entry v) 2 [] more in
    let held : Holds c.args.faults.now.most c.judge_entries.new.faults (header ++ entries) =
    c.in_ok-count.ensures.told _ _ (c.in_ok-step.ensures.told _ [] c.requires.none) in
    let empty : length c.judge_entries.new.faults.kept.items ≡ 0 = (let e = c.is_empty.ensures in let f = c.if-not-is_empty.false in search rules) in
    let none : header ++ entries ≡ [] = none-held _ _ (header ++ entries) c.requires.room held empty in
    let draft : c.judge_entries.new.draft ≡ entries_of v more = c.in_ok-count.ensures.read (both-none header entries none).1 in
    let is : Some (kept_fault c.in-Some.at) ≡ first_failed (end_checks (length more + 1) (entries_of v more)) =
    rw (draft, c.in_ok-count.ensures.count) at c.in-Some.ensures in
    let told = rw none at (c.in_ok-add-in-Some.ensures c.args.faults.now.most (header ++ entries) held) in
    rw (end-some (header ++ entries) _ (kept_fault c.in-Some.at) none is) told

pub returns-in-None-clause-told : goal.returns-in-None-clause-told
returns-in-None-clause-told c =
    let v = c.args.version in
    let more = c.args.reader.now in
    let header = fault_of (header_checks v (fields_of c.args.header.now)) in
    let entries = all_faults (fault_of_entry v) 2 [] more in
    let held : Holds c.args.faults.now.most c.judge_entries.new.faults (header ++ entries) =
    c.in_ok-count.ensures.told _ _ (c.in_ok-step.ensures.told _ [] c.requires.none) in
    let empty : length c.judge_entries.new.faults.kept.items ≡ 0 = (let e = c.is_empty.ensures in let f = c.if-not-is_empty.false in search rules) in
    let none : header ++ entries ≡ [] = none-held _ _ (header ++ entries) c.requires.room held empty in
    let draft : c.judge_entries.new.draft ≡ entries_of v more = c.in_ok-count.ensures.read (both-none header entries none).1 in
    let is : None ≡ first_failed (end_checks (length more + 1) (entries_of v more)) = rw (draft, c.in_ok-count.ensures.count) at c.in-None.ensures in
    rw (end-none (header ++ entries) _ none is) (rw none at held)

pub returns-in-None-clause-step : goal.returns-in-None-clause-step
returns-in-None-clause-step c =
    let v = c.args.version in
    let more = c.args.reader.now in
    let header = fault_of (header_checks v (fields_of c.args.header.now)) in
    let entries = all_faults (fault_of_entry v) 2 [] more in
    let held : Holds c.args.faults.now.most c.judge_entries.new.faults (header ++ entries) =
    c.in_ok-count.ensures.told _ _ (c.in_ok-step.ensures.told _ [] c.requires.none) in
    let empty : length c.judge_entries.new.faults.kept.items ≡ 0 = (let e = c.is_empty.ensures in let f = c.if-not-is_empty.false in search rules) in
    let none : header ++ entries ≡ [] = none-held _ _ (header ++ entries) c.requires.room held empty in
    let draft : c.judge_entries.new.draft ≡ entries_of v more = c.in_ok-count.ensures.read (both-none header entries none).1 in
    let is : None ≡ first_failed (end_checks (length more + 1) (entries_of v more)) = rw (draft, c.in_ok-count.ensures.count) at c.in-None.ensures in
    gives-same header _ _ _ c.in_ok-step.ensures.step (both-none header entries none).0 (end-none (header ++ entries) (end_checks (length more + 1) (entries_of v more)) none is)
