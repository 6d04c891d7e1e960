use Rattle.std.proofs.Common.{◌≡◌, ◌∷◌, [], Some, false, rules, true}
use Rattle.std.specs.List.{list_any}
use Rattle.indexmap.specs.IndexSet.{keys}
use Rattle.auction_input.specs.FileCalls.{replaced, rights}
use Rattle.auction_input.specs.FileLooks.{absent, is_same, present, read_too, standard, unreplaced}
use Rattle.auction_input.specs.FileTexts.{is_standard_output}
use Rattle.auction_input.proofs.FileCallFacts.{made-more}
use Rattle.auction_input.proofs.look.look_at_written.Goals as goal

pub returns-then-is_standard_output-clause-found : goal.returns-then-is_standard_output-clause-found
returns-then-is_standard_output-clause-found g c =
    let is : is_standard_output c.args.name.now ≡ true = search rules in
    standard is

pub returns-in-Ok-None-clause-found : goal.returns-in-Ok-None-clause-found
returns-in-Ok-None-clause-found g c =
    let other : is_standard_output c.args.name.now ≡ false = search rules in
    absent other (rw c.in-Ok-None.field-0-is at c.in-Ok-None.ensures.found)

pub returns-in-Err-clause-found : goal.returns-in-Err-clause-found
returns-in-Err-clause-found g c =
    let other : is_standard_output c.args.name.now ≡ false = search rules in
    unreplaced c.in-Err.fault other c.in-Err.ensures.found

pub returns-then-contains-clause-found : goal.returns-then-contains-clause-found
returns-then-contains-clause-found g c =
    let other : is_standard_output c.args.name.now ≡ false = search rules in
    let is_read : list_any (is_same (Some c.in-Ok-Some.file)) (keys c.args.seen.now) ≡ true = search rules in
    read_too c.in-Ok-Some.file other (rw c.in-Ok-Some.field-0-is at c.in-Ok-Some.ensures.found) is_read

pub returns-clause-found : goal.returns-clause-found
returns-clause-found g c =
    let other : is_standard_output c.args.name.now ≡ false = search rules in
    let unread : list_any (is_same (Some c.in-Ok-Some.file)) (keys c.args.seen.now) ≡ false = search rules in
    present c.in-Ok-Some.file c.rights.result other (rw c.in-Ok-Some.field-0-is at c.in-Ok-Some.ensures.found) unread (rw c.replaced.ensures.shelf_kept at c.rights.ensures.found)

pub returns-clause-called : goal.returns-clause-called
returns-clause-called g c =
    let name = c.args.name.now in
    let other : is_standard_output name ≡ false = search rules in
    (true, rw other (made-more (replaced name ∷ []) (rights name ∷ []) _ _ _ c.replaced.ensures.called c.rights.ensures.called))
