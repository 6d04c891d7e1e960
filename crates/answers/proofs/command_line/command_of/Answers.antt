use Rattle.std.proofs.Common.{◌⊎◌, ◌≡◌, List, ℕ, map}
use Rattle.std.specs.Vec.Iter.{into_iter_items}
use Rattle.clap.specs.Words.{HasKind, kind_of}
use Rattle.clap.specs.declared.error.kind.ErrorKind.TheVariants as kind
use Rattle.auction_input.proofs.StepFacts.{if-err-of}
use Rattle.answers.specs.Asked.{asked, by_fault, faults_of, text_of}
use Rattle.answers.proofs.AskedFacts.{among-faults, among-target, parsed-answer, parsed-fault, parsed-target, parsed-words}
use Rattle.answers.proofs.command_line.command_of.Goals as goal

pub returns-in_err-matches-clause-shown : goal.returns-in_err-matches-clause-shown
returns-in_err-matches-clause-shown c =
    let words : List (List ℕ) = map text_of (into_iter_items c.args.words) in
    let same = parsed-words _ _ _ _ _ c.as_slice.ensures.value c.in_ok-words.ensures c.in_ok-texts.ensures c.as_slice-2.ensures.value in
    let e = c.in_err-matches.field-0.0 in
    if-err-of (λ x. (kind_of x ≡ kind.OutOfMemory) ⊎ (asked words ≡ by_fault (kind_of x))) c.from_residual-in_err-matches.result e
    c.from_residual-in_err-matches.ensures.1 (parsed-fault words _ same e c.in_err-matches.ensures.faults)

pub returns-in_err-matches-clause-faults : goal.returns-in_err-matches-clause-faults
returns-in_err-matches-clause-faults c =
    let words : List (List ℕ) = map text_of (into_iter_items c.args.words) in
    let same = parsed-words _ _ _ _ _ c.as_slice.ensures.value c.in_ok-words.ensures c.in_ok-texts.ensures c.as_slice-2.ensures.value in
    let e = c.in_err-matches.field-0.0 in
    if-err-of (HasKind (faults_of words)) c.from_residual-in_err-matches.result e c.from_residual-in_err-matches.ensures.1
    (among-faults words _ same e c.in_err-matches.ensures.faults)

pub returns-clause-asked : goal.returns-clause-asked
returns-clause-asked c =
    let words : List (List ℕ) = map text_of (into_iter_items c.args.words) in
    let same = parsed-words _ _ _ _ _ c.as_slice.ensures.value c.in_ok-words.ensures c.in_ok-texts.ensures c.as_slice-2.ensures.value in
    parsed-answer words _ same _ _ c.in_ok-matches.ensures.faults c.in_ok-matches.ensures.subcommand c.in_ok-check_target.ensures.known
    c.in_ok-read.ensures.line

pub returns-in_err-check_target-clause-shown : goal.returns-in_err-check_target-clause-shown
returns-in_err-check_target-clause-shown c =
    let words : List (List ℕ) = map text_of (into_iter_items c.args.words) in
    let same = parsed-words _ _ _ _ _ c.as_slice.ensures.value c.in_ok-words.ensures c.in_ok-texts.ensures c.as_slice-2.ensures.value in
    let e = c.in_err-check_target.field-0.0 in
    if-err-of (λ x. (kind_of x ≡ kind.OutOfMemory) ⊎ (asked words ≡ by_fault (kind_of x))) c.from_residual-in_err-check_target.result e
    c.from_residual-in_err-check_target.ensures.1
    (parsed-target words _ same _ e c.in_ok-matches.ensures.faults c.in_ok-matches.ensures.subcommand c.in_err-check_target.ensures.unknown)

pub returns-in_err-check_target-clause-faults : goal.returns-in_err-check_target-clause-faults
returns-in_err-check_target-clause-faults c =
    let words : List (List ℕ) = map text_of (into_iter_items c.args.words) in
    let same = parsed-words _ _ _ _ _ c.as_slice.ensures.value c.in_ok-words.ensures c.in_ok-texts.ensures c.as_slice-2.ensures.value in
    let e = c.in_err-check_target.field-0.0 in
    if-err-of (HasKind (faults_of words)) c.from_residual-in_err-check_target.result e c.from_residual-in_err-check_target.ensures.1
    (among-target words _ same _ e c.in_ok-matches.ensures.faults c.in_ok-matches.ensures.subcommand c.in_err-check_target.ensures.unknown)
