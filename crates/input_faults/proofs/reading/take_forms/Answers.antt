use Rattle.std.proofs.Common.{◌≡◌, ◌≤◌, ◌+◌, ◌++◌, [], ℕ, List, ap, arith, drop, drop_of_length-le, length, refl, slice_index_or}
use Rattle.std.proofs.lemmas.List.{drop_more}
use Rattle.auction_input.proofs.InputTextFacts.{Text}
use Rattle.auction_input.proofs.StageFacts.{left-first}
use Rattle.auction_input.specs.ParsedTexts.{parsed_form}
use Rattle.auction_terms.proofs.AllFaultsFacts.{found-all, found-more}
use Rattle.input_faults.proofs.MergeFacts.{finds-both, finds-none}
use Rattle.auction_terms.specs.AllFaults.{accepted_with, all_faults}
use Rattle.auction_terms.specs.Lines.{bytes_of}
use Rattle.auction_terms.specs.Terms.{Terms}
use Rattle.auction_terms.specs.Judged.{Fault as Judged}
use Rattle.input_faults.specs.InputFaults.{faults_of_form, faults_of_forms}
use Rattle.input_faults.specs.declared.fault.Fault.{Fault}
use Rattle.input_faults.proofs.FormsFacts.{Seen, calls-known, form-less, form-more}
use Rattle.input_faults.proofs.reading.take_forms.Goals.{in-Some, in-None}
use Rattle.input_faults.proofs.reading.take_forms.Goals as goal

abbrev faults_by_form : Terms → ℕ → List (List ℕ) → List ℕ → List (Judged Fault)
faults_by_form t = λ number before text. faults_of_form t number text

pub loop-place-init : goal.loop-place-init
loop-place-init c =
    let t = c.args.rules.now in
    ([], [], refl, finds-none _, ([], refl, left-first (parsed_form t) (bytes_of c.args.texts.now), c.new-calls.ensures, c.new-known.ensures t))

pub loop-place-preserved : goal.loop-place-preserved
loop-place-preserved c =
    let (so_far, accepted, found, keeps, known) = c.loop-place.invariant in
    let t = c.args.rules.now in
    let texts = c.args.texts.now in
    let place = c.loop-place.place in
    let seen : Seen = record { calls = c.loop-place.calls; known = c.loop-place.known } in
    let as_many = c.requires in
    let in_texts = c.loop-place-test.true in
    let none : Text = record { ref_ptr = (0, 0); now = [] } in
    let text = (slice_index_or texts place none).now in
    let next = ap bytes_of (drop_more texts place none c.loop-place-test.true) in
    let of_text = faults_by_form t (place + 1) accepted text in (
      so_far ++ of_text,
      accepted_with of_text accepted text,
      found-more (faults_by_form t) _ so_far (place + 1) accepted _ _ text found next,
      finds-both _ _ _ _ _ keeps c.in_ok-form.ensures.faults,
      elim c.match-branch-2.branch [
        | in-Some w ↦ (
            let reported = rw w.in-Some.is at c.in_ok-form.ensures.form in
            rw (w.all_read-is, w.calls-is, w.known-is) (form-more c.loop-place.all_read t texts c.args.numbers.now place seen
            (record { calls = w.count.new.self; known = w.add.new.self }) text w.in-Some.form (omega arith) known next reported
            w.count.ensures w.add.ensures))
        | in-None w ↦ (
            let (r, reported) = rw w.in-None.is at c.in_ok-form.ensures.form in
            rw w.all_read-is (form-less c.loop-place.all_read t texts c.args.numbers.now place seen seen text r known next reported))
      ],
    )

-- what was found is all, where no form is left
all-found : (t : Terms) (texts : List Text) (place : ℕ) (so_far : List (Judged Fault)) (accepted : List (List ℕ)) → length texts ≤ place
    → faults_of_forms t (bytes_of texts) ≡ so_far ++ all_faults (faults_by_form t) (place + 1) accepted (bytes_of (drop place texts))
    → faults_of_forms t (bytes_of texts) ≡ so_far
all-found t texts place so_far accepted all found =
    found-all (faults_by_form t) _ so_far (place + 1) accepted _ found (ap bytes_of (drop_of_length-le texts all))

pub returns-then-not-all_read-clause-faults : goal.returns-then-not-all_read-clause-faults
returns-then-not-all_read-clause-faults c =
    let (so_far, accepted, found, keeps, known) = c.loop-place.invariant in
    rw (all-found c.args.rules.now c.args.texts.now c.loop-place.place so_far accepted c.loop-place-test.false found) keeps

pub returns-clause-faults : goal.returns-clause-faults
returns-clause-faults c =
    let (so_far, accepted, found, keeps, known) = c.loop-place.invariant in
    rw (all-found c.args.rules.now c.args.texts.now c.loop-place.place so_far accepted c.loop-place-test.false found) keeps

pub returns-clause-call : goal.returns-clause-call
returns-clause-call c =
    let (so_far, accepted, found, keeps, known) = c.loop-place.invariant in
    calls-known c.args.rules.now c.args.texts.now c.args.numbers.now c.loop-place.place _ c.loop-place-test.false (rw c.if-not-all_read.false at known)
