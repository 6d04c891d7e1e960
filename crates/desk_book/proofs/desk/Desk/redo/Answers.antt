use Rattle.std.proofs.Common.{◌≡◌, ◌∙◌, List, None, true, false, ℕ, ap, refl, sym, arith}
use Rattle.std.specs.Str.{bytes_eq}
use Rattle.bid_book.specs.History.{is_closed}
use Rattle.desk_book.proofs.SameEntry.{not_beyond, not_unanswered, not_unasked, not_unread, same_text}
use Rattle.desk_book.specs.ReadEntries.{head_read}
use Rattle.desk_book.specs.Recording.{IsRecordedAs, answer_due}
use Rattle.std.specs.Prelude.{not}
use Rattle.std.proofs.lemmas.Slice.Eq.{bytes_eq-Decides}
use Rattle.desk_book.proofs.ReadAgain.{match_none, match_some, next_entry, open_if}
use Rattle.desk_book.proofs.desk.Desk.redo.Goals as goal

pub returns-in-Some-2-clause-same : goal.returns-in-Some-2-clause-same
returns-in-Some-2-clause-same g c =
    let few = c.if-durable-extent.false in
    let extent = c.extent.ensures in
    λ same. next_entry c.args.self.now c.set_durable.new.self c.record.new.self c.in-Some.durable c.in-Some-asked_in.asked c.args.bytes.now
    c.in_ok-recorded.field-0 c.in-Some-2.recorded c.set_durable.ensures c.in_ok-recorded.ensures c.in-Some-2.is (omega (arith, few, extent))
    c.in-Some.ensures.bound (open_if (is_closed c.args.self.now.book) (sym c.is_open.ensures ∙ c.if-not-is_open.false))
    (ap (λ (l : List ℕ). bytes_eq l c.args.bytes.now) (sym c.as_slice.ensures.value) ∙ sym c.eq.ensures ∙ same)

pub returns-in_default-clause-other : goal.returns-in_default-clause-other
returns-in_default-clause-other g c =
    λ no e is words form text. not_unread c.args.self.now e is (head_read c.args.text.now.head) c.args.text.now.sealed.now words form (sym c.in_default.ensures.value)

pub returns-then-durable-extent-clause-other : goal.returns-then-durable-extent-clause-other
returns-then-durable-extent-clause-other g c =
    let more = c.if-durable-extent.true in
    let extent = c.extent.ensures in
    λ no e is words form text. not_beyond c.args.self.now e is (head_read c.args.text.now.head) c.args.text.now.sealed.now words form c.in-Some.durable
    (sym c.in-Some.ensures.value) (omega (arith, more, extent))

pub returns-then-not-is_open-clause-other : goal.returns-then-not-is_open-clause-other
returns-then-not-is_open-clause-other g c =
    let closed = c.if-not-is_open.true in
    λ no e is words form text. (let open_then : c.is_open.result ≡ true = c.is_open.ensures ∙ ap not is.is_open in cc)

pub returns-in_default-asked_in-clause-other : goal.returns-in_default-asked_in-clause-other
returns-in_default-asked_in-clause-other g c =
    λ no e is words form text. not_unasked c.args.self.now e is (head_read c.args.text.now.head) c.args.text.now.sealed.now words form None
    c.in_default-asked_in.ensures.asked refl

pub returns-in-Some-2-clause-other : goal.returns-in-Some-2-clause-other
returns-in-Some-2-clause-other g c =
    let m = c.args.self.now in
    let s = c.set_durable.new.self in
    let a = c.in-Some-asked_in.asked in
    let r = c.in-Some-2.recorded in
    let bytes : List ℕ = c.args.bytes.now in
    let items : List ℕ = r.entry.items in
    let recorded : IsRecordedAs s a r.answer items c.record.new.self =
    match_some c.in_ok-recorded.field-0 r ((c.record.new.self ≡ s) × (answer_due s a ≡ None)) (λ r. IsRecordedAs s a r.answer r.entry.items c.record.new.self)
    c.in_ok-recorded.ensures c.in-Some-2.is in
    λ no e is words form text.
    (let same : e.text ≡ items = same_text m e is (head_read c.args.text.now.head) c.args.text.now.sealed.now words form s c.in-Some.durable a c.set_durable.ensures
    (sym c.in-Some.ensures.value) c.in-Some-asked_in.ensures.asked r.answer items c.record.new.self recorded in
    let equal : bytes_eq items bytes ≡ true = (bytes_eq-Decides items bytes).1 (sym same ∙ text) in
    let test : bytes_eq items bytes ≡ false = ap (λ (l : List ℕ). bytes_eq l bytes) (sym c.as_slice.ensures.value) ∙ sym c.eq.ensures ∙ no in
    cc)

pub returns-in-None-clause-other : goal.returns-in-None-clause-other
returns-in-None-clause-other g c =
    let s = c.set_durable.new.self in
    let a = c.in-Some-asked_in.asked in
    let unanswered = match_none c.in_ok-recorded.field-0 ((c.record.new.self ≡ s) × (answer_due s a ≡ None))
    (λ r. IsRecordedAs s a r.answer r.entry.items c.record.new.self) c.in_ok-recorded.ensures c.in-None.is in
    λ no e is words form text. not_unanswered c.args.self.now e is (head_read c.args.text.now.head) c.args.text.now.sealed.now words form s c.in-Some.durable a
    c.set_durable.ensures (sym c.in-Some.ensures.value) c.in-Some-asked_in.ensures.asked unanswered.1
