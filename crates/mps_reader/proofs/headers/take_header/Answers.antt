use Rattle.std.proofs.Common.{sym, ap, ap₂, arith, false, length, not, ◌∙◌, ◌≡◌, ◌&&◌, ◌∷◌, []}
use Rattle.std.specs.Prelude.{codes, is_none, nat_lt}
use Rattle.std.proofs.lemmas.Bool.{le-ltb, lt-ltb}
use Rattle.program_rows.specs.MpsProgram.{first_free, is_one_of}
use Rattle.program_rows.specs.MpsFaults.{place_of}
use Rattle.auction_terms.specs.Lines.{bytes_of}
use Rattle.mps_reader.specs.inside.Sections.{word_of}
use Rattle.mps_reader.proofs.SectionWordFacts.{named}
use Rattle.mps_reader.proofs.HeaderCaseFacts.{header-more, header-place, header-rest, header-lacks}
use Rattle.mps_reader.proofs.NameFacts.{length-bytes}
use Rattle.mps_reader.proofs.headers.take_header.Goals.{else-stands_alone-via-then-stands_alone+else-more-gt0, else-stands_alone-via-else-stands_alone}
use Rattle.mps_reader.proofs.headers.take_header.Goals.{else-wants_objective-via-then-wants_objective+else-not-has_objective}
use Rattle.mps_reader.proofs.headers.take_header.Goals.{else-wants_objective-via-else-wants_objective}
use Rattle.mps_reader.proofs.headers.take_header.Goals as goal

pub returns-then-place-clause-fault : goal.returns-then-place-clause-fault
returns-then-place-clause-fault c = λ before s o.
    let here : place_of before.section ≡ c.place.result = ap place_of s ∙ sym c.place.ensures in
    let there : place_of c.args.word.now ≡ c.place-2.result = sym (named c.args.word.now).place
    ∙ ap (λ x. place_of (word_of x)) (sym c.section_of-section.ensures) ∙ sym c.place-2.ensures in
    header-place before c.args.word.now (bytes_of c.args.more.now) (sym c.is_left_out.ensures ∙ c.if-is_left_out.false)
    (rw (here, there) (le-ltb _ _ c.if-place.true))

pub returns-then-more-gt0-clause-fault : goal.returns-then-more-gt0-clause-fault
returns-then-more-gt0-clause-fault c = λ before s o.
    let here : place_of before.section ≡ c.place.result = ap place_of s ∙ sym c.place.ensures in
    let there : place_of c.args.word.now ≡ c.place-2.result = sym (named c.args.word.now).place
    ∙ ap (λ x. place_of (word_of x)) (sym c.section_of-section.ensures) ∙ sym c.place-2.ensures in
    header-more before c.args.word.now (bytes_of c.args.more.now) (sym c.is_left_out.ensures ∙ c.if-is_left_out.false)
    (rw (here, there) (lt-ltb _ _ c.if-place.false))
    (ap₂ (λ a b. a && b) (sym c.stands_alone.ensures ∙ c.if-stands_alone.true)
    (lt-ltb 0 (length (bytes_of c.args.more.now)) (omega (arith, length-bytes c.args.more.now))))

pub returns-then-not-has_objective-clause-fault : goal.returns-then-not-has_objective-clause-fault
returns-then-not-has_objective-clause-fault c = λ before s o.
    let here : place_of before.section ≡ c.place.result = ap place_of s ∙ sym c.place.ensures in
    let there : place_of c.args.word.now ≡ c.place-2.result = sym (named c.args.word.now).place
    ∙ ap (λ x. place_of (word_of x)) (sym c.section_of-section.ensures) ∙ sym c.place-2.ensures in
    let alone : (is_one_of c.args.word.now (codes "ROWS" ∷ codes "COLUMNS" ∷ codes "RHS" ∷ codes "BOUNDS" ∷ [])
    && nat_lt 0 (length (bytes_of c.args.more.now))) ≡ false = elim c.else-stands_alone.branch [
      | else-stands_alone-via-then-stands_alone+else-more-gt0 w ↦ ap₂ (λ a b. a && b) (sym c.stands_alone.ensures ∙ w.if-stands_alone.true)
          (le-ltb 0 (length (bytes_of c.args.more.now)) (omega (arith, length-bytes c.args.more.now, w.if-more-gt0.false)))
      | else-stands_alone-via-else-stands_alone w ↦ ap (λ a. a && nat_lt 0 (length (bytes_of c.args.more.now)))
          (sym c.stands_alone.ensures ∙ w.if-stands_alone.false)
    ] in
    header-lacks before c.args.word.now (bytes_of c.args.more.now) (sym c.is_left_out.ensures ∙ c.if-is_left_out.false)
    (rw (here, there) (lt-ltb _ _ c.if-place.false)) alone c.in_ok-take_header_sense.ensures
    (ap₂ (λ a b. a && b) (sym c.wants_objective.ensures ∙ c.if-wants_objective.true) (o ∙ ap not c.if-not-has_objective.true))

pub returns-clause-fault : goal.returns-clause-fault
returns-clause-fault c = λ before s o.
    let here : place_of before.section ≡ c.place.result = ap place_of s ∙ sym c.place.ensures in
    let there : place_of c.args.word.now ≡ c.place-2.result = sym (named c.args.word.now).place
    ∙ ap (λ x. place_of (word_of x)) (sym c.section_of-section.ensures) ∙ sym c.place-2.ensures in
    let alone : (is_one_of c.args.word.now (codes "ROWS" ∷ codes "COLUMNS" ∷ codes "RHS" ∷ codes "BOUNDS" ∷ [])
    && nat_lt 0 (length (bytes_of c.args.more.now))) ≡ false = elim c.else-stands_alone.branch [
      | else-stands_alone-via-then-stands_alone+else-more-gt0 w ↦ ap₂ (λ a b. a && b) (sym c.stands_alone.ensures ∙ w.if-stands_alone.true)
          (le-ltb 0 (length (bytes_of c.args.more.now)) (omega (arith, length-bytes c.args.more.now, w.if-more-gt0.false)))
      | else-stands_alone-via-else-stands_alone w ↦ ap (λ a. a && nat_lt 0 (length (bytes_of c.args.more.now)))
          (sym c.stands_alone.ensures ∙ w.if-stands_alone.false)
    ] in
    header-rest before c.args.word.now (bytes_of c.args.more.now) (sym c.is_left_out.ensures ∙ c.if-is_left_out.false)
    (rw (here, there) (lt-ltb _ _ c.if-place.false)) alone c.in_ok-take_header_sense.ensures
    (elim c.else-wants_objective.branch [
      | else-wants_objective-via-then-wants_objective+else-not-has_objective w ↦
          ap₂ (λ a b. a && b) (sym c.wants_objective.ensures ∙ w.if-wants_objective.true) (o ∙ ap not w.if-not-has_objective.false)
      | else-wants_objective-via-else-wants_objective w ↦
          ap (λ a. a && is_none (first_free before.rows)) (sym c.wants_objective.ensures ∙ w.if-wants_objective.false)
    ])
