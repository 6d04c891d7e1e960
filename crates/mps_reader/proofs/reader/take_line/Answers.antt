use Rattle.std.proofs.Common.{rules, ◌∙◌, Bool}
use Rattle.auction_terms.specs.LineFields.{fields}
use Rattle.auction_terms.specs.Lines.{bytes_of}
use Rattle.mps_reader.proofs.AnswerFacts.{handed-on}
use Rattle.mps_reader.proofs.LineAnswerFacts.{skipped-fault, skipped-next, unprintable-fault, header-answer, header-next, data-answer, data-next}
use Rattle.mps_reader.proofs.reader.take_line.Goals as goal

pub returns-in-Skipped-clause-fault : goal.returns-in-Skipped-clause-fault
returns-in-Skipped-clause-fault c = λ before h. skipped-fault before c.args.line.now c.in-Skipped.ensures

pub returns-in-Skipped-clause-tells : goal.returns-in-Skipped-clause-tells
returns-in-Skipped-clause-tells c = λ before h. skipped-next before c.args.line.now c.args.reading.now c.in-Skipped.ensures h

pub returns-in-Unprintable-clause-fault : goal.returns-in-Unprintable-clause-fault
returns-in-Unprintable-clause-fault c = λ before h. unprintable-fault before c.args.line.now c.in-Unprintable.ensures

pub returns-in_err-take_data-in-Data-clause-fault : goal.returns-in_err-take_data-in-Data-clause-fault
returns-in_err-take_data-in-Data-clause-fault c = λ before h.
    handed-on (Unit {0}) c.from_residual-in_err-take_data-in-Data.result c.in_err-take_data-in-Data.field-0.0 _ _ (search rules)
    (λ kind k. data-answer before c.args.line.now (bytes_of c.as_slice-in-Data.result.now) (fields c.args.line.now) c.in-Data.ensures.0
    (rw c.as_slice-in-Data.ensures.value c.in-Data.ensures.1) ∙ k) (c.in_err-take_data-in-Data.ensures.fault before h)

pub returns-in_ok-take_data-in-Data-clause-fault : goal.returns-in_ok-take_data-in-Data-clause-fault
returns-in_ok-take_data-in-Data-clause-fault c = λ before h.
    data-answer before c.args.line.now (bytes_of c.as_slice-in-Data.result.now) (fields c.args.line.now) c.in-Data.ensures.0
    (rw c.as_slice-in-Data.ensures.value c.in-Data.ensures.1) ∙ c.in_ok-take_data-in-Data.ensures.fault before h

pub returns-in_ok-take_data-in-Data-clause-tells : goal.returns-in_ok-take_data-in-Data-clause-tells
returns-in_ok-take_data-in-Data-clause-tells c = λ before h.
    data-next before c.args.line.now (bytes_of c.as_slice-in-Data.result.now) (fields c.args.line.now) c.take_data.new.reading c.in-Data.ensures.0
    (rw c.as_slice-in-Data.ensures.value c.in-Data.ensures.1) (c.in_ok-take_data-in-Data.ensures.fault before h)
    (c.in_ok-take_data-in-Data.ensures.tells before h)

pub returns-in_err-is_end-in-Header-clause-fault : goal.returns-in_err-is_end-in-Header-clause-fault
returns-in_err-is_end-in-Header-clause-fault c = λ before h.
    handed-on Bool c.from_residual.result c.in_err-is_end-in-Header.field-0.0 _ _ (search rules)
    (λ kind k. header-answer before c.args.line.now (bytes_of c.as_slice.result.now) (fields c.args.line.now) c.in-Header.ensures.0
    (rw c.as_slice.ensures.value c.in-Header.ensures.1) ∙ k) (c.in_err-is_end-in-Header.ensures.fault before h)

pub returns-in_ok-is_end-in-Header-clause-fault : goal.returns-in_ok-is_end-in-Header-clause-fault
returns-in_ok-is_end-in-Header-clause-fault c = λ before h.
    header-answer before c.args.line.now (bytes_of c.as_slice.result.now) (fields c.args.line.now) c.in-Header.ensures.0
    (rw c.as_slice.ensures.value c.in-Header.ensures.1) ∙ c.in_ok-is_end-in-Header.ensures.fault before h

pub returns-in_ok-is_end-in-Header-clause-tells : goal.returns-in_ok-is_end-in-Header-clause-tells
returns-in_ok-is_end-in-Header-clause-tells c = λ before h.
    header-next before c.args.line.now (bytes_of c.as_slice.result.now) (fields c.args.line.now) c.take_header_line.new.reading c.in-Header.ensures.0
    (rw c.as_slice.ensures.value c.in-Header.ensures.1) (λ more. c.in_ok-is_end-in-Header.ensures.tells before more h)
