use Rattle.std.proofs.Common.{◌≡◌, ℕ, ◌+◌, ◌∷◌, [], ◌++◌, ◌∙◌, ap, sym, refl, map, length, arith, rules, length-append}
use Rattle.auction_terms.specs.Lines.{lines_of}
use Rattle.auction_terms.proofs.LineCountFacts.{lines-within}
use Rattle.mps_reader.proofs.EndFacts.{moved}
use Rattle.std.specs.Prelude.{Ok, is_some}
use Rattle.mps_reader.specs.inside.Rows.{names_of}
use Rattle.mps_reader.proofs.ColumnStepFacts.{apart-none}
use Rattle.mps_reader.proofs.FitFacts.{empty-columns}
use Rattle.program_rows.specs.MpsLines.{line_of}
use Rattle.program_rows.specs.MpsSections.{no_lines, with_line}
use Rattle.mps_reader.proofs.LineAnswerFacts.{meaning-starts, meaning-goes-on, meaning-ends, program-ended}
use Rattle.program_rows.specs.MpsMeaning.{meaning_after}
use Rattle.mps_reader.proofs.reader.read_lines.Goals as goal

pub overflow_add-place : goal.overflow_add-place
overflow_add-place c =
    let h = c.loop-line.invariant.1 in
    omega (arith, c.requires, lines-within c.args.text.now, ap length h.1 ∙ length-append h.0 c.loop-line.lines, h.2)

pub loop-line-preserved : goal.loop-line-preserved
loop-line-preserved c =
    let h = c.loop-line.invariant.1 in
    let m = c.loop-line.invariant.2 in
    let size = length-append h.0 (c.in-Some.line.now ∷ []) in
    let count : c.loop-line.place + 1 ≡ length (h.0 ++ c.in-Some.line.now ∷ []) = ap (λ (n : ℕ). n + 1) h.2 ∙ sym size in (
      c.in-Ok.ensures.fit,
      (
        h.0 ++ c.in-Some.line.now ∷ [],
        moved (lines_of c.args.text.now) h.0 c.loop-line.lines c.next.new.self c.in-Some.line.now h.1 c.in-Some.ensures,
        count,
      ),
      (
        with_line m.0 (line_of c.in-Some.line.now),
        meaning-goes-on c.args.text.now c.loop-line.place m.0 c.loop-line.lines c.next.new.self c.in-Some.line.now m.1 c.in-Some.ensures
            (c.in-Ok.ensures.fault m.0 m.2) (sym c.in-Ok.ensures.end ∙ c.if-is_end.false),
        c.in-Ok.ensures.tells m.0 m.2,
      ),
    )

pub loop-line-init : goal.loop-line-init
loop-line-init c = (
  record {
    rows = c.new.ensures.fit;
    both = record {
      columns = empty-columns (length c.new.result.rows.items) c.new-2.result c.new-2.ensures;
      apart = apart-none c.new.result.stamps.items c.new.result.places.items (length (names_of c.new-2.result.names))
          c.new-2.result.current_column.entries.items c.new-2.ensures.entries;
    };
    closed = ap is_some c.new-2.ensures.current;
  },
  ([], sym c.new-lines.ensures, refl),
  (no_lines, meaning-starts c.args.text.now ∙ ap (λ ls. meaning_after 0 no_lines (map line_of ls)) (sym c.new-lines.ensures), search rules),
)

pub returns-in-Ok-finished-clause-meaning : goal.returns-in-Ok-finished-clause-meaning
returns-in-Ok-finished-clause-meaning c =
    let m = c.loop-line.invariant.2 in
    let end = sym c.in-Ok.ensures.end ∙ c.if-is_end.true in
    meaning-ends c.args.text.now c.loop-line.place m.0 c.loop-line.lines c.next.new.self c.in-Some.line.now m.1 c.in-Some.ensures
    (c.in-Ok.ensures.fault m.0 m.2) end
    ∙ ap (λ p. Ok p) (sym (program-ended m.0 (line_of c.in-Some.line.now) end) ∙ c.in-Ok-finished.ensures (with_line m.0 (line_of c.in-Some.line.now))
    (c.in-Ok.ensures.tells m.0 m.2))
