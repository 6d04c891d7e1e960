use Rattle.std.proofs.Common.{refl, length, []}
use Rattle.auction_terms.specs.Lines.{bytes_of}
use Rattle.mps_reader.proofs.LineFacts.{marker-tells}
use Rattle.mps_reader.specs.inside.Rows.{names_of}
use Rattle.mps_reader.proofs.ColumnStepFacts.{begun-fit, apart-none}
use Rattle.mps_reader.proofs.entries.take_marker_line.Goals as goal

pub returns-clause-fit : goal.returns-clause-fit
returns-clause-fit c = λ r both.
    let fit = c.in_ok-close_column.ensures.fit (length r.rows.items) both.columns in
    record {
      columns = begun-fit (length r.rows.items) c.close_column.new.columns _ fit refl refl refl refl refl;
      apart = apart-none r.stamps.items r.places.items (length (names_of c.close_column.new.columns.names))
          c.close_column.new.columns.current_column.entries.items (fit.closed c.in_ok-close_column.ensures.closed);
    }

pub returns-clause-tells : goal.returns-clause-tells
returns-clause-tells c = λ marker objective rows lines fit h.
    let closed = c.in_ok-close_column.ensures.tells objective rows lines [] fit h in
    marker-tells (bytes_of c.args.fields.now) objective rows lines c.close_column.new.columns _ marker refl refl refl
    c.in_ok-close_column.ensures.closed (closed.closed c.in_ok-close_column.ensures.closed) c.in_ok-is_begun.ensures.value closed
