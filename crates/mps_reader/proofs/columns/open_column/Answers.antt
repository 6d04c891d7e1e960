use Rattle.std.proofs.Common.{[], ◌∙◌, ap, sym, length}
use Rattle.mps_reader.specs.inside.Rows.{names_of}
use Rattle.mps_reader.proofs.ColumnStepFacts.{opened-fit, apart-none, current-is}
use Rattle.mps_reader.proofs.ColumnFacts.{added-tells}
use Rattle.mps_reader.proofs.columns.open_column.Goals as goal

pub returns-clause-fit : goal.returns-clause-fit
returns-clause-fit c =
    λ count fit. opened-fit count c.close_column.new.columns c.add_column.new.columns c.args.name.now (c.in_ok-close_column.ensures.fit count fit)
    c.in_ok-close_column.ensures.closed c.requires c.in_ok-add_column.ensures.added

pub returns-clause-apart : goal.returns-clause-apart
returns-clause-apart c = λ count stamps places fit a.
    apart-none stamps places (length (names_of c.add_column.new.columns.names)) c.add_column.new.columns.current_column.entries.items
    (ap (λ q. q.entries.items) c.in_ok-add_column.ensures.added.opened ∙ (c.in_ok-close_column.ensures.fit count fit).closed
    c.in_ok-close_column.ensures.closed)

pub returns-then-is_current-clause-current : goal.returns-then-is_current-clause-current
returns-then-is_current-clause-current c = current-is c.args.columns.now.current c.args.name.now (sym c.is_current.ensures ∙ c.if-is_current.true)

pub returns-clause-added : goal.returns-clause-added
returns-clause-added c = λ other objective rows lines fit h.
    added-tells objective rows lines c.close_column.new.columns c.add_column.new.columns c.args.name.now
    (c.in_ok-close_column.ensures.fit (length rows) fit) c.in_ok-close_column.ensures.closed c.in_ok-add_column.ensures.added
    (c.in_ok-close_column.ensures.tells objective rows lines [] fit h)
