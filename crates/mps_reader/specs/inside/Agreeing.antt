-- What holds of a reading after each line.
use Rattle.std.specs.Prelude.{◌≡◌, false, is_some}
use Rattle.mps_reader.specs.inside.Rows.{RowsFit}
use Rattle.mps_reader.specs.inside.Columns.{BothFit}
use Rattle.mps_reader.specs.declared.sections.Section.{Section}
use Rattle.mps_reader.specs.declared.sections.Section.TheVariants as sections
use Rattle.mps_reader.specs.declared.tables.ColumnTable.{ColumnTable}
use Rattle.mps_reader.specs.declared.tables.Reading.{Reading}

-- a column is open in its section alone
abbrev pub IsClosed : Section → ColumnTable → Type 0
IsClosed sections.Start c = is_some c.current ≡ false
IsClosed sections.Name c = is_some c.current ≡ false
IsClosed sections.Sense c = is_some c.current ≡ false
IsClosed sections.Rows c = is_some c.current ≡ false
IsClosed sections.Columns c = Unit {0}
IsClosed sections.RightSides c = is_some c.current ≡ false
IsClosed sections.Bounds c = is_some c.current ≡ false
IsClosed sections.End c = is_some c.current ≡ false

-- the rows and the columns of a reading fit to each other, and no column is open outside its section
pub record ReadingFits (r : Reading) : Type 0 where
  pub rows : RowsFit r.rows
  pub both : BothFit r.rows r.columns
  pub closed : IsClosed r.section r.columns
