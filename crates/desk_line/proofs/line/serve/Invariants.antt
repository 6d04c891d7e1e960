use Rattle.std.proofs.Common.{◌++◌, List}
use Rattle.std.specs.Io.KnownBytes.{Consumes}
use Rattle.desk_line.specs.declared.machine.Front.TheVariants.{Short}
use Rattle.desk_line.specs.Served.{Batch, IsServed, calls_of}
use Rattle.desk_line.proofs.line.serve.Given as goal

abbrev pub invariant-pieces : goal.invariant-pieces
invariant-pieces g l =
    let m = g.M.Machine in
    let o = g.O.Outside in
    ((batches : List (Batch g.row.M.Denot)) × IsServed m.fronts m.answers m.begun m.extent (record {
      state = l.fn.machine;
      kept = o.durable l.fn.out;
      extent = o.extent l.fn.out;
      told = o.told l.fn.out;
      failures = o.failures l.fn.out;
    }) (record {
      state = l.machine;
      kept = o.durable l.out;
      extent = o.extent l.out;
      told = o.told l.out;
      failures = o.failures l.out;
    }) batches × Consumes (g.I.Read.remaining l.fn.input) (g.I.Read.remaining l.input) (calls_of batches ++ l.rest.items)) × m.fronts l.machine l.rest.items Short
