use Rattle.std.proofs.Common.{◌++◌, [], ◌∷◌, Bool, List, ℕ, take, subst}
use Rattle.std.specs.Io.KnownBytes.{Consumes}
use Rattle.desk_line.specs.Fronts.{front_left}
use Rattle.desk_line.specs.Served.{calls_of}
use Rattle.desk_line.proofs.Lines.{served_then, calls_of_then, Consumes_then}
use Rattle.desk_line.proofs.line.serve.Goals as goal

pub pieces-preserved : goal.pieces-preserved
pieces-preserved g c =
    let m = g.M.Machine in
    let was = c.pieces.invariant.0 in
    let taken = c.in_ok-take_piece.ensures.taken in
    let piece : List ℕ = take c.in-Ok.count c.read.new.buf in
    let rest : List ℕ = c.pieces.rest.items in
    let left : List ℕ = c.take_piece.new.rest.items in (
      (
        was.0 ++ taken.0 ∷ [],
        served_then m.fronts m.answers m.begun m.extent g.met.M.Machine.extent_after g.met.M.Machine.extent_begun _ _ _ was.0 taken.0 (rest ++ piece) left was.1 taken.1,
        subst (λ (l : List ℕ). Consumes (g.I.Read.remaining c.args.input.now) (g.I.Read.remaining c.read.new.self) l)
            (calls_of_then was.0 taken.0 rest piece left taken.1.bytes_are)
            (Consumes_then _ _ _ (calls_of was.0 ++ rest) piece was.2 c.in-Ok.ensures.bytes.0),
      ),
      subst (λ (b : Bool). m.fronts c.take_piece.new.machine left (front_left b)) c.if-branch.false c.in_ok-take_piece.ensures.left,
    )

pub returns-then-branch-clause-served : goal.returns-then-branch-clause-served
returns-then-branch-clause-served g c =
    let m = g.M.Machine in
    let was = c.pieces.invariant.0 in
    let taken = c.in_ok-take_piece.ensures.taken in
    let piece : List ℕ = take c.in-Ok.count c.read.new.buf in
    let rest : List ℕ = c.pieces.rest.items in
    let left : List ℕ = c.take_piece.new.rest.items in (
      was.0 ++ taken.0 ∷ [],
      served_then m.fronts m.answers m.begun m.extent g.met.M.Machine.extent_after g.met.M.Machine.extent_begun _ _ _ was.0 taken.0 (rest ++ piece) left was.1 taken.1,
      subst (λ (l : List ℕ). Consumes (g.I.Read.remaining c.args.input.now) (g.I.Read.remaining c.read.new.self) l)
          (calls_of_then was.0 taken.0 rest piece left taken.1.bytes_are)
          (Consumes_then _ _ _ (calls_of was.0 ++ rest) piece was.2 c.in-Ok.ensures.bytes.0),
    )
