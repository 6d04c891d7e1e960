use Rattle.std.proofs.Common.{◌≤◌, ◌-◌, ◌+◌, ◌++◌, ◌∷◌, [], List, ℕ, length, take, drop, ap, arith, length-drop}
use Rattle.std.proofs.lemmas.List.{take_rest}
use Rattle.desk_line.specs.Fronts.{Step}
use Rattle.desk_line.specs.declared.machine.Front.TheVariants.{Whole}
use Rattle.desk_line.proofs.Lines.{answered_nothing, answered-push, call_found}
use Rattle.desk_line.proofs.line.answer.Goals as goal

pub calls-init : goal.calls-init
calls-init g c =
    let m = g.M.Machine in
    ([], rw (c.new-told.ensures.items, c.new-kept.ensures.items) (answered_nothing m.fronts m.answers c.args.machine.now c.args.bytes.now))

pub step-requires : goal.step-requires
step-requires g c =
    let m = c.calls.machine in
    let rest : List ℕ = take (length c.args.bytes.now - c.calls.used) (drop c.calls.used c.args.bytes.now) in
    let within = g.met.M.Machine.front_within m rest (Whole c.in-Whole.len) c.in-Whole.ensures in
    call_found g.M.Machine.fronts g.M.Machine.answers m (g.met.M.Machine.front_whole m) rest c.in-Whole.len within.1 c.in-Whole.ensures

pub overflow_add-used : goal.overflow_add-used
overflow_add-used g c =
    let m = c.calls.machine in
    let rest : List ℕ = take (length c.args.bytes.now - c.calls.used) (drop c.calls.used c.args.bytes.now) in
    let within = g.met.M.Machine.front_within m rest (Whole c.in-Whole.len) c.in-Whole.ensures in
    omega (arith, within.1, ap length (take_rest c.args.bytes.now c.calls.used), length-drop c.calls.used c.args.bytes.now, c.calls.invariant.1.within)

pub calls-preserved : goal.calls-preserved
calls-preserved g c =
    let m = g.M.Machine in
    let bytes : List ℕ = c.args.bytes.now in
    let n : ℕ = c.in-Whole.len in
    let rest : List ℕ = take (length bytes - c.calls.used) (drop c.calls.used bytes) in
    let within = g.met.M.Machine.front_within c.calls.machine rest (Whole n) c.in-Whole.ensures in
    let whole = call_found m.fronts m.answers c.calls.machine (g.met.M.Machine.front_whole c.calls.machine) rest n within.1 c.in-Whole.ensures in
    let all : c.calls.used + n ≤ length bytes = omega (arith, within.1, ap length (take_rest bytes c.calls.used), length-drop c.calls.used bytes, c.calls.invariant.1.within) in
    let ends = c.in_ok-step-in-Whole.ensures in
    let s : Step g.row.M.Denot = record { call = take n rest; reply = ends.0; entry = ends.1; next = c.step.new.self } in (
      c.calls.invariant.0 ++ s ∷ [],
      answered-push m.fronts m.answers c.args.machine.now c.calls.machine bytes c.calls.told.items c.calls.kept.items c.calls.used
          c.calls.count c.calls.invariant.0 n s c.step.new.told.items c.step.new.kept.items c.calls.invariant.1 (ap (take n) (take_rest bytes c.calls.used)) whole within.0 all
          ends.2 ends.3 ends.4,
    )
