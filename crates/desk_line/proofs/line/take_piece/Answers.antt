use Rattle.std.proofs.Common.{◌≡◌, ◌+◌, ◌++◌, ◌∙◌, true, false, List, length, ℕ, drop, ap, sym, subst, arith}
use Rattle.std.specs.Io.KnownBytes.{append_known}
use Rattle.desk_line.specs.Fronts.{front_left}
use Rattle.desk_line.specs.inside.Pieces.{IsBatchAnswered}
use Rattle.desk_line.proofs.Lines.{answered_extent, front_before_steps, taken_kept, taken_full}
use Rattle.desk_line.proofs.line.take_piece.Goals as goal

pub drop_front-requires : goal.drop_front-requires
drop_front-requires g c =
    let was = c.in_ok-answered.ensures.answered.1 in
    omega (arith, was.within, ap length c.as_slice.ensures.value)

pub tell-requires : goal.tell-requires
tell-requires g c =
    let m = g.M.Machine in
    let was = c.in_ok-answered.ensures.answered in
    let size = answered_extent m.fronts m.answers m.extent g.met.M.Machine.extent_after c.begin.new.self c.answer.new.machine _ _ _ _ _ was.0 was.1 in
    let begun = ap m.extent c.begin.ensures in
    let known = g.met.M.Machine.extent_begun c.args.machine.now in
    let bytes = ap length c.as_slice-2.ensures.value in
    omega (arith, size, begun, known, c.requires, c.in-Ok.ensures.grown, bytes)

pub tell-requires-in-Err-Full : goal.tell-requires-in-Err-Full
tell-requires-in-Err-Full g c =
    let m = g.M.Machine in
    let was = c.in_ok-answered.ensures.answered in
    let back = c.in_ok-rewind-in-Err-Full.ensures c.begin.new.self (was.0, was.1.steps_are, was.1.state_is) c.mark-mark.ensures in
    ap m.extent back ∙ ap m.extent c.begin.ensures ∙ g.met.M.Machine.extent_begun c.args.machine.now ∙ c.requires
    ∙ sym (c.in-Err-Full.ensures.unkept c.in-Err-Full.field-0-is).1

pub returns-in-Ok-clause-taken : goal.returns-in-Ok-clause-taken
returns-in-Ok-clause-taken g c =
    let m = g.M.Machine in
    let o = g.O.Outside in
    let buf : List ℕ = c.args.rest.now.items ++ c.args.piece.now in
    let found = c.in_ok-answered.ensures.answered in
    let answered = c.in_ok-answered.answered in
    let bytes : c.as_slice.result.now ≡ buf = c.as_slice.ensures.value ∙ c.in_ok-extend_from_slice.ensures.items in
    let was = subst (λ (s : g.row.M.Denot). IsBatchAnswered m.fronts m.answers s c.answer.new.machine buf answered.told.items answered.kept.items answered.used
    answered.count found.0) c.begin.ensures
    (subst (λ (b : List ℕ). IsBatchAnswered m.fronts m.answers c.begin.new.self c.answer.new.machine b answered.told.items answered.kept.items answered.used
    answered.count found.0) bytes found.1) in
    let left = c.in_ok-drop_front.ensures ∙ ap (drop answered.used) c.in_ok-extend_from_slice.ensures.items in (
      record { steps = found.0; is_kept = true },
      taken_kept m.fronts m.answers m.begun m.extent g.met.M.Machine.extent_after g.met.M.Machine.extent_begun (record {
        state = c.args.machine.now;
        kept = o.durable c.args.out.now;
        extent = o.extent c.args.out.now;
        told = o.told c.args.out.now;
        failures = o.failures c.args.out.now;
      }) c.answer.new.machine buf _ _ _ _ found.0 _ _ _ _ c.drop_front.new.bytes.items was c.requires
          (c.tell.ensures.durable ∙ c.in-Ok.ensures.kept ∙ ap (append_known (o.durable c.args.out.now)) c.as_slice-2.ensures.value)
          (c.tell.ensures.extent ∙ c.in-Ok.ensures.grown ∙ ap (λ (l : List ℕ). o.extent c.args.out.now + length l) c.as_slice-2.ensures.value)
          (c.in_ok-tell-in-Ok.ensures.told ∙ ap (λ k. append_known k c.as_slice-in-Ok.result.now) c.keep.ensures.told
          ∙ ap (append_known (o.told c.args.out.now)) c.as_slice-in-Ok.ensures.value)
          (c.tell.ensures.failures ∙ c.in-Ok.ensures.failures) left,
    )

pub returns-in-Err-Full-clause-taken : goal.returns-in-Err-Full-clause-taken
returns-in-Err-Full-clause-taken g c =
    let m = g.M.Machine in
    let o = g.O.Outside in
    let buf : List ℕ = c.args.rest.now.items ++ c.args.piece.now in
    let found = c.in_ok-answered.ensures.answered in
    let answered = c.in_ok-answered.answered in
    let bytes : c.as_slice.result.now ≡ buf = c.as_slice.ensures.value ∙ c.in_ok-extend_from_slice.ensures.items in
    let was = subst (λ (s : g.row.M.Denot). IsBatchAnswered m.fronts m.answers s c.answer.new.machine buf answered.told.items answered.kept.items answered.used
    answered.count found.0) c.begin.ensures
    (subst (λ (b : List ℕ). IsBatchAnswered m.fronts m.answers c.begin.new.self c.answer.new.machine b answered.told.items answered.kept.items answered.used
    answered.count found.0) bytes found.1) in
    let left = c.in_ok-drop_front.ensures ∙ ap (drop answered.used) c.in_ok-extend_from_slice.ensures.items in
    let is_full = c.in-Err-Full.field-0-is in
    let back = c.in_ok-rewind-in-Err-Full.ensures c.begin.new.self (found.0, found.1.steps_are, found.1.state_is) c.mark-mark.ensures ∙ c.begin.ensures in (
      record { steps = found.0; is_kept = false },
      taken_full m.fronts m.answers m.begun m.extent g.met.M.Machine.extent_after g.met.M.Machine.extent_begun (record {
        state = c.args.machine.now;
        kept = o.durable c.args.out.now;
        extent = o.extent c.args.out.now;
        told = o.told c.args.out.now;
        failures = o.failures c.args.out.now;
      }) c.answer.new.machine c.rewind.new.self buf _ _ _ _ found.0 c.in_ok-lines-in-Err-Full.lines.items _ _ _ _ c.drop_front.new.bytes.items was
          c.requires back c.in_ok-lines-in-Err-Full.ensures
          (c.tell-in-Err-Full.ensures.durable ∙ (c.in-Err-Full.ensures.unkept is_full).0)
          (c.tell-in-Err-Full.ensures.extent ∙ (c.in-Err-Full.ensures.unkept is_full).1)
          (c.in_ok-tell-in-Err-Full.ensures.told ∙ ap (λ k. append_known k c.as_slice-in-Err-Full.result.now) c.keep.ensures.told
          ∙ ap (append_known (o.told c.args.out.now)) c.as_slice-in-Err-Full.ensures.value)
          (c.tell-in-Err-Full.ensures.failures ∙ c.in-Err-Full.ensures.full is_full) left,
    )

pub returns-in-Ok-clause-left : goal.returns-in-Ok-clause-left
returns-in-Ok-clause-left g c =
    let answered = c.in_ok-answered.answered in
    let bytes : c.as_slice.result.now ≡ c.args.rest.now.items ++ c.args.piece.now = c.as_slice.ensures.value ∙ c.in_ok-extend_from_slice.ensures.items in
    let left = ap (drop answered.used) bytes ∙ sym (c.in_ok-drop_front.ensures ∙ ap (drop answered.used) c.in_ok-extend_from_slice.ensures.items) in
    subst (λ (l : List ℕ). g.M.Machine.fronts c.answer.new.machine l (front_left answered.is_wrong)) left c.in_ok-answered.ensures.left

pub returns-in-Err-Full-clause-left : goal.returns-in-Err-Full-clause-left
returns-in-Err-Full-clause-left g c =
    let found = c.in_ok-answered.ensures.answered in
    let answered = c.in_ok-answered.answered in
    let bytes : c.as_slice.result.now ≡ c.args.rest.now.items ++ c.args.piece.now = c.as_slice.ensures.value ∙ c.in_ok-extend_from_slice.ensures.items in
    let left = ap (drop answered.used) bytes ∙ sym (c.in_ok-drop_front.ensures ∙ ap (drop answered.used) c.in_ok-extend_from_slice.ensures.items) in
    let back : c.rewind.new.self ≡ c.begin.new.self =
    c.in_ok-rewind-in-Err-Full.ensures c.begin.new.self (found.0, found.1.steps_are, found.1.state_is) c.mark-mark.ensures in
    let here = subst (λ (l : List ℕ). g.M.Machine.fronts c.answer.new.machine l (front_left answered.is_wrong)) left c.in_ok-answered.ensures.left in
    subst (λ (s : g.row.M.Denot). g.M.Machine.fronts s c.drop_front.new.bytes.items (front_left answered.is_wrong)) (sym back)
    (front_before_steps g.M.Machine.fronts g.M.Machine.answers g.met.M.Machine.front_before c.begin.new.self found.0 c.drop_front.new.bytes.items (front_left answered.is_wrong)
    found.1.steps_are (subst (λ (s : g.row.M.Denot). g.M.Machine.fronts s c.drop_front.new.bytes.items (front_left answered.is_wrong)) found.1.state_is here))
