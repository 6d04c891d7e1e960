use Rattle.std.proofs.Common.{take, drop, rules, arith, sym, ◌∙◌}
use Rattle.std.proofs.lemmas.List.{length-drop, take-append-drop}
use Rattle.byte_sinks.proofs.KnownByteFacts.{Appends-nothing, Appends-then, Appends-keeps, IsFront-from, OnErr-any, piece-step, piece-within}
use Rattle.byte_sinks.specs.declared.writer.TheConstants.{PIECE_LEN}
use Rattle.byte_sinks.proofs.writer.put_all.Goals as goal

pub loop-from-init : goal.loop-from-init
loop-from-init g c = record { within = omega arith; gone = Appends-nothing _; count = omega arith; failures = search rules; place = search rules }

pub returns-in_err-n-clause-err : goal.returns-in_err-n-clause-err
returns-in_err-n-clause-err g c =
    let i = c.loop-from.invariant in
    OnErr-any _ _ (IsFront-from _ _ (take c.loop-from.from c.args.bytes.now) (drop c.loop-from.from c.args.bytes.now) c.args.bytes.now
    (omega (arith, length-drop c.loop-from.from c.args.bytes.now)) (sym (take-append-drop c.loop-from.from c.args.bytes.now))
    (Appends-keeps _ _ _ _ i.gone c.in_err-n.ensures.kept))

pub loop-from-preserved : goal.loop-from-preserved
loop-from-preserved g c =
    let i = c.loop-from.invariant in
    record {
      within = piece-within c.loop-from.from c.in_ok-n.n PIECE_LEN c.args.bytes.now c.front_piece.result.now c.front_piece.ensures
          c.in_ok-n.ensures.within i.within;
      gone = Appends-then _ _ _ _ _ _ (piece-step c.loop-from.from c.in_ok-n.n PIECE_LEN c.args.bytes.now c.front_piece.result.now
          c.front_piece.ensures c.in_ok-n.ensures.within) i.gone c.in_ok-n.ensures.took;
      count = c.saturating_add.ensures;
      failures = c.in_ok-n.ensures.succeeded ∙ i.failures;
      place = c.in_ok-n.ensures.placed ∙ i.place;
    }
