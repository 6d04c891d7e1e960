-- How a line is put together.
use Rattle.std.proofs.Common.{◌≡◌, ℕ, List, Result, Ok, Err, inl, inr, subst, [], IfErr, OnOk, MutBor}
use Rattle.auction_input.specs.Line.{Puts}
use Rattle.byte_sinks.proofs.AddingFacts.{sends}
use Rattle.byte_sinks.specs.Adds.{Adds, IsBroken, IsNew, IsSent}
use Rattle.byte_sinks.specs.Sinks.{Outlet, Sends, written_of}
use Rattle.byte_sinks.specs.declared.writer.WriteFault.{WriteFault}
use Rattle.byte_sinks.specs.declared.writer.Writer.{Writer}

-- what is sent is put
put-by : {A : Type 0} {before after : Outlet} {bytes : List ℕ} (r : Result A WriteFault) → Sends before after r bytes → Puts bytes before after
put-by (Ok x) whole = inl whole
put-by (Err e) part = inr (written_of e, part)

-- what a call has put that makes a writer to a sink, adds the bytes and flushes it, where the sink ends as x
pub puts : {X : Type 0} {state : X → Outlet} {s : MutBor X} {a b c : Writer X} {bytes : List ℕ} (x : X) (parsed : List ℕ)
    (r : Result (Unit {0}) WriteFault)
    → IsNew s a → Adds state a b bytes → Adds state b c [] → OnOk r (IsSent c) → IfErr r (λ e. IsBroken c (written_of e))
    → x ≡ c.sink.now → bytes ≡ parsed
    → Puts parsed (state s.now) (state x)
puts {X} {state} {s} {a} {b} {c} {bytes} x parsed r new added flushed sent broken end is =
    subst (λ (bs : List ℕ). Puts bs (state s.now) (state x)) is (put-by r (sends x r new added flushed sent broken end))
