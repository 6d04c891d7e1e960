-- What is added to a writer, from one state of it to a later one.
use Rattle.std.specs.Prelude.{◌≡◌, ℕ, true, false, List, [], Option}
use Rattle.std.specs.Io.KnownBytes.{Appends, append_known}
use denote.Ref.{MutBor}
use Rattle.byte_sinks.specs.declared.writer.Writer.{Writer}
use Rattle.byte_sinks.specs.Sinks.{Counts, HasFailed, IsFront, Outlet}

-- nothing was done yet with a writer to this sink
pub record IsNew {X : Type 0} (sink : MutBor X) (writer : Writer X) : Type 0 where
  pub same_sink : writer.sink.ghost_name ≡ sink.ghost_name
  pub untouched : writer.sink.now ≡ sink.now
  pub empty : writer.waiting.items ≡ []
  pub unsent : writer.sent ≡ 0
  pub whole : writer.has_failed ≡ false

-- what the sink has taken, followed by what waits
abbrev pub bytes_given : {X : Type 0} → (X → Outlet) → Writer X → Option (List ℕ)
bytes_given state writer = append_known (state writer.sink.now).taken writer.waiting.items

-- from one state of a writer to a later one bytes were added to its sink, unless a put failed
pub record Adds {X : Type 0} (state : X → Outlet) (old new : Writer X) (bytes : List ℕ) : Type 0 where
  pub same_sink : new.sink.ghost_name ≡ old.sink.ghost_name
  pub placed : (state new.sink.now).place ≡ (state old.sink.now).place
  pub counted : Counts (state old.sink.now).taken (state new.sink.now).taken old.sent new.sent
  -- unless a put failed, they come after those that were held
  pub whole : new.has_failed ≡ false → (old.has_failed ≡ false) × Appends (bytes_given state old) (bytes_given state new) bytes
      × ((state new.sink.now).failures ≡ (state old.sink.now).failures)
  -- if one failed meanwhile, what went out is a front
  pub broken : old.has_failed ≡ false → new.has_failed ≡ true
      → IsFront (state new.sink.now).taken (append_known (bytes_given state old) bytes)
      × HasFailed (state old.sink.now).failures (state new.sink.now).failures
  -- if one failed before, nothing is put
  pub silent : old.has_failed ≡ true → (new.has_failed ≡ true) × (new.sink.now ≡ old.sink.now) × (new.sent ≡ old.sent)

-- nothing waits, and no put failed
abbrev pub IsSent : {X : Type 0} → Writer X → Type 0
IsSent writer = (writer.has_failed ≡ false) × (writer.waiting.items ≡ [])

-- a put failed once so many bytes had gone out
abbrev pub IsBroken : {X : Type 0} → Writer X → ℕ → Type 0
IsBroken writer written = (writer.has_failed ≡ true) × (written ≡ writer.sent)
