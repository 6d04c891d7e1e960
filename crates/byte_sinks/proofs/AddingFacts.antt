-- Adding to a writer, one piece after another.
use Rattle.std.proofs.Common.{◌≡◌, ◌∙◌, ℕ, Bool, true, false, List, [], ◌++◌, refl, sym, ap, subst, Option, Some, None, Result, Ok, Err}
use Rattle.std.specs.Prelude.{IfErr, OnOk}
use Rattle.std.specs.Io.KnownBytes.{Appends, append_known}
use Rattle.std.proofs.lemmas.List.{append-nil}
use denote.Ref.{MutBor}
use Rattle.byte_sinks.specs.declared.writer.WriteFault.{WriteFault}
use Rattle.byte_sinks.specs.declared.writer.Writer.{Writer}
use Rattle.byte_sinks.specs.Sinks.{Counts, GoesInPart, GoesWhole, HasFailed, IsFront, Outlet, Sends, SentFront, written_of}
use Rattle.byte_sinks.specs.Adds.{Adds, IsBroken, IsNew, IsSent, bytes_given}
use Rattle.byte_sinks.proofs.KnownByteFacts.{Appends-nothing, Appends-then, Counts-then, IsFront-empty, IsFront-longer, IsFront-piece, SentFront-from}

-- a put failed in one of two steps
broken-then : {X : Type 0} (state : X → Outlet) (a b c : Writer X) (xs ys : List ℕ) (meanwhile : Bool) → b.has_failed ≡ meanwhile
    → Adds state a b xs → Adds state b c ys → a.has_failed ≡ false → c.has_failed ≡ true
    → IsFront (state c.sink.now).taken (append_known (bytes_given state a) (xs ++ ys)) × HasFailed (state a.sink.now).failures (state c.sink.now).failures
broken-then {X} state a b c xs ys true e p q before after =
    let first = p.broken before e in
    let same = sym (q.silent e).1 in (
      subst (λ (x : X). IsFront (state x).taken (append_known (bytes_given state a) (xs ++ ys))) same
          (IsFront-longer (state b.sink.now).taken (bytes_given state a) xs ys first.0),
      subst (λ (x : X). HasFailed (state a.sink.now).failures (state x).failures) same first.1,
    )
broken-then state a b c xs ys false e p q before after =
    let first = p.whole e in
    let second = q.broken e after in (
      IsFront-piece (state c.sink.now).taken (bytes_given state a) (bytes_given state b) xs ys [] (xs ++ ys)
          (ap (λ (w : List ℕ). xs ++ w) (sym (append-nil ys))) first.1 second.0,
      subst (λ (n : ℕ). HasFailed n (state c.sink.now).failures) first.2 second.1,
    )

-- one piece after another
pub Adds-then : {X : Type 0} {state : X → Outlet} {a b c : Writer X} {xs ys : List ℕ}
    → Adds state a b xs → Adds state b c ys → Adds state a c (xs ++ ys)
Adds-then {X} {state} {a} {b} {c} {xs} {ys} p q = record {
  same_sink = q.same_sink ∙ p.same_sink;
  placed = q.placed ∙ p.placed;
  counted = Counts-then (state a.sink.now).taken (state b.sink.now).taken (state c.sink.now).taken a.sent b.sent c.sent p.counted q.counted;
  whole = λ after.
      let second = q.whole after in
      let first = p.whole second.0 in
      (first.0, Appends-then (bytes_given state a) (bytes_given state b) (bytes_given state c) xs ys (xs ++ ys) refl first.1 second.1, second.2 ∙ first.2);
  broken = λ before after. broken-then state a b c xs ys b.has_failed refl p q before after;
  silent = λ before.
      let first = p.silent before in
      let second = q.silent first.0 in
      (second.0, second.1 ∙ first.1, second.2 ∙ first.2);
}

-- the same bytes
pub Adds-to : {X : Type 0} {state : X → Outlet} {a b : Writer X} {xs ys : List ℕ} → Adds state a b xs
    → xs ≡ ys → Adds state a b ys
Adds-to {X} {state} {a} {b} p e = subst (λ (w : List ℕ). Adds state a b w) e p

held-empty : {X : Type 0} (state : X → Outlet) (w : Writer X) (x : X) → w.sink.now ≡ x → w.waiting.items ≡ []
    → bytes_given state w ≡ append_known (state x).taken []
held-empty state w x now empty = ap (λ y. append_known (state y).taken w.waiting.items) now ∙ ap (λ (bytes : List ℕ). append_known (state x).taken bytes) empty

Appends-empty : (a b : Option (List ℕ)) (xs : List ℕ) → Appends (append_known a []) (append_known b []) xs → Appends a b xs
Appends-empty None b xs p = tt
Appends-empty (Some us) None xs p = absurd p
Appends-empty (Some us) (Some vs) xs p = sym (append-nil vs) ∙ p ∙ ap (λ (w : List ℕ). w ++ xs) (append-nil us)

-- what a new writer has put once all is sent
pub sent-whole : {X : Type 0} {state : X → Outlet} {s : MutBor X} {a b : Writer X} {bytes : List ℕ} → IsNew s a
    → Adds state a b bytes → IsSent b → Appends (state s.now).taken (state b.sink.now).taken bytes
sent-whole {X} {state} {s} {a} {b} {bytes} new added sent =
    Appends-empty (state s.now).taken (state b.sink.now).taken bytes
    (subst (λ (o : Option (List ℕ)). Appends (append_known (state s.now).taken []) o bytes) (held-empty state b b.sink.now refl sent.1)
    (subst (λ (o : Option (List ℕ)). Appends o (bytes_given state b) bytes) (held-empty state a s.now new.untouched new.empty) (added.whole sent.0).1))

-- and the sink's failures are what they were
pub sent-quiet : {X : Type 0} {state : X → Outlet} {s : MutBor X} {a b : Writer X} {bytes : List ℕ} → IsNew s a
    → Adds state a b bytes → IsSent b → (state b.sink.now).failures ≡ (state s.now).failures
sent-quiet {X} {state} {s} {a} {b} {bytes} new added sent = (added.whole sent.0).2 ∙ ap (λ (x : X). (state x).failures) new.untouched

-- how many bytes of it went out
pub counts-new : {X : Type 0} {state : X → Outlet} {s : MutBor X} {a b : Writer X} {bytes : List ℕ} → IsNew s a
    → Adds state a b bytes → Counts (state s.now).taken (state b.sink.now).taken 0 b.sent
counts-new {X} {state} {s} {a} {b} new added =
    subst (λ (n : ℕ). Counts (state s.now).taken (state b.sink.now).taken n b.sent) new.unsent
    (subst (λ (x : X). Counts (state x).taken (state b.sink.now).taken a.sent b.sent) new.untouched added.counted)

-- the sink counts a failed put of it
pub fails-new : {X : Type 0} {state : X → Outlet} {s : MutBor X} {a b : Writer X} {bytes : List ℕ} {written : ℕ}
    → IsNew s a → Adds state a b bytes → IsBroken b written → HasFailed (state s.now).failures (state b.sink.now).failures
fails-new {X} {state} {s} {a} {b} new added broken =
    subst (λ (x : X). HasFailed (state x).failures (state b.sink.now).failures) new.untouched (added.broken new.whole broken.0).1

-- a put failed after what had gone out completely
pub front-after : {X : Type 0} {state : X → Outlet} {a b : Writer X} {bytes : List ℕ} {written : ℕ} → IsSent a
    → Adds state a b bytes → IsBroken b written → IsFront (state b.sink.now).taken (append_known (state a.sink.now).taken bytes)
front-after {X} {state} {a} {b} {bytes} sent added broken =
    IsFront-empty (state b.sink.now).taken (state a.sink.now).taken bytes
    (subst (λ (o : Option (List ℕ)). IsFront (state b.sink.now).taken (append_known o bytes)) (held-empty state a a.sink.now refl sent.1)
    (added.broken sent.0 broken.0).0)

-- what a new writer has put when a put fails
pub sent-front : {X : Type 0} {state : X → Outlet} {s : MutBor X} {a b : Writer X} {bytes : List ℕ}
    {written : ℕ} → IsNew s a → Adds state a b bytes → IsBroken b written
    → SentFront (state s.now).taken (state b.sink.now).taken bytes written
sent-front {X} {state} {s} {a} {b} {bytes} new added broken =
    let ahead = subst (λ (x : X). IsFront (state b.sink.now).taken (append_known (state x).taken bytes)) new.untouched (front-after (new.whole, new.empty) added broken) in
    subst (λ (n : ℕ). SentFront (state s.now).taken (state b.sink.now).taken bytes n) (sym broken.1)
    (SentFront-from (state s.now).taken (state b.sink.now).taken bytes b.sent ahead (counts-new new added))

-- the place of a new writer's sink stays
place-new : {X : Type 0} {state : X → Outlet} {s : MutBor X} {a b : Writer X} {bytes : List ℕ} → IsNew s a → Adds state a b bytes
    → (state b.sink.now).place ≡ (state s.now).place
place-new {X} {state} {s} {a} {b} new added = added.placed ∙ ap (λ (x : X). (state x).place) new.untouched

-- what a new writer leaves of its sink, once all is sent
pub goes-whole : {X : Type 0} {state : X → Outlet} {s : MutBor X} {a b : Writer X} {bytes : List ℕ} → IsNew s a → Adds state a b bytes
    → IsSent b → GoesWhole (state s.now) (state b.sink.now) bytes
goes-whole new added sent = record { taken = sent-whole new added sent; failures = sent-quiet new added sent; place = place-new new added }

-- what it leaves of its sink when a put fails
pub goes-in-part : {X : Type 0} {state : X → Outlet} {s : MutBor X} {a b : Writer X} {bytes : List ℕ} {written : ℕ} → IsNew s a
    → Adds state a b bytes → IsBroken b written → GoesInPart (state s.now) (state b.sink.now) bytes written
goes-in-part new added broken = record { front = sent-front new added broken; failed = fails-new new added broken; place = place-new new added }

-- what a call does that makes a writer to a sink, adds the bytes and flushes it, if the sink ends as x
pub sends : {X : Type 0} {state : X → Outlet} {s : MutBor X} {a b c : Writer X} {bytes : List ℕ} (x : X) (r : Result (Unit {0}) WriteFault)
    → IsNew s a → Adds state a b bytes → Adds state b c [] → OnOk r (IsSent c) → IfErr r (λ e. IsBroken c (written_of e)) → x ≡ c.sink.now
    → Sends (state s.now) (state x) r bytes
sends {X} {state} {s} {a} {b} {c} {bytes} x (Ok y) new added flushed sent broken end =
    subst (λ (y : X). GoesWhole (state s.now) (state y) bytes) (sym end) (goes-whole new (Adds-to (Adds-then added flushed) (append-nil bytes)) sent)
sends {X} {state} {s} {a} {b} {c} {bytes} x (Err e) new added flushed sent broken end =
    subst (λ (y : X). GoesInPart (state s.now) (state y) bytes (written_of e)) (sym end)
    (goes-in-part new (Adds-to (Adds-then added flushed) (append-nil bytes)) broken)

-- nothing goes out
pub goes-nothing : (sink : Outlet) → GoesWhole sink sink []
goes-nothing sink = record { taken = Appends-nothing sink.taken; failures = refl; place = refl }
