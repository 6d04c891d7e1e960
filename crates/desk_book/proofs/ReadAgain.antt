-- Entries that are read again, one by one.
use Rattle.std.proofs.Common.{inl, inr, ◌≡◌, ◌≤◌, ◌<◌, ◌+◌, ◌^◌, ◌++◌, ◌∙◌, ℕ, Bool, true, false, List, [], ◌∷◌, Option, Some, None, Err, Ok, append-nil, append_assoc, ap, arith, drop, length, length-drop, refl, subst, sym, take}
use Rattle.std.proofs.lemmas.List.{drop-take, length-take-le, take-append-drop, take-take}
use Rattle.std.proofs.lemmas.Slice.Eq.{bytes_eq-Decides}
use Rattle.std.specs.Prelude.{MatchOption, not}
use Rattle.std.specs.Str.{bytes_eq}
use Rattle.bid_book.specs.History.{is_closed}
use Rattle.desk_book.specs.Fronts.{JournalFront, front_at}
use Rattle.desk_book.specs.Journals.{AreWritten, HasNoEntry, IsDamaged, IsJournal, IsLinked, IsOpened, IsReadAs, IsTorn, IsWritten, SaysBeyond, Written, desk_after, texts_of}
use Rattle.desk_book.specs.Recording.{IsRecordedAs, answer_due}
use Rattle.desk_book.specs.declared.asked.Asked.{Asked}
use Rattle.desk_book.specs.declared.desk.Desk.{Desk}
use Rattle.desk_book.specs.declared.recording.Recorded.{Recorded}
use Rattle.desk_book.specs.declared.replaying.ReadFault.{ReadFault}
use Rattle.desk_book.specs.declared.replaying.ReadFault.TheVariants as fault
use Rattle.desk_book.specs.inside.Reading.{AreEntriesRead, IsNextEntry, IsReadTo}

-- what holds of what is there, and what holds where nothing is
pub match_some : {R : Type 0} (o : Option R) (r : R) (P : Type 0) (Q : R → Type 0) → MatchOption o P Q → o ≡ Some r → Q r
match_some o r P Q holds is = subst (λ (p : Option _). MatchOption p P Q) is holds

pub match_none : {R : Type 0} (o : Option R) (P : Type 0) (Q : R → Type 0) → MatchOption o P Q → o ≡ None → P
match_none o P Q holds is = subst (λ (p : Option _). MatchOption p P Q) is holds

pub open_if : (b : Bool) → not b ≡ true → b ≡ false
open_if true is = absurd cc
open_if false is = refl

pub true_if : (b : Bool) → not b ≡ false → b ≡ true
true_if true is = refl
true_if false is = absurd cc

module _ {J : Type 0} (m s n : Desk J) (d : ℕ) (a : Asked) (bytes : List ℕ) where
  -- what is recorded again is the next entry, if its bytes are these
  pub next_entry : (o : Option Recorded) (r : Recorded) → s ≡ record m { durable = d }
      → MatchOption o ((n ≡ s) × (answer_due s a ≡ None)) (λ r. IsRecordedAs s a r.answer r.entry.items n) → o ≡ Some r
      → d ≤ m.extent → d < 10 ^ 18 → is_closed m.book ≡ false → bytes_eq r.entry.items bytes ≡ true → IsNextEntry m bytes n
  next_entry o r so recorded is durable number is_open same =
      let as_some : IsRecordedAs s a r.answer r.entry.items n =
      subst (λ (p : Option Recorded). MatchOption p ((n ≡ s) × (answer_due s a ≡ None)) (λ r. IsRecordedAs s a r.answer r.entry.items n)) is recorded in
      let e : Written J = record { call = a; told = r.answer; durable = d; text = r.entry.items; next = n } in
      let written : IsWritten m e = record {
        is_open = is_open;
        durable = durable;
        number = number;
        recorded = subst (λ (t : Desk J). IsRecordedAs t a r.answer r.entry.items n) so as_some;
      } in
      (e, written, (bytes_eq-Decides r.entry.items bytes).0 same, refl)

take_next : (bytes : List ℕ) (at len : ℕ) → at + len ≤ length bytes → take (at + len) bytes ≡ take at bytes ++ take len (drop at bytes)
take_next bytes at len within = sym (take-append-drop at (take (at + len) bytes)) ∙ ap (λ (l : List ℕ). l ++ drop at (take (at + len) bytes)) (take-take at (at + len) bytes (omega arith))
    ∙ ap (λ (l : List ℕ). take at bytes ++ l) (drop-take at len bytes)

module _ {J : Type 0} where
  AreWritten-push : (m : Desk J) (entries : List (Written J)) (e : Written J) → AreWritten m entries → IsWritten (desk_after m entries) e
      → AreWritten m (entries ++ e ∷ [])
  AreWritten-push m [] e are is = (is, tt)
  AreWritten-push m (f ∷ entries) e are is = (are.0, AreWritten-push f.next entries e are.1 is)

  desk_after-push : (m : Desk J) (entries : List (Written J)) (e : Written J) → desk_after m (entries ++ e ∷ []) ≡ e.next
  desk_after-push m [] e = refl
  desk_after-push m (f ∷ entries) e = desk_after-push f.next entries e

  texts_of-push : (entries : List (Written J)) (e : Written J) → texts_of (entries ++ e ∷ []) ≡ texts_of entries ++ e.text
  texts_of-push [] e = append-nil e.text
  texts_of-push (f ∷ entries) e = ap (λ (l : List ℕ). f.text ++ l) (texts_of-push entries e) ∙ sym (append_assoc f.text (texts_of entries) e.text)

  -- nothing is read yet
  pub read_nothing : (start : Desk J) (bytes : List ℕ) (from : ℕ) → start.extent ≡ from → from ≤ length bytes → IsReadTo start bytes from from start
  read_nothing start bytes from extent within = record {
    entries = [];
    written = tt;
    bytes_are = sym (append-nil (take from bytes));
    within = within;
    extent = extent;
    desk_is = refl;
  }

  -- an entry more is read
  pub read_more : (start : Desk J) (bytes : List ℕ) (from at len : ℕ) (m n : Desk J) → IsReadTo start bytes from at m
      → IsNextEntry m (take len (drop at bytes)) n → len ≤ length (drop at bytes) → IsReadTo start bytes from (at + len) n
  read_more start bytes from at len m n was next within =
      let e : Written J = next.0 in
      let is : IsWritten m e = next.1 in
      let text : e.text ≡ take len (drop at bytes) = next.2 in
      let last : e.next ≡ n = next.3 in
      let room : at + len ≤ length bytes = (let most = was.within in omega (arith, length-drop at bytes, most)) in
      let size : length e.text ≡ len = ap length text ∙ length-take-le len (drop at bytes) within in
      let grows = is.recorded.extent in
      let before = was.extent in
      let here : e.next.extent ≡ n.extent = ap (λ (d : Desk J). d.extent) last in
      record {
        entries = was.entries ++ e ∷ [];
        written = AreWritten-push start was.entries e was.written (subst (λ (d : Desk J). IsWritten d e) was.desk_is is);
        bytes_are = take_next bytes at len room ∙ ap (λ (l : List ℕ). l ++ take len (drop at bytes)) was.bytes_are
            ∙ append_assoc (take from bytes) (texts_of was.entries) (take len (drop at bytes))
            ∙ ap (λ (l : List ℕ). take from bytes ++ (texts_of was.entries ++ l)) (sym text)
            ∙ ap (λ (l : List ℕ). take from bytes ++ l) (sym (texts_of-push was.entries e));
        within = room;
        extent = omega (arith, grows, before, size, here);
        desk_is = sym last ∙ sym (desk_after-push start was.entries e);
      }

module _ {J : Type 0} (start : Desk J) (bytes : List ℕ) (from at : ℕ) (m n : Desk J) (rest : List ℕ) (was : IsReadTo start bytes from at m)
    (left : rest ≡ drop at bytes) where
  -- where it ends, nothing that was told is lost
  pub ended : n ≡ m → ¬ (IsLinked m rest) → ¬ (SaysBeyond rest at) → AreEntriesRead start bytes from (Ok at) n
  ended same none untold =
      let torn : IsTorn m rest = record { no_entry = none; not_told = subst (λ (k : ℕ). ¬ (SaysBeyond rest k)) (sym was.extent) untold } in (
        subst (λ (d : Desk J). IsReadTo start bytes from at d) (sym same) was,
        subst (λ (d : Desk J). IsTorn d (drop at bytes)) (sym same) (subst (λ (l : List ℕ). IsTorn m l) left torn),
      )

  -- what was told is lost
  pub lost : ¬ (IsLinked m rest) → SaysBeyond rest at → AreEntriesRead start bytes from (Err (fault.Damaged at)) n
  lost none told =
      let here : SaysBeyond rest m.extent = subst (λ (k : ℕ). SaysBeyond rest k) (sym was.extent) told in
      (m, was, subst (λ (l : List ℕ). IsDamaged m l) left (inl (none, here)))

  -- an entry is another one
  pub changed : IsLinked m rest → HasNoEntry m rest → AreEntriesRead start bytes from (Err (fault.Damaged at)) n
  changed linked none = (m, was, subst (λ (l : List ℕ). IsDamaged m l) left (inr (linked, none)))

module _ {J : Type 0} (judge : J) (bytes : List ℕ) (front : JournalFront) (start : Desk J) (there : front_at bytes ≡ Ok front)
    (opened : IsOpened judge bytes front start) where
  -- what was read is a journal
  pub journal_read : (at : ℕ) (m : Desk J) → IsReadTo start bytes front.len at m → IsJournal judge bytes at m
  journal_read at m was = record {
    front = front;
    start = start;
    entries = was.entries;
    front_is = there;
    opened = opened;
    written = was.written;
    bytes_are = was.bytes_are;
    within = was.within;
    extent = was.extent;
    desk_is = was.desk_is;
  }

  -- and what was read before a fault
  pub fault_read : (why : ReadFault) (n : Desk J) → AreEntriesRead start bytes front.len (Err why) n → IsReadAs judge bytes (Err why)
  fault_read (fault.Damaged at) n was = (was.0, journal_read at was.0 was.1, was.2)
  fault_read fault.OutOfMemory n was = tt
  fault_read (fault.Front why) n was = absurd was
  fault_read (fault.Rules why) n was = absurd was

  -- the desk that goes on with it
  pub replayed : (end : ℕ) (m n : Desk J) → (IsReadTo start bytes front.len end m × IsTorn m (drop end bytes)) → n ≡ record m { durable = end }
      → IsReadAs judge bytes (Ok (record { desk = n; end = end }))
  replayed end m n was is = (m, journal_read end m was.0, was.1, is ∙ ap (λ (d : ℕ). record m { durable = d }) (sym was.0.extent))
