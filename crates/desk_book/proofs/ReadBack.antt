-- A journal is read as it was written.
use Rattle.std.proofs.Common.{inl, inr, ◌≡◌, ◌≤◌, ◌<◌, ◌+◌, ◌++◌, ◌∙◌, ◌⊎◌, ℕ, List, [], ◌∷◌, Some, None, Result, Ok, Err, append-nil, append_assoc, ap, arith, drop, length, length-append, refl, subst, sym, take}
use Rattle.std.proofs.Math.Seq.{drop-append_seam, take-append_seam}
use Rattle.std.proofs.lemmas.List.{drop_all, take-append-drop}
use Rattle.auction_terms.specs.Numbers.{number_of}
use Rattle.desk_book.specs.Answers.{all_durable}
use Rattle.desk_book.specs.Fronts.{JournalFront, front_at}
use Rattle.desk_book.specs.Entries.{chain_after, sealed_of}
use Rattle.desk_book.specs.Journals.{AreDesksAlike, AreWritten, HasNoEntry, IsDamaged, IsJournal, IsLinked, IsOpened, IsReadAs, IsReadBack, IsReadBeyond, IsWritten, Written, desk_after, rules_read, texts_of}
use Rattle.desk_book.specs.ReadEntries.{EntryParts, HeadParts, entry_at, head_at}
use Rattle.desk_book.specs.Recording.{IsRecordedAs}
use Rattle.auction_terms.specs.declared.rules_text.RulesFault.{RulesFault}
use Rattle.bid_book.specs.declared.records.Entry.{Entry}
use Rattle.desk_book.specs.declared.commitment.Commitment.{Commitment}
use Rattle.desk_book.specs.declared.desk.Desk.{Desk}
use Rattle.desk_book.specs.declared.front.FrontFault.{FrontFault}
use Rattle.desk_book.specs.declared.replaying.ReadFault.{ReadFault}
use Rattle.desk_book.specs.declared.replaying.ReadFault.TheVariants as fault
use Rattle.desk_book.specs.declared.replaying.Replayed.{Replayed}
use Rattle.desk_book.specs.inside.Asking.{call_of_entry, head_parts, plain}
use Rattle.desk_book.proofs.SameEntry.{asked_read, durable_read, entry_of, front_of_entry, linked_if, next_same, parts_written, written_stands}

module _ {J : Type 0} where
  pub alike_self : (m : Desk J) → AreDesksAlike m m
  alike_self m = record { judge = refl; rules = refl; rules_text = refl; book = refl; extent = refl; chain = refl }

  pub alike_back : (m n : Desk J) → AreDesksAlike m n → AreDesksAlike n m
  alike_back m n a = record { judge = sym a.judge; rules = sym a.rules; rules_text = sym a.rules_text; book = sym a.book; extent = sym a.extent; chain = sym a.chain }

  pub alike_both : (m n o : Desk J) → AreDesksAlike m n → AreDesksAlike n o → AreDesksAlike m o
  alike_both m n o a b = record {
    judge = a.judge ∙ b.judge;
    rules = a.rules ∙ b.rules;
    rules_text = a.rules_text ∙ b.rules_text;
    book = a.book ∙ b.book;
    extent = a.extent ∙ b.extent;
    chain = a.chain ∙ b.chain;
  }

  module _ (m n : Desk J) (alike : AreDesksAlike m n) where
    abbrev pub moved : Desk J
    moved = record m { rules_text = n.rules_text; durable = n.durable }

    moved_is : moved ≡ n
    moved_is = λ i. record {
      judge = alike.judge i;
      rules = alike.rules i;
      rules_text = n.rules_text;
      book = alike.book i;
      extent = alike.extent i;
      durable = n.durable;
      chain = alike.chain i;
    }

    -- the same entry, written by the other desk
    abbrev pub there : Written J → Written J
    there e = record e { next = record e.next { rules_text = n.rules_text } }

    written_moved : (e : Written J) → IsWritten m e → IsWritten moved (there e)
    written_moved e is =
        let was = is.recorded in record {
          is_open = is.is_open;
          durable = is.durable;
          number = is.number;
          recorded = record {
            due = was.due;
            may = was.may;
            named = was.named;
            few = was.few;
            number = was.number;
            book = was.book;
            text_is = was.text_is;
            chain = was.chain;
            extent = was.extent;
            durable = was.durable;
            rules = was.rules;
            rules_text = refl;
            judge = was.judge;
          };
        }

    pub written_there : (e : Written J) → IsWritten m e → IsWritten n (there e)
    written_there e is = subst (λ (d : Desk J). IsWritten d (there e)) moved_is (written_moved e is)

    pub next_alike : (e : Written J) → IsWritten m e → AreDesksAlike e.next (there e).next
    next_alike e is =
        record { judge = refl; rules = refl; rules_text = ap (λ v. v.items) is.recorded.rules_text ∙ alike.rules_text; book = refl; extent = refl; chain = refl }

  -- bytes in which two entries of one desk stand have one entry
  module _ (n : Desk J) (x y : Written J) (r t : List ℕ) (is : IsWritten n x) (is' : IsWritten n y) (same : x.text ++ r ≡ y.text ++ t) where
    parts_same : parts_written n x ≡ parts_written n y
    parts_same =
        let here : entry_at (x.text ++ r) ≡ Some (parts_written n x) = written_stands n (x.text ++ r) x r is refl in
        let other : entry_at (x.text ++ r) ≡ Some (parts_written n y) = written_stands n (x.text ++ r) y t is' same in
        let both : Some (parts_written n x) ≡ Some (parts_written n y) = sym here ∙ other in
        cc

    texts_same : x.text ≡ y.text
    texts_same =
        let len : length x.text ≡ length y.text = ap (λ (p : EntryParts). p.len) parts_same in
        sym (take-append_seam x.text r) ∙ ap (take (length x.text)) same ∙ ap (λ (k : ℕ). take k (y.text ++ t)) len ∙ take-append_seam y.text t

    rest_same : r ≡ t
    rest_same =
        let len : length x.text ≡ length y.text = ap (λ (p : EntryParts). p.len) parts_same in
        sym (drop-append_seam x.text r) ∙ ap (drop (length x.text)) same ∙ ap (λ (k : ℕ). drop k (y.text ++ t)) len ∙ drop-append_seam y.text t

    calls_same : plain x.call ≡ plain y.call
    calls_same =
        let head : HeadParts = head_parts n.rules (length n.book + 1) y.call y.durable in
        let first : call_of_entry n.rules head (sealed_of y.call) ≡ Some (plain x.call) =
        asked_read n x is head (sealed_of y.call) (sym (ap (λ (p : EntryParts). p.head) parts_same)) (sym (ap (λ (p : EntryParts). p.sealed) parts_same)) in
        let second : call_of_entry n.rules head (sealed_of y.call) ≡ Some (plain y.call) = asked_read n y is' head (sealed_of y.call) refl refl in
        let both : Some (plain x.call) ≡ Some (plain y.call) = sym first ∙ second in
        cc

    durables_same : x.durable ≡ y.durable
    durables_same =
        let head : HeadParts = head_parts n.rules (length n.book + 1) y.call y.durable in
        let first : number_of head.durable ≡ Some x.durable =
        durable_read n x is head (sealed_of y.call) (sym (ap (λ (p : EntryParts). p.head) parts_same)) (sym (ap (λ (p : EntryParts). p.sealed) parts_same)) in
        let second : number_of head.durable ≡ Some y.durable = durable_read n y is' head (sealed_of y.call) refl refl in
        let both : Some x.durable ≡ Some y.durable = sym first ∙ second in
        cc

    nexts_alike : AreDesksAlike x.next y.next
    nexts_alike =
        let s : Desk J = record n { durable = y.durable } in
        let moved_there : IsRecordedAs s x.call x.told x.text x.next =
        subst (λ (d : ℕ). IsRecordedAs (record n { durable = d }) x.call x.told x.text x.next) durables_same is.recorded in
        next_same s x.call y.call calls_same x.told y.told x.text y.text x.next y.next moved_there is'.recorded texts_same

  -- entries go on behind others: those from this desk lead to the last one
  record IsBeyond (m last : Desk J) (rest tail : List ℕ) : Type 0 where
    zs : List (Written J)
    at : Desk J
    alike : AreDesksAlike m at
    written : AreWritten at zs
    left : rest ≡ texts_of zs ++ tail
    last_is : last ≡ desk_after at zs

  -- they end before one that the last desk may write
  record IsBefore (last : Desk J) (tail : List ℕ) : Type 0 where
    x : Written J
    more : List ℕ
    is : IsWritten last x
    left : tail ≡ x.text ++ more

  follow : (m n : Desk J) (xs ys : List (Written J)) (rest tail : List ℕ) → AreDesksAlike m n → AreWritten m xs → AreWritten n ys
      → texts_of xs ++ rest ≡ texts_of ys ++ tail → IsBeyond (desk_after m xs) (desk_after n ys) rest tail ⊎ IsBefore (desk_after n ys) tail
  follow m n [] ys rest tail a ws vs same = inl (record { zs = ys; at = n; alike = a; written = vs; left = same; last_is = refl })
  follow m n (x ∷ xs) [] rest tail a ws vs same =
      inr (record { x = there m n a x; more = texts_of xs ++ rest; is = written_there m n a x ws.0; left = sym same ∙ append_assoc x.text (texts_of xs) rest })
  follow m n (x ∷ xs) (y ∷ ys) rest tail a ws vs same =
      let z : Written J = there m n a x in
      let is : IsWritten n z = written_there m n a x ws.0 in
      let split : z.text ++ (texts_of xs ++ rest) ≡ y.text ++ (texts_of ys ++ tail) =
      sym (append_assoc x.text (texts_of xs) rest) ∙ same ∙ append_assoc y.text (texts_of ys) tail in
      let next : AreDesksAlike x.next y.next =
      alike_both x.next z.next y.next (next_alike m n a x ws.0) (nexts_alike n z y (texts_of xs ++ rest) (texts_of ys ++ tail) is vs.0 split) in
      follow x.next y.next xs ys rest tail next ws.1 vs.1 (rest_same n z y (texts_of xs ++ rest) (texts_of ys ++ tail) is vs.0 split)

  -- what entries add
  pub extent_grows : (m : Desk J) (zs : List (Written J)) → AreWritten m zs → (desk_after m zs).extent ≡ m.extent + length (texts_of zs)
  extent_grows m [] ws = omega arith
  extent_grows m (z ∷ zs) ws =
      let first = ws.0.recorded.extent in
      let more = extent_grows z.next zs ws.1 in
      omega (arith, first, more, length-append z.text (texts_of zs))

  book_grows : (m : Desk J) (zs : List (Written J)) → AreWritten m zs → (more : List (Entry Commitment)) × ((desk_after m zs).book ≡ m.book ++ more)
  book_grows m [] ws = ([], sym (append-nil m.book))
  book_grows m (z ∷ zs) ws =
      let later = book_grows z.next zs ws.1 in
      let e : List (Entry Commitment) = entry_of (record m { durable = z.durable }) z.call ∷ [] in
      (e ++ later.0, later.1 ∙ ap (λ (l : List (Entry Commitment)). l ++ later.0) ws.0.recorded.book ∙ append_assoc m.book e later.0)

  text_some : (m : Desk J) (z : Written J) → IsWritten m z → 0 < length z.text
  text_some m z is =
      let front : List ℕ = front_of_entry m z in
      let linked : List ℕ = chain_after m.chain front in
      let len = ap length is.recorded.text_is in
      omega (arith, len, length-append (front ++ linked) (10 ∷ []))

  none_left : (m : Desk J) (zs : List (Written J)) → AreWritten m zs → length (texts_of zs) ≡ 0 → zs ≡ []
  none_left m [] ws none = refl
  none_left m (z ∷ zs) ws none = let some = text_some m z ws.0 in absurd (omega (arith, some, none, length-append z.text (texts_of zs)))

-- nothing stands in no bytes
no_entry_in_nothing : entry_at [] ≡ None
unfolding entry_at head_at
no_entry_in_nothing = refl

module _ {J : Type 0} (judge : J) (bytes : List ℕ) (end : ℕ) (m : Desk J) (j : IsJournal judge bytes end m) where
  front_same : (f : JournalFront) → front_at bytes ≡ Ok f → j.front ≡ f
  front_same f at = let here = j.front_is in cc

  opened_alike : (f : JournalFront) (n : Desk J) → front_at bytes ≡ Ok f → IsOpened judge bytes f n → AreDesksAlike j.start n
  opened_alike f n at o =
      let o1 : IsOpened judge bytes f j.start = subst (λ (g : JournalFront). IsOpened judge bytes g j.start) (front_same f at) j.opened in
      let both : Ok j.start.rules ≡ Ok n.rules = sym o1.rules_are ∙ o.rules_are in
      record {
        judge = o1.judge_is ∙ sym o.judge_is;
        rules = cc;
        rules_text = o1.rules_text_is ∙ sym o.rules_text_is;
        book = o1.no_entry ∙ sym o.no_entry;
        extent = o1.extent ∙ sym o.extent;
        chain = o1.chain ∙ sym o.chain;
      }

  -- the bytes behind the front
  behind_front : texts_of j.entries ++ drop end bytes ≡ drop (length (take j.front.len bytes)) bytes
  behind_front =
      let front : List ℕ = take j.front.len bytes in
      let all : bytes ≡ front ++ (texts_of j.entries ++ drop end bytes) =
      sym (take-append-drop end bytes) ∙ ap (λ (l : List ℕ). l ++ drop end bytes) j.bytes_are ∙ append_assoc front (texts_of j.entries) (drop end bytes) in
      sym (drop-append_seam front (texts_of j.entries ++ drop end bytes)) ∙ ap (drop (length front)) (sym all)

module _ {J : Type 0} (judge : J) (bytes : List ℕ) (end : ℕ) (m : Desk J) (j : IsJournal judge bytes end m) (end' : ℕ) (n : Desk J) (k : IsJournal judge bytes end' n) where
  same_behind : texts_of j.entries ++ drop end bytes ≡ texts_of k.entries ++ drop end' bytes
  same_behind =
      behind_front judge bytes end m j ∙ ap (λ (f : JournalFront). drop (length (take f.len bytes)) bytes) (front_same judge bytes end m j k.front k.front_is)
      ∙ sym (behind_front judge bytes end' n k)

  -- the one that is read goes on behind the other, or ends before an entry
  both_read : IsBeyond m n (drop end bytes) (drop end' bytes) ⊎ IsBefore n (drop end' bytes)
  both_read =
      subst (λ (d : Desk J). IsBeyond d n (drop end bytes) (drop end' bytes) ⊎ IsBefore n (drop end' bytes)) (sym j.desk_is)
      (subst (λ (d : Desk J). IsBeyond (desk_after j.start j.entries) d (drop end bytes) (drop end' bytes) ⊎ IsBefore d (drop end' bytes)) (sym k.desk_is)
      (follow j.start k.start j.entries k.entries (drop end bytes) (drop end' bytes) (opened_alike judge bytes end m j k.front k.start k.front_is k.opened)
      j.written k.written same_behind))

  not_before : ¬ (IsLinked n (drop end' bytes)) ⊎ HasNoEntry n (drop end' bytes) → IsBefore n (drop end' bytes) → ⊥
  not_before (inl none) b = none (linked_if n (drop end' bytes) b.x b.more b.is b.left)
  not_before (inr none) b = none b.x b.more b.is b.left

  beyond : ¬ (IsLinked n (drop end' bytes)) ⊎ HasNoEntry n (drop end' bytes) → IsBeyond m n (drop end bytes) (drop end' bytes)
  beyond none = elim both_read [ inl b ↦ b | inr b ↦ absurd (not_before none b) ]

  -- it doesn't end before
  not_shorter : (b : IsBeyond m n (drop end bytes) (drop end' bytes)) → end + length (texts_of b.zs) ≡ end'
  not_shorter b =
      let grows = extent_grows b.at b.zs b.written in
      let first = j.extent in
      let second = k.extent in
      let same = b.alike.extent in
      let last = ap (λ (d : Desk J). d.extent) b.last_is in
      omega arith

module _ {J : Type 0} (judge : J) (bytes : List ℕ) (end : ℕ) (m : Desk J) (j : IsJournal judge bytes end m) where
  undamaged : (at : ℕ) (n : Desk J) → IsDamaged n (drop at bytes) → ¬ (IsLinked n (drop at bytes)) ⊎ HasNoEntry n (drop at bytes)
  undamaged at n (inl d) = inl d.0
  undamaged at n (inr d) = inr d.1

  refused : (why : RulesFault) (f : JournalFront) → front_at bytes ≡ Ok f → rules_read f.rules ≡ Err why → ⊥
  refused why f at is =
      let same = front_same judge bytes end m j f at in
      let read : rules_read f.rules ≡ Ok j.start.rules = ap (λ (g : JournalFront). rules_read g.rules) (sym same) ∙ j.opened.rules_are in
      cc

  unfronted : (why : FrontFault) → front_at bytes ≡ Err why → ⊥
  unfronted why is = let here = j.front_is in cc

  pub read_beyond : (result : Result (Replayed J) ReadFault) → IsReadAs judge bytes result → IsReadBeyond m end result
  read_beyond (Ok r) is =
      let b = beyond judge bytes end m j r.end is.0 is.1 (inl is.2.no_entry) in
      let longer = not_shorter judge bytes end m j r.end is.0 is.1 b in
      let more = book_grows b.at b.zs b.written in
      (omega (arith, longer), (more.0, ap (λ (d : Desk J). d.book) is.3 ∙ ap (λ (d : Desk J). d.book) b.last_is ∙ more.1 ∙ ap (λ (l : List (Entry Commitment)). l ++ more.0) (sym b.alike.book)))
  read_beyond (Err (fault.Damaged at)) is =
      let b = beyond judge bytes end m j at is.0 is.1 (undamaged at is.0 is.2) in
      let longer = not_shorter judge bytes end m j at is.0 is.1 b in
      omega (arith, longer)
  read_beyond (Err fault.OutOfMemory) is = tt
  read_beyond (Err (fault.Front why)) is = unfronted why is
  read_beyond (Err (fault.Rules why)) is = refused why is.0 is.1 is.2

module _ {J : Type 0} (judge : J) (bytes : List ℕ) (m : Desk J) (j : IsJournal judge bytes (length bytes) m) where
  nothing_behind : (at : ℕ) → length bytes ≤ at → drop at bytes ≡ []
  nothing_behind at long = drop_all at bytes long

  whole_damaged : (at : ℕ) (n : Desk J) → length bytes ≤ at → IsDamaged n (drop at bytes) → ⊥
  whole_damaged at n long (inl d) = let none = ap length (nothing_behind at long) in let place = d.1.1 in omega (arith, none, place)
  whole_damaged at n long (inr d) = let some = d.0.stands in let none : entry_at (drop at bytes) ≡ None = ap entry_at (nothing_behind at long) ∙ no_entry_in_nothing in cc

  pub read_back : (result : Result (Replayed J) ReadFault) → IsReadAs judge bytes result → IsReadBack m (length bytes) result
  read_back (Ok r) is =
      let b = beyond judge bytes (length bytes) m j r.end is.0 is.1 (inl is.2.no_entry) in
      let longer = not_shorter judge bytes (length bytes) m j r.end is.0 is.1 b in
      let most = is.1.within in
      let none : b.zs ≡ [] = none_left b.at b.zs b.written (omega (arith, longer, most)) in
      let last : is.0 ≡ b.at = b.last_is ∙ ap (desk_after b.at) none in
      let same : r.desk ≡ all_durable b.at = is.3 ∙ ap (λ (d : Desk J). all_durable d) last in
      let alike : AreDesksAlike m (all_durable b.at) = record {
        judge = b.alike.judge;
        rules = b.alike.rules;
        rules_text = b.alike.rules_text;
        book = b.alike.book;
        extent = b.alike.extent;
        chain = b.alike.chain;
      } in
      (omega (arith, longer, most), subst (λ (d : Desk J). AreDesksAlike m d) (sym same) alike, ap (λ (d : Desk J). d.durable) same ∙ sym b.alike.extent ∙ j.extent)
  read_back (Err (fault.Damaged at)) is =
      let b = beyond judge bytes (length bytes) m j at is.0 is.1 (undamaged judge bytes (length bytes) m j at is.0 is.2) in
      let longer = not_shorter judge bytes (length bytes) m j at is.0 is.1 b in
      whole_damaged at is.0 (omega (arith, longer)) is.2
  read_back (Err fault.OutOfMemory) is = tt
  read_back (Err (fault.Front why)) is = unfronted judge bytes (length bytes) m j why is
  read_back (Err (fault.Rules why)) is = refused judge bytes (length bytes) m j why is.0 is.1 is.2
