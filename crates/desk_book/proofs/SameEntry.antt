-- What is read of an entry that a desk may write leads to that entry again.
use Rattle.std.proofs.Common.{◌≡◌, ◌<◌, ◌+◌, ◌^◌, ◌++◌, ◌∙◌, ℕ, Bool, true, false, List, [], ◌∷◌, Option, Some, None, append_assoc, ap, arith, length, refl, subst, sym, take}
use Rattle.std.proofs.lemmas.Bool.{le-leb}
use Rattle.std.proofs.lemmas.Slice.Eq.{bytes_eq-Decides}
use Rattle.std.specs.Prelude.{codes, decimal, if◌then◌else◌, option_map}
use Rattle.std.specs.Str.{bytes_eq}
use Rattle.auction_terms.specs.Numbers.{number_of}
use Rattle.auction_terms.specs.Terms.{Terms}
use Rattle.auction_terms.specs.declared.limits.TheConstants.{MOST_BIDS, MOST_SESSIONS}
use Rattle.bid_book.specs.declared.records.Entry.{Entry}
use Rattle.desk_book.specs.declared.commitment.Commitment.{Commitment}
use Rattle.desk_book.specs.Calls.{change_named, over_named}
use Rattle.desk_book.specs.Entries.{chain_after, entry_front, name_word, sealed_of, with_chain}
use Rattle.desk_book.specs.Asking.{IsHandedIn, IsMaker, IsOver, MayBeAsked}
use Rattle.desk_book.specs.Journals.{AreDesksAlike, HasNoEntry, IsLinked, IsWritten, Written}
use Rattle.desk_book.specs.ReadEntries.{EntryParts, HeadParts, entry_at}
use Rattle.desk_book.specs.Recording.{IsRecordedAs, answer_due, book_call, made_by, reply_owed}
use Rattle.desk_book.specs.Words.{number_or}
use Rattle.desk_book.specs.declared.answer.Answer.{Answer}
use Rattle.desk_book.specs.declared.asked.Asked.{Asked}
use Rattle.desk_book.specs.declared.asked.Asked.TheVariants as asked
use Rattle.desk_book.specs.declared.calls.Who.{Who}
use Rattle.desk_book.specs.declared.desk.Desk.{Desk}
use Rattle.desk_book.specs.inside.Asking.{call_of_entry, close_of, head_parts, parts_with, plain, show_of, submission_of, who_of, withdrawal_of}
use Rattle.desk_book.proofs.Printed.{number_back, number_up_to_back}
use Rattle.desk_book.proofs.PrintedEntries.{IsPrinted, entry_back, tail_parts}
use Rattle.desk_book.specs.inside.Reading.{IsOtherEntry}
use Rattle.std.proofs.Math.Seq.{take-append_seam}

-- ---------- the call ----------

who_back : (rules : Terms) (who : Who) (n : ℕ) (a : Asked) (durable : ℕ) → IsMaker rules who
    → who_of rules (parts_with n (decimal who.time) (name_word rules who.bidder) (decimal who.session) a durable) ≡ Some who
unfolding who_of
who_back rules who n a durable m =
    let few = m.session in
    rw (m.bidder, number_back who.session (omega (arith, few)), le-leb who.session MOST_SESSIONS few, number_back who.time m.time) refl

over_some : (n : ℕ) (b : Bool) → bytes_eq (decimal n) (codes "-") ≡ b → n < 10 ^ 9
    → (if b then Some None else option_map (λ n. Some n) (change_named (decimal n))) ≡ Some (Some n)
over_some n true is few =
    let same : decimal n ≡ codes "-" = (bytes_eq-Decides (decimal n) (codes "-")).0 is in
    let back : number_of (decimal n) ≡ Some n = number_back n (omega (arith, few)) in
    let none : number_of (decimal n) ≡ None = ap number_of same in
    absurd cc
over_some n false is few = ap (option_map (λ n. Some n)) (number_up_to_back 999999999 n (omega (arith, few)) (omega arith))

over_back : (over : Option ℕ) → IsOver over → over_named (number_or (codes "-") over) ≡ Some over
over_back None h = refl
over_back (Some n) h = over_some n (bytes_eq (decimal n) (codes "-")) refl h

asked_back : (rules : Terms) (n : ℕ) (a : Asked) (durable : ℕ) → MayBeAsked rules a
    → call_of_entry rules (head_parts rules n a durable) (sealed_of a) ≡ Some (plain a)
unfolding call_of_entry submission_of withdrawal_of show_of close_of
asked_back rules n (asked.Submit who over commit bids sealed) durable may =
    let form_is : IsHandedIn over commit bids sealed.now = may.1 in
    let few = form_is.few_bids in
    rw (
      number_back bids (omega (arith, few)),
      le-leb bids MOST_BIDS few,
      who_back rules who n (asked.Submit who over commit bids sealed) durable may.0,
      over_back over form_is.over_is,
      form_is.commit_is,
    ) refl
asked_back rules n (asked.Withdraw who over) durable may =
    let few = may.1 in
    rw (who_back rules who n (asked.Withdraw who over) durable may.0, number_up_to_back 999999999 over (omega (arith, few)) (omega arith)) refl
asked_back rules n (asked.Show who) durable may = rw (who_back rules who n (asked.Show who) durable may) refl
asked_back rules n (asked.Close time) durable may = rw (number_back time may) refl

durable_is : (rules : Terms) (n : ℕ) (a : Asked) (durable : ℕ) → (head_parts rules n a durable).durable ≡ decimal durable
durable_is rules n (asked.Submit who over commit bids sealed) durable = refl
durable_is rules n (asked.Withdraw who over) durable = refl
durable_is rules n (asked.Show who) durable = refl
durable_is rules n (asked.Close time) durable = refl

-- ---------- where the sealed form is makes no difference ----------

plain_front : (rules : Terms) (n : ℕ) (a : Asked) (told : Answer) (durable : ℕ) → entry_front rules n (plain a) told durable ≡ entry_front rules n a told durable
plain_front rules n (asked.Submit who over commit bids sealed) told durable = refl
plain_front rules n (asked.Withdraw who over) told durable = refl
plain_front rules n (asked.Show who) told durable = refl
plain_front rules n (asked.Close time) told durable = refl

plain_due : {J : Type 0} (m : Desk J) (a : Asked) → answer_due m (plain a) ≡ answer_due m a
plain_due m (asked.Submit who over commit bids sealed) = refl
plain_due m (asked.Withdraw who over) = refl
plain_due m (asked.Show who) = refl
plain_due m (asked.Close time) = refl

-- what the book has of a call
abbrev pub entry_of : {J : Type 0} → Desk J → Asked → Entry Commitment
entry_of s a = record { caller = made_by a; call = book_call (length s.book + 1) a; reply = reply_owed s a }

plain_entry : {J : Type 0} (s : Desk J) (a : Asked) → entry_of s (plain a) ≡ entry_of s a
plain_entry s (asked.Submit who over commit bids sealed) = refl
plain_entry s (asked.Withdraw who over) = refl
plain_entry s (asked.Show who) = refl
plain_entry s (asked.Close time) = refl

module _ {J : Type 0} (s : Desk J) (a b : Asked) (same : plain a ≡ plain b) where
  due_same : answer_due s a ≡ answer_due s b
  due_same = sym (plain_due s a) ∙ ap (answer_due s) same ∙ plain_due s b

  fronts_same : (told told' : Answer) (text text' : List ℕ) (n n' : Desk J) → IsRecordedAs s a told text n → IsRecordedAs s b told' text' n'
      → entry_front s.rules (length s.book + 1) a told s.durable ≡ entry_front s.rules (length s.book + 1) b told' s.durable
  fronts_same told told' text text' n n' is is' =
      let here : Some told ≡ Some told' = sym is.due ∙ due_same ∙ is'.due in
      let answers : told ≡ told' = cc in
      let number : ℕ = length s.book + 1 in
      sym (plain_front s.rules number a told s.durable) ∙ ap (λ (c : Asked). entry_front s.rules number c told s.durable) same
      ∙ plain_front s.rules number b told s.durable ∙ ap (λ (t : Answer). entry_front s.rules number b t s.durable) answers

  entry_same : entry_of s a ≡ entry_of s b
  entry_same = sym (plain_entry s a) ∙ ap (entry_of s) same ∙ plain_entry s b

  pub next_same : (told told' : Answer) (text text' : List ℕ) (n n' : Desk J) → IsRecordedAs s a told text n → IsRecordedAs s b told' text' n'
      → text ≡ text' → AreDesksAlike n n'
  next_same told told' text text' n n' is is' texts = record {
    judge = is.judge ∙ sym is'.judge;
    rules = is.rules ∙ sym is'.rules;
    rules_text = ap (λ v. v.items) (is.rules_text ∙ sym is'.rules_text);
    book = is.book ∙ ap (λ (e : Entry Commitment). s.book ++ e ∷ []) entry_same ∙ sym is'.book;
    extent = is.extent ∙ ap (λ (l : List ℕ). s.extent + length l) texts ∙ sym is'.extent;
    chain = is.chain ∙ ap (chain_after s.chain) (fronts_same told told' text text' n n' is is') ∙ sym is'.chain;
  }

  -- one call is recorded in one way
  pub text_same : (told told' : Answer) (text text' : List ℕ) (n n' : Desk J) → IsRecordedAs s a told text n → IsRecordedAs s b told' text' n' → text ≡ text'
  text_same told told' text text' n n' is is' =
      let here : Some told ≡ Some told' = sym is.due ∙ due_same ∙ is'.due in
      let answers : told ≡ told' = cc in
      let number : ℕ = length s.book + 1 in
      let fronts : entry_front s.rules number a told s.durable ≡ entry_front s.rules number b told' s.durable =
      sym (plain_front s.rules number a told s.durable) ∙ ap (λ (c : Asked). entry_front s.rules number c told s.durable) same
      ∙ plain_front s.rules number b told s.durable ∙ ap (λ (t : Answer). entry_front s.rules number b t s.durable) answers in
      is.text_is ∙ ap (with_chain s.chain) fronts ∙ sym is'.text_is

module _ {J : Type 0} (m : Desk J) (e : Written J) (is : IsWritten m e) where
  -- it is printed as one that may be read
  pub printed : IsPrinted m.rules (length m.book + 1) e.call e.durable
  printed = record { may = is.recorded.may; named = is.recorded.named; few = is.recorded.few; number = is.number }

  module _ (head : HeadParts) (sealed : List ℕ) (head_is : head ≡ head_parts m.rules (length m.book + 1) e.call e.durable) (sealed_is : sealed ≡ sealed_of e.call) where
    pub durable_read : number_of head.durable ≡ Some e.durable
    durable_read =
        ap (λ (h : HeadParts). number_of h.durable) head_is ∙ ap number_of (durable_is m.rules (length m.book + 1) e.call e.durable) ∙ number_back e.durable is.number

    pub asked_read : call_of_entry m.rules head sealed ≡ Some (plain e.call)
    asked_read =
        ap (λ (h : HeadParts). call_of_entry m.rules h sealed) head_is
        ∙ ap (call_of_entry m.rules (head_parts m.rules (length m.book + 1) e.call e.durable)) sealed_is
        ∙ asked_back m.rules (length m.book + 1) e.call e.durable is.recorded.may

    pub not_unread : number_of head.durable ≡ None → ⊥
    not_unread none = let some = durable_read in cc

    same_durable : (d : ℕ) → number_of head.durable ≡ Some d → d ≡ e.durable
    same_durable d at = let some = durable_read in cc

    pub not_beyond : (d : ℕ) → number_of head.durable ≡ Some d → m.extent < d → ⊥
    not_beyond d at more = let same = same_durable d at in let most = is.durable in absurd (omega arith)

    pub not_unasked : (o : Option Asked) → o ≡ call_of_entry m.rules head sealed → o ≡ None → ⊥
    not_unasked o at none = let some = asked_read in cc

    module _ (s : Desk J) (d : ℕ) (a : Asked) (so : s ≡ record m { durable = d }) (at : number_of head.durable ≡ Some d)
        (asks : Some (plain a) ≡ call_of_entry m.rules head sealed) where
      like : plain a ≡ plain e.call
      like = let some = asked_read in cc

      recorded_there : IsRecordedAs s e.call e.told e.text e.next
      recorded_there =
          subst (λ (t : Desk J). IsRecordedAs t e.call e.told e.text e.next)
          (ap (λ (k : ℕ). record m { durable = k }) (sym (same_durable d at)) ∙ sym so) is.recorded

      pub not_unanswered : answer_due s a ≡ None → ⊥
      not_unanswered none = let due : answer_due s a ≡ Some e.told = due_same s a e.call like ∙ recorded_there.due in cc

      pub same_text : (told : Answer) (text : List ℕ) (n : Desk J) → IsRecordedAs s a told text n → e.text ≡ text
      same_text told text n there = sym (text_same s a e.call like told e.told text e.text n e.next there recorded_there)

-- ---------- bytes that an entry stands in ----------

abbrev pub front_of_entry : {J : Type 0} → Desk J → Written J → List ℕ
front_of_entry m e = entry_front m.rules (length m.book + 1) e.call e.told e.durable

-- the parts of an entry that a desk may write
abbrev pub parts_written : {J : Type 0} → Desk J → Written J → EntryParts
parts_written m e = record {
  head = head_parts m.rules (length m.book + 1) e.call e.durable;
  sealed = sealed_of e.call;
  tail = tail_parts e.told (chain_after m.chain (front_of_entry m e));
  chain_at = length (front_of_entry m e);
  len = length e.text;
}

module _ {J : Type 0} (m : Desk J) (bytes : List ℕ) where
  pub written_stands : (e : Written J) (more : List ℕ) → IsWritten m e → bytes ≡ e.text ++ more → entry_at bytes ≡ Some (parts_written m e)
  written_stands e more is there =
      let front : List ℕ = front_of_entry m e in
      let text : e.text ≡ with_chain m.chain front = is.recorded.text_is in
      ap entry_at (there ∙ ap (λ (t : List ℕ). t ++ more) text)
      ∙ entry_back m.rules (length m.book + 1) e.call e.told e.durable m.chain more (printed m e is) is.recorded.number
      ∙ ap (λ (k : ℕ). Some (record (parts_written m e) { len = k })) (sym (ap length text))

  -- where no entry stands
  pub not_linked_nowhere : entry_at bytes ≡ None → ¬ (IsLinked m bytes)
  not_linked_nowhere none l = let some = l.stands in cc

  -- where one stands with another chain
  pub not_linked_there : (p : EntryParts) → entry_at bytes ≡ Some p → (p.tail.chain ≡ chain_after m.chain (take p.chain_at bytes) → ⊥) → ¬ (IsLinked m bytes)
  not_linked_there p at other l =
      let some = l.stands in
      let same : l.parts ≡ p = cc in
      other (subst (λ (q : EntryParts). q.tail.chain ≡ chain_after m.chain (take q.chain_at bytes)) same l.linked)

  -- an entry that a desk may write next has the right chain
  pub linked_if : (e : Written J) (more : List ℕ) → IsWritten m e → bytes ≡ e.text ++ more → IsLinked m bytes
  linked_if e more is there =
      let front : List ℕ = front_of_entry m e in
      let linked : List ℕ = chain_after m.chain front in
      let text : e.text ≡ with_chain m.chain front = is.recorded.text_is in
      let joined : bytes ≡ front ++ (linked ++ (10 ∷ more)) =
      there ∙ ap (λ (t : List ℕ). t ++ more) text ∙ append_assoc (front ++ linked) (10 ∷ []) more ∙ append_assoc front linked (10 ∷ more) in
      let first : take (length front) bytes ≡ front = ap (take (length front)) joined ∙ take-append_seam front (linked ++ (10 ∷ more)) in
      record { parts = parts_written m e; stands = written_stands e more is there; linked = ap (chain_after m.chain) (sym first) }

  -- a desk may write nothing that stands there, if it doesn't write what was read
  pub no_entry_if : (p : EntryParts) → entry_at bytes ≡ Some p → IsOtherEntry m p.head p.sealed (take p.len bytes) → HasNoEntry m bytes
  no_entry_if p at other e more is there =
      let said = written_stands e more is there in
      let same : p ≡ parts_written m e = cc in
      let cut : take p.len bytes ≡ e.text =
      ap (λ (q : EntryParts). take q.len bytes) same ∙ ap (take (length e.text)) there ∙ take-append_seam e.text more in
      other e is (ap (λ (q : EntryParts). q.head) same) (ap (λ (q : EntryParts). q.sealed) same) (sym cut)
