-- Going back to a state, some calls ago.
use Rattle.std.proofs.Common.{◌≡◌, ◌≤◌, ◌+◌, ◌∙◌, inl, inr, ℕ, List, [], ◌∷◌, length, take, refl, ap, sym, arith, length-append}
use Rattle.std.proofs.Math.Seq.{take-length, take-append_seam}
use Rattle.std.proofs.lemmas.List.{take-take}
use Rattle.bid_book.specs.declared.records.Entry.{Entry}
use Rattle.desk_line.specs.Fronts.{Step, AreSteps, Follows, state_after}
use Rattle.desk_line.specs.declared.machine.Mark.{Mark}
use Rattle.desk_book.specs.declared.commitment.Commitment.{Commitment}
use Rattle.desk_book.specs.declared.desk.Desk.{Desk}
use Rattle.desk_book.specs.Answers.{IsDeskAnswer, IsDeskFront, IsTold}
use Rattle.desk_book.specs.declared.calls.Call.{Call}
use Rattle.desk_book.specs.inside.Marks.{mark_of}
use Rattle.desk_book.specs.Recording.{IsRecordedAs, asked_by, book_call, made_by, reply_owed}
use Rattle.desk_book.specs.declared.answer.Answer.{Answer}
use Rattle.desk_book.specs.declared.asked.Asked.{Asked}

-- what calls leave of a state
record IsKept {J : Type 0} (m n : Desk J) : Type 0 where
  judge : n.judge ≡ m.judge
  rules : n.rules ≡ m.rules
  rules_text : n.rules_text ≡ m.rules_text
  within : length m.book ≤ length n.book
  book : take (length m.book) n.book ≡ m.book

module _ {J : Type 0} where
  kept_self : (m : Desk J) → IsKept m m
  kept_self m = record { judge = refl; rules = refl; rules_text = refl; within = omega arith; book = take-length m.book }

  kept_recorded : (m n : Desk J) (a : Asked) (told : Answer) (entry : List ℕ) → IsRecordedAs m a told entry n → IsKept m n
  kept_recorded m n a told entry is =
      let e : Entry Commitment = record { caller = made_by a; call = book_call (length m.book + 1) a; reply = reply_owed m a } in
      record {
        judge = is.judge;
        rules = is.rules;
        rules_text = is.rules_text;
        within = (let n1 = ap length is.book in omega (arith, n1, length-append m.book (e ∷ [])));
        book = ap (take (length m.book)) is.book ∙ take-append_seam m.book (e ∷ []);
      }

  kept_told : (faults : J → List ℕ → List ℕ → List ℕ) (m n : Desk J) (c : Call) (reply entry : List ℕ) → IsTold faults m c reply entry n → IsKept m n
  kept_told faults m n c reply entry (inl is) = rw is.1.same (kept_self m)
  kept_told faults m n c reply entry (inr is) = kept_recorded m n (asked_by c is.bids) is.told entry is.recorded

  kept_both : (m n o : Desk J) → IsKept m n → IsKept n o → IsKept m o
  kept_both m n o a b = record {
    judge = b.judge ∙ a.judge;
    rules = b.rules ∙ a.rules;
    rules_text = b.rules_text ∙ a.rules_text;
    within = omega (arith, a.within, b.within);
    book = sym (take-take (length m.book) (length n.book) o.book a.within) ∙ ap (take (length m.book)) b.book ∙ a.book;
  }

  kept_steps : (faults : J → List ℕ → List ℕ → List ℕ) (m : Desk J) (steps : List (Step (Desk J)))
      → AreSteps (λ m bytes f. IsDeskFront m bytes f) (λ m call reply entry n. IsDeskAnswer faults m call reply entry n) m steps
      → IsKept m (state_after m steps)
  kept_steps faults m [] are = kept_self m
  kept_steps faults m (s ∷ steps) are =
      kept_both m s.next (state_after s.next steps) (kept_told faults m s.next are.1.call s.reply s.entry are.1.told) (kept_steps faults s.next steps are.2)

  -- the state that a mark was taken of
  pub rewound : (faults : J → List ℕ → List ℕ → List ℕ) (m n : Desk J) (mark : Mark) (b : List (Entry Commitment))
      → Follows (λ m bytes f. IsDeskFront m bytes f) (λ m call reply entry n. IsDeskAnswer faults m call reply entry n) m n
      → mark ≡ mark_of m → b ≡ take mark.entries n.book
      → record n { book = b; extent = mark.extent; durable = mark.durable; chain = mark.chain } ≡ m
  rewound faults m n mark b follows is taken =
      let kept : IsKept m (state_after m follows.0) = kept_steps faults m follows.0 follows.1 in
      rw (taken, is, follows.2, kept.judge, kept.rules, kept.rules_text, kept.book) refl
