-- A whole call is one whatever follows it, and it has bytes, no more than there are.
use Rattle.std.proofs.Common.{◌≡◌, ◌<◌, ◌≤◌, ◌+◌, ◌++◌, ◌∙◌, ℕ, Bool, true, false, List, Option, Some, None, length, get_or, take, drop, refl, ap, sym, subst, arith, length-append, length-drop}
use Rattle.std.proofs.Math.ListN.{get_or-append}
use Rattle.std.proofs.lemmas.Bool.{lt-ltb, leb-true, le-leb}
use Rattle.std.proofs.lemmas.List.{drop-append-le, drop-take, get_or-take, length-take, length-take-le, take-append-le, take-take}
use Rattle.std.proofs.lemmas.List.Sums.{position_or_len_is}
use Rattle.std.proofs.lemmas.List.Quantifiers.{position-Some}
use Rattle.std.specs.List.{position, position_or_len}
use Rattle.std.specs.Prelude.{◌==◌, if◌then◌else◌, nat_le, nat_lt}
use Rattle.auction_terms.specs.Terms.{Terms}
use Rattle.desk_book.specs.Calls.{Head, Alone, OfForm, Means, Whole, Short, Wrong, Submit, call_at, call_ending, call_of_head, head_fields, head_of, line_end}
use Rattle.desk_book.specs.declared.calls.Who.{Who}
use Rattle.desk_book.specs.declared.limits.TheConstants.{HEAD_LIMIT}

-- the first place where something holds is the first of another list that has the same up to there
position-same : (p : ℕ → Bool) (xs ys : List ℕ) (e : ℕ) → position p xs ≡ Some e → e < length ys
    → ((k : ℕ) → k ≤ e → get_or ys k 0 ≡ get_or xs k 0) → position p ys ≡ Some e
position-same p xs ys e is within same =
    let at = position-Some p xs e 0 is in
    let first : position_or_len p ys ≡ e =
    position_or_len_is p ys e 0 (omega arith) (λ k l. ap p (same k (omega arith)) ∙ at.2 k l) (λ l. ap p (same e (omega arith)) ∙ at.1) in
    rw first (rw (lt-ltb e (length ys) within) refl)

-- what a head line needs is within the bytes behind it
data IsWithin (len : ℕ) (behind : List ℕ) (n : ℕ) : Type 0 where
  behind_head : (k : ℕ) → n ≡ len + k → k ≤ length behind → IsWithin len behind n

form-whole : (t s len : ℕ) (behind : List ℕ) (call' call : Means) (n : ℕ) (b : Bool) → nat_le (t + s) (length behind) ≡ b
    → (if b then Whole call' (len + (t + s)) else Short) ≡ Whole call n → IsWithin len behind n
form-whole t s len behind call' call n true e is =
    let same : len + (t + s) ≡ n = cc in behind_head (t + s) (omega arith) (leb-true (t + s) (length behind) e)
form-whole t s len behind call' call n false e is = absurd cc

head-whole : (h : Option Head) (len : ℕ) (behind : List ℕ) (call : Means) (n : ℕ) → call_of_head h len behind ≡ Whole call n → IsWithin len behind n
head-whole None len behind call n is = absurd cc
head-whole (Some (Alone c)) len behind call n is = let same : len ≡ n = cc in behind_head 0 (omega arith) (omega arith)
head-whole (Some (OfForm who over salt commit t s)) len behind call n is =
    form-whole t s len behind (Submit who over salt commit (take t behind) (take s (drop t behind))) call n (nat_le (t + s) (length behind)) refl is

-- a form's bytes are the same where these are cut off behind it
form-kept : (t s : ℕ) (behind more : List ℕ) → t + s ≤ length behind
    → (take t (take (t + s) behind ++ more) ≡ take t behind) × (take s (drop t (take (t + s) behind ++ more)) ≡ take s (drop t behind))
form-kept t s behind more within =
    let cut : length (take (t + s) behind) ≡ t + s = length-take-le (t + s) behind within in
    let inner : drop t (take (t + s) behind) ≡ take s (drop t behind) = drop-take t s behind in
    let left : length (take s (drop t behind)) ≡ s = length-take-le s (drop t behind) (omega (arith, length-drop t behind)) in (
      take-append-le t (take (t + s) behind) more (omega arith) ∙ take-take t (t + s) behind (omega arith),
      ap (take s) (drop-append-le t (take (t + s) behind) more (omega arith) ∙ ap (λ (l : List ℕ). l ++ more) inner)
          ∙ take-append-le s (take s (drop t behind)) more (omega arith) ∙ take-take s s (drop t behind) (omega arith),
    )

form-same : (t s len : ℕ) (behind more : List ℕ) (who : Who) (over : Option ℕ) (salt commit : List ℕ) → t + s ≤ length behind
    → call_of_head (Some (OfForm who over salt commit t s)) len (take (t + s) behind ++ more)
    ≡ Whole (Submit who over salt commit (take t behind) (take s (drop t behind))) (len + (t + s))
form-same t s len behind more who over salt commit within =
    let kept = form-kept t s behind more within in
    let cut : length (take (t + s) behind) ≡ t + s = length-take-le (t + s) behind within in
    let room : nat_le (t + s) (length (take (t + s) behind ++ more)) ≡ true =
    le-leb (t + s) (length (take (t + s) behind ++ more)) (omega (arith, length-append (take (t + s) behind) more)) in
    rw (room, kept.0, kept.1) refl

form-stays : (t s len k : ℕ) (behind more : List ℕ) (who : Who) (over : Option ℕ) (salt commit : List ℕ) (call : Means) (b : Bool)
    → nat_le (t + s) (length behind) ≡ b
    → (if b then Whole (Submit who over salt commit (take t behind) (take s (drop t behind))) (len + (t + s)) else Short) ≡ Whole call (len + k)
    → call_of_head (Some (OfForm who over salt commit t s)) len (take k behind ++ more) ≡ Whole call (len + k)
form-stays t s len k behind more who over salt commit call true e is =
    let same : len + (t + s) ≡ len + k = cc in
    let count : t + s ≡ k = omega arith in
    subst (λ (j : ℕ). call_of_head (Some (OfForm who over salt commit t s)) len (take j behind ++ more) ≡ Whole call (len + k)) count
    (form-same t s len behind more who over salt commit (leb-true (t + s) (length behind) e) ∙ is)
form-stays t s len k behind more who over salt commit call false e is = absurd cc

head-stays : (h : Option Head) (len k : ℕ) (behind more : List ℕ) (call : Means) → call_of_head h len behind ≡ Whole call (len + k)
    → call_of_head h len (take k behind ++ more) ≡ Whole call (len + k)
head-stays None len k behind more call is = absurd cc
head-stays (Some (Alone c)) len k behind more call is = is
head-stays (Some (OfForm who over salt commit t s)) len k behind more call is =
    form-stays t s len k behind more who over salt commit call (nat_le (t + s) (length behind)) refl is

-- where the head line of a whole call ends, and how many bytes of the call are behind it
record IsEnded (rules : Terms) (bytes : List ℕ) (call : Means) (n : ℕ) : Type 0 where
  end : ℕ
  more : ℕ
  at : line_end bytes ≡ Some end
  count : n ≡ end + 1 + more
  limit : end < HEAD_LIMIT
  room : end + 1 + more ≤ length bytes
  is : call_of_head (head_of rules (head_fields (take end bytes))) (end + 1) (drop (end + 1) bytes) ≡ Whole call n

module _ (rules : Terms) where
  no-ending : (b : Bool) (call : Means) (n : ℕ) → (if b then Short else Wrong) ≡ Whole call n → ⊥
  no-ending true call n is = cc
  no-ending false call n is = cc

  ended-within : (bytes : List ℕ) (call : Means) (n end : ℕ) → line_end bytes ≡ Some end → end < HEAD_LIMIT → end < length bytes
      → call_of_head (head_of rules (head_fields (take end bytes))) (end + 1) (drop (end + 1) bytes) ≡ Whole call n
      → IsWithin (end + 1) (drop (end + 1) bytes) n → IsEnded rules bytes call n
  ended-within bytes call n end at limit inside is (behind_head k count room) = record {
    end = end;
    more = k;
    at = at;
    count = count;
    limit = limit;
    room = omega (arith, length-drop (end + 1) bytes);
    is = is;
  }

  ended-at : (bytes : List ℕ) (at : Option ℕ) (call : Means) (n : ℕ) → line_end bytes ≡ at → call_ending rules bytes at ≡ Whole call n
      → IsEnded rules bytes call n
  ended-at bytes None call n at is = absurd (no-ending (nat_lt (length bytes) HEAD_LIMIT) call n is)
  ended-at bytes (Some end) call n at is =
      let found = position-Some (λ b. b == 10) (take HEAD_LIMIT bytes) end 0 at in
      let inside : end < length (take HEAD_LIMIT bytes) = found.0 in
      let most = length-take HEAD_LIMIT bytes in
      ended-within bytes call n end at (omega arith) (omega arith) is
      (head-whole (head_of rules (head_fields (take end bytes))) (end + 1) (drop (end + 1) bytes) call n is)

  ended : (bytes : List ℕ) (call : Means) (n : ℕ) → call_at rules bytes ≡ Whole call n → IsEnded rules bytes call n
  unfolding call_at
  ended bytes call n is = ended-at bytes (line_end bytes) call n refl is

  -- the head line stands where the bytes behind the call are others
  pub line-stays : (bytes more : List ℕ) (n end : ℕ) → line_end bytes ≡ Some end → end < HEAD_LIMIT → end < n → n ≤ length bytes
      → line_end (take n bytes ++ more) ≡ Some end
  line-stays bytes more n end at limit inside room =
      let other : List ℕ = take n bytes ++ more in
      let cut : length (take n bytes) ≡ n = length-take-le n bytes room in
      position-same (λ b. b == 10) (take HEAD_LIMIT bytes) (take HEAD_LIMIT other) end at
      (omega (arith, length-take HEAD_LIMIT other, length-append (take n bytes) more))
      (λ k l. get_or-take HEAD_LIMIT other k 0 (omega arith) ∙ get_or-append (take n bytes) more 0 k (omega arith)
      ∙ get_or-take n bytes k 0 (omega arith) ∙ sym (get_or-take HEAD_LIMIT bytes k 0 (omega arith)))

  stays : (bytes more : List ℕ) (call : Means) (n : ℕ) → IsEnded rules bytes call n → call_at rules (take n bytes ++ more) ≡ Whole call n
  unfolding call_at
  stays bytes more call n e =
      let other : List ℕ = take n bytes ++ more in
      let end : ℕ = e.end in
      let count : n ≡ end + 1 + e.more = e.count in
      let room : end + 1 + e.more ≤ length bytes = e.room in
      let cut : length (take n bytes) ≡ n = length-take-le n bytes (omega arith) in
      let at : line_end other ≡ Some end = line-stays bytes more n end e.at e.limit (omega arith) (omega arith) in
      let line : take end other ≡ take end bytes =
      take-append-le end (take n bytes) more (omega arith) ∙ take-take end n bytes (omega arith) in
      let behind : drop (end + 1) other ≡ take e.more (drop (end + 1) bytes) ++ more =
      drop-append-le (end + 1) (take n bytes) more (omega arith)
      ∙ ap (λ (m : ℕ). drop (end + 1) (take m bytes) ++ more) count ∙ ap (λ (l : List ℕ). l ++ more) (drop-take (end + 1) e.more bytes) in
      ap (call_ending rules other) at
      ∙ ap (λ (l : List ℕ). call_of_head (head_of rules (head_fields l)) (end + 1) (drop (end + 1) other)) line
      ∙ ap (λ (l : List ℕ). call_of_head (head_of rules (head_fields (take end bytes))) (end + 1) l) behind
      ∙ head-stays (head_of rules (head_fields (take end bytes))) (end + 1) e.more (drop (end + 1) bytes) more call (e.is ∙ ap (Whole call) count)
      ∙ ap (Whole call) (sym count)

  -- a whole call is one whatever follows it
  pub call-stays : (bytes more : List ℕ) (call : Means) (n : ℕ) → call_at rules bytes ≡ Whole call n → call_at rules (take n bytes ++ more) ≡ Whole call n
  call-stays bytes more call n is = stays bytes more call n (ended bytes call n is)

  within-ended : (bytes : List ℕ) (call : Means) (n : ℕ) → IsEnded rules bytes call n → (0 < n) × (n ≤ length bytes)
  within-ended bytes call n e = (let count = e.count in omega arith, let count = e.count in let room = e.room in omega arith)

  -- a whole call has bytes, and no more than there are
  pub call-within : (bytes : List ℕ) (call : Means) (n : ℕ) → call_at rules bytes ≡ Whole call n → (0 < n) × (n ≤ length bytes)
  call-within bytes call n is = within-ended bytes call n (ended bytes call n is)
