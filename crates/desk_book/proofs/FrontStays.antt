-- A front is one whatever follows it.
use Rattle.std.proofs.Common.{◌≡◌, ◌<◌, ◌≤◌, ◌+◌, ◌++◌, ◌∙◌, ℕ, Bool, true, false, List, Option, Some, None, Result, Ok, Err, ap, arith, drop, length, length-append, refl, sym, take}
use Rattle.std.proofs.Math.Seq.{take-length}
use Rattle.std.proofs.lemmas.Bool.{le-ltb, ltb-false}
use Rattle.std.proofs.lemmas.List.{drop-append-le, length-take, take-append-le}
use Rattle.std.proofs.lemmas.List.Quantifiers.{position-Some}
use Rattle.std.specs.Prelude.{◌==◌, if◌then◌else◌, nat_lt, not}
use Rattle.std.specs.Str.{bytes_eq}
use Rattle.auction_terms.specs.Terms.{Terms}
use Rattle.desk_book.specs.Calls.{head_fields, line_end}
use Rattle.desk_book.specs.Digests.{sha_digits}
use Rattle.desk_book.specs.Fronts.{JournalFront, front_at, front_behind, front_counted, front_first, front_second, front_with, line_ended, line_ending, rules_digest_in, rules_len_in}
use Rattle.desk_book.specs.Judging.{ends_line}
use Rattle.desk_book.specs.declared.front.FrontFault.{FrontFault}
use Rattle.desk_book.specs.declared.front.FrontFault.TheVariants as fault
use Rattle.desk_book.specs.declared.limits.TheConstants.{HEAD_LIMIT}
use Rattle.desk_book.specs.inside.CallLaws.{line-stays}

-- a line that has its end
record IsEnded (bytes more : List ℕ) (end : ℕ) : Type 0 where
  inside : end < length bytes
  ended : line_ended (bytes ++ more) ≡ Ok end
  line : take end (bytes ++ more) ≡ take end bytes
  behind : drop (end + 1) (bytes ++ more) ≡ drop (end + 1) bytes ++ more

no-end : (b : Bool) (end : ℕ) → (if b then Err fault.Short else Err fault.None) ≡ Ok end → ⊥
no-end true end is = cc
no-end false end is = cc

ended_at : (rules : Terms) (bytes more : List ℕ) (o : Option ℕ) (end : ℕ) → line_end bytes ≡ o → line_ending bytes o ≡ Ok end → IsEnded bytes more end
unfolding line_ended
ended_at rules bytes more None end at is = absurd (no-end (nat_lt (length bytes) HEAD_LIMIT) end is)
ended_at rules bytes more (Some e) end at is =
    let same : e ≡ end = cc in
    let there : line_end bytes ≡ Some end = at ∙ ap Some same in
    let found = position-Some (λ b. b == 10) (take HEAD_LIMIT bytes) end 0 there in
    let most = length-take HEAD_LIMIT bytes in
    let in_bytes : end < length bytes = (let place = found.0 in omega (arith, place, most)) in
    let few : end < HEAD_LIMIT = (let place = found.0 in omega (arith, place, most)) in
    let stays : line_end (bytes ++ more) ≡ Some end =
    ap (λ (l : List ℕ). line_end (l ++ more)) (sym (take-length bytes)) ∙ line-stays rules bytes more (length bytes) end there few in_bytes (omega arith) in
    record {
      inside = in_bytes;
      ended = ap (line_ending (bytes ++ more)) stays;
      line = take-append-le end bytes more (omega (arith, in_bytes));
      behind = drop-append-le (end + 1) bytes more (omega (arith, in_bytes));
    }

ended : (rules : Terms) (bytes more : List ℕ) (end : ℕ) → line_ended bytes ≡ Ok end → IsEnded bytes more end
unfolding line_ended
ended rules bytes more end is = ended_at rules bytes more (line_end bytes) end refl is

with_room : (b : Bool) (x : Result JournalFront FrontFault) (f : JournalFront) → (if b then Err fault.Short else x) ≡ Ok f → (b ≡ false) × (x ≡ Ok f)
with_room true x f is = absurd cc
with_room false x f is = (refl, is)

with_stays : (line digest : List ℕ) (count at : ℕ) (behind more : List ℕ) (f : JournalFront) → front_with line digest count at behind ≡ Ok f
    → front_with line digest count at (behind ++ more) ≡ Ok f
unfolding front_with
with_stays line digest count at behind more f is =
    let rest : List ℕ → Result JournalFront FrontFault =
    λ rules. if not (bytes_eq (sha_digits rules) digest) then Err fault.Digest else if not (ends_line rules) then Err fault.NoLineEnd
    else Ok (record { line = line; rules = rules; len = at + count }) in
    let parts = with_room (nat_lt (length behind) count) (rest (take count behind)) f is in
    let room : count ≤ length behind = ltb-false (length behind) count parts.0 in
    let more_room : nat_lt (length (behind ++ more)) count ≡ false = le-ltb (length (behind ++ more)) count (omega (arith, room, length-append behind more)) in
    ap (λ (b : Bool). if b then Err fault.Short else rest (take count (behind ++ more))) more_room ∙ ap rest (take-append-le count behind more room) ∙ parts.1

module _ (rules : Terms) (bytes more : List ℕ) (f : JournalFront) where
  counted_stays : (first second : ℕ) (digest : List ℕ) (o : Option ℕ) → IsEnded bytes more first → IsEnded (drop (first + 1) bytes) more second
      → front_counted bytes first digest second o ≡ Ok f → front_counted (bytes ++ more) first digest second o ≡ Ok f
  counted_stays first second digest None a b is = absurd cc
  counted_stays first second digest (Some count) a b is =
      ap (λ (l : List ℕ). front_with l digest count (first + 1 + second + 1) (drop (second + 1) (drop (first + 1) (bytes ++ more)))) a.line
      ∙ ap (λ (l : List ℕ). front_with (take first bytes) digest count (first + 1 + second + 1) (drop (second + 1) l)) a.behind
      ∙ ap (λ (l : List ℕ). front_with (take first bytes) digest count (first + 1 + second + 1) l) b.behind
      ∙ with_stays (take first bytes) digest count (first + 1 + second + 1) (drop (second + 1) (drop (first + 1) bytes)) more f is

  second_stays : (first : ℕ) (digest : List ℕ) (r : Result ℕ FrontFault) → IsEnded bytes more first → line_ended (drop (first + 1) bytes) ≡ r
      → front_second bytes first digest r ≡ Ok f → front_second (bytes ++ more) first digest (line_ended (drop (first + 1) (bytes ++ more))) ≡ Ok f
  second_stays first digest (Err why) a at is = absurd cc
  second_stays first digest (Ok second) a at is =
      let b : IsEnded (drop (first + 1) bytes) more second = ended rules (drop (first + 1) bytes) more second at in
      let there : line_ended (drop (first + 1) (bytes ++ more)) ≡ Ok second = ap line_ended a.behind ∙ b.ended in
      let line : take second (drop (first + 1) (bytes ++ more)) ≡ take second (drop (first + 1) bytes) = ap (take second) a.behind ∙ b.line in
      ap (front_second (bytes ++ more) first digest) there
      ∙ ap (λ (l : List ℕ). front_counted (bytes ++ more) first digest second (rules_len_in (head_fields l))) line
      ∙ counted_stays first second digest (rules_len_in (head_fields (take second (drop (first + 1) bytes)))) a b is

  behind_stays : (first : ℕ) (o : Option (List ℕ)) → IsEnded bytes more first → front_behind bytes first o ≡ Ok f → front_behind (bytes ++ more) first o ≡ Ok f
  behind_stays first None a is = absurd cc
  behind_stays first (Some digest) a is = second_stays first digest (line_ended (drop (first + 1) bytes)) a refl is

  first_stays : (r : Result ℕ FrontFault) → line_ended bytes ≡ r → front_first bytes r ≡ Ok f → front_first (bytes ++ more) (line_ended (bytes ++ more)) ≡ Ok f
  first_stays (Err why) at is = absurd cc
  first_stays (Ok first) at is =
      let a : IsEnded bytes more first = ended rules bytes more first at in
      ap (front_first (bytes ++ more)) a.ended
      ∙ ap (λ (l : List ℕ). front_behind (bytes ++ more) first (rules_digest_in (head_fields l))) a.line
      ∙ behind_stays first (rules_digest_in (head_fields (take first bytes))) a is

  -- a front is one whatever follows it
  pub front_stays : front_at bytes ≡ Ok f → front_at (bytes ++ more) ≡ Ok f
  unfolding front_at
  front_stays is = first_stays (line_ended bytes) refl is
