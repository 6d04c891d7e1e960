-- An entry that is printed is read again.
use Rattle.std.proofs.Common.{◌≡◌, ◌<◌, ◌+◌, ◌-◌, ◌^◌, ◌++◌, ◌∙◌, ℕ, Bool, true, false, List, [], ◌∷◌, Option, Some, None, append-nil, append_assoc, ap, arith, drop, length, length-append, refl, sym, take}
use Rattle.std.proofs.Math.Seq.{drop-append-add, drop-append_seam, get_or-append_seam, take-append_seam}
use Rattle.std.proofs.lemmas.Option.{slice_get-get_or}
use Rattle.std.proofs.lemmas.Bool.{and_parts, eqb-true, le-leb}
use Rattle.std.specs.List.{AllByRecursion, list_all}
use Rattle.std.specs.Option.{option_and_then, option_map_or}
use Rattle.std.specs.Prelude.{◌==◌, ◌&&◌, IfSome, codes, decimal, if◌then◌else◌, nat_le, slice_get}
use Rattle.auction_terms.specs.Terms.{Terms}
use Rattle.desk_book.specs.Calls.{digest_named, head_fields, is_hex_digit, line_end}
use Rattle.desk_book.specs.Digests.{sha_digits}
use Rattle.desk_book.specs.Entries.{answer_number, answer_word, chain_after, entry_front, entry_tail, with_chain, call_words, entry_head, maker_words, name_word, sealed_of}
use Rattle.desk_book.specs.Asking.{IsHandedIn, IsMaker, IsOver, MayBeAsked}
use Rattle.desk_book.specs.ReadEntries.{EntryParts, HeadParts, TailParts, entry_at, entry_with, head_at, head_ending, head_in, tail_at, tail_ending, tail_in}
use Rattle.desk_book.specs.Recording.{IsMakerNamed, is_maker_word}
use Rattle.desk_book.specs.Words.{number_or, spaced}
use Rattle.desk_book.specs.declared.answer.Answer.{Answer}
use Rattle.desk_book.specs.declared.answer.Answer.TheVariants as answer
use Rattle.desk_book.specs.declared.asked.Asked.{Asked}
use Rattle.desk_book.specs.declared.asked.Asked.TheVariants as asked
use Rattle.desk_book.specs.declared.calls.Who.{Who}
use Rattle.desk_book.specs.declared.limits.TheConstants.{HEAD_LIMIT, SEALED_LIMIT}
use Rattle.desk_book.specs.inside.Asking.{head_parts}
use Rattle.desk_book.proofs.Printed.{IsHeadWord, IsPlain, decimal_plain, decimal_short, fields_of_words, hex_plain, line_ends, maker_short, number_back, number_up_to_back, spaced_few, spaced_join, sha_length, sha_named, sha_plain, words_line}

-- what an entry is printed of
pub record IsPrinted (rules : Terms) (n : ℕ) (a : Asked) (durable : ℕ) : Type 0 where
  pub may : MayBeAsked rules a
  pub named : IsMakerNamed rules a
  pub few : n < 2 ^ 64
  pub number : durable < 10 ^ 18

number_word : (n : ℕ) → n < 2 ^ 64 → IsHeadWord (decimal n)
number_word n h = (decimal_plain n h, (let few = decimal_short n h in omega (arith, few)))

over_word : (over : Option ℕ) → IsOver over → IsHeadWord (number_or (codes "-") over)
over_word None h = (refl, omega arith)
over_word (Some n) h = number_word n (omega arith)

digest_is : (c : List ℕ) (b : Bool) → ((length c == 64) && list_all is_hex_digit c) ≡ b → (if b then Some c else None) ≡ Some c → (length c ≡ 64) × IsPlain c
digest_is c true is h = let both = and_parts (length c == 64) (list_all is_hex_digit c) is in (eqb-true (length c) 64 both.0, hex_plain c both.1)
digest_is c false is h = absurd cc

digest_word : (c : List ℕ) → digest_named c ≡ Some c → IsHeadWord c
digest_word c h = let is = digest_is c ((length c == 64) && list_all is_hex_digit c) refl h in (is.1, (let size = is.0 in omega (arith, size)))

bidder_word : (rules : Terms) (who : Who) → is_maker_word (name_word rules who.bidder) ≡ true → IsHeadWord (name_word rules who.bidder)
bidder_word rules who h = let short = maker_short (name_word rules who.bidder) h in (short.is_plain, (let few = short.few in omega (arith, few)))

-- the words behind the first
abbrev words_behind : Terms → ℕ → Asked → ℕ → List (List ℕ)
words_behind rules n a durable =
    decimal n ∷ (maker_words rules a ++ (call_words a ++ (decimal (length (sealed_of a)) ∷ decimal durable ∷ [])))

are_words : (rules : Terms) (n : ℕ) (a : Asked) (durable : ℕ) → IsPrinted rules n a durable → AllByRecursion IsHeadWord (words_behind rules n a durable)
are_words rules n (asked.Submit who over commit bids sealed) durable p =
    let who_is : IsMaker rules who = p.may.0 in
    let form_is : IsHandedIn over commit bids sealed.now = p.may.1 in
    let few = p.few in
    let time = who_is.time in
    let session = who_is.session in
    let bytes = form_is.few_bytes in
    let count = form_is.few_bids in
    let number = p.number in
    (number_word n few, (number_word who.time (omega (arith, time)), (bidder_word rules who p.named, (number_word who.session (omega (arith, session)), ((refl, omega arith), (over_word over form_is.over_is, (digest_word commit form_is.commit_is, (number_word bids (omega (arith, count)), (number_word (length sealed.now) (omega (arith, bytes)), (number_word durable (omega (arith, number)), tt))))))))))
are_words rules n (asked.Withdraw who over) durable p =
    let who_is : IsMaker rules who = p.may.0 in
    let few = p.few in
    let time = who_is.time in
    let session = who_is.session in
    let change = p.may.1 in
    let number = p.number in
    (number_word n few, (number_word who.time (omega (arith, time)), (bidder_word rules who p.named, (number_word who.session (omega (arith, session)), ((refl, omega arith), (number_word over (omega (arith, change)), ((refl, omega arith), (number_word 0 (omega arith), (number_word 0 (omega arith), (number_word durable (omega (arith, number)), tt))))))))))
are_words rules n (asked.Show who) durable p =
    let who_is : IsMaker rules who = p.may in
    let few = p.few in
    let time = who_is.time in
    let session = who_is.session in
    let number = p.number in
    (number_word n few, (number_word who.time (omega (arith, time)), (bidder_word rules who p.named, (number_word who.session (omega (arith, session)), ((refl, omega arith), ((refl, omega arith), ((refl, omega arith), (number_word 0 (omega arith), (number_word 0 (omega arith), (number_word durable (omega (arith, number)), tt))))))))))
are_words rules n (asked.Close time) durable p =
    let few = p.few in
    let when = p.may in
    let number = p.number in
    (number_word n few, (number_word time (omega (arith, when)), ((refl, omega arith), ((refl, omega arith), ((refl, omega arith), ((refl, omega arith), ((refl, omega arith), (number_word 0 (omega arith), (number_word 0 (omega arith), (number_word durable (omega (arith, number)), tt))))))))))

count_words : (rules : Terms) (n : ℕ) (a : Asked) (durable : ℕ) → length (words_behind rules n a durable) ≡ 10
count_words rules n (asked.Submit who over commit bids sealed) durable = refl
count_words rules n (asked.Withdraw who over) durable = refl
count_words rules n (asked.Show who) durable = refl
count_words rules n (asked.Close time) durable = refl

-- a head line without its end
abbrev head_line : Terms → ℕ → Asked → ℕ → List ℕ
head_line rules n a durable = codes "%call" ++ spaced (words_behind rules n a durable)

join_six : (c n m k l d : List ℕ) → ((((c ++ n) ++ m) ++ k) ++ l) ++ d ≡ c ++ (n ++ (m ++ (k ++ (l ++ (d ++ [])))))
join_six c n m k l d = simp (append_assoc, append-nil)

head_is : (rules : Terms) (n : ℕ) (a : Asked) (durable : ℕ) → entry_head rules n a durable ≡ head_line rules n a durable ++ 10 ∷ []
head_is rules n a durable =
    let said : List (List ℕ) = call_words a in
    let last : List (List ℕ) = decimal (length (sealed_of a)) ∷ decimal durable ∷ [] in
    let numbered : List ℕ = 32 ∷ decimal n in
    ap (λ (l : List ℕ). l ++ 10 ∷ [])
    (join_six (codes "%call") numbered (spaced (maker_words rules a)) (spaced said) (32 ∷ decimal (length (sealed_of a))) (32 ∷ decimal durable)
    ∙ ap (λ (l : List ℕ). codes "%call" ++ (numbered ++ (spaced (maker_words rules a) ++ l))) (sym (spaced_join said last))
    ∙ ap (λ (l : List ℕ). codes "%call" ++ (numbered ++ l)) (sym (spaced_join (maker_words rules a) (said ++ last))))

head_said : (rules : Terms) (n : ℕ) (a : Asked) (durable : ℕ) → IsPrinted rules n a durable
    → head_in (codes "%call" ∷ words_behind rules n a durable) ≡ Some (head_parts rules n a durable)
head_said rules n (asked.Submit who over commit bids sealed) durable p =
    let form_is : IsHandedIn over commit bids sealed.now = p.may.1 in
    rw (number_up_to_back SEALED_LIMIT (length sealed.now) form_is.few_bytes (omega arith), number_back durable p.number) refl
head_said rules n (asked.Withdraw who over) durable p = rw (number_up_to_back SEALED_LIMIT 0 (omega arith) (omega arith), number_back durable p.number) refl
head_said rules n (asked.Show who) durable p = rw (number_up_to_back SEALED_LIMIT 0 (omega arith) (omega arith), number_back durable p.number) refl
head_said rules n (asked.Close time) durable p = rw (number_up_to_back SEALED_LIMIT 0 (omega arith) (omega arith), number_back durable p.number) refl

head_ended : (bytes line : List ℕ) (h : HeadParts) → take (length line) bytes ≡ line → head_in (head_fields line) ≡ Some h
    → head_ending bytes (Some (length line)) ≡ Some (h, length line + 1)
head_ended bytes line h taken is =
    ap (λ (l : List ℕ). option_and_then {T = HeadParts} {U = HeadParts × ℕ} (λ h. Some (h, length line + 1)) (head_in (head_fields l))) taken
    ∙ ap (λ (o : Option HeadParts). option_and_then {T = HeadParts} {U = HeadParts × ℕ} (λ h. Some (h, length line + 1)) o) is

pub head_back : (rules : Terms) (n : ℕ) (a : Asked) (durable : ℕ) (more : List ℕ) → IsPrinted rules n a durable
    → head_at (entry_head rules n a durable ++ more) ≡ Some (head_parts rules n a durable, length (entry_head rules n a durable))
unfolding head_at
head_back rules n a durable more p =
    let line : List ℕ = head_line rules n a durable in
    let words = are_words rules n a durable p in
    let whole : entry_head rules n a durable ++ more ≡ line ++ 10 ∷ more =
    ap (λ (l : List ℕ). l ++ more) (head_is rules n a durable) ∙ append_assoc line (10 ∷ []) more in
    let few : length line < HEAD_LIMIT =
    (let size = spaced_few (words_behind rules n a durable) words in let count = count_words rules n a durable in
    omega (arith, size, count, length-append (codes "%call") (spaced (words_behind rules n a durable)))) in
    let end : line_end (line ++ 10 ∷ more) ≡ Some (length line) = line_ends line more (words_line (codes "%call") (words_behind rules n a durable) refl words) few in
    let size : length (entry_head rules n a durable) ≡ length line + 1 = ap length (head_is rules n a durable) ∙ length-append line (10 ∷ []) in
    ap (λ (l : List ℕ). head_ending l (line_end l)) whole ∙ ap (head_ending (line ++ 10 ∷ more)) end
    ∙ head_ended (line ++ 10 ∷ more) line (head_parts rules n a durable) (take-append_seam line (10 ∷ more))
    (ap head_in (fields_of_words (codes "%call") (words_behind rules n a durable) refl words) ∙ head_said rules n a durable p)
    ∙ ap (λ (k : ℕ). Some (head_parts rules n a durable, k)) (sym size)

-- ---------- the last line ----------

answer_word_is : (told : Answer) → IsHeadWord (answer_word told)
answer_word_is (answer.Accepted n) = (refl, omega arith)
answer_word_is (answer.Withdrawn n) = (refl, omega arith)
answer_word_is (answer.Stands n) = (refl, omega arith)
answer_word_is (answer.Stale n) = (refl, omega arith)
answer_word_is answer.Closed = (refl, omega arith)
answer_word_is answer.Over = (refl, omega arith)

number_word_if : (n : Option ℕ) → IfSome n (λ n. n < 2 ^ 32) → IsHeadWord (number_or (codes "-") n)
number_word_if None h = (refl, omega arith)
number_word_if (Some n) h = number_word n (omega (arith, h))

abbrev tail_words : Answer → List ℕ → List (List ℕ)
tail_words told chain = answer_word told ∷ number_or (codes "-") (answer_number told) ∷ chain ∷ []

abbrev tail_line : Answer → List ℕ → List ℕ
tail_line told chain = codes "%reply" ++ spaced (tail_words told chain)

abbrev pub tail_parts : Answer → List ℕ → TailParts
tail_parts told chain = record { answer = answer_word told; number = number_or (codes "-") (answer_number told); chain = chain }

tail_ended : (bytes line : List ℕ) (t : TailParts) → take (length line) bytes ≡ line → tail_in (head_fields line) ≡ Some t → nat_le 64 (length line) ≡ true
    → tail_ending bytes (Some (length line)) ≡ Some (t, length line)
tail_ended bytes line t taken is room =
    ap (λ (l : List ℕ). option_and_then {T = TailParts} {U = TailParts × ℕ} (λ t. if nat_le 64 (length line) then Some (t, length line) else None) (tail_in (head_fields l))) taken
    ∙ ap (λ (o : Option TailParts). option_and_then {T = TailParts} {U = TailParts × ℕ} (λ t. if nat_le 64 (length line) then Some (t, length line) else None) o) is
    ∙ ap (λ (b : Bool). if b then Some (t, length line) else None) room

tail_back : (told : Answer) (x more : List ℕ) → IfSome (answer_number told) (λ n. n < 2 ^ 32)
    → tail_at (tail_line told (sha_digits x) ++ 10 ∷ more) ≡ Some (tail_parts told (sha_digits x), length (tail_line told (sha_digits x)))
unfolding tail_at
tail_back told x more number =
    let chain : List ℕ = sha_digits x in
    let line : List ℕ = tail_line told chain in
    let size : length chain ≡ 64 = sha_length x in
    let words : AllByRecursion IsHeadWord (tail_words told chain) =
    (answer_word_is told, (number_word_if (answer_number told) number, ((sha_plain x, omega (arith, size)), tt))) in
    let most = spaced_few (tail_words told chain) words in
    let sum = length-append (codes "%reply") (spaced (tail_words told chain)) in
    let end : line_end (line ++ 10 ∷ more) ≡ Some (length line) = line_ends line more (words_line (codes "%reply") (tail_words told chain) refl words) (omega (arith, most, sum)) in
    let first : length (spaced (tail_words told chain)) ≡ length (32 ∷ answer_word told) + length (spaced (number_or (codes "-") (answer_number told) ∷ chain ∷ [])) =
    length-append (32 ∷ answer_word told) (spaced (number_or (codes "-") (answer_number told) ∷ chain ∷ [])) in
    let second : length (spaced (number_or (codes "-") (answer_number told) ∷ chain ∷ []))
    ≡ length (32 ∷ number_or (codes "-") (answer_number told)) + length (spaced (chain ∷ [])) =
    length-append (32 ∷ number_or (codes "-") (answer_number told)) (spaced (chain ∷ [])) in
    let third : length (spaced (chain ∷ [])) ≡ length (32 ∷ chain) + 0 = length-append (32 ∷ chain) [] in
    let room : nat_le 64 (length line) ≡ true = le-leb 64 (length line) (omega (arith, first, second, third, size, sum)) in
    let said : tail_in (head_fields line) ≡ Some (tail_parts told chain) =
    ap tail_in (fields_of_words (codes "%reply") (tail_words told chain) refl words) ∙ rw (sha_named x) refl in
    ap (tail_ending (line ++ 10 ∷ more)) end ∙ tail_ended (line ++ 10 ∷ more) line (tail_parts told chain) (take-append_seam line (10 ∷ more)) said room

-- ---------- the entry ----------

abbrev parts_of : HeadParts → ℕ → ℕ → List ℕ → TailParts × ℕ → Option EntryParts
parts_of h at k sealed t = Some (record { head = h; sealed = sealed; tail = t.0; chain_at = at + k + 1 + t.1 - 64; len = at + k + 1 + t.1 + 1 })

abbrev behind_is : HeadParts → ℕ → ℕ → List ℕ → Option EntryParts
behind_is h at k behind =
    option_and_then {T = TailParts × ℕ} {U = EntryParts} (λ t. parts_of h at k (take k behind) t) (tail_at (drop (k + 1) behind))

with_parts : (h : HeadParts) (bytes head sealed rest : List ℕ) (t : TailParts) (end : ℕ) → bytes ≡ head ++ (sealed ++ 10 ∷ rest)
    → head_at bytes ≡ Some (h, length head) → h.sealed_len ≡ length sealed → tail_at rest ≡ Some (t, end)
    → entry_at bytes ≡ parts_of h (length head) (length sealed) sealed (t, end)
unfolding entry_at
with_parts h bytes head sealed rest t end is at count tail =
    let body : List ℕ = sealed ++ 10 ∷ rest in
    let behind : drop (length head) bytes ≡ body = ap (drop (length head)) is ∙ drop-append_seam head body in
    let room : length sealed < length body = omega (arith, length-append sealed (10 ∷ rest)) in
    let mark : slice_get body (length sealed) ≡ Some 10 = slice_get-get_or body (length sealed) 0 room ∙ ap Some (get_or-append_seam sealed 10 rest 0) in
    let left : drop (length sealed + 1) body ≡ rest = drop-append-add sealed (10 ∷ rest) 1 in
    ap (entry_with bytes) at
    ∙ ap (λ (l : List ℕ). if option_map_or (λ b. b == 10) (slice_get l h.sealed_len) false then behind_is h (length head) h.sealed_len l else None) behind
    ∙ ap (λ (k : ℕ). if option_map_or (λ b. b == 10) (slice_get body k) false then behind_is h (length head) k body else None) count
    ∙ ap (λ (o : Option ℕ). if option_map_or (λ b. b == 10) o false then behind_is h (length head) (length sealed) body else None) mark
    ∙ ap (λ (l : List ℕ). option_and_then {T = TailParts × ℕ} {U = EntryParts} (λ t. parts_of h (length head) (length sealed) (take (length sealed) body) t) (tail_at l)) left
    ∙ ap (λ (o : Option (TailParts × ℕ)). option_and_then {T = TailParts × ℕ} {U = EntryParts} (λ t. parts_of h (length head) (length sealed) (take (length sealed) body) t) o) tail
    ∙ ap (λ (l : List ℕ). parts_of h (length head) (length sealed) l (t, end)) (take-append_seam sealed (10 ∷ rest))

join_lists : (h s o r w n b c e more : List ℕ)
    → (((((h ++ s) ++ ((((o ++ r) ++ w) ++ n) ++ b)) ++ c) ++ e) ++ more) ≡ h ++ (s ++ (o ++ ((r ++ (w ++ (n ++ ((b ++ c) ++ [])))) ++ (e ++ more))))
join_lists h s o r w n b c e more = simp (append_assoc, append-nil)

join_tail : (h s r w n c more : List ℕ)
    → (((((h ++ s) ++ ((((10 ∷ r) ++ w) ++ n) ++ 32 ∷ [])) ++ c) ++ 10 ∷ []) ++ more) ≡ h ++ (s ++ 10 ∷ ((r ++ (w ++ (n ++ ((32 ∷ c) ++ [])))) ++ 10 ∷ more))
join_tail h s r w n c more = join_lists h s (10 ∷ []) r w n (32 ∷ []) c (10 ∷ []) more

tail_len : (r w n c : List ℕ) → length c ≡ 64 → length ((((10 ∷ r) ++ w) ++ n) ++ 32 ∷ []) + 63 ≡ length (r ++ (w ++ (n ++ ((32 ∷ c) ++ []))))
tail_len r w n c size =
    omega (
      arith,
      size,
      length-append (((10 ∷ r) ++ w) ++ n) (32 ∷ []),
      length-append ((10 ∷ r) ++ w) n,
      length-append (10 ∷ r) w,
      length-append r (w ++ (n ++ ((32 ∷ c) ++ []))),
      length-append w (n ++ ((32 ∷ c) ++ [])),
      length-append n ((32 ∷ c) ++ []),
      length-append (32 ∷ c) [],
    )

front_len : (h s t l : List ℕ) → length t + 63 ≡ length l → length ((h ++ s) ++ t) ≡ length h + length s + 1 + length l - 64
front_len h s t l e = omega (arith, e, length-append (h ++ s) t, length-append h s)

whole_len : (h s t c l : List ℕ) → length t + 63 ≡ length l → length c ≡ 64 → length ((((h ++ s) ++ t) ++ c) ++ 10 ∷ []) ≡ length h + length s + 1 + length l + 1
whole_len h s t c l e size =
    omega (arith, e, size, length-append (((h ++ s) ++ t) ++ c) (10 ∷ []), length-append ((h ++ s) ++ t) c, length-append (h ++ s) t, length-append h s)

head_len : (rules : Terms) (n : ℕ) (a : Asked) (durable : ℕ) → (head_parts rules n a durable).sealed_len ≡ length (sealed_of a)
head_len rules n (asked.Submit who over commit bids sealed) durable = refl
head_len rules n (asked.Withdraw who over) durable = refl
head_len rules n (asked.Show who) durable = refl
head_len rules n (asked.Close time) durable = refl

-- an entry that is printed is the one that is read again, whatever follows it
pub entry_back : (rules : Terms) (n : ℕ) (a : Asked) (told : Answer) (durable : ℕ) (chain more : List ℕ) → IsPrinted rules n a durable
    → IfSome (answer_number told) (λ n. n < 2 ^ 32) → let front : List ℕ = entry_front rules n a told durable in
    entry_at (with_chain chain front ++ more) ≡ Some (record {
      head = head_parts rules n a durable;
      sealed = sealed_of a;
      tail = tail_parts told (chain_after chain front);
      chain_at = length front;
      len = length (with_chain chain front);
    })
entry_back rules n a told durable chain more p number =
    let front : List ℕ = entry_front rules n a told durable in
    let head : List ℕ = entry_head rules n a durable in
    let sealed : List ℕ = sealed_of a in
    let linked : List ℕ = chain_after chain front in
    let line : List ℕ = tail_line told linked in
    let rest : List ℕ = line ++ 10 ∷ more in
    let joined : with_chain chain front ++ more ≡ head ++ (sealed ++ 10 ∷ rest) =
    join_tail head sealed (codes "%reply") (32 ∷ answer_word told) (32 ∷ number_or (codes "-") (answer_number told)) linked more in
    let at : head_at (with_chain chain front ++ more) ≡ Some (head_parts rules n a durable, length head) =
    ap head_at joined ∙ head_back rules n a durable (sealed ++ 10 ∷ rest) p in
    let size : length linked ≡ 64 = sha_length (chain ++ front) in
    let tail : length (entry_tail told) + 63 ≡ length line =
    tail_len (codes "%reply") (32 ∷ answer_word told) (32 ∷ number_or (codes "-") (answer_number told)) linked size in
    let all : length front ≡ length head + length sealed + 1 + length line - 64 = front_len head sealed (entry_tail told) line tail in
    let whole : length (with_chain chain front) ≡ length head + length sealed + 1 + length line + 1 =
    whole_len head sealed (entry_tail told) linked line tail size in
    with_parts (head_parts rules n a durable) (with_chain chain front ++ more) head sealed rest (tail_parts told linked) (length line) joined at
    (head_len rules n a durable) (tail_back told (chain ++ front) more number)
    ∙ ap (λ (k : ℕ). Some (record { head = head_parts rules n a durable; sealed = sealed; tail = tail_parts told linked; chain_at = k; len = length head + length sealed + 1 + length line + 1 })) (sym all)
    ∙ ap (λ (k : ℕ). Some (record { head = head_parts rules n a durable; sealed = sealed; tail = tail_parts told linked; chain_at = length front; len = k })) (sym whole)
