-- How bytes read: a field, the fields of a record, and the records.
use Rattle.std.proofs.Common.{◌≡◌, ◌≢◌, ◌≤◌, ◌<◌, ◌+◌, ◌∷◌, ◌++◌, ◌⊎◌, inl, inr, ⊎_elim, true, false, ℕ, zero, suc, List}
use Rattle.std.proofs.Common.{[], length, Option, Some, None, refl, sym, ap, ◌∙◌, arith, add-one, take, drop, ne_eqb}
use Rattle.std.proofs.Common.{eq-eqb, slice_index}
use Rattle.std.specs.List.{AllByRecursion}
use Rattle.std.proofs.lemmas.Bool.{both_ways, cases_eq, eqb-true}
use Rattle.std.proofs.lemmas.List.{append_assoc, append-nil, drop_all, take-append-drop, take_all}
use Rattle.std.proofs.Math.Seq.{drop-cons}
use Rattle.csv.specs.Machine.{Read, next_record, step}
use Rattle.csv.specs.Reading.{default_config, records, records_from, strip_bom}
use Rattle.csv.specs.declared.parser.State.{State}
use Rattle.csv.specs.declared.parser.State.TheVariants as st
use Rattle.csv.specs.declared.parser.Action.TheVariants as act
use Rattle.memchr.specs.Find.{Nowhere, Passes, is_byte}
use Rattle.auction_terms.specs.inside.RecordFields.{BeginsNoLineEnd, GivesField, IsAtFieldEnd, TakesFields, begins_with, comma, ends_field, quote}
use Rattle.auction_terms.proofs.RecordFacts.{records_from-next, records_from-none}

-- a byte that ends no field
record IsInside (byte : ℕ) : Type 0 where
  pub no_comma : byte ≢ 44
  pub no_feed : byte ≢ 10
  pub no_return : byte ≢ 13

joins_field : (b : ℕ) → IsInside b → step default_config st.InField b ≡ (st.InField, act.Copy)
joins_field b i = rw (ne_eqb b 44 i.no_comma, ne_eqb b 13 i.no_return, ne_eqb b 10 i.no_feed) refl

-- bytes inside a field join it
run_joins : (fields : List (List ℕ)) (field run tail : List ℕ) → AllByRecursion IsInside run
    → next_record default_config st.InField fields field (run ++ tail) ≡ next_record default_config st.InField fields (field ++ run) tail
unfolding next_record
run_joins fields field [] tail a = ap (λ (f : List ℕ). next_record default_config st.InField fields f tail) (sym (append-nil field))
run_joins fields field (b ∷ run) tail a =
    rw (joins_field b a.0) (run_joins fields (field ++ b ∷ []) run tail a.1 ∙ ap
    (λ (f : List ℕ). next_record default_config st.InField fields f tail) (append_assoc field (b ∷ []) run))

-- the bytes before the first comma or line end are inside
insides_before : (bytes : List ℕ) (n : ℕ) → n ≤ length bytes → ((k : ℕ) → k < n → ends_field (slice_index bytes k) ≢ true)
    → AllByRecursion IsInside (take n bytes)
insides_before bytes zero within none = tt
insides_before [] (suc n) within none = absurd (omega arith)
insides_before (b ∷ bytes) (suc n) within none = (
  record {
    no_comma = λ e. none 0 (omega arith) (rw e refl);
    no_feed = λ e. none 0 (omega arith) (rw e refl);
    no_return = λ e. none 0 (omega arith) (rw e refl);
  },
  insides_before bytes n (omega arith) (λ k less. none (suc k) (omega arith)),
)

-- within a field, the bytes before the first comma or line end join it
up_to_end : (fields : List (List ℕ)) (field bytes : List ℕ) (n : ℕ) → n ≤ length bytes → Nowhere (Passes ends_field bytes) 0 n
    → next_record default_config st.InField fields field bytes ≡ next_record default_config st.InField fields (field ++ take n bytes) (drop n bytes)
up_to_end fields field bytes n within none =
    ap (λ (all : List ℕ). next_record default_config st.InField fields field all) (sym (take-append-drop n bytes))
    ∙ run_joins fields field (take n bytes) (drop n bytes) (insides_before bytes n within (λ k less. none k (omega arith) less))

-- a field that begins with no quotation mark is read as if within it
begins_plainly : (fields : List (List ℕ)) (bytes : List ℕ) → begins_with quote bytes ≡ false
    → next_record default_config st.StartField fields [] bytes ≡ next_record default_config st.InField fields [] bytes
unfolding next_record
begins_plainly fields [] plain = refl
begins_plainly fields (b ∷ bytes) plain = rw plain refl

-- so is what comes after a quotation mark and is none
goes_on_plainly : (fields : List (List ℕ)) (field bytes : List ℕ) → begins_with quote bytes ≡ false
    → next_record default_config st.AfterQuote fields field bytes ≡ next_record default_config st.InField fields field bytes
unfolding next_record
goes_on_plainly fields field [] plain = refl
goes_on_plainly fields field (b ∷ bytes) plain = rw plain refl

pub plain_field : (bytes : List ℕ) (n : ℕ) → begins_with quote bytes ≡ false → n ≤ length bytes → Nowhere (Passes ends_field bytes) 0 n
    → IsAtFieldEnd (drop n bytes) → GivesField st.StartField [] bytes (take n bytes) (drop n bytes)
plain_field bytes n plain within none ends = (λ fields. begins_plainly fields bytes plain ∙ up_to_end fields [] bytes n within none, ends)

end_is_no_mark : (bytes : List ℕ) → IsAtFieldEnd bytes → begins_with quote bytes ≡ false
end_is_no_mark [] ends = refl
end_is_no_mark (b ∷ bytes) ends = ⊎_elim
    (λ (mark : b ≡ 34). absurd (both_ways (ends_field b) (rw mark refl) ends))
    (λ (other : b ≢ 34). ne_eqb b 34 other)
    (cases_eq b 34)

-- what begins with a byte is the byte and what follows it
split_first : (byte : ℕ) (bytes : List ℕ) → begins_with byte bytes ≡ true → bytes ≡ byte ∷ drop 1 bytes
split_first byte [] begins = cc begins
split_first byte (b ∷ bytes) begins = ap (λ (first : ℕ). first ∷ bytes) (eqb-true b byte begins)

-- a quotation mark opens a field
pub opened : (bytes field rest : List ℕ) → begins_with quote bytes ≡ true → GivesField st.InQuoted [] (drop 1 bytes) field rest
    → GivesField st.StartField [] bytes field rest
unfolding next_record
opened bytes field rest begins gives = (
  λ fields. ap (λ (all : List ℕ). next_record default_config st.StartField fields [] all) (split_first
      quote bytes begins) ∙ gives.0 fields,
  gives.1,
)

joins_quoted : (b : ℕ) → b ≢ 34 → step default_config st.InQuoted b ≡ (st.InQuoted, act.Copy)
joins_quoted b other = rw (ne_eqb b 34 other) refl

-- bytes before a quotation mark join a field in quotation marks
quoted_run : (fields : List (List ℕ)) (field bytes : List ℕ) (n : ℕ) → n ≤ length bytes → ((k : ℕ) → k < n → is_byte quote (slice_index bytes k) ≢ true)
    → next_record default_config st.InQuoted fields field bytes ≡ next_record default_config st.InQuoted fields (field ++ take n bytes) (drop n bytes)
unfolding next_record
quoted_run fields field bytes zero within none = ap (λ (f : List ℕ). next_record default_config st.InQuoted fields f bytes) (sym (append-nil field))
quoted_run fields field [] (suc n) within none = absurd (omega arith)
quoted_run fields field (b ∷ bytes) (suc n) within none =
    rw (joins_quoted b (λ e. none 0 (omega arith) (eq-eqb b 34 e)))
    (quoted_run fields (field ++ b ∷ []) bytes n (omega arith) (λ k less. none (suc k) (omega arith))
    ∙ ap (λ (f : List ℕ). next_record default_config st.InQuoted fields f (drop n bytes)) (append_assoc field (b ∷ []) (take n bytes)))

never_marked : (fields : List (List ℕ)) (field : List ℕ)
    → next_record default_config st.InQuoted fields field [] ≡ next_record default_config st.InField fields field []
unfolding next_record
never_marked fields field = refl

-- without a further quotation mark, all bytes are the field
pub never_closed : (field bytes : List ℕ) → Nowhere (Passes (is_byte quote) bytes) 0 (length bytes) → GivesField st.InQuoted field bytes (field ++ bytes) []
never_closed field bytes none = (
  λ fields. (
      let all = quoted_run fields field bytes (length bytes) (omega arith) (λ k less. none k (omega arith) less) in
      (rw (take_all (length bytes) bytes (omega arith), drop_all (length bytes) bytes (omega arith)) at all) ∙ never_marked fields (field ++ bytes)),
  tt,
)

at_mark : (fields : List (List ℕ)) (field after : List ℕ)
    → next_record default_config st.InQuoted fields field (34 ∷ after) ≡ next_record default_config st.AfterQuote fields field after
unfolding next_record
at_mark fields field after = refl

one_mark : (fields : List (List ℕ)) (field more : List ℕ)
    → next_record default_config st.AfterQuote fields field (34 ∷ more)
    ≡ next_record default_config st.InQuoted fields (field ++ 34 ∷ []) more
unfolding next_record
one_mark fields field more = refl

module _ (field bytes after : List ℕ) (n : ℕ) (within : n < length bytes) (none : Nowhere (Passes (is_byte quote) bytes) 0 n)
    (marks : is_byte quote (slice_index bytes n) ≡ true) (after_mark : after ≡ drop (n + 1) bytes) where
  up_to_mark : (fields : List (List ℕ)) → next_record default_config st.InQuoted fields field bytes
      ≡ next_record default_config st.AfterQuote fields (field ++ take n bytes) after
  up_to_mark fields =
      let mark : slice_index bytes n ≡ 34 = eqb-true (slice_index bytes n) 34 marks in
      let left : drop n bytes ≡ 34 ∷ after = drop-cons bytes n 0 within
      ∙ ap (λ (k : ℕ). slice_index bytes n ∷ drop k bytes) (sym (add-one n))
      ∙ ap (λ (more : List ℕ). slice_index bytes n ∷ more) (sym after_mark) ∙ ap (λ (byte : ℕ). byte ∷ after) mark in
      quoted_run fields field bytes n (omega arith) (λ k less. none k (omega arith) less)
      ∙ ap (λ (all : List ℕ). next_record default_config st.InQuoted fields (field ++ take n bytes) all) left
      ∙ at_mark fields (field ++ take n bytes) after

  -- a quotation mark that no other follows closes the field's quoted part
  pub closed : (m : ℕ) → begins_with quote after ≡ false → m ≤ length after → Nowhere (Passes ends_field after) 0 m → IsAtFieldEnd (drop m after)
      → GivesField st.InQuoted field bytes ((field ++ take n bytes) ++ take m after) (drop m after)
  closed m plain less before ends = (
    λ fields. up_to_mark fields ∙ goes_on_plainly fields (field ++ take n bytes) after plain ∙ up_to_end fields (field ++ take n bytes) after m less before,
    ends,
  )

  -- one at the field's end closes the field
  pub closed_at_end : IsAtFieldEnd after → GivesField st.InQuoted field bytes (field ++ take n bytes) after
  closed_at_end ends = (λ fields. up_to_mark fields ∙ goes_on_plainly fields (field ++ take n bytes) after (end_is_no_mark after ends), ends)

  -- two of them stand for one
  pub doubled : (fields : List (List ℕ)) → begins_with quote after ≡ true
      → next_record default_config st.InQuoted fields field bytes
      ≡ next_record default_config st.InQuoted fields ((field ++ take n bytes) ++ quote ∷ []) (drop 1 after)
  doubled fields begins =
      up_to_mark fields ∙ ap (λ (all : List ℕ). next_record default_config st.AfterQuote fields (field ++ take n bytes) all) (split_first quote after begins)
      ∙ one_mark fields (field ++ take n bytes) (drop 1 after)

-- what is read so far may be read first
pub gives_after : (bytes left start so_far field rest : List ℕ)
    → ((fields : List (List ℕ)) → next_record default_config st.InQuoted fields start bytes ≡ next_record default_config st.InQuoted fields
    so_far left) → GivesField st.InQuoted so_far left field rest → GivesField st.InQuoted start bytes field rest
gives_after bytes left start so_far field rest same gives = (λ fields. same fields ∙ gives.0 fields, gives.1)

-- a field is taken after those before it
pub field_taken : (bytes field rest : List ℕ) (before : List (List ℕ)) → GivesField st.StartField [] bytes field rest
    → TakesFields bytes before (before ++ field ∷ []) rest
field_taken bytes field rest before gives = (before, field, refl, gives.0 before, gives.1)

at_comma : (fields : List (List ℕ)) (field tail : List ℕ)
    → next_record default_config st.InField fields field (44 ∷ tail)
    ≡ next_record default_config st.StartField (fields ++ field ∷ []) [] tail
unfolding next_record
at_comma fields field tail = refl

-- after a comma, further fields are taken
pub taken_after : (bytes rest left : List ℕ) (before so_far after : List (List ℕ)) → TakesFields bytes before so_far rest
    → begins_with comma rest ≡ true → TakesFields (drop 1 rest) so_far after left → TakesFields bytes before after left
taken_after bytes rest left before so_far after t begins more = (more.0, more.1, more.2, t.3 ∙ next ∙ more.3, more.4)
  where
    next : next_record default_config st.InField t.0 t.1 rest ≡ next_record default_config st.StartField so_far [] (drop 1 rest)
    next = ap (λ (all : List ℕ). next_record default_config st.InField t.0 t.1 all) (split_first comma rest begins)
        ∙ at_comma t.0 t.1 (drop 1 rest) ∙ ap (λ (fields : List (List ℕ)). next_record default_config st.StartField fields [] (drop 1 rest))
        (sym t.2)

-- where the next record is the same one, all are
same_records : (s t : State) (xs ys : List ℕ) → next_record default_config s [] [] xs ≡ next_record default_config t [] [] ys
    → records_from default_config (suc (length xs)) s xs ≡ records_from default_config (suc (length ys)) t ys
same_records s t xs ys same = by (next_record default_config t [] [] ys) refl
  where
    by : (o : Option Read) → next_record default_config t [] [] ys ≡ o
        → records_from default_config (suc (length xs)) s xs ≡ records_from default_config (suc (length ys)) t ys
    by None e = records_from-none default_config (length xs) s xs (same ∙ e) ∙ sym (records_from-none default_config (length ys) t ys e)
    by (Some r) e = records_from-next default_config s xs r (same ∙ e) ∙ sym (records_from-next default_config t ys r e)

-- a line end before a record counts for nothing
skipped : (b : ℕ) (rest : List ℕ) → (b ≡ 10) ⊎ (b ≡ 13)
    → next_record default_config st.StartRecord [] [] (b ∷ rest) ≡ next_record default_config st.StartRecord [] [] rest
unfolding next_record
skipped b rest is = ⊎_elim (λ (feed : b ≡ 10). rw feed refl) (λ (return : b ≡ 13). rw return refl) is

pub line_end_skipped : (b : ℕ) (rest : List ℕ) → (b ≡ 10) ⊎ (b ≡ 13) → records default_config rest ≡ records default_config (b ∷ rest)
line_end_skipped b rest is = rw (add-one (length rest), add-one (length (b ∷ rest)))
    (sym (same_records st.StartRecord st.StartRecord (b ∷ rest) rest (skipped b rest is)))

after_return : (rest : List ℕ) → next_record default_config st.AfterCr [] [] rest ≡ next_record default_config st.StartRecord [] [] rest
unfolding next_record
after_return [] = refl
after_return (b ∷ rest) = ⊎_elim
    (λ (feed : b ≡ 10). rw feed refl)
    (λ (other : b ≢ 10). rw (ne_eqb b 10 other) refl)
    (cases_eq b 10)

-- what comes after a record's carriage return, of which a line feed is the rest, reads as it would alone
records_after_return : (left : List ℕ) → records_from default_config (suc (length left)) st.AfterCr left ≡ records default_config left
records_after_return left = rw (add-one (length left)) (same_records st.AfterCr st.StartRecord left left (after_return left))

-- at a byte that is no line end, a record and its first field begin
begins_field : (b : ℕ) (rest : List ℕ) → BeginsNoLineEnd (b ∷ rest)
    → next_record default_config st.StartRecord [] [] (b ∷ rest) ≡ next_record default_config st.StartField [] [] (b ∷ rest)
unfolding next_record
begins_field b rest begins = rw (ne_eqb b 13 begins.1, ne_eqb b 10 begins.0) refl

-- after the fields of a record, its line end counts for nothing
rest_after : (others : List (List ℕ)) (field rest : List ℕ) → IsAtFieldEnd rest → begins_with comma rest ≡ false
    → (state : State) × (left : List ℕ) × (next_record default_config st.InField others field rest ≡ Some
    (others ++ field ∷ [], state, left)) × (records_from default_config (suc (length left)) state left ≡ records default_config rest)
unfolding next_record
rest_after others field [] ends plain = (st.StartRecord, [], refl, rw (add-one 0) refl)
rest_after others field (b ∷ rest) ends plain = ⊎_elim
    (λ (feed : b ≡ 10). (st.StartRecord, rest, rw feed refl, rw (add-one (length rest)) at (line_end_skipped b rest (inl feed))))
    (λ (no_feed : b ≢ 10). ⊎_elim
    (λ (return : b ≡ 13). (st.AfterCr, rest, rw return refl, records_after_return rest ∙ line_end_skipped b rest (inr return)))
    (λ (no_return : b ≢ 13). absurd (both_ways (ends_field b) (rw (plain, ne_eqb b 10 no_feed, ne_eqb b 13 no_return) refl) ends))
    (cases_eq b 13))
    (cases_eq b 10)

-- the records of bytes that begin one are its fields and the records after it
pub record_taken : (bytes rest : List ℕ) (fields : List (List ℕ)) → length bytes ≢ 0 → BeginsNoLineEnd bytes
    → TakesFields bytes [] fields rest → begins_with comma rest ≡ false
    → records default_config bytes ≡ fields ∷ records default_config rest
record_taken [] rest fields some begins t plain = absurd (some refl)
record_taken (b ∷ bytes) rest fields some begins t plain =
    let r = rest_after t.0 t.1 rest t.4 plain in
    rw (add-one (length (b ∷ bytes)))
    (records_from-next default_config st.StartRecord (b ∷ bytes) (t.0 ++ t.1 ∷ [], r.0, r.1) (begins_field b bytes begins ∙ t.3 ∙ r.2)
    ∙ (λ i. sym t.2 i ∷ r.3 i))

none_left : records default_config [] ≡ []
unfolding records_from next_record
none_left = refl

pub no_record : (bytes : List ℕ) → length bytes ≡ 0 → records default_config bytes ≡ []
no_record [] none = none_left
no_record (b ∷ bytes) none = absurd (omega arith)

-- a byte order mark is dropped
pub mark_dropped : (text : List ℕ) → 3 ≤ length text → slice_index text 0 ≡ 0xEF → slice_index text 1 ≡ 0xBB → slice_index text 2 ≡ 0xBF
    → drop 3 text ≡ strip_bom text
unfolding strip_bom
mark_dropped [] some first second third = absurd (omega arith)
mark_dropped (a ∷ []) some first second third = absurd (omega arith)
mark_dropped (a ∷ b ∷ []) some first second third = absurd (omega arith)
mark_dropped (a ∷ b ∷ c ∷ rest) some first second third = rw (first, second, third) refl

-- other bytes stay
pub others_kept : (text : List ℕ) → (3 ≤ length text → slice_index text 0 ≡ 0xEF → slice_index text 1 ≡ 0xBB → slice_index text 2 ≢ 0xBF)
    → text ≡ strip_bom text
unfolding strip_bom
others_kept [] other = refl
others_kept (a ∷ []) other = refl
others_kept (a ∷ b ∷ []) other = refl
others_kept (a ∷ b ∷ c ∷ rest) other = ⊎_elim
    (λ (first : a ≡ 0xEF). ⊎_elim
    (λ (second : b ≡ 0xBB). rw (first, second, ne_eqb c 0xBF (other (omega arith) first second)) refl)
    (λ (no_second : b ≢ 0xBB). rw (first, ne_eqb b 0xBB no_second) refl)
    (cases_eq b 0xBB))
    (λ (no_first : a ≢ 0xEF). rw (ne_eqb a 0xEF no_first) refl)
    (cases_eq a 0xEF)

-- what begins with no line end at its first byte, or is empty
pub no_line_end : (bytes : List ℕ) (n : ℕ) → (n < length bytes → (slice_index bytes n ≢ 10) × (slice_index bytes n ≢ 13)) → BeginsNoLineEnd (drop n bytes)
no_line_end [] zero other = tt
no_line_end [] (suc n) other = tt
no_line_end (b ∷ bytes) zero other = other (omega arith)
no_line_end (b ∷ bytes) (suc n) other = no_line_end bytes n (λ less. other (omega arith))

-- one line end more is skipped
pub one_more : (bytes : List ℕ) (n : ℕ) → n < length bytes → (slice_index bytes n ≡ 10) ⊎ (slice_index bytes n ≡ 13)
    → records default_config (drop n bytes) ≡ records default_config bytes
    → records default_config (drop (n + 1) bytes) ≡ records default_config bytes
one_more bytes n within ends so_far = line_end_skipped (slice_index bytes n) (drop (n + 1) bytes) ends
    ∙ ap (λ (all : List ℕ). records default_config all) (sym (drop-cons bytes n 0 within ∙ ap
    (λ (k : ℕ). slice_index bytes n ∷ drop k bytes) (sym (add-one n)))) ∙ so_far
