-- The first line of a text, and what is before the next part.
use Rattle.std.proofs.Common.{◌≡◌, ◌≤◌, ◌<◌, ◌+◌, ◌∷◌, ◌++◌, ◌∙◌, Bool, true, false, ℕ, zero, suc, List, [], drop, take}
use Rattle.std.proofs.Common.{length, refl, Result, Err, Vec, Global, ap, append_assoc, subst, sym, arith, ◌⊎◌, inl, inr}
use Rattle.std.proofs.Common.{◌==◌, ◌||◌, Option, None, Some, count_by, filter, find, map, slice_index, slice_index_or, not}
use Rattle.std.proofs.Common.{Bor, bytes_eq, codes}
use Rattle.auction_terms.specs.FirstFault.{first_fault}
use Rattle.auction_terms.proofs.FirstFaultFacts.{CheckedSoFar}
use Rattle.auction_input.proofs.CallFacts.{first-append}
use Rattle.auction_input.specs.declared.parts.PartFault.TheVariants as fault
use Rattle.auction_input.specs.declared.parts.PartFault.{PartFault}
use Rattle.std.proofs.lemmas.Bool.Decides.{Decides-eqb, leb_tells}
use Rattle.std.proofs.lemmas.Bool.{cases_Bool, ne_eqb}
use Rattle.auction_terms.specs.Lines.{is_line_feed, bytes_of}
use Rattle.std.proofs.lemmas.List.{append-nil, drop_more, length-map, length-take-le, map-append, nil_from_length}
use Rattle.std.proofs.lemmas.List.Sums.{length-filter}
use Rattle.auction_input.specs.declared.part_kind.PartKind.{PartKind}
use Rattle.auction_input.specs.Requests.{target_of}
use Rattle.auction_input.specs.declared.request.Request.{Request}
use Rattle.auction_input.specs.declared.request.Target.TheVariants as target
use Rattle.auction_input.specs.declared.request.Target.{Target}
use Rattle.memchr.specs.Find.{FindsNeedle, OccursAt}
use Rattle.auction_input.specs.Parts.{Part, TellsParts, bytes_before, onto_first_line, cut_lines, has_bytes_before}
use Rattle.auction_input.specs.Parts.{heads_part, input_fault, name_of, names_for, part_fault, part_names, parts_from}
use Rattle.auction_input.specs.Parts.{parts_held, parts_in, parts_named, input_parts, text_numbers, unknown_part}
use Rattle.auction_input.specs.Input.{NamedText, Input}
use Rattle.auction_input.specs.ParsedParts.{only_text}
use Rattle.auction_input.specs.inside.Parts.{HaveAdded, IsFaultAfter, is_held, kind_named, kinds_for, known_kinds, part}
use Rattle.auction_input.specs.declared.parts.Part as declared
use Rattle.std.specs.Option.{option_map_or, option_or}
use Rattle.std.specs.Prelude.{nat_lt}
use Rattle.std.specs.List.{list_any}
use Rattle.std.proofs.lemmas.Slice.Eq.{bytes_eq-Decides}

or-false : (a b : Bool) → a || b ≡ false → (a ≡ false) × (b ≡ false)
or-false true b is = cc
or-false false b is = (refl, is)

not-false : (a : Bool) → not a ≡ false → a ≡ true
not-false true is = refl
not-false false is = cc

-- a text with a line feed, none before it
pub cut-at : (text : List ℕ) (end : ℕ) → end < length text → ((k : ℕ) → k < end → is_line_feed (slice_index text k) ≡ false)
    → is_line_feed (slice_index text end) ≡ true
    → cut_lines text ≡ take (suc end) text ∷ cut_lines (drop (suc end) text)
cut-at [] end small none is = absurd (omega arith)
cut-at (b ∷ rest) zero small none is = rw is refl
cut-at (b ∷ rest) (suc end) small none is =
    let first : is_line_feed b ≡ false = none 0 (omega arith) in
    let later = cut-at rest end (omega arith) (λ k h. none (suc k) (omega arith)) is in
    rw (first, later) refl

-- a text without a line feed
pub cut-none : (text : List ℕ) → 0 < length text → ((k : ℕ) → k < length text → is_line_feed (slice_index text k) ≡ false) → cut_lines text ≡ text ∷ []
cut-none [] some none = absurd (omega arith)
cut-none (b ∷ []) some none = (let first : is_line_feed b ≡ false = none 0 (omega arith) in rw first refl)
cut-none (b ∷ c ∷ rest) some none =
    let first : is_line_feed b ≡ false = none 0 (omega arith) in
    let later = cut-none (c ∷ rest) (omega arith) (λ k h. none (suc k) (omega arith)) in
    rw (first, later) refl

-- the byte at a place that begins the rest
pub heads-at : (text : List ℕ) (end : ℕ) → end < length text → slice_index text end ≡ 37 → heads_part (drop end text) ≡ true
heads-at [] end small is = absurd (omega arith)
heads-at (b ∷ text) zero small is = (let e : b ≡ 37 = is in rw e refl)
heads-at (b ∷ text) (suc end) small is = heads-at text end (omega arith) is

headed : (text : List ℕ) (n : ℕ) → 0 < n → heads_part text ≡ true → heads_part (take n text) ≡ true
headed [] n some is = cc
headed (b ∷ text) zero some is = absurd (omega arith)
headed (b ∷ text) (suc n) some is = is

-- the parts of a text that begins with one: that one, and those after it
pub parts-headed : (text : List ℕ) (n end : ℕ) → 0 < n → heads_part text ≡ true
    → cut_lines text ≡ take n text ∷ cut_lines (drop n text)
    → bytes_before (cut_lines (drop n text)) ≡ take end (drop n text)
    → ((at : ℕ) → parts_in at (cut_lines (drop n text)) ≡ parts_in at (cut_lines (drop end (drop n text))))
    → (at : ℕ) → parts_in at (cut_lines text) ≡ part at (take n text) (take end (drop n text)) ∷ parts_in at (cut_lines (drop end (drop n text)))
parts-headed text n end some is cut bytes parts at =
    let head : heads_part (take n text) ≡ true = headed text n some is in
    rw (cut, head, bytes, parts at) refl

-- ---- names and kinds

module _ (name : List ℕ) where
  -- the name of the kind that is found stands among these names, and where none is found it doesn't
  abbrev NamedIn : List (List ℕ) → Option PartKind → Type 0
  NamedIn names None = list_any (bytes_eq name) names ≡ false
  NamedIn names (Some k) = (name ≡ name_of k) × (list_any (bytes_eq name) names ≡ true)

  after : (first : List ℕ) (names : List (List ℕ)) (found : Option PartKind) → bytes_eq name first ≡ false → NamedIn names found
      → NamedIn (first ∷ names) found
  after first names None other named = rw other named
  after first names (Some k) other named = (named.0, rw other named.1)

  abbrev is_named : PartKind → Bool
  is_named k = bytes_eq name (name_of k)

  named-in : (ks : List PartKind) → NamedIn (map name_of ks) (find is_named ks)
  named-in [] = refl
  named-in (k ∷ ks) = elim (cases_Bool (is_named k)) [
    | inl is ↦ rw is ((bytes_eq-Decides name (name_of k)).0 is, ap (λ (t : Bool). t || list_any (bytes_eq name) (map name_of ks)) is)
    | inr is ↦ rw is (after (name_of k) (map name_of ks) (find is_named ks) is (named-in ks))
  ]

  names-for : (command : Option Target) → names_for command ≡ map name_of (kinds_for command)
  names-for (Some target.Verify) = refl
  names-for None = refl
  names-for (Some command) = refl

  names-known : (asked : Request) → part_names asked ≡ map name_of (known_kinds asked)
  names-known asked = names-for (target_of asked)

  pub named-so : (asked : Request) (found : Option PartKind) → kind_named asked name ≡ found → NamedIn (part_names asked) found
  named-so asked found is = rw (names-known asked) (subst (NamedIn (map name_of (known_kinds asked))) is (named-in (known_kinds asked)))

-- ---- parts, by their names

-- a part of a kind that is named
pub known-part : (asked : Request) (before : List Part) (p : Part) (k : PartKind) → kind_named asked p.name ≡ Some k → part_fault asked before p ≡ None
known-part asked before p k is = rw (named-so p.name asked (Some k) is).1 refl

-- a part of no known kind
pub unknown-part : (asked : Request) (before : List Part) (p : Part) → kind_named asked p.name ≡ None
    → part_fault asked before p ≡ Some (unknown_part (length before + 1) p.name)
unknown-part asked before p is = rw (named-so p.name asked None is) refl

-- it is the first fault of parts
pub unknown-is : (asked : Request) (old parts : List Part) (n : ℕ) (name : List ℕ)
    → first_fault (part_fault asked) old parts ≡ Some (unknown_part n name) → IsFaultAfter asked old parts (unknown_part n name)
unknown-is asked old parts n name found = by (bytes_eq name (codes "%weights")) refl
  where
    by : (b : Bool) → bytes_eq name (codes "%weights") ≡ b → IsFaultAfter asked old parts (unknown_part n name)
    by true e = rw e (rw e at found)
    by false e = rw e (rw e at found)

abbrev held_part : declared.Part → Part
held_part p = record { text = p.text; name = name_of p.kind; bytes = p.bytes.now }

abbrev so_named : ℕ → List ℕ → List ℕ → Part
so_named n bytes name = record { text = n; name = name; bytes = bytes }

-- one part more is held
pub held-more : (old new : List declared.Part) (asked : Request) (name : List ℕ) (part : declared.Part)
    → kind_named asked name ≡ Some part.kind → new ≡ old ++ part ∷ []
    → parts_held new ≡ parts_held old ++ so_named part.text part.bytes.now name ∷ []
held-more old new asked name part parsed grown =
    ap parts_held grown ∙ map-append held_part old (part ∷ [])
    ∙ ap (λ (n : List ℕ). parts_held old ++ so_named part.text part.bytes.now n ∷ []) (sym (named-so name asked (Some part.kind) parsed).0)

-- where nothing is before the first part, the first fault is that of a part
pub fault-of-parts : (asked : Request) (input : Input) → list_any has_bytes_before input.texts ≡ false
    → input_fault asked input ≡ first_fault (part_fault asked) [] (input_parts input)
fault-of-parts asked input none = rw none refl

-- a text of those with nothing before their first parts
pub none-at : (texts : List NamedText) (place : ℕ) (d : NamedText) → place < length texts → list_any has_bytes_before texts ≡ false
    → has_bytes_before (slice_index_or texts place d) ≡ false
none-at [] place d within none = absurd (omega arith)
none-at (given ∷ texts) zero d within none = (or-false _ _ none).0
none-at (given ∷ texts) (suc place) d within none = none-at texts place d (omega arith) (or-false _ _ none).1

pub nothing-before : (given : NamedText) → has_bytes_before given ≡ false → bytes_before (cut_lines given.bytes) ≡ []
nothing-before given is = nil_from_length _ ((Decides-eqb (length (bytes_before (cut_lines given.bytes))) 0).0 (not-false _ is))

-- after the old parts these of all have no fault, and the rest is left
pub record CheckedAfter (asked : Request) (old all before rest : List Part) : Type 0 where
  pub all_is : old ++ all ≡ before ++ rest
  pub fault_is : first_fault (part_fault asked) old all ≡ first_fault (part_fault asked) before rest

pub after-more : (asked : Request) (old all before ahead rest : List Part) (p : Part) → CheckedAfter asked old all before ahead
    → ahead ≡ p ∷ rest → part_fault asked before p ≡ None
    → CheckedAfter asked old all (before ++ p ∷ []) rest
unfolding first_fault
after-more asked old all before ahead rest p so_far next none =
    let parsed = rw (next, none) at so_far.fault_is in
    record {
      all_is = so_far.all_is ∙ rw next (sym (append_assoc before (p ∷ []) rest));
      fault_is = parsed;
    }

pub after-fault : (asked : Request) (old all before ahead rest : List Part) (p : Part) (f : PartFault)
    → CheckedAfter asked old all before ahead → ahead ≡ p ∷ rest → part_fault asked before p ≡ Some f
    → first_fault (part_fault asked) old all ≡ Some f
unfolding first_fault
after-fault asked old all before ahead rest p f so_far next found =
    let parsed = rw (next, found) at so_far.fault_is in
    parsed

pub after-all : (asked : Request) (old all before : List Part) → CheckedAfter asked old all before [] → HaveAdded asked old before all
unfolding first_fault
after-all asked old all before so_far = record { sound = so_far.fault_is; held = sym (so_far.all_is ∙ append-nil before) }

-- the parts of a whole text after those that are checked
module _ (asked : Request) (all before more rest : List Part) (held : List Part) (so_far : CheckedSoFar (part_fault asked) all before (more ++ rest)) where
  pub text-more : HaveAdded asked before held more → CheckedSoFar (part_fault asked) all held rest
  text-more added = record {
    all_is = so_far.all_is ∙ sym (append_assoc before more rest) ∙ ap (λ (xs : List Part). xs ++ rest) (sym added.held);
    fault_is = so_far.fault_is ∙ first-append (part_fault asked) before more rest
        ∙ ap (λ (o : Option PartFault). option_or o (first_fault (part_fault asked) (before ++ more) rest)) added.sound
        ∙ ap (λ (xs : List Part). first_fault (part_fault asked) xs rest) (sym added.held);
  }

  pub text-fault : (f : PartFault) → first_fault (part_fault asked) before more ≡ Some f → first_fault (part_fault asked) [] all ≡ Some f
  text-fault f found = so_far.fault_is ∙ first-append (part_fault asked) before more rest
      ∙ ap (λ (o : Option PartFault). option_or o (first_fault (part_fault asked) (before ++ more) rest)) found

abbrev no_parts : PartFault → Result (Vec declared.Part Global) PartFault
no_parts f = Err f

-- one of its parts is refused
pub text-refused : (asked : Request) (input : Input) (before more rest : List Part) (f : PartFault) → list_any has_bytes_before input.texts ≡ false
    → CheckedSoFar (part_fault asked) (input_parts input) before (more ++ rest) → IsFaultAfter asked before more f → TellsParts asked (no_parts f) input
text-refused asked input before more rest fault.OutOfMemory none so_far found = tt
text-refused asked input before more rest fault.BeforeFirst none so_far found =
    fault-of-parts asked input none ∙ text-fault asked (input_parts input) before more rest [] so_far fault.BeforeFirst found
text-refused asked input before more rest (fault.PartName n) none so_far found =
    fault-of-parts asked input none ∙ text-fault asked (input_parts input) before more rest [] so_far (fault.PartName n) found
text-refused asked input before more rest (fault.OfVersion1 n) none so_far found =
    fault-of-parts asked input none ∙ text-fault asked (input_parts input) before more rest [] so_far (fault.OfVersion1 n) found

-- the text that is next, and those after it
pub next-text : (texts : List NamedText) (place : ℕ) (d : NamedText) → place < length texts
    → parts_from place (drop place texts) ≡ parts_in place (cut_lines (slice_index_or texts place d).bytes) ++ parts_from (place + 1) (drop (place + 1) texts)
next-text texts place d within = ap (parts_from place) (drop_more texts place d within)

-- whether the scan for the first part goes on
pub before-is : (text : List ℕ) (n : ℕ) → n ≤ length text → bytes_before (cut_lines text) ≡ take n text
    → not (length (bytes_before (cut_lines text)) == 0) ≡ nat_lt 0 n
before-is text n within is = rw (is, length-take-le n text within) (is-some n)
  where
    is-some : (k : ℕ) → not (k == 0) ≡ nat_lt 0 k
    is-some zero = refl
    is-some (suc k) =
        let some : (suc k == 0) ≡ false = ne_eqb (suc k) 0 (λ is. absurd (omega arith)) in
        elim (leb_tells 1 (suc k)) [ inl (is, _) ↦ rw (some, is) refl | inr (_, above) ↦ absurd (omega arith) ]

-- there are as many numbers of texts as texts
pub as-many-numbers : (name : List ℕ) (parts : List Part) → length (text_numbers name parts) ≡ length (parts_named name parts)
as-many-numbers name parts =
    length-map (filter (λ (p : Part). bytes_eq p.name name) parts) (λ (p : Part). p.text)
    ∙ sym (length-map (filter (λ (p : Part). bytes_eq p.name name) parts) (λ (p : Part). p.bytes))

module _ (k : PartKind) where
  abbrev held_named : List declared.Part → List (List ℕ)
  held_named held = parts_named (name_of k) (parts_held held)

  abbrev bytes_held : List declared.Part → List (List ℕ)
  bytes_held held = bytes_of (map (λ (part : declared.Part). part.bytes) (filter (is_held k) held))

  -- what is held of a kind are the parts of its name
  pub texts_held : (held : List declared.Part) → bytes_held held ≡ held_named held
  texts_held [] = refl
  texts_held (part ∷ held) = elim (cases_Bool (is_held k part)) [
    | inl is ↦ rw is (ap (λ (xs : List (List ℕ)). part.bytes.now ∷ xs) (texts_held held))
    | inr is ↦ rw is (texts_held held)
  ]

  pub numbers_held : (held : List declared.Part)
      → map (λ (part : declared.Part). part.text) (filter (is_held k) held) ≡ text_numbers (name_of k) (parts_held held)
  numbers_held [] = refl
  numbers_held (part ∷ held) = elim (cases_Bool (is_held k part)) [
    | inl is ↦ rw is (ap (λ (ns : List ℕ). part.text ∷ ns) (numbers_held held))
    | inr is ↦ rw is (numbers_held held)
  ]

  pub count_held : (held : List declared.Part) → count_by (is_held k) held ≡ length (held_named held)
  count_held held =
      let bytes = λ (part : declared.Part). part.bytes in
      sym (length-filter (is_held k) held) ∙ sym (length-map (filter (is_held k) held) bytes)
      ∙ sym (length-map (map bytes (filter (is_held k) held)) (λ (text : Bor (List ℕ)). text.now)) ∙ ap length (texts_held held)

  pub first_held : (held : List declared.Part) (found : Option declared.Part) → find (is_held k) held ≡ found
      → option_map_or (λ (part : declared.Part). part.bytes.now) found [] ≡ only_text (held_named held)
  first_held [] found is = ap (λ (o : Option declared.Part). option_map_or (λ (part : declared.Part). part.bytes.now) o []) (sym is)
  first_held (part ∷ held) found is = elim (cases_Bool (is_held k part)) [
    | inl here ↦ rw here (ap (λ (o : Option declared.Part). option_map_or (λ (p : declared.Part). p.bytes.now) o []) (sym (rw here at is)))
    | inr other ↦ rw other (first_held held found (rw other at is))
  ]

-- where the scan for the first part stops at once, it stands there, or the text is empty
pub starts-here : (text : List ℕ) (n : ℕ) → n ≤ 0 → (n < length text → heads_part (drop n text) ≡ true) → (text ≡ []) ⊎ (heads_part text ≡ true)
starts-here [] n none next = inl refl
starts-here (b ∷ text) zero none next = inr (next (omega arith))
starts-here (b ∷ text) (suc n) none next = absurd (omega arith)

pub none-left : (xs : List ℕ) → (length xs == 0) ≡ true → xs ≡ []
none-left xs is = nil_from_length xs ((Decides-eqb (length xs) 0).0 is)

-- the first of the lines
abbrev pub first_line : List (List ℕ) → List ℕ
first_line [] = []
first_line (line ∷ more) = line

-- the lines after the first one
abbrev pub rest_of : List (List ℕ) → List (List ℕ)
rest_of [] = []
rest_of (line ∷ more) = more

onto-first : (b : ℕ) (lines : List (List ℕ)) → first_line (onto_first_line b lines) ≡ b ∷ first_line lines
onto-first b [] = refl
onto-first b (line ∷ more) = refl

onto-rest : (b : ℕ) (lines : List (List ℕ)) → rest_of (onto_first_line b lines) ≡ rest_of lines
onto-rest b [] = refl
onto-rest b (line ∷ more) = refl

-- the first line of a text begins as the text does
starts-alike : (text : List ℕ) → heads_part (first_line (cut_lines text)) ≡ heads_part text
starts-alike [] = refl
starts-alike (b ∷ rest) = elim (cases_Bool (is_line_feed b)) [ inl is ↦ rw is refl | inr is ↦ rw is (ap heads_part (onto-first b (cut_lines rest))) ]

-- nothing is before a part that begins the text
none-before : (lines : List (List ℕ)) → heads_part (first_line lines) ≡ true → bytes_before lines ≡ []
none-before [] is = refl
none-before (line ∷ more) is = rw is refl

module _ (at : ℕ) where
  -- a first line that heads no part
  plain-first : (lines : List (List ℕ)) → heads_part (first_line lines) ≡ false
      → (bytes_before lines ≡ first_line lines ++ bytes_before (rest_of lines)) × (parts_in at lines ≡ parts_in at (rest_of lines))
  plain-first [] is = (refl, refl)
  plain-first (line ∷ more) is = (rw is refl, rw is refl)

  -- the first line, and what is before the next part after it, are so many bytes
  abbrev pub IsBody : List ℕ → ℕ → Type 0
  IsBody text n = (first_line (cut_lines text) ++ bytes_before (rest_of (cut_lines text)) ≡ take n text)
      × (parts_in at (rest_of (cut_lines text)) ≡ parts_in at (cut_lines (drop n text)))

  -- the same of a text that begins with no part
  abbrev pub IsBefore : List ℕ → ℕ → Type 0
  IsBefore text n = (bytes_before (cut_lines text) ≡ take n text) × (parts_in at (cut_lines text) ≡ parts_in at (cut_lines (drop n text)))

  plain-body : (text : List ℕ) (n : ℕ) → heads_part text ≡ false → IsBody text n → IsBefore text n
  plain-body text n plain (bytes, parts) =
      let first = plain-first (cut_lines text) (starts-alike text ∙ plain) in
      (first.0 ∙ bytes, first.1 ∙ parts)

  -- with one more byte in front
  body-more : (b : ℕ) (rest : List ℕ) (n : ℕ) → (is_line_feed b ≡ true → heads_part rest ≡ false) → IsBody rest n → IsBody (b ∷ rest) (suc n)
  body-more b rest n plain body = elim (cases_Bool (is_line_feed b)) [
    | inl is ↦ (let before = plain-body rest n (plain is) body in (rw is (ap (λ xs. b ∷ xs) before.0), rw is before.1))
    | inr is ↦ (rw (is, onto-first b (cut_lines rest), onto-rest b (cut_lines rest)) (ap (λ xs. b ∷ xs) body.0), rw (is, onto-rest b (cut_lines rest)) body.1)
  ]

  -- a line feed at a place, and a percent sign after it
  abbrev pub EndsBody : List ℕ → ℕ → Type 0
  EndsBody text k = (suc k < length text) × (slice_index text k ≡ 10) × (slice_index text (suc k) ≡ 37)

  plain-after : (b : ℕ) (rest : List ℕ) → (EndsBody (b ∷ rest) 0 → ⊥) → is_line_feed b ≡ true → heads_part rest ≡ false
  plain-after b [] none feed = refl
  plain-after b (c ∷ rest) none feed = ne_eqb c 37 (λ is. none (omega arith, (Decides-eqb b 10).0 feed, is))

  -- up to the first such place, and that line feed
  body-found : (text : List ℕ) (k : ℕ) → EndsBody text k → ((j : ℕ) → j < k → EndsBody text j → ⊥) → IsBody text (suc k)
  body-found [] k (small, feed, percent) none = absurd (omega arith)
  body-found (b ∷ rest) zero (small, feed, percent) none =
      let is : is_line_feed b ≡ true = rw feed refl in
      let next : heads_part rest ≡ true = heads-at rest 0 (omega arith) percent in
      let nothing = none-before (cut_lines rest) (starts-alike rest ∙ next) in
      (rw is (ap (λ xs. b ∷ xs) nothing), rw is refl)
  body-found (b ∷ rest) (suc k) (small, feed, percent) none =
      body-more b rest (suc k) (plain-after b rest (none 0 (omega arith)))
      (body-found rest k (omega arith, feed, percent) (λ j less (within, f, p). none (suc j) (omega arith) (omega arith, f, p)))

  -- or all of a text without one
  body-all : (text : List ℕ) → ((j : ℕ) → EndsBody text j → ⊥) → IsBody text (length text)
  body-all [] none = (refl, refl)
  body-all (b ∷ rest) none =
      body-more b rest (length rest) (plain-after b rest (none 0))
      (body-all rest (λ j (within, f, p). none (suc j) (omega arith, f, p)))

  module _ (text : List ℕ) (k : ℕ) where
    ends-occurs : EndsBody text k → OccursAt text (10 ∷ 37 ∷ []) k
    ends-occurs (within, feed, percent) = record { fits = omega arith; reads = reads }
      where
        reads : (j : ℕ) → j < 2 → slice_index text (k + j) ≡ slice_index (10 ∷ 37 ∷ []) j
        reads zero small = (let e : k + 0 ≡ k = omega arith in rw e feed)
        reads (suc zero) small = (let e : k + 1 ≡ suc k = omega arith in rw e percent)
        reads (suc (suc j)) small = absurd (omega arith)

    occurs-ends : OccursAt text (10 ∷ 37 ∷ []) k → EndsBody text k
    occurs-ends occurs =
        let fits = occurs.fits in
        let feed = occurs.reads 0 (omega arith) in
        let percent = occurs.reads 1 (omega arith) in
        (omega arith, subst (λ m. slice_index text m ≡ 10) (omega arith) feed, subst (λ m. slice_index text m ≡ 37) (omega arith) percent)

  -- what a search for a line feed with a percent sign after it finds
  pub found-before : (text : List ℕ) (k : ℕ) → heads_part text ≡ false → FindsNeedle text (10 ∷ 37 ∷ []) 0 (Some k)
      → IsBefore text (k + 1) × (heads_part (drop (k + 1) text) ≡ true)
  found-before text k plain (first, occurs) =
      let ends = occurs-ends text k occurs in
      let one : k + 1 ≡ suc k = omega arith in
      let within = ends.0 in
      let earlier : (j : ℕ) → j < k → EndsBody text j → ⊥ = λ j less there. first.before j (omega arith) less (ends-occurs text j there) in
      (rw one (plain-body text (suc k) plain (body-found text k ends earlier)), rw one (heads-at text (suc k) within ends.2))

  pub none-found-before : (text : List ℕ) → heads_part text ≡ false → FindsNeedle text (10 ∷ 37 ∷ []) 0 None → IsBefore text (length text)
  none-found-before text plain none =
      plain-body text (length text) plain (body-all text (λ j there. let within = there.0 in none j (omega arith) (omega arith) (ends-occurs text j there)))

-- a text with nothing before its first part is empty, or begins with that
pub starts-so : (text : List ℕ) → bytes_before (cut_lines text) ≡ [] → (text ≡ []) ⊎ (heads_part text ≡ true)
starts-so [] none = inl refl
starts-so (b ∷ text) none = elim (cases_Bool (heads_part (b ∷ text))) [
  | inl is ↦ inr is
  | inr plain ↦ (let bytes = (plain-first 0 (cut_lines (b ∷ text)) (starts-alike (b ∷ text) ∙ plain)).0 in absurd (some-before b text (sym bytes ∙ none)))
]
  where
    some-before : (x : ℕ) (rest : List ℕ) → first_line (cut_lines (x ∷ rest)) ++ bytes_before (rest_of (cut_lines (x ∷ rest))) ≡ [] → ⊥
    some-before x rest is = elim (cases_Bool (is_line_feed x)) [
      | inl feed ↦ (let one = rw feed at is in cc)
      | inr other ↦ (let one = rw (other, onto-first x (cut_lines rest)) at is in cc)
    ]
