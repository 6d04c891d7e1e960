-- What is read by names, one after the other.
use Rattle.std.proofs.Common.{◌≡◌, ◌≤◌, ◌+◌, ◌-◌, ◌++◌, ◌∷◌, ◌∙◌, ℕ, Bool, true, false, List, [], Option, None, Some, ap, append_assoc, arith, drop, length, map, refl, subst, suc, sym, take}
use Rattle.std.proofs.lemmas.List.{append-nil, length-map, length-take-le, map-append, take-append-drop}
use Rattle.std.proofs.lemmas.List.Sums.{sum_by-append}
use Rattle.std.specs.Prelude.{String}
use Rattle.std.specs.Bool.{MatchBool}
use Rattle.std.specs.Io.KnownBytes.{Consumes, IsAtEnd}
use Rattle.auction_input.specs.FileTexts.{AreRead, AreSound, BeginsWith, IsContent, IsFrontOf, IsTextOf, IsTextUnread, IsUnreadOf, Shelf, bytes_in, fault_among, is_standard_input, named_files}
use Rattle.auction_input.specs.FileTexts.{file_failed, input_failed, memory_short, too_large}
use Rattle.auction_input.specs.Input.{NamedText}
use Rattle.auction_input.specs.ReadInput.{IsUntaken}
use Rattle.auction_input.specs.inside.FileTexts.{file_unread}
use Rattle.auction_input.specs.declared.input.TheConstants.{INPUT_LIMIT}
use Rattle.auction_input.specs.declared.input.InputFault.{InputFault}
use Rattle.auction_input.specs.declared.input.InputFault.TheVariants as input
use Rattle.auction_input.specs.declared.input.Unread.{Unread}
use Rattle.auction_input.specs.declared.input.Unread.TheVariants as unread

-- a file that is read to its end
pub content-is : (left left' : Option (List ℕ)) (bytes : List ℕ) → Consumes left left' bytes → IsAtEnd left' → IsContent left bytes
content-is None left' bytes consumed end = tt
content-is (Some whole) None bytes consumed end = absurd consumed
content-is (Some whole) (Some rest) bytes consumed end = sym (consumed ∙ ap (λ (xs : List ℕ). bytes ++ xs) end ∙ append-nil bytes)

-- one that is read in part
begins : (left left' : Option (List ℕ)) (bytes : List ℕ) → Consumes left left' bytes → BeginsWith left bytes
begins None left' bytes consumed = tt
begins (Some whole) None bytes consumed = absurd consumed
begins (Some whole) (Some rest) bytes consumed = (rest, consumed)

content-begins : (known : Option (List ℕ)) (bytes : List ℕ) → IsContent known bytes → BeginsWith known bytes
content-begins None bytes is = tt
content-begins (Some whole) bytes is = ([], sym (append-nil bytes ∙ is))

module _ (content : List ℕ → Option (List ℕ)) where
  file-front : (name : List ℕ) (left : Option (List ℕ)) (bytes : List ℕ) → is_standard_input name ≡ false → BeginsWith (content name) bytes
      → IsFrontOf content name left left bytes
  file-front name left bytes is front =
      subst (λ (b : Bool). MatchBool b (Consumes left left bytes) ((left ≡ left) × BeginsWith (content name) bytes)) (sym is) (refl, front)

  input-front : (name : List ℕ) (left left' : Option (List ℕ)) (bytes : List ℕ) → is_standard_input name ≡ true → Consumes left left' bytes
      → IsFrontOf content name left left' bytes
  input-front name left left' bytes is consumed =
      subst (λ (b : Bool). MatchBool b (Consumes left left' bytes) ((left' ≡ left) × BeginsWith (content name) bytes)) (sym is) consumed

  -- a text that is read to its end is read in part
  pub text-front : (name : List ℕ) (left left' : Option (List ℕ)) (bytes : List ℕ) → IsTextOf content name left left' bytes
      → IsFrontOf content name left left' bytes
  text-front name left left' bytes text = by (is_standard_input name) text
    where
      by : (b : Bool) → MatchBool b (Consumes left left' bytes × IsAtEnd left') ((left' ≡ left) × IsContent (content name) bytes)
          → MatchBool b (Consumes left left' bytes) ((left' ≡ left) × BeginsWith (content name) bytes)
      by true (consumed, end) = consumed
      by false (same, is) = (same, content-begins (content name) bytes is)

  -- one text more
  pub read-more : (names : List (List ℕ)) (left mid left' : Option (List ℕ)) (texts : List NamedText) (given : NamedText)
      → AreRead content names left mid texts → IsTextOf content given.name mid left' given.bytes
      → AreRead content (names ++ given.name ∷ []) left left' (texts ++ given ∷ [])
  read-more [] left mid left' texts given (none, same) text = (
    given.bytes,
    [],
    left',
    ap (λ (xs : List NamedText). xs ++ given ∷ []) none,
    subst (λ (l : Option (List ℕ)). IsTextOf content given.name
        l left' given.bytes) same text,
    (refl, refl),
  )
  read-more (name ∷ names) left mid left' texts given (bytes, more, between, are, first, rest) text =
      (bytes, more ++ given ∷ [], between, ap (λ (xs : List NamedText). xs ++ given ∷ []) are, first, read-more names between mid left' more given rest text)

  -- there are as many texts as names
  read-length : (names : List (List ℕ)) (left left' : Option (List ℕ)) (texts : List NamedText) → AreRead content names left left' texts
      → length texts ≡ length names
  read-length [] left left' texts (none, same) = ap length none
  read-length (name ∷ names) left left' texts (bytes, more, mid, are, first, rest) =
      ap length are ∙ ap suc (read-length names mid left' more rest)

sound-append : (texts : List NamedText) (given : NamedText) (place count : ℕ) → AreSound place count texts
    → fault_among given.bytes (place + length texts) count ≡ None → AreSound place count (texts ++ given ∷ [])
sound-append [] given place count sound none = (subst (λ (n : ℕ). fault_among given.bytes n count ≡ None) (omega arith) none, tt)
sound-append (text ∷ texts) given place count (first, rest) none =
    (first, sound-append texts given (place + 1) count rest (subst (λ (n : ℕ). fault_among given.bytes n count ≡ None) (omega arith) none))

-- nothing is wrong with one text more
pub sound-more : (content : List ℕ → Option (List ℕ)) (names : List (List ℕ)) (left left' : Option (List ℕ)) (texts : List NamedText) (given : NamedText)
    (place count : ℕ) → AreRead content names left left' texts → place ≡ length names → AreSound 0 count texts
    → fault_among given.bytes place count ≡ None → AreSound 0 count (texts ++ given ∷ [])
sound-more content names left left' texts given place count read at sound none =
    let same : place ≡ 0 + length texts = omega (arith, at, read-length content names left left' texts read) in
    sound-append texts given 0 count sound (subst (λ (n : ℕ). fault_among given.bytes n count ≡ None) same none)

module _ (shelf : Shelf) (name : List ℕ) (place count room : ℕ) (reads reads' : ℕ) where
  -- a file that isn't taken, of which these are what its reader had and has left
  pub file-untaken : (f : InputFault) (left whole rest : Option (List ℕ)) → is_standard_input name ≡ false → whole ≡ shelf.content name
      → IsUntaken room f whole rest reads reads' → IsTextUnread shelf name place count room left left reads reads' (file_unread place f)
  file-untaken f left whole rest is known untaken =
      by f (subst (λ (w : Option (List ℕ)). IsUntaken room f w rest reads reads') known untaken)
    where
      front : (bytes : List ℕ) → Consumes (shelf.content name) rest bytes → IsFrontOf shelf.content name left left bytes
      front bytes consumed = file-front shelf.content name left bytes is (begins (shelf.content name) rest bytes consumed)

      by : (f : InputFault) → IsUntaken room f (shelf.content name) rest reads reads'
          → IsTextUnread shelf name place count room left left reads reads' (file_unread place f)
      by input.ReadFailed (failed, (bytes, consumed, size)) = file_failed bytes is (front bytes consumed) size failed
      by input.TooLarge (kept, (bytes, consumed, size)) = too_large bytes (front bytes consumed) size kept
      by input.OutOfMemory (kept, (bytes, consumed, size)) = memory_short bytes (front bytes consumed) size kept

  -- standard input that isn't taken
  pub input-untaken : (f : InputFault) (left left' : Option (List ℕ)) → is_standard_input name ≡ true
      → IsUntaken room f left left' reads reads' → IsTextUnread shelf name place count room left left' reads reads' (unread.Input f)
  input-untaken input.ReadFailed left left' is (failed, (bytes, consumed, size)) =
      input_failed bytes is (input-front shelf.content name left left' bytes is consumed) size failed
  input-untaken input.TooLarge left left' is (kept, (bytes, consumed, size)) =
      too_large bytes (input-front shelf.content name left left' bytes is consumed) size kept
  input-untaken input.OutOfMemory left left' is (kept, (bytes, consumed, size)) =
      memory_short bytes (input-front shelf.content name left left' bytes is consumed) size kept

-- the names before a place, the one there, and those after it
pub names-at : {Z : Type 0} (names : List (String Z)) (i : ℕ) (name : String Z) → take (i + 1) names ≡ take i names ++ name ∷ []
    → named_files names ≡ named_files (take i names) ++ name.bytes.items ∷ named_files (drop (i + 1) names)
names-at {Z} names i name item =
    let seen : String Z → List ℕ = λ (s : String Z). s.bytes.items in
    ap (map seen) (sym (take-append-drop (i + 1) names)) ∙ map-append seen (take (i + 1) names) (drop (i + 1) names)
    ∙ ap (λ (xs : List (String Z)). map seen xs ++ map seen (drop (i + 1) names)) item
    ∙ ap (λ (xs : List (List ℕ)). xs ++ map seen (drop (i + 1) names)) (map-append seen (take i names) (name ∷ []))
    ∙ append_assoc (map seen (take i names)) (name.bytes.items ∷ []) (map seen (drop (i + 1) names))

-- after the texts of the names before a place the text of the one there isn't read
pub unread-next : {Z : Type 0} (shelf : Shelf) (names : List (String Z)) (i : ℕ) (name : String Z) (seen : List ℕ) (place room : ℕ) (f : Unread)
    (left between left' : Option (List ℕ)) (reads now reads' : ℕ) (texts : List NamedText) → take (i + 1) names ≡ take i names ++ name ∷ []
    → seen ≡ name.bytes.items → place ≡ i → i ≤ length names → now ≡ reads
    → AreRead shelf.content (named_files (take i names)) left between texts → AreSound 0 (length names) texts → bytes_in texts + room ≡ INPUT_LIMIT
    → IsTextUnread shelf seen place (length names) room between left' now reads' f → IsUnreadOf shelf (named_files names) f left left' reads reads'
unread-next {Z} shelf names i name seen place room f left between left' reads now reads' texts item is at within same read sound fit unread =
    let bytes : String Z → List ℕ = λ (s : String Z). s.bytes.items in
    let count : length (named_files names) ≡ length names = length-map names bytes in
    let here : length (named_files (take i names)) ≡ place = length-map (take i names) bytes ∙ length-take-le i names within ∙ sym at in record {
      first = named_files (take i names);
      next = name.bytes.items;
      others = named_files (drop (i + 1) names);
      names_are = names-at names i name item;
      texts = texts;
      between = between;
      read = read;
      sound = rw count sound;
      room = room;
      fit = fit;
      unread = rw (here, count, ← is, ← same) unread;
    }

-- how many bytes are left after one text more
pub bytes-more : (old new : List NamedText) (given : NamedText) (room limit count : ℕ) → new ≡ old ++ given ∷ [] → bytes_in old + room ≡ limit
    → count ≡ length given.bytes → length given.bytes ≤ room → bytes_in new + (room - count) ≡ limit
bytes-more old new given room limit count added before own within =
    let sizes = sum_by-append (λ (g : NamedText). length g.bytes) old (given ∷ []) in
    let one : bytes_in (given ∷ []) ≡ length given.bytes = omega arith in
    rw added (omega arith)
