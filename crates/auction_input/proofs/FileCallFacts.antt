-- What files are asked, one call more at a time.
use Rattle.std.proofs.Common.{◌≡◌, ◌+◌, ◌++◌, ◌∷◌, ◌∙◌, ℕ, Bool, List, [], None, Option, Some, ap, drop, map, sym, take}
use Rattle.std.specs.Prelude.{String}
use Rattle.std.proofs.lemmas.Grind.{flat_map-append}
use Rattle.std.proofs.lemmas.List.{append-nil, append_assoc, map-append}
use Rattle.auction_input.specs.FileCalls.{AreBegun, AreAsked, FileCall, look_at, looks, call_to_open, calls_to_open}
use Rattle.auction_input.specs.FileLooks.{names_read}
use Rattle.auction_input.specs.FileTexts.{named_files}
use Rattle.auction_input.proofs.FileFacts.{names-at}

-- no call
pub made-none : (calls : Option (List FileCall)) → AreAsked [] calls calls
made-none calls = λ made is. is ∙ ap (λ (xs : List FileCall). Some xs) (sym (append-nil made))

-- calls after calls
pub made-more : (first next : List FileCall) (before between after : Option (List FileCall)) → AreAsked first before between → AreAsked next between after
    → AreAsked (first ++ next) before after
made-more first next before between after made more = λ calls is.
    more (calls ++ first) (made calls is) ∙ ap (λ (xs : List FileCall). Some xs) (append_assoc calls first next)

-- all that is due is begun, too
pub begun-whole : (due : List FileCall) (before after : Option (List FileCall)) → AreAsked due before after → AreBegun due before after
begun-whole due before after made = (due, [], sym (append-nil due), made)

-- what is due after calls that were made is begun
pub begun-more : (first due : List FileCall) (before between after : Option (List FileCall)) → AreAsked first before between → AreBegun due between after
    → AreBegun (first ++ due) before after
begun-more first due before between after made (more, left, is, did) = (
  first ++ more,
  left,
  ap (λ (xs : List FileCall). first ++ xs) is ∙ sym (append_assoc first more left),
  made-more first more before between after made did,
)

-- what is begun is so, whatever is due after it
pub begun-before : (due next : List FileCall) (before after : Option (List FileCall)) → AreBegun due before after → AreBegun (due ++ next) before after
begun-before due next before after (made, left, is, did) =
    (made, left ++ next, ap (λ (xs : List FileCall). xs ++ next) is ∙ append_assoc made left next, did)

-- the looks where no file is written
pub looks-read : (names : List (List ℕ)) (output : Option (List ℕ)) (with_rights : Bool) (before after : Option (List FileCall)) → output ≡ None
    → AreAsked (map look_at (names_read names)) before after → AreAsked (looks names output with_rights) before after
looks-read names output with_rights before after none made = rw (none, append-nil (map look_at (names_read names))) made

-- the calls_to_open of one name more
pub calls_to_open-more : (names : List (List ℕ)) (name : List ℕ) → calls_to_open (names ++ name ∷ []) ≡ calls_to_open names ++ call_to_open name
calls_to_open-more names name =
    flat_map-append call_to_open names (name ∷ []) ∙ ap (λ (xs : List FileCall). calls_to_open names ++ xs) (append-nil (call_to_open name))

-- after the looks before a place the one at the name there is made
pub look-next : {Z : Type 0} (names : List (String Z)) (i : ℕ) (name : String Z) (seen : List ℕ) (before between after : Option (List FileCall))
    → take (i + 1) names ≡ take i names ++ name ∷ [] → seen ≡ name.bytes.items
    → AreAsked (map look_at (named_files (take i names))) before between → AreAsked (look_at seen ∷ []) between after
    → AreBegun (map look_at (named_files names)) before after
look-next names i name seen before between after item is made more =
    let first = map look_at (named_files (take i names)) in
    let others = named_files (drop (i + 1) names) in (
      first ++ look_at seen ∷ [],
      map look_at others,
      rw is (ap (map look_at) (names-at names i name item) ∙ map-append look_at (named_files (take i names)) (name.bytes.items ∷ others)
          ∙ sym (append_assoc first (look_at name.bytes.items ∷ []) (map look_at others))),
      made-more first (look_at seen ∷ []) before between after made more,
    )

-- after the calls_to_open before a place the one of the name there is made
pub opening-next : {Z : Type 0} (names : List (String Z)) (i : ℕ) (name : String Z) (seen : List ℕ) (before between after : Option (List FileCall))
    → take (i + 1) names ≡ take i names ++ name ∷ [] → seen ≡ name.bytes.items
    → AreAsked (calls_to_open (named_files (take i names))) before between → AreAsked (call_to_open seen) between after
    → AreBegun (calls_to_open (named_files names)) before after
opening-next names i name seen before between after item is made more =
    let first = calls_to_open (named_files (take i names)) in
    let others = named_files (drop (i + 1) names) in (
      first ++ call_to_open seen,
      calls_to_open others,
      rw is (ap calls_to_open (names-at names i name item) ∙ flat_map-append call_to_open (named_files (take i names)) (name.bytes.items ∷ others)
          ∙ sym (append_assoc first (call_to_open name.bytes.items) (calls_to_open others))),
      made-more first (call_to_open seen) before between after made more,
    )
