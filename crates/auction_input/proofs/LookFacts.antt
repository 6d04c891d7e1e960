-- A look at files, one name more at a time.
use Rattle.std.proofs.Common.{◌≡◌, ◌+◌, ◌<◌, ◌++◌, ◌∷◌, ◌∙◌, ℕ, List, [], Option, None, Some, Ok, ap, arith, codes, drop, length, refl, subst, sym, take}
use Rattle.std.specs.Prelude.{String}
use Rattle.std.specs.List.{AllZip}
use Rattle.std.specs.Option.{option_or}
use Rattle.auction_input.specs.FileLooks.{AreTaken, Finding, IsFirstRefused, names_read, read_as, refusal_after}
use Rattle.auction_input.specs.FileTexts.{IsFound, Shelf, named_files}
use Rattle.auction_input.specs.declared.files.FileRefusal.{FileRefusal}
use Rattle.auction_input.specs.declared.files.Identity.{Identity}
use Rattle.auction_input.proofs.CallFacts.{first-more, first-none}
use Rattle.auction_input.proofs.FileFacts.{names-at}

AllZip-more : {A B : Type 0} (R : A → B → Type 0) (xs : List A) (ys : List B) (x : A) (y : B) → AllZip R xs ys → R x y
    → AllZip R (xs ++ x ∷ []) (ys ++ y ∷ [])
AllZip-more R [] [] x y all one = (one, tt)
AllZip-more R [] (b ∷ ys) x y all one = absurd all
AllZip-more R (a ∷ xs) [] x y all one = absurd all
AllZip-more R (a ∷ xs) (b ∷ ys) x y (first, rest) one = (first, AllZip-more R xs ys x y rest one)

-- names that are given are what is read
pub read-names : {Z : Type 0} (names : List (String Z)) → 0 < length names → names_read (named_files names) ≡ named_files names
read-names [] some = absurd (omega (arith, some))
read-names (name ∷ names) some = refl

pub read-none : {Z : Type 0} (names : List (String Z)) → length names ≡ 0 → names_read (named_files names) ≡ codes "-" ∷ []
read-none [] none = refl
read-none (name ∷ names) none = absurd (omega (arith, none))

module _ (shelf : Shelf) where
  -- no name yet
  pub taken-none : AreTaken shelf [] []
  taken-none = record { found = tt; fine = first-none (λ (before : List (Option Identity)) (file : Option Identity). refusal_after before (Ok file)) }

  -- one name more
  pub taken-more : (names : List (List ℕ)) (files : List (Option Identity)) (name : List ℕ) (file : Option Identity) → AreTaken shelf names files
      → IsFound (read_as shelf name) (Ok file) → refusal_after files (Ok file) ≡ None → AreTaken shelf (names ++ name ∷ []) (files ++ file ∷ [])
  taken-more names files name file taken found fine = record {
    found = AllZip-more (λ (name : List ℕ) (file : Option Identity). IsFound (read_as shelf name) (Ok file)) names files name file taken.found found;
    fine = first-more fault_of files file ∙ ap (λ (o : Option FileRefusal). option_or o (fault_of files file)) taken.fine ∙ fine;
  }
    where
      fault_of : List (Option Identity) → Option Identity → Option FileRefusal
      fault_of before file = refusal_after before (Ok file)

  -- a name by itself
  pub taken-alone : (name : List ℕ) (seen seen' : List (Option Identity)) → seen ≡ []
      → (file : Option Identity) × IsFound (read_as shelf name) (Ok file) × (refusal_after seen (Ok file) ≡ None) × (seen' ≡ seen ++ file ∷ [])
      → AreTaken shelf (name ∷ []) seen'
  taken-alone name seen seen' none (file, found, fine, keys) =
      let alone = taken-more [] [] name file taken-none found (subst (λ (xs : List (Option Identity)). refusal_after xs (Ok file) ≡ None) none fine) in
      subst (AreTaken shelf (name ∷ [])) (sym (keys ∙ ap (λ (xs : List (Option Identity)). xs ++ file ∷ []) none)) alone

  pub refused-alone : (name : List ℕ) (seen : List (Option Identity)) (r : FileRefusal) → seen ≡ []
      → (finding : Finding) × IsFound (read_as shelf name) finding × (refusal_after seen finding ≡ Some r)
      → IsFirstRefused shelf (name ∷ []) r
  refused-alone name seen r none (finding, found, refused) = record {
    first = [];
    next = name;
    others = [];
    names_are = refl;
    files = [];
    taken = taken-none;
    finding = finding;
    found = found;
    refused = subst (λ (xs : List (Option Identity)). refusal_after xs finding ≡ Some r) none refused;
  }

  -- the name after those against which nothing is found
  pub refused-next : {Z : Type 0} (names : List (String Z)) (i : ℕ) (name : String Z) (seen : List ℕ) (files : List (Option Identity))
      (r : FileRefusal) → 0 < length names → take (i + 1) names ≡ take i names ++ name ∷ [] → seen ≡ name.bytes.items
      → AreTaken shelf (named_files (take i names)) files
      → (finding : Finding) × IsFound (read_as shelf seen) finding × (refusal_after files finding ≡ Some r)
      → IsFirstRefused shelf (names_read (named_files names)) r
  refused-next names i name seen files r some item is taken (finding, found, refused) = record {
    first = named_files (take i names);
    next = name.bytes.items;
    others = named_files (drop (i + 1) names);
    names_are = read-names names some ∙ names-at names i name item;
    files = files;
    taken = taken;
    finding = finding;
    found = subst (λ (n : List ℕ). IsFound (read_as shelf n) finding) is found;
    refused = refused;
  }
