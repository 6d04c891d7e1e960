-- Laws of a row of slots that is filled by number.
use Rattle.std.proofs.Common.{◌≡◌, ◌≢◌, ◌⊎◌, inl, inr, ⊎_elim, ℕ, zero, suc, ◌+◌, ◌<◌, List, [], ◌∷◌, ◌++◌, Option, Some}
use Rattle.std.proofs.Common.{length, map, sym, refl, ap, ap₂, ◌∙◌, subst, arith, slice_get, slice_set, slice_index_or}
use Rattle.std.specs.Prelude.{All, Contains}
use Rattle.std.specs.List.{AllZip, range_with_len}
use Rattle.std.proofs.lemmas.Bool.{cases_eq}
use Rattle.std.proofs.lemmas.List.{get_or-set_same, length-map, length-set, map-append}
use Rattle.std.proofs.lemmas.Option.{get_or_from_slice_get, slice_get-get_or}
use Rattle.std.proofs.lemmas.List.Elements.{All-pop, Contains-push_cases}
use Rattle.std.proofs.lemmas.Slice.Zip.{AllZip-map}
use Rattle.bid_desk.specs.Closing.{Closing}
use Rattle.group_compiler.specs.Compiled.{Compiling, GroupProgram, compiled, compiling}
use Rattle.group_compiler.specs.declared.work.Numbered.{Numbered}
use Rattle.group_compiler.specs.inside.Ordering.{HasMade}

module _ {X : Type 0} where
  pub get_here : (xs : List X) (i : ℕ) (v : X) → i < length xs → slice_get (slice_set xs i v) i ≡ Some v
  get_here xs i v l = slice_get-get_or (slice_set xs i v) i v (let same = length-set xs i v in omega arith) ∙ ap (λ x. Some x) (get_or-set_same xs i v v l)

  pub get_other : (xs : List X) (i k : ℕ) (v : X) → i ≢ k → slice_get (slice_set xs i v) k ≡ slice_get xs k
  get_other [] i k v ne = refl
  get_other (x ∷ xs) zero zero v ne = absurd (ne refl)
  get_other (x ∷ xs) zero (suc k) v ne = refl
  get_other (x ∷ xs) (suc i) zero v ne = refl
  get_other (x ∷ xs) (suc i) (suc k) v ne = get_other xs i k v (λ e. ne (ap suc e))

module _ {T : Type 0} where
  -- a full slot is not empty
  pub full_at : (slots : List (Option T)) (i : ℕ) (v : T) (o : Option T) → slice_get slots i ≡ Some (Some v) → o ≡ slice_index_or slots i o → o ≡ Some v
  full_at slots i v o e h = h ∙ get_or_from_slice_get slots i (Some v) o e

  pub popped : (P : Numbered T → Type 0) (all rs : List (Numbered T)) (r : Numbered T) → all ≡ rs ++ r ∷ [] → All P all → All P rs × P r
  popped P all rs r e h = All-pop P all rs (Some r) e h

  -- one result goes into its slot
  fills : (makes : ℕ → T → Type 0) (slots : List (Option T)) (all rs : List (Numbered T)) (r : Numbered T) (count : ℕ) → all ≡ rs ++ r ∷ []
      → length slots ≡ count → r.number < count
      → makes r.number r.made
      → ((k : ℕ) → k < count → Contains (map (λ (r : Numbered T). r.number) all) k ⊎ HasMade makes slots k)
      → (k : ℕ) → k < count → Contains (map (λ (r : Numbered T). r.number) rs) k ⊎ HasMade makes (slice_set slots r.number (Some r.made)) k
  fills makes slots all rs r count e size below right each k l = ⊎_elim
      (λ same. inr record {
        found = r.made;
        slot = ap (λ (m : ℕ). slice_get (slice_set slots r.number (Some r.made)) m) (sym same)
            ∙ get_here slots r.number (Some r.made) (let h : r.number < length slots = omega arith in h);
        right = subst (λ (m : ℕ). makes m r.made) same right;
      })
      (λ other. ⊎_elim
      (λ h. ⊎_elim (λ x. inl x) (λ x. absurd (other x))
      (Contains-push_cases (map (λ (r : Numbered T). r.number) rs) r.number k
      (subst (λ (ns : List ℕ). Contains ns k) (map-append (λ (r : Numbered T). r.number) rs (r ∷ []))
      (subst (λ (xs : List (Numbered T)). Contains (map (λ (r : Numbered T). r.number) xs) k) e h))))
      (λ h. inr record {
        found = h.found;
        slot = get_other slots r.number k (Some r.made) other ∙ h.slot;
        right = h.right;
      })
      (each k l))
      (cases_eq r.number k)

  -- and the others are left
  pub filled : (makes : ℕ → T → Type 0) (slots : List (Option T)) (all rs : List (Numbered T)) (r : Numbered T) (count : ℕ)
      → all ≡ rs ++ r ∷ [] → length slots ≡ count → All (λ (r : Numbered T). r.number < count) all
      → All (λ (r : Numbered T). makes r.number r.made) all
      → ((k : ℕ) → k < count → Contains (map (λ (r : Numbered T). r.number) all) k ⊎ HasMade makes slots k)
      → (length (slice_set slots r.number (Some r.made)) ≡ count) × All (λ (r : Numbered T). r.number < count) rs
      × All (λ (r : Numbered T). makes r.number r.made) rs
      × ((k : ℕ) → k < count → Contains (map (λ (r : Numbered T). r.number) rs) k ⊎ HasMade makes (slice_set slots r.number (Some r.made)) k)
  filled makes slots all rs r count e size below made each =
      let b = popped (λ r. r.number < count) all rs r e below in
      let m = popped (λ r. makes r.number r.made) all rs r e made in
      (length-set slots r.number (Some r.made) ∙ size, b.0, m.0, fills makes slots all rs r count e size b.1 m.1 each)

  -- another slot keeps what it has
  pub keeps_made : (makes : ℕ → T → Type 0) (slots : List (Option T)) (i k : ℕ) (o : Option T) → i ≢ k → HasMade makes slots k
      → HasMade makes (slice_set slots i o) k
  keeps_made makes slots i k o other h = record { found = h.found; slot = get_other slots i k o other ∙ h.slot; right = h.right }

  pub none_left : (k : ℕ) (xs : List (Numbered T)) → length xs ≡ 0 → Contains (map (λ (r : Numbered T). r.number) xs) k → ⊥
  none_left k xs e h = let l = length-map xs (λ (r : Numbered T). r.number) in let w = h.1 in omega arith

  -- one more in order
  zip_more : (makes : ℕ → T → Type 0) (a i : ℕ) (xs : List T) (x : T) → AllZip makes (range_with_len a i) xs → makes (a + i) x
      → AllZip makes (range_with_len a (suc i)) (xs ++ x ∷ [])
  zip_more makes a zero [] x z m = (subst (λ (n : ℕ). makes n x) (let e : a + 0 ≡ a = omega arith in e) m, tt)
  zip_more makes a zero (y ∷ xs) x z m = absurd z
  zip_more makes a (suc i) [] x z m = absurd z
  zip_more makes a (suc i) (y ∷ xs) x z m =
      (z.0, zip_more makes (a + 1) i xs x z.1 (subst (λ (n : ℕ). makes n x) (let e : a + suc i ≡ a + 1 + i = omega arith in e) m))

  pub one_more : (makes : ℕ → T → Type 0) (i : ℕ) (xs new : List T) (x : T) → new ≡ xs ++ x ∷ [] → AllZip makes (range_with_len 0 i) xs
      → makes i x → AllZip makes (range_with_len 0 (i + 1)) new
  one_more makes i xs new x e z m =
      subst (λ (n : ℕ). AllZip makes (range_with_len 0 n) new) (let n : suc i ≡ i + 1 = omega arith in n)
      (subst (λ (ys : List T). AllZip makes (range_with_len 0 (suc i)) ys) (sym e)
      (zip_more makes 0 i xs x z (subst (λ (n : ℕ). makes n x) (let n : i ≡ 0 + i = omega arith in n) m)))

-- the groups with the numbers from a on
each_group : (f : List ℕ → GroupProgram) (whole groups : List (List ℕ)) (a : ℕ)
    → ((i n : ℕ) → n ≡ a + i → slice_index_or groups i [] ≡ slice_index_or whole n [])
    → map (λ (n : ℕ). f (slice_index_or whole n [])) (range_with_len a (length groups)) ≡ map f groups
each_group f whole [] a h = refl
each_group f whole (g ∷ groups) a h = ap₂ (λ (c : GroupProgram) (cs : List GroupProgram). c ∷ cs) (ap f (sym (h 0 a (omega arith))))
    (each_group f whole groups (a + 1) (λ i n e. h (suc i) n (omega arith)))

compiled_all : (book : Closing) (groups : List (List ℕ)) (all : List GroupProgram)
    → AllZip (λ n c. c ≡ compiled book (slice_index_or groups n [])) (range_with_len 0 (length groups)) all
    → all ≡ map (compiled book) groups
compiled_all book groups all z =
    AllZip-map (λ n. compiled book (slice_index_or groups n [])) (range_with_len 0 (length groups)) all z
    ∙ each_group (compiled book) groups groups 0 (λ i n e. ap (λ (m : ℕ). slice_index_or groups m []) (let t : i ≡ n = omega arith in t))

pub all_compiled : (book : Closing) (groups : List (List ℕ)) (c : Compiling) (all : List GroupProgram) → c ≡ compiling book groups
    → AllZip (λ n made. made ≡ compiled c.book (slice_index_or c.groups n [])) (range_with_len 0 (length c.groups)) all
    → all ≡ map (compiled book) groups
all_compiled book groups c all e z =
    compiled_all book groups all (subst (λ (k : Compiling). AllZip (λ n made. made ≡ compiled k.book (slice_index_or k.groups n []))
    (range_with_len 0 (length k.groups)) all) e z)
