-- Items of lists that are given in the program.
use Rattle.std.proofs.Common.{◌≡◌, ◌++◌, ◌∷◌, ℕ, List, [], ap, sym, codes, flat_map, map, refl}
use Rattle.byte_sinks.specs.Objects.{parted}

flat_map-map : {X Y : Type 0} (f : Y → X) (g : X → List ℕ) (ys : List Y) → flat_map g (map f ys) ≡ flat_map (λ y. g (f y)) ys
flat_map-map f g [] = refl
flat_map-map f g (y ∷ ys) = ap (λ (w : List ℕ). g (f y) ++ w) (flat_map-map f g ys)

pub parted-map : {X Y : Type 0} (f : Y → X) (item : X → List ℕ) (ys : List Y) → parted (λ y. item (f y)) ys ≡ parted item (map f ys)
parted-map f item [] = refl
parted-map f item (y ∷ ys) = ap (λ (w : List ℕ). item (f y) ++ w) (sym (flat_map-map f (λ x. codes ", " ++ item x) ys))
