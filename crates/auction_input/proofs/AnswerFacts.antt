-- What stages have parsed, if the last one gives a value.
use Rattle.std.proofs.Common.{◌≡◌, Option, None, Some, Result, Ok, Err, refl}
use Rattle.auction_terms.specs.Stages.{and_then, refused_as, unless}

-- a stage gives one value
pub ok-is : {A E : Type 0} (r : Result A E) (x y : A) → r ≡ Ok x → r ≡ Ok y → x ≡ y
ok-is r x y first second = cc

pub ok-after : {A B E : Type 0} (r : Result A E) (k : A → Result B E) (y : B) → and_then r k ≡ Ok y → (x : A) × (r ≡ Ok x) × (k x ≡ Ok y)
ok-after (Ok x) k y parsed = (x, refl, parsed)
ok-after (Err e) k y parsed = cc

pub ok-refused_as : {A F E : Type 0} (parse : F → E) (r : Result A F) (x : A) → refused_as parse r ≡ Ok x → r ≡ Ok x
ok-refused_as parse (Ok y) x parsed = (let same : y ≡ x = ok-is _ y x refl parsed in rw same refl)
ok-refused_as parse (Err f) x parsed = cc

pub unless-parsed : {A F : Type 0} (found : Option F) (next : Result A F) (y : A) → unless found next ≡ Ok y → (found ≡ None) × (next ≡ Ok y)
unless-parsed None next y parsed = (refl, parsed)
unless-parsed (Some f) next y parsed = cc

pub unless-ok : {A F : Type 0} (found : Option F) (x y : A) → unless found (Ok x) ≡ Ok y → (found ≡ None) × (x ≡ y)
unless-ok found x y parsed = (let (none, is) = unless-parsed found (Ok x) y parsed in (none, ok-is _ x y refl is))
