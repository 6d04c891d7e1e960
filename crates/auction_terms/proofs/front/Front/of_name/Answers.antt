use Rattle.std.proofs.Common.{◌≡◌, ◌≤◌, ◌∙◌, Bool, true, false, ap, arith, length, refl, take, take_all}
use Rattle.std.specs.Prelude.{◌&&◌, ℕ, List}
use Rattle.std.proofs.lemmas.Bool.{leb-true}
use Rattle.auction_terms.specs.Names.{is_name}
use Rattle.auction_terms.specs.declared.limits.TheConstants.{FRONT_LEN}
use Rattle.auction_terms.proofs.front.Front.of_name.Goals as goal

left-of : (a b : Bool) → (a && b) ≡ true → a ≡ true
left-of true b holds = refl
left-of false b holds = cc holds

short : (text : List ℕ) → is_name text ≡ true → length text ≤ 16
short text named = leb-true (length text) 16 (left-of _ _ (left-of _ _ named))

pub returns : goal.returns
returns c =
    let size = short c.args.name.now c.as_bytes.ensures.name in
    c.of.ensures ∙ ap (take FRONT_LEN) c.as_bytes.ensures.bytes ∙ take_all FRONT_LEN c.args.name.now (omega arith)
