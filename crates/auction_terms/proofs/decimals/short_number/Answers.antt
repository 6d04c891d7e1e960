use Rattle.std.proofs.Common.{◌≡◌, ◌∙◌, ap, sym, ℤ, Bool, Ok, rules}
use Rattle.auction_terms.specs.Decimals.{number, signed, is_minus}
use Rattle.auction_terms.proofs.ShortNumberFacts.{short_number_is}
use Rattle.auction_terms.proofs.decimals.short_number.Goals as goal

pub returns : goal.returns
returns c =
    let e : number c.args.bytes.now ≡ Ok (signed (is_minus c.args.bytes.now) c.in_ok-size.size) =
    short_number_is c.args.bytes.now c.after_sign.result.now c.in_ok-size.size c.after_sign.ensures c.in_ok-size.ensures.digits
    c.in_ok-size.ensures.some c.in_ok-size.ensures.few c.in_ok-size.ensures.value c.in_ok-size.ensures.low in
    let same : number c.args.bytes.now ≡ Ok c.with_sign.result = e
    ∙ ap (λ (v : ℤ). Ok v) (ap (λ (negative : Bool). signed negative c.in_ok-size.size) (sym c.is_minus_at.ensures) ∙ sym
    c.with_sign.ensures) in
    rw same (search rules)
