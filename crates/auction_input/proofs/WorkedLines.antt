-- Lines that the function computes.
use Rattle.std.specs.Prelude.{◌≡◌, None, Some, refl, codes}
use Rattle.std.specs.Fmt.{digits}
use Rattle.bid_forms.specs.declared.form_text.FormFault.TheVariants as form
use Rattle.program_rows.specs.declared.mps_fault_kind.MpsFaultKind.TheVariants as kind
use Rattle.auction_input.specs.Line.{line}
use Rattle.auction_input.specs.declared.part_kind.PartKind.TheVariants as part
use Rattle.auction_input.specs.declared.refusal.Refusal.TheVariants as refusal
use Rattle.auction_input.specs.declared.tie_fault.TieFault.TheVariants as tie
use Rattle.auction_input.specs.declared.price_fault.PriceFault.TheVariants as price
use Rattle.program_rows.specs.declared.certificate_fault.CertificateFaultKind.TheVariants as certificate

below_reserve : line (refusal.Form 1 (form.BelowReserve 2)) ≡ codes "wdp: form 1: 12 BelowReserve at record 2\n"
unfolding digits
below_reserve = refl

repeated : line (refusal.Form 1 (form.RepeatedPackage 4 2)) ≡ codes "wdp: form 1: 13 RepeatedPackage at record 4, earlier bid 2\n"
unfolding digits
repeated = refl

not_binary : line (refusal.Program (record { line = 35; kind = kind.NotBinary 3 })) ≡ codes "wdp: program: 22 NotBinary at line 35, column 3\n"
unfolding digits
not_binary = refl

row_broken : line (refusal.RowBroken 1 (codes "B1")) ≡ codes "wdp: solution 1: 8 RowBroken at row B1\n"
unfolding digits
row_broken = refl

two_uniques : line (refusal.PartCount part.Unique) ≡ codes "wdp: input: wrong number of uniques\n"
two_uniques = refl

many_ties : line (refusal.PartCount part.Tie) ≡ codes "wdp: input: wrong number of ties\n"
many_ties = refl

unique_refused : line (refusal.Unique (record { line = 12; kind = certificate.NotShown })) ≡ codes "wdp: unique: 9 NotShown at line 12\n"
unfolding digits
unique_refused = refl

tie_refused : line (refusal.Tie None (tie.RowBroken (codes "B1"))) ≡ codes "wdp: tie: 8 RowBroken at row B1\n"
tie_refused = refl

second_tie_refused : line (refusal.Tie (Some 2) (tie.SameAsTie 1)) ≡ codes "wdp: tie 2: same winners as tie 1\n"
unfolding digits
second_tie_refused = refl

prices : line (refusal.PartCount part.Prices) ≡ codes "wdp: input: wrong number of prices\n"
prices = refl

below_the_reserve : line (refusal.Prices (price.BelowReserve 3)) ≡ codes "wdp: prices: 8 BelowReserve at line 3\n"
unfolding digits
below_the_reserve = refl

without_price : line (refusal.MissingPrice (codes "Beta")) ≡ codes "wdp: prices: 6 MissingWinner Beta\n"
without_price = refl

not_covered : line (refusal.Cover (record { line = 3; kind = certificate.NotShown })) ≡ codes "wdp: cover: 9 NotShown at line 3\n"
unfolding digits
not_covered = refl

no_scales : line (refusal.Rule price.NoScales) ≡ codes "wdp: rule: 9 NoScales\n"
no_scales = refl
