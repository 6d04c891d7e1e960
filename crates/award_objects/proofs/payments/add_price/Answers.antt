use Rattle.std.proofs.Common.{◌≡◌, ◌∙◌, ◌∷◌, [], ap, length, map}
use Rattle.std.specs.List.{zip}
use Rattle.std.proofs.lemmas.List.{length-map}
use Rattle.byte_sinks.proofs.AddingFacts.{Adds-to}
use Rattle.byte_sinks.specs.Objects.{member_seen, object_text}
use Rattle.bid_desk.specs.Sale.{sale_of}
use Rattle.award_objects.specs.Objects.{is_bound, price_members}
use Rattle.award_objects.proofs.ListFacts.{zip_length}
use Rattle.award_objects.proofs.payments.add_price.Goals as goal

pub bound_by-bound_by-requires : goal.bound_by-bound_by-requires
bound_by-bound_by-requires g c =
    let outcome = c.args.outcome.now in
    ap length c.requires.bound
    ∙ length-map (zip outcome.groups.now outcome.won.now) (is_bound (sale_of outcome.book.now) c.args.pricing.now c.args.first.now)
    ∙ zip_length outcome.groups.now outcome.won.now c.requires.count

pub returns : goal.returns
returns g c =
    let same : map member_seen (c.text.result ∷ c.number.result ∷ c.list.result ∷ c.number_if.result ∷ c.list-2.result ∷ c.flag.result ∷ [])
    ≡ price_members c.args.outcome.now.book.now.rules (sale_of c.args.outcome.now.book.now) c.args.outcome.now.groups.now c.args.outcome.now.won.now c.args.first.now c.args.pricing.now c.args.choice = cc in
    Adds-to c.add_object.ensures (ap object_text same)
