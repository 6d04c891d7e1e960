use Rattle.std.proofs.Common.{◌≡◌, ◌∷◌, rules}
use Rattle.byte_sinks.proofs.AddingFacts.{Adds-then}
use Rattle.byte_sinks.specs.Adds.{Adds}
use Rattle.byte_sinks.specs.Objects.{parted, scalar_seen, scalar_text}
use Rattle.byte_sinks.proofs.objects.add_scalars.Goals as goal

pub returns-in-Some : goal.returns-in-Some
returns-in-Some g c =
    let first = c.in-Some.first.now in
    let more = c.in-Some.more.now in
    let added : Adds g.S.Sink.state c.args.writer.now c.add_more_scalars.new.writer (parted (λ it. scalar_text (scalar_seen it)) (first ∷ more)) =
    Adds-then c.add_scalar.ensures c.add_more_scalars.ensures in
    let all : c.args.scalars.now ≡ first ∷ more = search rules in
    rw all added
