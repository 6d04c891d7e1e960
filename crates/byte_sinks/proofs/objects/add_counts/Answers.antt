use Rattle.std.proofs.Common.{◌≡◌, ◌∷◌, rules}
use Rattle.byte_sinks.proofs.AddingFacts.{Adds-then}
use Rattle.byte_sinks.specs.Adds.{Adds}
use Rattle.byte_sinks.specs.Objects.{count_seen, count_text, parted}
use Rattle.byte_sinks.proofs.objects.add_counts.Goals as goal

pub returns-in-Some : goal.returns-in-Some
returns-in-Some g c =
    let first = c.in-Some.first.now in
    let more = c.in-Some.more.now in
    let added : Adds g.S.Sink.state c.args.writer.now c.add_more_counts.new.writer (parted (λ it. count_text (count_seen it)) (first ∷ more)) =
    Adds-then c.add_count.ensures c.add_more_counts.ensures in
    let all : c.args.counts.now ≡ first ∷ more = search rules in
    rw all added
