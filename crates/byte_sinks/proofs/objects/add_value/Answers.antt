use Rattle.byte_sinks.proofs.AddingFacts.{Adds-then, Adds-to}
use Rattle.byte_sinks.proofs.ObjectFacts.{parted-map}
use Rattle.byte_sinks.specs.Objects.{count_seen, count_text, scalar_seen, scalar_text}
use Rattle.byte_sinks.proofs.objects.add_value.Goals as goal

pub returns-in-Many : goal.returns-in-Many
returns-in-Many g c =
    rw c.in-Many.is
    (Adds-then c.add.ensures (Adds-then (Adds-to c.add_scalars.ensures (parted-map scalar_seen scalar_text c.in-Many.scalars.now)) c.add-in-Many.ensures))

pub returns-in-Counts : goal.returns-in-Counts
returns-in-Counts g c =
    rw c.in-Counts.is
    (Adds-then c.add-in-Counts.ensures (Adds-then (Adds-to c.add_counts.ensures (parted-map count_seen count_text c.in-Counts.counts.now)) c.add-in-Counts-2.ensures))
