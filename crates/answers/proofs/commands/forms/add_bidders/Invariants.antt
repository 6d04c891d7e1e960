use Rattle.std.proofs.Common.{ℕ, None, slice_index_or, take}
use Rattle.std.specs.Prelude.{flat_map}
use Rattle.std.specs.List.{enumerate_from}
use Rattle.answers.specs.inside.Forms.{held_in}
use Rattle.auction_terms.specs.declared.rules.Bidder.{Bidder}
use Rattle.byte_sinks.specs.Adds.{Adds}
use Rattle.answers.proofs.commands.forms.add_bidders.Given as goal

-- what is said of the bidders so far is added
abbrev pub invariant-loop-place : goal.invariant-loop-place
invariant-loop-place g l =
    Adds g.S.Sink.state l.initial.writer l.writer
    (flat_map (λ (numbered : ℕ × Bidder). held_in l.format numbered.1.name (slice_index_or l.last.by_bidder numbered.0 None))
    (take l.place (enumerate_from 1 l.bidders)))
