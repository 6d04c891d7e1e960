use Rattle.std.proofs.Common.{◌+◌, ◌<◌, ◌≤◌, ℕ, List, None, ap, length, slice_index_or}
use Rattle.answers.specs.inside.Forms.{held_in}
use Rattle.auction_input.specs.declared.last_forms.LastForms.{LastForms}
use Rattle.auction_terms.specs.declared.rules.Bidder.{Bidder}
use Rattle.byte_sinks.specs.declared.json.Format.{Format}
use Rattle.byte_sinks.proofs.AddingFacts.{Adds-then, Adds-to}
use Rattle.presolve.proofs.LineFacts.{numbered-all, numbered-next}
use Rattle.answers.proofs.commands.forms.add_bidders.Goals as goal

-- what is said of a numbered bidder
abbrev said : Format → LastForms → ℕ × Bidder → List ℕ
said f last numbered = held_in f numbered.1.name (slice_index_or last.by_bidder numbered.0 None)

pub loop-place-preserved : goal.loop-place-preserved
loop-place-preserved g c =
    let bidders = c.args.bidders.now in
    let last = c.args.last.now in
    let f = c.args.format in
    let place = c.loop-place.place in
    let bidder = c.index-bidders-place.result in
    let within : place < length bidders = c.loop-place-test.true in
    Adds-to (Adds-then c.loop-place.invariant (Adds-to c.add_bidder.ensures (ap (λ (b : Bidder). said f last (place + 1, b)) c.index-bidders-place.is)))
    (numbered-next (said f last) bidders place bidder within)

pub returns : goal.returns
returns g c =
    let over : length c.args.bidders.now ≤ c.loop-place.place = c.loop-place-test.false in
    Adds-to c.loop-place.invariant (numbered-all (said c.args.format c.args.last.now) c.args.bidders.now c.loop-place.place over)
