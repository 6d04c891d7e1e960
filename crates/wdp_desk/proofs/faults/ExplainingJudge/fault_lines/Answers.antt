use Rattle.std.proofs.Common.{◌≡◌, ◌++◌, ◌∙◌, ap, codes, rules}
use Rattle.auction_input.specs.Input.{Input}
use Rattle.auction_input.specs.declared.request.Request.TheVariants.{Explain}
use Rattle.byte_sinks.specs.declared.json.Format.TheVariants.{Json}
use Rattle.input_faults.specs.FaultLines.{explanation}
use Rattle.std.specs.Prelude.{None, false}
use Rattle.wdp_desk.proofs.FaultFacts.{bytes-are}
use Rattle.wdp_desk.proofs.faults.ExplainingJudge.fault_lines.Goals as goal

pub returns-in-Ok : goal.returns-in-Ok
returns-in-Ok c =
    let given = c.args.rules.now in
    let text = c.args.text.now in
    let asked = Explain (record { bids = false; target = None; format = Json }) in
    let bytes : c.extend_from_slice-4.new.self.items ≡ codes "%rules\n" ++ given ++ codes "%form\n" ++ text = search rules in
    let are : c.into_bytes.result.items ≡ explanation asked c.in_ok-input.input = bytes-are _ _ _ _ (search rules) c.in-Ok.ensures.written c.into_bytes.ensures in
    rw (c.in_ok-input.ensures, bytes) at are
