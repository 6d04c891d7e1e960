use Rattle.std.proofs.Common.{◌≡◌, ◌∙◌, ap, not, rules, sym, tests}
use Rattle.std.specs.Prelude.{option_map, position}
use Rattle.std.proofs.lemmas.Iterator.{YieldsList-from_slice}
use Rattle.std.proofs.lemmas.Iterator.Search.{position_from_yields_List}
use Rattle.program_rows.specs.declared.mps_fault_kind.MpsFaultKind.TheVariants.{NotBinary}
use Rattle.mps_reader.specs.inside.States.{is_binary_state}
use Rattle.mps_reader.proofs.reader.refuse_open.Goals as goal

pub returns-in-Some : goal.returns-in-Some
returns-in-Some c =
    let at : c.position.result ≡ position (λ state. not (is_binary_state state)) c.args.states.now =
    position_from_yields_List _ _ _ c.position.result c.position.ensures.ran (YieldsList-from_slice c.args.states.now cc) (λ x b q k. search (rules, tests)) in
    ap (option_map NotBinary) (sym at ∙ c.in-Some.is)

pub returns-in-None : goal.returns-in-None
returns-in-None c =
    let at : c.position.result ≡ position (λ state. not (is_binary_state state)) c.args.states.now =
    position_from_yields_List _ _ _ c.position.result c.position.ensures.ran (YieldsList-from_slice c.args.states.now cc) (λ x b q k. search (rules, tests)) in
    ap (option_map NotBinary) (sym at ∙ c.in-None.is)
