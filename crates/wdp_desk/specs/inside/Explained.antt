-- What tells the faults of a form that is refused.
use Rattle.std.specs.Prelude.{ℕ, List, ◌++◌, codes, false, None}
use Rattle.auction_input.specs.Input.{input_of}
use Rattle.auction_input.specs.declared.request.Request.TheVariants.{Explain}
use Rattle.byte_sinks.specs.declared.json.Format.TheVariants.{Json}
use Rattle.input_faults.specs.FaultLines.{explanation}

-- what `explain --json` prints of the rules and the form alone
abbrev pub form_explanation : List ℕ → List ℕ → List ℕ
form_explanation rules text =
    explanation (Explain (record { bids = false; target = None; format = Json })) (input_of (codes "%rules\n" ++ rules ++ codes "%form\n" ++ text))
