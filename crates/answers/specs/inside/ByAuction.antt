-- The requests that are answered by an auction alone.
use Rattle.std.specs.Prelude.{⊤}
use Rattle.auction_input.specs.declared.request.Request.TheVariants.{Check, Compile, Explain, Forms, Map, Objects, Report, Text, Verify, VerifyWithForms}
use Rattle.auction_input.specs.declared.request.Request.{Request}

-- its answer is what it writes of the auction alone, with nothing of the forms' bytes
abbrev pub IsByAuction : Request → Type 0
IsByAuction Text = ⊤
IsByAuction Check = ⊥
IsByAuction (Compile workers) = ⊤
IsByAuction (Explain options) = ⊤
IsByAuction (Map group) = ⊤
IsByAuction (Report workers) = ⊤
IsByAuction (Verify workers) = ⊤
IsByAuction (VerifyWithForms workers) = ⊥
IsByAuction Forms = ⊥
IsByAuction (Objects of) = ⊥
