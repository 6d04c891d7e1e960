-- The numbers that a request may have, and the command as which it takes parts.
use Rattle.std.specs.Prelude.{◌≤◌, ⊤, ℕ, Bool, List, Option, None, Some, bytes_eq, codes, false, if◌then◌else◌, true}
use Rattle.auction_input.specs.declared.request.Request.TheVariants.{Check, Compile, Explain, Forms, Map, Objects, Report, Text, Verify, VerifyWithForms}
use Rattle.auction_input.specs.declared.request.Objects.TheVariants as objects
use Rattle.auction_input.specs.declared.request.Request.{Request}
use Rattle.auction_input.specs.declared.request.Target.TheVariants as target
use Rattle.auction_input.specs.declared.request.Target.{Target}
use Rattle.byte_sinks.specs.declared.json.Format.{Format}
use Rattle.byte_sinks.specs.declared.json.Format.TheVariants.{Words}
use Rattle.auction_terms.specs.declared.limits.TheConstants.{MOST_GROUPS}
use Rattle.auction_terms.specs.declared.limits.TheConstants.{MOST_WORKERS}

-- how many workers, and which group, from 1 on
abbrev pub IsRequestWithinLimits : Request → Type 0
IsRequestWithinLimits (Compile workers) = (1 ≤ workers) × (workers ≤ MOST_WORKERS)
IsRequestWithinLimits (Map group) = (1 ≤ group) × (group ≤ MOST_GROUPS)
IsRequestWithinLimits (Report workers) = (1 ≤ workers) × (workers ≤ MOST_WORKERS)
IsRequestWithinLimits (Verify workers) = (1 ≤ workers) × (workers ≤ MOST_WORKERS)
IsRequestWithinLimits (VerifyWithForms workers) = (1 ≤ workers) × (workers ≤ MOST_WORKERS)
IsRequestWithinLimits (Objects (objects.Report workers)) = (1 ≤ workers) × (workers ≤ MOST_WORKERS)
IsRequestWithinLimits (Objects (objects.Verify workers)) = (1 ≤ workers) × (workers ≤ MOST_WORKERS)
IsRequestWithinLimits _ = ⊤

-- it reads an auction: neither the text of a program, as `check` does, nor forms alone
abbrev pub ReadsAuction : Request → Type 0
ReadsAuction Text = ⊤
ReadsAuction Check = ⊥
ReadsAuction (Compile workers) = ⊤
ReadsAuction (Explain options) = ⊤
ReadsAuction (Map group) = ⊤
ReadsAuction (Report workers) = ⊤
ReadsAuction (Verify workers) = ⊤
ReadsAuction (VerifyWithForms workers) = ⊤
ReadsAuction Forms = ⊥
ReadsAuction (Objects objects.Forms) = ⊥
ReadsAuction (Objects (objects.Report workers)) = ⊤
ReadsAuction (Objects (objects.Verify workers)) = ⊤

-- the command as which a request takes the parts of an input: itself, or the one that `explain` names
abbrev pub target_of : Request → Option Target
target_of Text = Some target.Text
target_of Check = None
target_of (Compile workers) = Some target.Compile
target_of (Explain options) = options.target
target_of (Map group) = Some target.Map
target_of (Report workers) = Some target.Report
target_of (Verify workers) = Some target.Verify
target_of (VerifyWithForms workers) = Some target.Verify
target_of Forms = None
target_of (Objects objects.Forms) = None
target_of (Objects (objects.Report workers)) = Some target.Report
target_of (Objects (objects.Verify workers)) = Some target.Verify

-- how what is found in the input of a request is printed
abbrev pub format_of : Request → Format
format_of Text = Words
format_of Check = Words
format_of (Compile workers) = Words
format_of (Explain options) = options.format
format_of (Map group) = Words
format_of (Report workers) = Words
format_of (Verify workers) = Words
format_of (VerifyWithForms workers) = Words
format_of Forms = Words
format_of (Objects of) = Words

-- whether parts of groups and of solutions may be there in any number, as none of them is read
abbrev pub ignores_others : Request → Bool
ignores_others Forms = true
ignores_others (Objects objects.Forms) = true
ignores_others asked = false

-- the command of this name, among those that take parts
abbrev pub target_named : List ℕ → Option Target
target_named name =
    if bytes_eq name (codes "text") then Some target.Text
    else if bytes_eq name (codes "compile") then Some target.Compile
    else if bytes_eq name (codes "map") then Some target.Map
    else if bytes_eq name (codes "report") then Some target.Report
    else if bytes_eq name (codes "verify") then Some target.Verify
    else None
