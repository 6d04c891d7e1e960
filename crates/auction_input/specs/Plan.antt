-- How many parts of groups and of solutions each command takes, beside one of rules and any number of forms.
use Rattle.std.specs.Prelude.{◌==◌, Bool, ℕ, List, true, [], ◌∷◌, Option, None, Some, codes, if◌then◌else◌, length, nat_le}
use Rattle.auction_input.specs.Parts.{Part, parts_named}
use Rattle.auction_input.specs.declared.part_kind.PartKind.TheVariants as kind
use Rattle.auction_input.specs.declared.part_kind.PartKind.{PartKind}
use Rattle.auction_input.specs.Requests.{ignores_others, target_of}
use Rattle.auction_input.specs.declared.request.Request.{Request}
use Rattle.auction_input.specs.declared.request.Target.TheVariants as target
use Rattle.auction_input.specs.declared.request.Target.{Target}
use Rattle.auction_terms.specs.FirstFault.{first_failed}

-- whether a command takes so many parts of groups, and so many of solutions. Of a report there is to be a solution for each group, which is
-- tested once these are read, and `explain` that names no command lets them be
abbrev pub takes : Option Target → ℕ → ℕ → Bool × Bool
takes (Some target.Text) groups solutions = (groups == 0, solutions == 0)
takes (Some target.Compile) groups solutions = (groups == 1, solutions == 0)
takes (Some target.Map) groups solutions = (groups == 1, solutions == 1)
takes (Some target.Report) groups solutions = (groups == 1, true)
takes (Some target.Verify) groups solutions = (groups == 1, true)
takes None groups solutions = (nat_le groups 1, true)

-- whether a request takes so many parts of groups, and so many of solutions; it takes any number if it ignores them
abbrev pub taken_by : Request → ℕ → ℕ → Bool × Bool
taken_by asked groups solutions = if ignores_others asked then (true, true) else takes (target_of asked) groups solutions

-- the first kind of which there are too few parts or too many
abbrev pub miscounted : Request → List Part → Option PartKind
miscounted asked parts =
    let count : List ℕ → ℕ = λ name. length (parts_named name parts) in
    let taken = taken_by asked (count (codes "%groups")) (count (codes "%solution")) in
    first_failed ((count (codes "%rules") == 1, kind.Rules) ∷ (taken.0, kind.Groups) ∷ (taken.1, kind.Solution) ∷ [])
