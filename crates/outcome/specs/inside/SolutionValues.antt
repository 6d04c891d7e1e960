-- The value that a token gives a column: 0 or 1, or what is wrong with it.
use Rattle.std.specs.Prelude.{ℕ, ◌*◌, Bool, true, false, not, ◌||◌, nat_le, List, if◌then◌else◌, ℤ, pos, ◌-ℤ◌, nat_abs, Option, None, Some, Result, Ok, Err}
use Rattle.outcome.specs.declared.limits.TheConstants.{TOLERANCE_PARTS}
use Rattle.auction_terms.specs.Decimals.{is_minus, is_number_token, is_too_long, scaled_up, scale, signed}
use Rattle.program_rows.specs.declared.solution_fault.SolutionFault.{SolutionFault}
use Rattle.program_rows.specs.declared.solution_fault.SolutionFault.TheVariants as fault
use Rattle.outcome.specs.declared.solution_values.ValueFault.{ValueFault}
use Rattle.outcome.specs.declared.solution_values.ValueFault.TheVariants.{ValueText, NotZeroOne}

-- numerator / scale is away from a whole number by at most the tolerance
abbrev pub is_around : ℕ → ℤ → ℕ → Bool
is_around whole numerator scale = nat_le (TOLERANCE_PARTS * nat_abs (numerator -ℤ pos (whole * scale))) scale

-- what numerator / scale counts as
abbrev pub near_of : ℤ → ℕ → Result Bool ValueFault
near_of numerator scale =
    if is_around 0 numerator scale then Ok false
    else (if is_around 1 numerator scale then Ok true
    else Err NotZeroOne)

-- what the token counts as
unfoldable pub token_value : List ℕ → Result Bool ValueFault
token_value token =
    if not (is_number_token token) || is_too_long token then Err ValueText
    else near_of (signed (is_minus token) (scaled_up token)) (scale token)

-- the fault of a value in the line at a place
abbrev pub value_fault : ℕ → Result Bool ValueFault → Option SolutionFault
value_fault place (Ok v) = None
value_fault place (Err ValueText) = Some (fault.ValueText place)
value_fault place (Err NotZeroOne) = Some (fault.NotZeroOne place)
