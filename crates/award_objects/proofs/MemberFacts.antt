-- Members of objects.
use Rattle.std.proofs.Common.{◌≡◌, ◌∷◌, [], ℕ, List, ap, ap₂}
use Rattle.byte_sinks.specs.Objects.{Member, Value, member_seen}
use Rattle.byte_sinks.specs.declared.objects.Member.{Member as GivenMember}

-- a member of this name and value
pub of_value : (m : GivenMember) (name : List ℕ) (value : Value) → (member_seen m).name ≡ name → (member_seen m).value ≡ value
    → member_seen m ≡ record { name = name; value = value }
of_value m name value e f = ap₂ (λ (n : List ℕ) (v : Value). record { name = n; value = v }) e f

-- a member, and those after it
pub and_then : {m n : Member} {ms ns : List Member} → m ≡ n → ms ≡ ns → m ∷ ms ≡ n ∷ ns
and_then e f = ap₂ (λ (it : Member) (more : List Member). it ∷ more) e f

-- a member alone
pub lone : {m n : Member} → m ≡ n → m ∷ [] ≡ n ∷ []
lone e = ap (λ (it : Member). it ∷ []) e
