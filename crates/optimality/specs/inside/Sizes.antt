-- How large the numbers of a form get.
use Rattle.std.specs.Prelude.{ℕ, unsigned_abs}
use Rattle.optimality.specs.Certificates.{Form}
use Rattle.optimality.specs.Sizes.{size_of}

-- all of them, each without its sign
abbrev pub form_size : Form → ℕ
form_size form = size_of (λ t. unsigned_abs t.1) form
