-- Digests and commitments, in hexadecimal digits.
use Rattle.std.specs.Prelude.{ℕ, List, ◌++◌}
use Rattle.hex.specs.Hex.{encode_lower}
use Rattle.sha2.specs.Sha256.{sha256}

-- the digits of the SHA-256 of these bytes
abbrev pub sha_digits : List ℕ → List ℕ
sha_digits bytes = encode_lower (sha256 bytes)

-- the commitment to a text: the digest of the salt's digits and those of the text's digest, nothing between
abbrev pub commit : List ℕ → List ℕ → List ℕ
commit salt text = sha_digits (salt ++ sha_digits text)
