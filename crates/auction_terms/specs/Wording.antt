-- What is reported of a fault: its number and name, or words, with two numbers among them at most.
use Rattle.std.specs.Prelude.{◌++◌, ℕ, List, Option, None, Some, codes, decimal}
use Rattle.auction_terms.specs.declared.wording.Code.{Code}
use Rattle.auction_terms.specs.declared.wording.Wording.{Wording}
use Rattle.auction_terms.specs.declared.wording.Wording.TheVariants.{Named, NamedAt, NamedWith, Words, Number, Between, Numbers}

-- the number and the name of a fault
pub record FaultCode : Type 0 where
  pub number : ℕ
  pub name : List ℕ

-- a code in the program
abbrev pub code_seen : Code → FaultCode
code_seen code = record { number = code.number; name = code.name.now }

-- the number and the name of a fault, as they are printed
abbrev pub code_text : FaultCode → List ℕ
code_text code = decimal code.number ++ (codes " " ++ code.name)

-- what is reported of a fault with this code, at this place, whose number comes after the words; of one without a code, that memory was refused
abbrev pub fault_text : List ℕ → Option FaultCode → Option ℕ → List ℕ
fault_text words None place = codes "out of memory"
fault_text words (Some code) None = code_text code
fault_text words (Some code) (Some place) = code_text code ++ (words ++ decimal place)

-- the text of a wording: its words, with its numbers as decimals in their places
abbrev pub wording_text : Wording → List ℕ
wording_text (Named code) = code_text (code_seen code)
wording_text (NamedAt code words n) = code_text (code_seen code) ++ (words.now ++ decimal n)
wording_text (NamedWith code words n more m) = (code_text (code_seen code) ++ (words.now ++ decimal n)) ++ (more.now ++ decimal m)
wording_text (Words words) = words.now
wording_text (Number words n) = words.now ++ decimal n
wording_text (Between words n more) = words.now ++ (decimal n ++ more.now)
wording_text (Numbers words n more m) = words.now ++ (decimal n ++ (more.now ++ decimal m))
