-- The message of a fault of rules: its number and name, and where it is.
use Rattle.std.specs.Prelude.{ℕ, List, Option, None, Some, codes}
use Rattle.auction_terms.specs.Wording.{FaultCode, fault_text}
use Rattle.auction_terms.specs.declared.rules_text.RulesFault.{RulesFault}
use Rattle.auction_terms.specs.declared.rules_text.RulesFault.TheVariants as fault

-- the number and the name of a fault of the rules
abbrev pub rules_code : RulesFault → Option FaultCode
rules_code fault.TooLarge = Some (record { number = 1; name = codes "TooLarge" })
rules_code (fault.Header place) = Some (record { number = 2; name = codes "Header" })
rules_code (fault.FieldCount place) = Some (record { number = 3; name = codes "FieldCount" })
rules_code (fault.Kind place) = Some (record { number = 4; name = codes "Kind" })
rules_code (fault.NameText place) = Some (record { number = 5; name = codes "NameText" })
rules_code (fault.NumberText place) = Some (record { number = 6; name = codes "NumberText" })
rules_code (fault.NumberRange place) = Some (record { number = 7; name = codes "NumberRange" })
rules_code (fault.NameRepeated place) = Some (record { number = 8; name = codes "NameRepeated" })
rules_code (fault.TooMany place) = Some (record { number = 9; name = codes "TooMany" })
rules_code (fault.NoCategory place) = Some (record { number = 10; name = codes "NoCategory" })
rules_code (fault.NoBidder place) = Some (record { number = 11; name = codes "NoBidder" })
rules_code (fault.NameUnknown place) = Some (record { number = 13; name = codes "NameUnknown" })
rules_code fault.OutOfMemory = None

-- the number of the record in which a fault of the rules is, 0 if there is none; nothing if it is that of the whole text
abbrev pub rules_place : RulesFault → Option ℕ
rules_place fault.TooLarge = None
rules_place (fault.Header place) = Some place
rules_place (fault.FieldCount place) = Some place
rules_place (fault.Kind place) = Some place
rules_place (fault.NameText place) = Some place
rules_place (fault.NumberText place) = Some place
rules_place (fault.NumberRange place) = Some place
rules_place (fault.NameRepeated place) = Some place
rules_place (fault.TooMany place) = Some place
rules_place (fault.NoCategory place) = Some place
rules_place (fault.NoBidder place) = Some place
rules_place (fault.NameUnknown place) = Some place
rules_place fault.OutOfMemory = None

-- the words printed for a fault of the rules
abbrev pub rules_fault_text : RulesFault → List ℕ
rules_fault_text f = fault_text (codes " at record ") (rules_code f) (rules_place f)
