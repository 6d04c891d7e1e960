-- The message of a fault of groups: its number and name, and where it is.
use Rattle.std.specs.Prelude.{ℕ, List, Option, None, Some, codes}
use Rattle.auction_terms.specs.Wording.{FaultCode, fault_text}
use Rattle.auction_terms.specs.declared.groups_text.GroupFault.{GroupFault}
use Rattle.auction_terms.specs.declared.groups_text.GroupFault.TheVariants as fault

-- the number and the name of a fault of the groups
abbrev pub group_code : GroupFault → Option FaultCode
group_code fault.TooLarge = Some (record { number = 1; name = codes "TooLarge" })
group_code (fault.EmptyLine place) = Some (record { number = 2; name = codes "EmptyLine" })
group_code (fault.UnknownBidder place) = Some (record { number = 3; name = codes "UnknownBidder" })
group_code (fault.RepeatedBidder place) = Some (record { number = 4; name = codes "RepeatedBidder" })
group_code (fault.TooManyGroups place) = Some (record { number = 5; name = codes "TooManyGroups" })
group_code fault.OutOfMemory = None

-- the number of the line in which a fault of the groups is, 0 if there is none; nothing if it is that of the whole text
abbrev pub group_place : GroupFault → Option ℕ
group_place fault.TooLarge = None
group_place (fault.EmptyLine place) = Some place
group_place (fault.UnknownBidder place) = Some place
group_place (fault.RepeatedBidder place) = Some place
group_place (fault.TooManyGroups place) = Some place
group_place fault.OutOfMemory = None

-- the words printed for a fault of the groups
abbrev pub group_fault_text : GroupFault → List ℕ
group_fault_text f = fault_text (codes " at line ") (group_code f) (group_place f)
