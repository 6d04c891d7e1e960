-- The message of a fault of a form: its number and name, where it is, and an earlier bid.
use Rattle.std.specs.Prelude.{◌++◌, ℕ, List, Option, None, Some, codes, decimal}
use Rattle.auction_terms.specs.Wording.{FaultCode, fault_text}
use Rattle.bid_forms.specs.declared.form_text.FormFault.{FormFault}
use Rattle.bid_forms.specs.declared.form_text.FormFault.TheVariants as fault

-- the number and the name of a fault of a form
abbrev pub form_code : FormFault → Option FaultCode
form_code fault.TooLarge = Some (record { number = 1; name = codes "TooLarge" })
form_code (fault.Header place) = Some (record { number = 2; name = codes "Header" })
form_code (fault.UnknownBidder place) = Some (record { number = 3; name = codes "UnknownBidder" })
form_code (fault.FieldCount place) = Some (record { number = 4; name = codes "FieldCount" })
form_code (fault.AmountText place) = Some (record { number = 5; name = codes "AmountText" })
form_code (fault.AmountRange place) = Some (record { number = 6; name = codes "AmountRange" })
form_code (fault.AmountStep place) = Some (record { number = 7; name = codes "AmountStep" })
form_code (fault.QuantityText place) = Some (record { number = 8; name = codes "QuantityText" })
form_code (fault.QuantityRange place) = Some (record { number = 9; name = codes "QuantityRange" })
form_code (fault.EmptyPackage place) = Some (record { number = 10; name = codes "EmptyPackage" })
form_code (fault.OverEligibility place) = Some (record { number = 11; name = codes "OverEligibility" })
form_code (fault.BelowReserve place) = Some (record { number = 12; name = codes "BelowReserve" })
form_code (fault.RepeatedPackage place earlier) = Some (record { number = 13; name = codes "RepeatedPackage" })
form_code (fault.TooManyBids place) = Some (record { number = 14; name = codes "TooManyBids" })
form_code fault.OutOfMemory = None

-- the number of the record in which a fault of a form is, 0 if there is none; nothing if it is that of the whole text
abbrev pub form_place : FormFault → Option ℕ
form_place fault.TooLarge = None
form_place (fault.Header place) = Some place
form_place (fault.UnknownBidder place) = Some place
form_place (fault.FieldCount place) = Some place
form_place (fault.AmountText place) = Some place
form_place (fault.AmountRange place) = Some place
form_place (fault.AmountStep place) = Some place
form_place (fault.QuantityText place) = Some place
form_place (fault.QuantityRange place) = Some place
form_place (fault.EmptyPackage place) = Some place
form_place (fault.OverEligibility place) = Some place
form_place (fault.BelowReserve place) = Some place
form_place (fault.RepeatedPackage place earlier) = Some place
form_place (fault.TooManyBids place) = Some place
form_place fault.OutOfMemory = None

-- the number of the earlier bid that has the same package, where the fault is that there is one
abbrev pub earlier_bid : FormFault → Option ℕ
earlier_bid fault.TooLarge = None
earlier_bid (fault.Header place) = None
earlier_bid (fault.UnknownBidder place) = None
earlier_bid (fault.FieldCount place) = None
earlier_bid (fault.AmountText place) = None
earlier_bid (fault.AmountRange place) = None
earlier_bid (fault.AmountStep place) = None
earlier_bid (fault.QuantityText place) = None
earlier_bid (fault.QuantityRange place) = None
earlier_bid (fault.EmptyPackage place) = None
earlier_bid (fault.OverEligibility place) = None
earlier_bid (fault.BelowReserve place) = None
earlier_bid (fault.RepeatedPackage place earlier) = Some earlier
earlier_bid (fault.TooManyBids place) = None
earlier_bid fault.OutOfMemory = None

-- words on a fault, and the number of an earlier bid, if it has one
abbrev pub with_earlier : List ℕ → Option ℕ → List ℕ
with_earlier text None = text
with_earlier text (Some n) = text ++ (codes ", earlier bid " ++ decimal n)

-- the words printed for a fault of a form
abbrev pub form_fault_text : FormFault → List ℕ
form_fault_text f = with_earlier (fault_text (codes " at record ") (form_code f) (form_place f)) (earlier_bid f)
