-- The words on a fault of prices or of the rule.
use Rattle.std.specs.Prelude.{◌++◌, ℕ, List, codes, decimal}
use Rattle.auction_input.specs.declared.price_fault.PriceFault.{PriceFault}
use Rattle.auction_input.specs.declared.price_fault.PriceFault.TheVariants as fault

-- the words printed for a fault of prices or of the rule, with the number of the line if it is in one
abbrev pub price_fault_text : PriceFault → List ℕ
price_fault_text (fault.Fields place) = codes "1 Fields at line " ++ decimal place
price_fault_text (fault.UnknownName place) = codes "2 UnknownName at line " ++ decimal place
price_fault_text (fault.NotWinner place) = codes "3 NotWinner at line " ++ decimal place
price_fault_text (fault.RepeatedName place) = codes "4 RepeatedName at line " ++ decimal place
price_fault_text (fault.NumberText place) = codes "5 NumberText at line " ++ decimal place
price_fault_text (fault.AboveAmount place) = codes "7 AboveAmount at line " ++ decimal place
price_fault_text (fault.BelowReserve place) = codes "8 BelowReserve at line " ++ decimal place
price_fault_text fault.NoScales = codes "9 NoScales"
price_fault_text (fault.DenominatorRange place) = codes "10 DenominatorRange at line " ++ decimal place
price_fault_text (fault.PriceRange place) = codes "11 PriceRange at line " ++ decimal place
price_fault_text (fault.TooManyParts place) = codes "12 TooManyParts at line " ++ decimal place
price_fault_text fault.NotLeast = codes "14 NotLeast"
price_fault_text fault.NotNearest = codes "15 NotNearest"
price_fault_text fault.OutOfMemory = codes "out of memory"
