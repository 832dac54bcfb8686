-- What the reader of a pattern gives, memory aside.
use Rattle.std.specs.Prelude.{ℕ, Result}
use Rattle.up_names.specs.Faults.{GivesBut}
use Rattle.up_names.specs.declared.fault.NameFault.{NameFault}
use Rattle.up_names.specs.declared.fault.NameFault.TheVariants as name
use Rattle.up_pattern.specs.declared.fault.ElementFault.{ElementFault}
use Rattle.up_pattern.specs.declared.fault.ElementFault.TheVariants as element
use Rattle.up_pattern.specs.declared.fault.PatternFault.{PatternFault}
use Rattle.up_pattern.specs.declared.fault.PatternFault.TheVariants.{Name, Element, OutOfMemory}

-- The result, with its value seen by `view`, is exactly what is meant; want of memory alone is free.
abbrev pub Gives : {X Y : Type 0} → (X → Y) → Result X PatternFault → Result Y PatternFault → Type 0
Gives view result meant = GivesBut OutOfMemory view result meant

-- the fault of a pattern whose owner's name has a fault
abbrev pub owner_fault : NameFault → PatternFault
owner_fault name.OutOfMemory = OutOfMemory
owner_fault fault = Name

-- the fault of a pattern whose piece at that place has a fault
abbrev pub piece_fault : ℕ → ElementFault → PatternFault
piece_fault place element.OutOfMemory = OutOfMemory
piece_fault place element.Malformed = Element place
