-- What a fallible call gives, memory aside.
use Rattle.std.specs.Prelude.{◌≡◌, ◌≢◌, Result, Ok, Err}
use Rattle.up_names.specs.declared.fault.NameFault.{NameFault}
use Rattle.up_names.specs.declared.fault.NameFault.TheVariants as name
use Rattle.up_names.specs.declared.fault.TextFault.{TextFault}
use Rattle.up_names.specs.declared.fault.TextFault.TheVariants as text

-- The result, with its value seen by `view`, is exactly what is meant; the fault `memory`, want of memory, alone is free.
abbrev pub GivesBut : {X Y E : Type 0} → E → (X → Y) → Result X E → Result Y E → Type 0
GivesBut memory view (Ok x) meant = meant ≡ Ok (view x)
GivesBut memory view (Err fault) meant = fault ≢ memory → meant ≡ Err fault

-- a call gives the name that is meant, or the fault that is meant; or it finds no memory
abbrev pub Gives : {X Y : Type 0} → (X → Y) → Result X NameFault → Result Y NameFault → Type 0
Gives view result meant = GivesBut name.OutOfMemory view result meant

-- a call gives the text of rules or members that is meant, or the fault that is meant; or it finds no memory
abbrev pub GivesText : {X Y : Type 0} → (X → Y) → Result X TextFault → Result Y TextFault → Type 0
GivesText view result meant = GivesBut text.OutOfMemory view result meant
