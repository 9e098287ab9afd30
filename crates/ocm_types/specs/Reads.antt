use Rattle.std.specs.Prelude.{◌≡◌, ℕ, List, Option, Some, None, Result, Ok, Err}
use Rattle.ocm_types.specs.declared.texts.TextFault.{TextFault}
use Rattle.ocm_types.specs.declared.texts.TextFault.TheVariants.{Length, Char, NoMemory}

-- the reading of a text answers what its definition gives, or that there was no memory
abbrev pub Gives : Result (List ℕ) TextFault → Option (List ℕ) → Type 0
Gives (Ok value) given = given ≡ Some value
Gives (Err Length) given = given ≡ None
Gives (Err Char) given = given ≡ None
Gives (Err NoMemory) given = Unit {0}
