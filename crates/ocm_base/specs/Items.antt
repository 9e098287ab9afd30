use Rattle.std.specs.Prelude.{List, [], ◌∷◌}
use Rattle.ocm_base.specs.declared.traces.Link.{Link}
use Rattle.ocm_base.specs.declared.traces.Link.TheVariants.{Empty, After}

-- what was put into a trace, newest first
abbrev pub items : {T : Type 0} → Link T → List T
items Empty = []
items (After item below) = item.value ∷ below.value
