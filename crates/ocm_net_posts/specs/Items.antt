use Rattle.std.specs.Prelude.{List, [], ◌∷◌}
use Rattle.ocm_net_posts.specs.declared.items.Link.{Link}
use Rattle.ocm_net_posts.specs.declared.items.Link.TheVariants.{Empty, After}

-- what was put into a list that only clauses see, newest first
abbrev pub items : {T : Type 0} → Link T → List T
items Empty = []
items (After item below) = item.value ∷ below.value
