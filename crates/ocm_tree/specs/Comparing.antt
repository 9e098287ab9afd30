-- Whether the same stands in two trees.
use Rattle.std.specs.Prelude.{List, Bool, true, false, Option, Some, None}
use Rattle.ocm_entry.specs.declared.rows.Standing.{Standing}
use Rattle.ocm_entry.specs.declared.rows.Standing.TheVariants.{Collection, File}
use Rattle.ocm_entry.specs.declared.rows.Node.{Node}
use Rattle.ocm_rules.specs.Numbers.{same_text}
use Rattle.ocm_rules.specs.State.{node_at}

-- whether this stands where that may stand: collections are the same, and files with the same bytes
abbrev pub is_same : Standing → Option Standing → Bool
is_same Collection (Some Collection) = true
is_same (File body) (Some (File other)) = same_text body other
is_same standing other = false

-- whether the node of a slot stands among these nodes too; an empty slot has none
abbrev pub stands_among : List Node → Option Node → Bool
stands_among nodes None = true
stands_among nodes (Some n) = is_same n.standing (node_at nodes n.place)
