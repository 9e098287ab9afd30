use Rattle.std.specs.Prelude.{Bool, Option, Some, None}
use Rattle.ocm_entry.specs.declared.rows.Node.{Node}
use Rattle.ocm_rules.specs.Files.{Act, Placed, Gone, Carried}
use Rattle.ocm_tree.specs.Standings.{is_left, is_copied}
use Rattle.ocm_tree.specs.declared.changes.FileChange.{FileChange}
use Rattle.ocm_tree.specs.declared.changes.FileChange.TheVariants.{Nothing, Put, Remove, Carry}
use Rattle.ocm_tree.specs.declared.changes.Part.{Part}
use Rattle.ocm_tree.specs.declared.changes.Part.TheVariants.{Left, Copied}

-- what a change does to files
abbrev pub act_of : FileChange → Option Act
act_of Nothing = None
act_of (Put place standing) = Some (Placed place.now standing.now)
act_of (Remove place) = Some (Gone place.now)
act_of (Carry from to moving) = Some (Carried from.now to.now moving)

-- whether this becomes of a node once something is done
abbrev pub passes : Part → Option Act → Node → Bool
passes Left act n = is_left act n
passes Copied act n = is_copied act n
