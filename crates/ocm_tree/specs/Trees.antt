use Rattle.std.specs.Prelude.{◌≡◌, ℕ, List, length, map}
use Rattle.ocm_entry.specs.declared.rows.Node.{Node}
use Rattle.ocm_law_origins.specs.Origins.{Origin}
use Rattle.ocm_tree.specs.Tables.{Slots, somes}
use Rattle.ocm_tree.specs.Standings.{numbers_in}
use Rattle.ocm_tree.specs.Tags.{parent_tag}

-- what callers see of a tree: what stands, by which entries, and how many more nodes it takes without memory
pub record TreeLists : Type 0 where
  pub nodes : List Node
  pub origins : List Origin
  pub room : ℕ

-- what a tree keeps for its slots: a number and a tag for each, where the tag of a node is that of the place in which it lies
pub record AreBeside (slots : Slots) (numbers tags : List ℕ) : Type 0 where
  pub same : length slots ≡ length numbers
  pub also : length slots ≡ length tags
  pub tagged : numbers_in slots tags ≡ map parent_tag (somes slots)
