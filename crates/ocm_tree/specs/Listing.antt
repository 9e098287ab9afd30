use Rattle.std.specs.Prelude.{ℕ, Bool, Option, Some, None, unwrap_or, List, [], ◌∷◌, if◌then◌else◌}
use Rattle.ocm_path.specs.Paths.{last}
use Rattle.ocm_entry.specs.declared.listings.DavChild.{DavChild}
use Rattle.ocm_entry.specs.declared.rows.Place.{Place}
use Rattle.ocm_entry.specs.declared.rows.Node.{Node}
use Rattle.ocm_rules.specs.Files.{is_before, same_place, parent_of}
use Rattle.ocm_rules.specs.Answers.{item_size}

-- a node as it is told of in the collection that it lies in
abbrev pub child_of : Node → DavChild
child_of n = record { name = last n.place.path; size = item_size n.standing }

-- the name of a child, and none at a root
abbrev pub name_of : DavChild → List ℕ
name_of child = unwrap_or child.name []

-- one child more among those in the order of their names
abbrev pub put_child : DavChild → List DavChild → List DavChild
put_child child [] = child ∷ []
put_child child (other ∷ others) = if is_before (name_of other) (name_of child) then other ∷ put_child child others else child ∷ other ∷ others

-- children in the order of their names
abbrev pub in_order_of_names : List DavChild → List DavChild
in_order_of_names [] = []
in_order_of_names (child ∷ others) = put_child child (in_order_of_names others)

-- what is told of a slot: a node that passes a test
abbrev pub listed : {X : Type 0} → (Node → X) → (Node → Bool) → Option Node → List X
listed f p None = []
listed f p (Some n) = if p n then f n ∷ [] else []

-- whether a node lies in the collection at a place
abbrev pub lies_in : Place → Node → Bool
lies_in place n = same_place (parent_of n.place) place
