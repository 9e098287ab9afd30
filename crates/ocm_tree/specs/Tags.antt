use Rattle.std.specs.Prelude.{ℕ, ◌+◌, ◌*◌, ◌%◌, List, fold}
use Rattle.ocm_entry.specs.declared.rows.Place.{Place}
use Rattle.ocm_entry.specs.declared.rows.Node.{Node}
use Rattle.ocm_rules.specs.Files.{parent_of}

-- a tag with one byte more
unfoldable pub mix : ℕ → ℕ → ℕ
mix tag byte = (tag * 31 + byte) % 4294967296

-- a tag with one segment more, behind a `/`
unfoldable pub mix_all : ℕ → List ℕ → ℕ
mix_all tag segment = fold mix (mix tag 47) segment

-- the tag of a place, a number of 32 bits: a place with another tag is another place
unfoldable pub tag_of : Place → ℕ
tag_of place = fold mix_all place.user place.path

-- the tag of the place in which a node lies
abbrev pub parent_tag : Node → ℕ
parent_tag n = tag_of (parent_of n.place)
