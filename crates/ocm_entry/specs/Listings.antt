-- What PROPFIND tells of a path and of what lies there (RFC 4918 section 9.1).
use Rattle.std.specs.Prelude.{ℕ, List, [], ◌∷◌, ◌++◌, Option, Some, None}
use Rattle.ocm_path.specs.Paths.{Segments}
use Rattle.ocm_entry.specs.declared.listings.DavItem.{DavItem}
use Rattle.ocm_entry.specs.declared.listings.DavChild.{DavChild}

-- the path of what lies in the collection at a path, by its name; the root, which lies in itself, has none
abbrev pub path_in : Segments → Option (List ℕ) → Segments
path_in path None = path
path_in path (Some name) = path ++ name ∷ []

-- what lies in the collection at a path, as it is told
abbrev pub item_in : Segments → DavChild → DavItem
item_in path child = record { path = path_in path child.name; size = child.size }

-- the path of the first item
abbrev pub told_path : List DavItem → Segments
told_path [] = []
told_path (item ∷ items) = item.path

-- the bytes of the first item, if it is a file
abbrev pub told_size : List DavItem → Option ℕ
told_size [] = None
told_size (item ∷ items) = item.size
