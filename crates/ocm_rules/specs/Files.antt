use Rattle.std.specs.Prelude.{ℕ, List, [], ◌∷◌, ◌++◌, length, map, filter, drop, sum_by, count_by, nat_eq, nat_lt, Bool, true, false, not, ◌&&◌, ◌||◌, if◌then◌else◌, Option, Some, None, option_map, unwrap_or}
use Rattle.std.specs.List.{list_any}
use Rattle.std.specs.Option.{option_or}
use Rattle.ocm_limits.specs.Limits.{most_children, most_file_bytes, most_nodes, most_path_bytes, most_stored_bytes}
use Rattle.ocm_path.specs.Paths.{Segments, same_path, is_root, is_above, parent, last, path_text}
use Rattle.ocm_types.specs.declared.phases.Which.{Which}
use Rattle.ocm_types.specs.declared.phases.Which.TheVariants.{FileSize, AllFiles, Nodes, Children, PathLength}
use Rattle.ocm_entry.specs.declared.asks.Ask.{Ask}
use Rattle.ocm_entry.specs.declared.asks.Ask.TheVariants.{Dav, Carry}
use Rattle.ocm_entry.specs.declared.asks.Method.TheVariants.{Put, Delete, Mkcol}
use Rattle.ocm_entry.specs.declared.entries.Entry.{Entry}
use Rattle.ocm_entry.specs.declared.rows.Place.{Place}
use Rattle.ocm_entry.specs.declared.rows.Standing.{Standing}
use Rattle.ocm_entry.specs.declared.rows.Standing.TheVariants.{Collection, File}
use Rattle.ocm_entry.specs.declared.rows.Node.{Node}
use Rattle.ocm_rules.specs.Users.{users}
use Rattle.ocm_rules.specs.Shares.{made}
use Rattle.ocm_rules.specs.Holders.{root_among}

-- ---- places

-- whether two places are the same path of the same user
abbrev pub same_place : Place → Place → Bool
same_place a b = nat_eq a.user b.user && same_path a.path b.path

-- whether the first place is the second or lies above it
abbrev pub is_at_or_above : Place → Place → Bool
is_at_or_above above place = nat_eq above.user place.user && is_above above.path place.path

-- whether one of two places is the other or lies above it
abbrev pub overlap : Place → Place → Bool
overlap a b = is_at_or_above a b || is_at_or_above b a

-- the place at a path below this one
abbrev pub below : Place → Segments → Place
below root path = record { user = root.user; path = root.path ++ path }

-- the place in which this one lies
abbrev pub parent_of : Place → Place
parent_of place = record { user = place.user; path = parent place.path }

-- what follows the first place in the path of the second
abbrev pub rest_below : Place → Place → Segments
rest_below above place = drop (length above.path) place.path

-- where a place that lies at or below the first is found at or below the second
abbrev pub moved : Place → Place → Place → Place
moved from to place = below to (rest_below from place)

-- ---- what entries do to files

-- what is done to files: this stands at a place, nothing stands at and below a place any more, or all at and below the first place stands at the second, and no longer at the first where it is moving
pub data Act : Type 0 where
  Placed : Place → Standing → Act
  Gone : Place → Act
  Carried : Place → Place → Bool → Act

-- what a kept ask does to files, where these are the places of the `/` of secrets
abbrev pub act_by : (List ℕ → Option Place) → Ask → Option Act
act_by root (Dav secret Put path body) = option_map (λ files. Placed (below files path) (File body)) (root secret)
act_by root (Dav secret Mkcol path body) = option_map (λ files. Placed (below files path) Collection) (root secret)
act_by root (Dav secret Delete path body) = option_map (λ files. Gone (below files path)) (root secret)
act_by root (Carry secret from to moving overwrite) = option_map (λ files. Carried (below files from) (below files to) moving) (root secret)
act_by root _ = None

-- what a kept entry does to files, after the kept ones before it
abbrev pub act_after : List ℕ → List Entry → Ask → Option Act
act_after host before ask = act_by (root_among (users before) (made host before)) ask

-- ---- what stands at a place

-- what stands at a place after this was done, where older is what stood at each place before
abbrev pub stands_after : Option Act → (Place → Option Standing) → Place → Option Standing
stands_after None older place = older place
stands_after (Some (Placed there standing)) older place = if same_place there place then Some standing else older place
stands_after (Some (Gone there)) older place = if is_at_or_above there place then None else older place
stands_after (Some (Carried from to moving)) older place =
    if is_at_or_above to place then older (moved to from place)
    else (if moving && is_at_or_above from place then None else older place)

-- what the last kept entry that did something at a place left there; of a copy or move, what stood in the entries before it where this came from
abbrev pub left_at : List ℕ → List Entry → Place → Option Standing
left_at host [] place = None
left_at host (e ∷ before) place = stands_after (act_after host before e.ask) (left_at host before) place

-- what stands at a place, where entries left this at each: a user's root is a collection
abbrev pub with_roots : (Place → Option Standing) → Place → Option Standing
with_roots left place = if is_root place.path then Some Collection else left place

-- what stands at a place after a list of kept entries
abbrev pub at : List ℕ → List Entry → Place → Option Standing
at host g place = with_roots (left_at host g) place

-- ---- all that stands

-- the nodes once a node stands: in the place of what stood there, or as one more
abbrev pub with_node : List Node → Node → List Node
with_node [] node = node ∷ []
with_node (other ∷ others) node = if same_place other.place node.place then node ∷ others else other ∷ with_node others node

-- what stands at and below the first place, as it stands at and below the second
abbrev pub copies : Place → Place → List Node → List Node
copies from to nodes =
    map (λ (n : Node). record { place = moved from to n.place; standing = n.standing }) (filter (λ (n : Node). is_at_or_above from n.place) nodes)

-- what stays where it stands at a copy or move: what lies neither at or below the second place nor, where it is moving, at or below the first
abbrev pub stays : Place → Place → Bool → Node → Bool
stays from to moving n = not (is_at_or_above to n.place) && not (moving && is_at_or_above from n.place)

-- the nodes after this was done
abbrev pub nodes_after : Option Act → List Node → List Node
nodes_after None nodes = nodes
nodes_after (Some (Placed there standing)) nodes = with_node nodes (record { place = there; standing = standing })
nodes_after (Some (Gone there)) nodes = filter (λ (n : Node). not (is_at_or_above there n.place)) nodes
nodes_after (Some (Carried from to moving)) nodes = filter (stays from to moving) nodes ++ copies from to nodes

-- all that stands after a list of kept entries, each place once, without the users' roots
abbrev pub nodes : List ℕ → List Entry → List Node
nodes host [] = []
nodes host (e ∷ before) = nodes_after (act_after host before e.ask) (nodes host before)

-- ---- limits

-- the bytes of what stands
abbrev pub size_of : Standing → ℕ
size_of Collection = 0
size_of (File body) = length body

-- the bytes of all files
abbrev pub total_size : List Node → ℕ
total_size nodes = sum_by (λ (n : Node). size_of n.standing) nodes

-- how many nodes lie in a collection
abbrev pub child_count : List Node → Place → ℕ
child_count nodes place = count_by (λ (n : Node). same_place (parent_of n.place) place) nodes

-- the first limit that the nodes pass, where this node is the one that came last
abbrev pub passed_by : List Node → Node → Option Which
passed_by nodes node =
    if nat_lt most_file_bytes (size_of node.standing) then Some FileSize
    else (if nat_lt most_stored_bytes (total_size nodes) then Some AllFiles
    else (if nat_lt most_nodes (length nodes) then Some Nodes
    else (if nat_lt most_children (child_count nodes (parent_of node.place)) then Some Children else None)))

-- the first limit that would be passed once this node stands
abbrev pub limit_of : List Node → Node → Option Which
limit_of nodes node = passed_by (with_node nodes node) node

-- whether a node's path is too long
abbrev pub is_too_long : Node → Bool
is_too_long n = nat_lt most_path_bytes (length (path_text n.place.path))

-- the limit on the paths that a copy or move makes, where one passes it
abbrev pub path_limit : List Node → Option Which
path_limit made_nodes = if list_any is_too_long made_nodes then Some PathLength else None

-- the first limit that would be passed by a copy or move of what stands at the first place
abbrev pub limit_of_carry : List Node → Place → Place → Bool → Standing → Option Which
limit_of_carry nodes from to moving standing =
    option_or (passed_by (nodes_after (Some (Carried from to moving)) nodes) (record { place = to; standing = standing })) (path_limit (copies from to nodes))

-- ---- children

-- whether one name stands before another in byte order
abbrev pub is_before : List ℕ → List ℕ → Bool
is_before a [] = false
is_before [] (y ∷ ys) = true
is_before (x ∷ xs) (y ∷ ys) = nat_lt x y || (nat_eq x y && is_before xs ys)

-- the name of what stands at a place: its last segment
abbrev pub name_at : Node → List ℕ
name_at n = unwrap_or (last n.place.path) []

-- a node among others that stand in the order of their names
abbrev pub put_in_order : Node → List Node → List Node
put_in_order n [] = n ∷ []
put_in_order n (other ∷ others) = if is_before (name_at other) (name_at n) then other ∷ put_in_order n others else n ∷ other ∷ others

-- nodes in the byte order of their names
abbrev pub in_order : List Node → List Node
in_order [] = []
in_order (n ∷ others) = put_in_order n (in_order others)

-- what lies in a collection, in the byte order of the names
abbrev pub children : List Node → Place → List Node
children nodes place = in_order (filter (λ (n : Node). same_place (parent_of n.place) place) nodes)
