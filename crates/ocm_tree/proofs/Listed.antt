use Rattle.std.proofs.Common.{◌≡◌, ℕ, Bool, true, false, ◌&&◌, ◌||◌, List, [], ◌∷◌, refl, cond, Less, Equal, Greater, ◌-◌, ◌<◌, ◌++◌, length, drop, suc, sym, ap, ◌∙◌, get_or, arith}
use Rattle.std.specs.Prelude.{nat_eq, nat_lt, map, filter, Some, slice_get, if◌then◌else◌}
use Rattle.std.specs.List.{list_all}
use Rattle.std.proofs.lemmas.Option.{slice_get-get_or}
use Rattle.std.proofs.Math.Seq.{drop-cons, drop-length}
use Rattle.std.specs.Ordering.{is_lt, nat_cmp, ordering_then}
use Rattle.std.specs.Cmp.Lexicographic.{slice_cmp}
use Rattle.ocm_path.specs.Paths.{Segments, last, parent}
use Rattle.ocm_entry.specs.declared.listings.DavChild.{DavChild}
use Rattle.ocm_entry.specs.declared.rows.Place.{Place}
use Rattle.ocm_entry.specs.declared.rows.Node.{Node}
use Rattle.ocm_entry.specs.Listings.{path_in, item_in}
use Rattle.ocm_rules.specs.Files.{is_before, name_at, put_in_order, in_order, children, parent_of, rest_below}
use Rattle.ocm_rules.specs.Answers.{item, item_size, items_in}
use Rattle.ocm_rules.proofs.Lists.{both_pass}
use Rattle.ocm_rules.proofs.Places.{same_place-equal}
use Rattle.ocm_tree.specs.Listing.{child_of, put_child, lies_in}
use Rattle.ocm_tree.proofs.Carried.{length-parent}

-- a name comes before another where it compares as less
pub is_lt-names : (a b : List ℕ) → is_lt (slice_cmp nat_cmp a b) ≡ is_before a b
is_lt-names [] [] = refl
is_lt-names [] (y ∷ b) = refl
is_lt-names (x ∷ a) [] = refl
is_lt-names (x ∷ a) (y ∷ b) = by_tests (is_lt-names a b) (nat_lt x y) (nat_eq x y)
  where
    by_tests : is_lt (slice_cmp nat_cmp a b) ≡ is_before a b → (less same : Bool) →
        is_lt (ordering_then (cond less Less (cond same Equal Greater)) (slice_cmp nat_cmp a b)) ≡ (less || (same && is_before a b))
    by_tests rest true same = refl
    by_tests rest false true = rest
    by_tests rest false false = refl

map-if : (f : Node → DavChild) (b : Bool) (xs ys : List Node) → map f (if b then xs else ys) ≡ (if b then map f xs else map f ys)
map-if f true xs ys = refl
map-if f false xs ys = refl

-- a node that is put in order is told as a child that is put in order
pub put_child-map : (n : Node) (ns : List Node) → put_child (child_of n) (map child_of ns) ≡ map child_of (put_in_order n ns)
put_child-map n [] = refl
put_child-map n (other ∷ others) =
    ap (λ l. if is_before (name_at other) (name_at n) then child_of other ∷ l else child_of n ∷ child_of other ∷ map child_of others) (put_child-map n others)
    ∙ sym (map-if child_of (is_before (name_at other) (name_at n)) (other ∷ put_in_order n others) (n ∷ other ∷ others))

-- ---- the paths of the children

-- what is behind the parent of a path: its last segment, if it has one
behind-parent : (path q : Segments) → path_in path (last q) ≡ path ++ drop (length q - 1) q
behind-parent path [] = ends path
  where
    ends : (xs : Segments) → xs ≡ xs ++ []
    ends [] = refl
    ends (x ∷ xs) = ap (λ l. x ∷ l) (ends xs)
behind-parent path (s ∷ rest) =
    let q : Segments = s ∷ rest in
    let at = length q - 1 in
    let below : at < length q = omega arith in
    let next : suc at ≡ length q = omega arith in
    let dropped : drop at q ≡ get_or q at [] ∷ [] = drop-cons q at [] below ∙ ap (λ k. get_or q at [] ∷ drop k q) next ∙ ap (λ l. get_or q at [] ∷ l) (drop-length q) in
    ap (path_in path) (slice_get-get_or q at [] below) ∙ ap (λ l. path ++ l) (sym dropped)

-- a node that lies in a collection is told there as a child of it
item-child : (place : Place) (path : Segments) (n : Node) → lies_in place n ≡ true → item_in path (child_of n) ≡ item (path ++ rest_below place n.place) n.standing
item-child place path n lies =
    let above : parent n.place.path ≡ place.path = ap (λ (p : Place). p.path) (same_place-equal (parent_of n.place) place lies) in
    let deep : length place.path ≡ length n.place.path - 1 = sym (ap length above) ∙ length-parent n.place.path in
    ap (λ q. item q n.standing) (behind-parent path n.place.path ∙ ap (λ k. path ++ drop k n.place.path) (sym deep))

items-alike : (place : Place) (path : Segments) (ns : List Node) → list_all (lies_in place) ns ≡ true →
    map (item_in path) (map child_of ns) ≡ map (λ (n : Node). item (path ++ rest_below place n.place) n.standing) ns
items-alike place path [] h = refl
items-alike place path (n ∷ ns) h =
    let both = both_pass (lies_in place n) (list_all (lies_in place) ns) h in
    ap (λ i. i ∷ map (item_in path) (map child_of ns)) (item-child place path n both.0) ∙ ap (λ l. item (path ++ rest_below place n.place) n.standing ∷ l) (items-alike place path ns both.1)

-- ---- each of the children lies in the collection

all-put : (p : Node → Bool) (n : Node) (ns : List Node) → p n ≡ true → list_all p ns ≡ true → list_all p (put_in_order n ns) ≡ true
all-put p n [] h k = ap (λ b. b && true) h
all-put p n (other ∷ others) h k =
    let both = both_pass (p other) (list_all p others) k in
    by_test both (all-put p n others h both.1) (is_before (name_at other) (name_at n))
  where
    by_test : (p other ≡ true) × (list_all p others ≡ true) → list_all p (put_in_order n others) ≡ true → (b : Bool) → list_all p (if b then other ∷ put_in_order n others else n ∷ other ∷ others) ≡ true
    by_test both rest true = ap (λ b. b && list_all p (put_in_order n others)) both.0 ∙ rest
    by_test both rest false = ap (λ b. b && (p other && list_all p others)) h ∙ (ap (λ b. b && list_all p others) both.0 ∙ both.1)

all-in_order : (p : Node → Bool) (ns : List Node) → list_all p ns ≡ true → list_all p (in_order ns) ≡ true
all-in_order p [] h = refl
all-in_order p (n ∷ ns) h = let both = both_pass (p n) (list_all p ns) h in all-put p n (in_order ns) both.0 (all-in_order p ns both.1)

all-filtered : (p : Node → Bool) (ns : List Node) → list_all p (filter p ns) ≡ true
all-filtered p [] = refl
all-filtered p (n ∷ ns) = by_test (all-filtered p ns) (p n) refl
  where
    by_test : list_all p (filter p ns) ≡ true → (b : Bool) → p n ≡ b → list_all p (if b then n ∷ filter p ns else filter p ns) ≡ true
    by_test rest true h = ap (λ b. b && list_all p (filter p ns)) h ∙ rest
    by_test rest false h = rest

-- what is told of the children below the path of the collection
pub items-children : (place : Place) (path : Segments) (nodes : List Node) → map (item_in path) (map child_of (children nodes place)) ≡ items_in nodes place path
items-children place path nodes = items-alike place path (children nodes place) (all-in_order (lies_in place) (filter (lies_in place) nodes) (all-filtered (lies_in place) nodes))
