-- The limits are passed alike by nodes that stand alike.
use Rattle.std.proofs.Common.{◌≡◌, ℕ, suc, ◌+◌, List, [], ◌∷◌, ◌++◌, length, drop, Bool, true, false, not, refl, sym, ap, ◌∙◌, arith}
use Rattle.std.specs.Prelude.{Option, Some, None, ◌&&◌, ◌||◌, nat_lt, filter, if◌then◌else◌}
use Rattle.std.specs.List.{list_any}
use Rattle.std.specs.Option.{option_or}
use Rattle.std.proofs.lemmas.List.Sums.{sum_by-cons}
use Rattle.ocm_limits.specs.Limits.{most_children, most_file_bytes, most_nodes, most_stored_bytes}
use Rattle.std.proofs.lemmas.Bool.Decides.{nat_tests}
use Rattle.ocm_path.specs.Paths.{Segments, is_root}
use Rattle.ocm_types.specs.declared.phases.Which.{Which}
use Rattle.ocm_types.specs.declared.phases.Which.TheVariants.{FileSize, AllFiles, Nodes, Children, PathLength}
use Rattle.ocm_entry.specs.declared.rows.Place.{Place}
use Rattle.ocm_entry.specs.declared.rows.Node.{Node}
use Rattle.ocm_entry.specs.declared.rows.Standing.{Standing}
use Rattle.ocm_rules.specs.State.{node_at, EachOnce}
use Rattle.ocm_rules.specs.Files.{Act, Carried, Gone, Placed, same_place, is_at_or_above, moved, parent_of, with_node, copies, stays, nodes_after, size_of, total_size, child_count, passed_by, limit_of, is_too_long, path_limit, limit_of_carry}
use Rattle.ocm_rules.proofs.Lists.{count_by-cons, not_both}
use Rattle.ocm_rules.proofs.Places.{above-split, same_place-equal}
use Rattle.ocm_rules.proofs.Nodes.{node_at-with_node, node_at-filter, node_at-copies, copies-one}
use Rattle.ocm_rules.proofs.Once.{once-with_node, once-filter, once-carried}
use Rattle.ocm_law_alike.proofs.Taken.{IsGathered, IsRootless, StandAlike, gathered-alike}

-- ---- what is counted

sizes-gathered : IsGathered total_size (λ (n : Node) total. size_of n.standing + total)
sizes-gathered = record {
  cons = λ n ns. sum_by-cons (λ (m : Node). size_of m.standing) n ns;
  swap = λ a b x other ra rb. turned (size_of a.standing) (size_of b.standing) x;
}
  where
    turned : (p q x : ℕ) → p + (q + x) ≡ q + (p + x)
    turned p q x = omega arith

length-gathered : IsGathered length (λ (n : Node) count. suc count)
length-gathered = record {
  cons = λ n ns. refl;
  swap = λ a b x other ra rb. refl;
}

abbrev counted_where : Place → Node → ℕ → ℕ
counted_where place n count = if same_place (parent_of n.place) place then count + 1 else count

children-counted : (place : Place) → IsGathered (λ ns. child_count ns place) (counted_where place)
children-counted place = record {
  cons = λ n ns. count_by-cons (λ (m : Node). same_place (parent_of m.place) place) n ns;
  swap = λ a b x other ra rb. two x (same_place (parent_of a.place) place) (same_place (parent_of b.place) place);
}
  where
    two : (x : ℕ) (p q : Bool) → (if p then (if q then x + 1 else x) + 1 else (if q then x + 1 else x)) ≡ (if q then (if p then x + 1 else x) + 1 else (if p then x + 1 else x))
    two x true true = refl
    two x true false = refl
    two x false true = refl
    two x false false = refl

abbrev long_where : Place → Place → Node → Bool → Bool
long_where from to n rest = (is_at_or_above from n.place && is_too_long (record { place = moved from to n.place; standing = n.standing })) || rest

long-gathered : (from to : Place) → IsGathered (λ ns. list_any is_too_long (copies from to ns)) (long_where from to)
long-gathered from to = record {
  cons = λ n ns. ap (list_any is_too_long) (copies-one from to n ns (is_at_or_above from n.place) refl) ∙ one n ns (is_at_or_above from n.place);
  swap = λ a b x other ra rb. two (is_at_or_above from a.place && is_too_long (record { place = moved from to a.place; standing = a.standing }))
      (is_at_or_above from b.place && is_too_long (record { place = moved from to b.place; standing = b.standing })) x;
}
  where
    one : (n : Node) (ns : List Node) (c : Bool)
        → list_any is_too_long (if c then (let copy : Node = record { place = moved from to n.place; standing = n.standing } in copy) ∷ copies from to ns else copies from to ns)
        ≡ ((c && is_too_long (record { place = moved from to n.place; standing = n.standing })) || list_any is_too_long (copies from to ns))
    one n ns true = refl
    one n ns false = refl

    two : (p q x : Bool) → (p || (q || x)) ≡ (q || (p || x))
    two true true x = refl
    two true false x = refl
    two false true x = refl
    two false false x = refl

-- ---- the limits

pub passed-alike : (ns others : List Node) (node : Node) → StandAlike ns others → passed_by ns node ≡ passed_by others node
passed-alike ns others node h =
    let total : total_size ns ≡ total_size others = gathered-alike total_size (λ (n : Node) sum. size_of n.standing + sum) sizes-gathered ns others h in
    let all : length ns ≡ length others = gathered-alike length (λ (n : Node) count. suc count) length-gathered ns others h in
    let beside : child_count ns (parent_of node.place) ≡ child_count others (parent_of node.place) =
    gathered-alike (λ l. child_count l (parent_of node.place)) (counted_where (parent_of node.place)) (children-counted (parent_of node.place)) ns others h in
    λ i. if nat_lt most_file_bytes (size_of node.standing) then Some FileSize
    else (if nat_lt most_stored_bytes (total i) then Some AllFiles
    else (if nat_lt most_nodes (all i) then Some Nodes
    else (if nat_lt most_children (beside i) then Some Children else None)))

-- ---- nodes that stand alike after the same was done

node_at-append : (xs ys : List Node) (place : Place) → node_at (xs ++ ys) place ≡ option_or (node_at xs place) (node_at ys place)
node_at-append [] ys place = refl
node_at-append (n ∷ xs) ys place = by_test (node_at-append xs ys place) (same_place n.place place)
  where
    by_test : node_at (xs ++ ys) place ≡ option_or (node_at xs place) (node_at ys place)
        → (b : Bool) → (if b then Some n.standing else node_at (xs ++ ys) place) ≡ option_or (if b then Some n.standing else node_at xs place) (node_at ys place)
    by_test rest true = refl
    by_test rest false = rest

-- what stands at a place after a copy or move
node_at-carried : (from to : Place) (moving : Bool) (ns : List Node) (place : Place) → node_at (filter (stays from to moving) ns ++ copies from to ns) place
    ≡ option_or (if not (is_at_or_above to place) && not (moving && is_at_or_above from place) then node_at ns place else None) (if is_at_or_above to place then node_at ns (moved to from place) else None)
node_at-carried from to moving ns place =
    node_at-append (filter (stays from to moving) ns) (copies from to ns) place
    ∙ ap (λ o. option_or o (node_at (copies from to ns) place)) (node_at-filter (λ p. not (is_at_or_above to p) && not (moving && is_at_or_above from p)) ns place)
    ∙ ap (λ o. option_or (if not (is_at_or_above to place) && not (moving && is_at_or_above from place) then node_at ns place else None) o) (node_at-copies from to ns place)

pub same-after : (act : Option Act) (ns others : List Node) → ((place : Place) → node_at ns place ≡ node_at others place) → (place : Place) → node_at (nodes_after act ns) place ≡ node_at (nodes_after act others) place
same-after None ns others h place = h place
same-after (Some (Placed there standing)) ns others h place =
    node_at-with_node ns (record { place = there; standing = standing }) place ∙ ap (λ o. if same_place there place then Some standing else o) (h place)
    ∙ sym (node_at-with_node others (record { place = there; standing = standing }) place)
same-after (Some (Gone there)) ns others h place =
    node_at-filter (λ p. not (is_at_or_above there p)) ns place ∙ ap (λ o. if not (is_at_or_above there place) then o else None) (h place)
    ∙ sym (node_at-filter (λ p. not (is_at_or_above there p)) others place)
same-after (Some (Carried from to moving)) ns others h place =
    node_at-carried from to moving ns place
    ∙ (λ i. option_or (if not (is_at_or_above to place) && not (moving && is_at_or_above from place) then h place i else None) (if is_at_or_above to place then h (moved to from place) i else None))
    ∙ sym (node_at-carried from to moving others place)

once-after : (act : Option Act) (ns : List Node) → EachOnce ns → EachOnce (nodes_after act ns)
once-after None ns h = h
once-after (Some (Placed there standing)) ns h = once-with_node ns (record { place = there; standing = standing }) h
once-after (Some (Gone there)) ns h = once-filter (λ p. not (is_at_or_above there p)) ns h
once-after (Some (Carried from to moving)) ns h = once-carried from to moving ns h

-- what is done below the roots
abbrev pub IsBelowRoots : Option Act → Type 0
IsBelowRoots None = Unit {0}
IsBelowRoots (Some (Placed there standing)) = is_root there.path ≡ false
IsBelowRoots (Some (Gone there)) = Unit {0}
IsBelowRoots (Some (Carried from to moving)) = is_root to.path ≡ false

none-either : (b : Bool) (o : Option Standing) → o ≡ None → (if b then o else None) ≡ None
none-either true o h = h
none-either false o h = refl

-- what lies above a root is a root
above-root : (above place : Place) → is_root place.path ≡ true → is_root above.path ≡ false → is_at_or_above above place ≡ false
above-root above place root off = by_test (is_at_or_above above place) refl
  where
    nothing-above : (p q rest : Segments) → q ≡ p ++ rest → is_root q ≡ true → is_root p ≡ true
    nothing-above [] q rest e h = refl
    nothing-above (s ∷ p) q rest e h = let more : is_root (s ∷ (p ++ rest)) ≡ false = grind (arith, nat_tests) in let all : is_root (s ∷ (p ++ rest)) ≡ true = ap is_root (sym e) ∙ h in absurd (not_both (is_root (s ∷ (p ++ rest))) all more)

    by_test : (b : Bool) → is_at_or_above above place ≡ b → b ≡ false
    by_test true k = absurd (not_both (is_root above.path) (nothing-above above.path place.path (drop (length above.path) place.path) (above-split above place k).1 root) off)
    by_test false k = refl

pub rootless-after : (act : Option Act) (ns : List Node) → IsBelowRoots act → IsRootless ns → IsRootless (nodes_after act ns)
rootless-after None ns off h = h
rootless-after (Some (Placed there standing)) ns off h = record { none = λ place root. node_at-with_node ns (record { place = there; standing = standing }) place ∙ by_test place root (same_place there place) refl }
  where
    by_test : (place : Place) → is_root place.path ≡ true → (b : Bool) → same_place there place ≡ b → (if b then Some standing else node_at ns place) ≡ None
    by_test place root true k = absurd (not_both (is_root there.path) (ap (λ (p : Place). is_root p.path) (same_place-equal there place k) ∙ root) off)
    by_test place root false k = h.none place root
rootless-after (Some (Gone there)) ns off h = record { none = λ place root. node_at-filter (λ p. not (is_at_or_above there p)) ns place ∙ none-either (not (is_at_or_above there place)) (node_at ns place) (h.none place root) }
rootless-after (Some (Carried from to moving)) ns off h = record {
  none = λ place root.
      node_at-carried from to moving ns place
      ∙ ap (λ o. option_or o (if is_at_or_above to place then node_at ns (moved to from place) else None)) (none-either (not (is_at_or_above to place) && not (moving && is_at_or_above from place)) (node_at ns place) (h.none place root))
      ∙ rw (above-root to place root off) refl;
}

pub alike-after : (act : Option Act) (ns others : List Node) → IsBelowRoots act → StandAlike ns others → StandAlike (nodes_after act ns) (nodes_after act others)
alike-after act ns others off h = record {
  once = once-after act ns h.once;
  apart = once-after act others h.apart;
  rootless = rootless-after act others off h.rootless;
  same = same-after act ns others h.same;
}

-- ---- what would be passed

pub limit-alike : (ns others : List Node) (node : Node) → is_root node.place.path ≡ false → StandAlike ns others → limit_of ns node ≡ limit_of others node
limit-alike ns others node off h = passed-alike (with_node ns node) (with_node others node) node (alike-after (Some (Placed node.place node.standing)) ns others off h)

pub carry-alike : (ns others : List Node) (from to : Place) (moving : Bool) (standing : Standing) → is_root to.path ≡ false → StandAlike ns others
    → limit_of_carry ns from to moving standing ≡ limit_of_carry others from to moving standing
carry-alike ns others from to moving standing off h =
    let numbers = passed-alike (nodes_after (Some (Carried from to moving)) ns) (nodes_after (Some (Carried from to moving)) others) (record { place = to; standing = standing })
    (alike-after (Some (Carried from to moving)) ns others off h) in
    let paths : list_any is_too_long (copies from to ns) ≡ list_any is_too_long (copies from to others) = gathered-alike (λ l. list_any is_too_long (copies from to l)) (long_where from to) (long-gathered from to) ns others h in
    λ i. option_or (numbers i) (if paths i then Some PathLength else None)
