use Rattle.std.proofs.Common.{◌≡◌, ℕ, zero, suc, ◌<◌, ◌≤◌, List, [], ◌∷◌, ◌++◌, length, drop, Bool, true, false, cond, not, refl, sym, ap, ◌∙◌, arith}
use Rattle.std.specs.Prelude.{Option, Some, None, is_some, sum_by, if◌then◌else◌}
use Rattle.std.proofs.lemmas.List.Sums.{sum_by-cons}
use Rattle.std.proofs.lemmas.Bool.Decides.{nat_tests}
use Rattle.ocm_path.specs.Paths.{Segments, is_root}
use Rattle.ocm_entry.specs.declared.rows.Place.{Place}
use Rattle.ocm_entry.specs.declared.rows.Node.{Node}
use Rattle.ocm_entry.specs.declared.rows.Standing.{Standing}
use Rattle.ocm_entry.specs.declared.rows.Standing.TheVariants.{Collection}
use Rattle.ocm_rules.specs.Files.{same_place, is_at_or_above, parent_of, with_node, with_roots, child_count}
use Rattle.ocm_rules.specs.State.{node_at}
use Rattle.ocm_rules.proofs.Lists.{not_both}
use Rattle.ocm_rules.proofs.Places.{same_place-equal, same_place-Decides, above-split}
use Rattle.ocm_rules.proofs.Nodes.{node_at-with_node, node_at-filter}
use Rattle.ocm_tree.specs.Tables.{IsRooted, IsLeaf}
use Rattle.ocm_tree.proofs.NodeLists.{child_count-cons}
use Rattle.ocm_tree.proofs.Removed.{outside, above-child, above-parent}
use Rattle.ocm_tree.proofs.Carried.{length-parent}

-- ---- nothing stands below a place in which nothing lies

place_of-equal : (u v : ℕ) (p q : Segments) → u ≡ v → p ≡ q → (let a : Place = record { user = u; path = p } in a) ≡ record { user = v; path = q }
place_of-equal u v p q e f = rw (e, f) refl

empty-both : (a b : Segments) → length (a ++ b) ≡ 0 → (a ≡ []) × (a ++ b ≡ [])
empty-both [] [] e = (refl, refl)
empty-both [] (x ∷ b) e = absurd (omega arith)
empty-both (x ∷ a) b e = absurd (omega arith)

-- what lies at or above a root is that root
root-above : (there place : Place) → is_at_or_above there place ≡ true → length place.path ≡ 0 → place ≡ there
root-above there place h e =
    let split = above-split there place h in
    let both = empty-both there.path (drop (length there.path) place.path) (sym (ap length split.1) ∙ e) in
    place_of-equal place.user there.user place.path there.path (sym split.0) (split.1 ∙ both.1 ∙ sym both.0)

-- what stands at a place lies in its collection
child-there : (ns : List Node) (place q : Place) → is_some (node_at ns place) ≡ true → same_place (parent_of place) q ≡ true → 0 < child_count ns q
child-there [] place q s h = absurd (cc)
child-there (n ∷ ns) place q s h = by_test (λ t. child-there ns place q t h) (same_place n.place place) refl s
  where
    by_test : (is_some (node_at ns place) ≡ true → 0 < child_count ns q) → (b : Bool) → same_place n.place place ≡ b → is_some (if b then Some n.standing else node_at ns place) ≡ true → 0 < child_count (n ∷ ns) q
    by_test rest true e t =
        let lies : same_place (parent_of n.place) q ≡ true = ap (λ (p : Place). same_place (parent_of p) q) (same_place-equal n.place place e) ∙ h in
        let all = child_count-cons n ns q in
        let one : ◌≡◌ {A = ℕ} (cond (same_place (parent_of n.place) q) 1 0) 1 = rw lies refl in
        omega (arith, one, all)
    by_test rest false e t = let more = rest t in let all = child_count-cons n ns q in omega (arith, more, all)

root-or-stands : (b : Bool) (o : Option Standing) → is_some (if b then Some Collection else o) ≡ true → b ≡ false → is_some o ≡ true
root-or-stands true o s h = absurd (cc)
root-or-stands false o s h = s

-- where each node lies in a root or where something stands, something lies in a collection below which something stands
below-there : (k : ℕ) (ns : List Node) (there place : Place) → IsRooted ns → child_count ns there ≡ 0 → length place.path ≤ k →
    is_some (node_at ns place) ≡ true → is_at_or_above there place ≡ true → same_place place there ≡ false → ⊥
below-there zero ns there place rooted none short stands above other =
    not_both (same_place place there) ((same_place-Decides place there).1 (root-above there place above (omega arith))) other
below-there (suc k) ns there place rooted none short stands above other =
    by_tests (below-there k ns there (parent_of place) rooted none) (is_root place.path) refl (same_place (parent_of place) there) refl (is_root (parent_of place).path) refl
  where
    up : is_at_or_above there (parent_of place) ≡ true
    up = above-parent there place above other

    by_tests : (length (parent_of place).path ≤ k → is_some (node_at ns (parent_of place)) ≡ true → is_at_or_above there (parent_of place) ≡ true → same_place (parent_of place) there ≡ false → ⊥)
        → (a : Bool) → is_root place.path ≡ a → (b : Bool) → same_place (parent_of place) there ≡ b → (c : Bool) → is_root (parent_of place).path ≡ c → ⊥
    by_tests rest a ha true hb c hc = let some = child-there ns place there stands hb in omega (arith, some, none)
    by_tests rest a ha false hb true hc =
        let empty : length (parent_of place).path ≡ 0 = grind (arith, nat_tests, hc) in
        not_both (same_place (parent_of place) there) ((same_place-Decides (parent_of place) there).1 (root-above there (parent_of place) up empty)) hb
    by_tests rest true ha false hb false hc =
        let empty : length place.path ≡ 0 = grind (arith, nat_tests, ha) in
        not_both (same_place place there) ((same_place-Decides place there).1 (root-above there place above empty)) other
    by_tests rest false ha false hb false hc =
        let long : 0 < length place.path = grind (arith, nat_tests, ha) in
        let shorter = length-parent place.path in
        rest (omega (arith, shorter, long, short)) (root-or-stands (is_root (parent_of place).path) (node_at ns (parent_of place)) (rooted place stands) hc) up hb

-- nothing stands below a place in which nothing lies
pub leaf-from : (ns : List Node) (there : Place) → IsRooted ns → child_count ns there ≡ 0 → IsLeaf ns there
leaf-from ns there rooted none = λ place stands above. by_test place stands above (same_place place there) refl
  where
    by_test : (place : Place) → is_some (node_at ns place) ≡ true → is_at_or_above there place ≡ true → (b : Bool) → same_place place there ≡ b → place ≡ there
    by_test place stands above true h = same_place-equal place there h
    by_test place stands above false h = absurd (below-there (length place.path) ns there place rooted none (omega arith) stands above h)

-- ---- what lies where something stands

stands-with : (b : Bool) (s : Standing) (o : Option Standing) → is_some o ≡ true → is_some (if b then Some s else o) ≡ true
stands-with true s o h = refl
stands-with false s o h = h

-- what is a root, or stands, still does once a node stands
stays-with : (ns : List Node) (n : Node) (q : Place) → is_some (with_roots (node_at ns) q) ≡ true → is_some (with_roots (node_at (with_node ns n)) q) ≡ true
stays-with ns n q h = rw (node_at-with_node ns n q) (by_test (is_root q.path) h)
  where
    by_test : (b : Bool) → is_some (if b then Some Collection else node_at ns q) ≡ true → is_some (if b then Some Collection else (if same_place n.place q then Some n.standing else node_at ns q)) ≡ true
    by_test true s = refl
    by_test false s = stands-with (same_place n.place q) n.standing (node_at ns q) s

pub rooted-with_node : (ns : List Node) (n : Node) → IsRooted ns → is_some (with_roots (node_at ns) (parent_of n.place)) ≡ true → IsRooted (with_node ns n)
rooted-with_node ns n rooted lies = λ place stands. by_test place (same_place n.place place) refl (rw node_at-with_node at stands)
  where
    by_test : (place : Place) (b : Bool) → same_place n.place place ≡ b → is_some (if same_place n.place place then Some n.standing else node_at ns place) ≡ true → is_some (with_roots (node_at (with_node ns n)) (parent_of place)) ≡ true
    by_test place true h s = rw (← same_place-equal n.place place h) (stays-with ns n (parent_of n.place) lies)
    by_test place false h s = stays-with ns n (parent_of place) (rooted place (rw h at s))

outside-none : (b : Bool) (o : Option Standing) → is_some (if not b then o else None) ≡ true → (b ≡ false) × (is_some o ≡ true)
outside-none true o h = absurd (cc)
outside-none false o h = (refl, h)

pub rooted-outside : (there : Place) (ns : List Node) → IsRooted ns → IsRooted (outside there ns)
rooted-outside there ns rooted = λ place stands.
    let both = outside-none (is_at_or_above there place) (node_at ns place) (rw (node_at-filter (λ p. not (is_at_or_above there p)) ns place) at stands) in
    rw (node_at-filter (λ p. not (is_at_or_above there p)) ns (parent_of place))
    (by_tests place both.0 (is_root (parent_of place).path) (is_at_or_above there (parent_of place)) refl (rooted place both.1))
  where
    by_tests : (place : Place) → is_at_or_above there place ≡ false → (c b : Bool) → is_at_or_above there (parent_of place) ≡ b → is_some (if c then Some Collection else node_at ns (parent_of place)) ≡ true
        → is_some (if c then Some Collection else (if not b then node_at ns (parent_of place) else None)) ≡ true
    by_tests place away true b h s = refl
    by_tests place away false false h s = s
    by_tests place away false true h s = absurd (not_both (is_at_or_above there place) (above-child there place h) away)

-- ---- sums

pub length-ones : (ns : List Node) → sum_by (λ n. 1) ns ≡ length ns
length-ones [] = refl
length-ones (n ∷ ns) = let rest = length-ones ns in let all = sum_by-cons (λ (m : Node). 1) n ns in omega (arith, rest, all)
