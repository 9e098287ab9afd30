use Rattle.std.proofs.Common.{◌≡◌, ℕ, suc, ◌+◌, ◌-◌, ◌≤◌, List, [], ◌∷◌, ◌++◌, length, take, drop, Bool, true, false, not, refl, sym, ap, ◌∙◌, arith}
use Rattle.std.specs.Prelude.{filter, if◌then◌else◌}
use Rattle.std.proofs.lemmas.List.{take-append-drop}
use Rattle.std.proofs.lemmas.List.Filters.{length-filter_both, sum_by-filter_both}
use Rattle.std.proofs.Math.Seq.{take-append-add}
use Rattle.ocm_path.specs.Paths.{Segments, parent}
use Rattle.ocm_entry.specs.declared.rows.Place.{Place}
use Rattle.ocm_entry.specs.declared.rows.Node.{Node}
use Rattle.ocm_rules.specs.Files.{same_place, is_at_or_above, parent_of, size_of, total_size, child_count}
use Rattle.ocm_rules.proofs.Lists.{not_both}
use Rattle.ocm_rules.proofs.Places.{same_place-Decides, same_place-equal, above-split, above-from}
use Rattle.ocm_tree.proofs.NodeLists.{child_count-cons}

-- ---- places below others

place_of-equal : (u v : ℕ) (p q : Segments) → u ≡ v → p ≡ q → (let a : Place = record { user = u; path = p } in a) ≡ record { user = v; path = q }
place_of-equal u v p q e f = rw (e, f) refl

append-assoc : (a b c : Segments) → (a ++ b) ++ c ≡ a ++ (b ++ c)
append-assoc [] b c = refl
append-assoc (x ∷ a) b c = ap (λ l. x ∷ l) (append-assoc a b c)

-- what lies in a place at or below another lies below that too
pub above-child : (above place : Place) → is_at_or_above above (parent_of place) ≡ true → is_at_or_above above place ≡ true
above-child above place h =
    let split = above-split above (parent_of place) h in
    let rest = drop (length above.path) (parent place.path) in
    let last = drop (length place.path - 1) place.path in
    let whole : place.path ≡ above.path ++ (rest ++ last) = sym (take-append-drop (length place.path - 1) place.path) ∙ ap (λ l. l ++ last) split.1 ∙ append-assoc above.path rest last in
    above-from above place (rest ++ last) split.0 whole

pub length-append : (a b : Segments) → length (a ++ b) ≡ length a + length b
length-append [] b = omega arith
length-append (x ∷ a) b = let rest = length-append a b in omega (arith, rest)

pub append-nil : (a : Segments) → a ++ [] ≡ a
append-nil [] = refl
append-nil (x ∷ a) = ap (λ l. x ∷ l) (append-nil a)

parent-below : (above place : Place) → above.user ≡ place.user → (rest : Segments) → place.path ≡ above.path ++ rest → same_place place above ≡ false → is_at_or_above above (parent_of place) ≡ true
parent-below above place user [] whole other =
    let same : place ≡ above = place_of-equal place.user above.user place.path above.path (sym user) (whole ∙ append-nil above.path) in
    absurd (not_both (same_place place above) ((same_place-Decides place above).1 same) other)
parent-below above place user (s ∷ rest) whole other =
    let long : length place.path ≡ length above.path + suc (length rest) = ap length whole ∙ length-append above.path (s ∷ rest) in
    let shorter : length place.path - 1 ≡ length above.path + length rest = omega (arith, long) in
    let path : parent place.path ≡ above.path ++ take (length rest) (s ∷ rest) =
    ap (λ k. take k place.path) shorter ∙ ap (take (length above.path + length rest)) whole ∙ take-append-add above.path (s ∷ rest) (length rest) in
    above-from above (parent_of place) (take (length rest) (s ∷ rest)) user path

-- what lies below a place and is not there lies in a place at or below it
pub above-parent : (above place : Place) → is_at_or_above above place ≡ true → same_place place above ≡ false → is_at_or_above above (parent_of place) ≡ true
above-parent above place h other =
    let split = above-split above place h in
    parent-below above place split.0 (drop (length above.path) place.path) split.1 other

-- a place is at or above itself
pub above-refl : (place : Place) → is_at_or_above place place ≡ true
above-refl place = above-from place place [] refl (sym (append-nil place.path))

-- ---- nodes that stay

-- the nodes that lie neither at a place nor below it
abbrev pub outside : Place → List Node → List Node
outside there ns = filter (λ (n : Node). not (is_at_or_above there n.place)) ns

none-step : (there : Place) (n : Node) (ns : List Node) (q : Place) → is_at_or_above there q ≡ true → child_count (outside there ns) q ≡ 0 →
    (b : Bool) → is_at_or_above there n.place ≡ b → (c : Bool) → same_place (parent_of n.place) q ≡ c →
    child_count (if not b then n ∷ outside there ns else outside there ns) q ≡ 0
none-step there n ns q inside rest true hb c hc = rest
none-step there n ns q inside rest false hb true hc =
    let lies = same_place-equal (parent_of n.place) q hc in
    absurd (not_both (is_at_or_above there n.place) (above-child there n.place (ap (is_at_or_above there) lies ∙ inside)) hb)
none-step there n ns q inside rest false hb false hc = child_count-cons n (outside there ns) q ∙ rw (hc, rest) refl

-- nothing lies in a collection at or below a place once what lies there is gone
pub child_count-inside : (there : Place) (ns : List Node) (q : Place) → is_at_or_above there q ≡ true → child_count (outside there ns) q ≡ 0
child_count-inside there [] q inside = refl
child_count-inside there (n ∷ ns) q inside =
    none-step there n ns q inside (child_count-inside there ns q inside) (is_at_or_above there n.place) refl (same_place (parent_of n.place) q) refl

-- no more nodes and bytes stay than there were
pub length-outside : (there : Place) (ns : List Node) → length (outside there ns) ≤ length ns
length-outside there ns =
    let both = length-filter_both (λ (n : Node). not (is_at_or_above there n.place)) (λ (n : Node). not (not (is_at_or_above there n.place))) (λ n. refl) ns in
    omega (arith, both)

pub total_size-outside : (there : Place) (ns : List Node) → total_size (outside there ns) ≤ total_size ns
total_size-outside there ns =
    let both = sum_by-filter_both (λ (n : Node). not (is_at_or_above there n.place)) (λ (n : Node). not (not (is_at_or_above there n.place))) (λ n. refl) (λ (n : Node). size_of n.standing) ns in
    omega (arith, both)
