use Rattle.std.proofs.Common.{◌≡◌, ℕ, ◌+◌, ◌≤◌, List, [], ◌∷◌, length, map, Bool, true, false, refl, sym, ap, ◌∙◌, arith}
use Rattle.std.specs.Prelude.{Option, Some, None, ◌||◌, if◌then◌else◌, nat_lt}
use Rattle.std.specs.List.{list_any}
use Rattle.std.specs.Option.{option_or}
use Rattle.std.proofs.lemmas.Bool.{ltb-true, ltb-false}
use Rattle.std.proofs.lemmas.List.{length-map}
use Rattle.std.proofs.lemmas.List.Sums.{sum_by-cons}
use Rattle.ocm_types.specs.declared.phases.Which.{Which}
use Rattle.ocm_types.specs.declared.phases.Which.TheVariants.{FileSize, AllFiles, Nodes, Children, PathLength}
use Rattle.ocm_entry.specs.declared.rows.Place.{Place}
use Rattle.ocm_entry.specs.declared.rows.Node.{Node}
use Rattle.ocm_entry.specs.declared.rows.Standing.{Standing}
use Rattle.ocm_entry.specs.declared.rows.Standing.TheVariants.{Collection, File}
use Rattle.ocm_rules.specs.State.{EachOnce}
use Rattle.ocm_rules.specs.Files.{Carried, same_place, is_at_or_above, moved, parent_of, with_node, copies, nodes_after, size_of, total_size, child_count, passed_by, limit_of, is_too_long, path_limit, limit_of_carry}
use Rattle.ocm_rules.proofs.Lists.{count_by-cons}
use Rattle.ocm_law_lean.proofs.Hollow.{hollow, hollow_standing, hollow-with_node, hollow-copies, hollow-after}

-- ---- sizes

pub size-hollow : (keeps : Bool) (standing : Standing) → size_of (hollow_standing keeps standing) ≤ size_of standing
size-hollow keeps Collection = omega arith
size-hollow true (File body) = omega arith
size-hollow false (File body) = omega arith

total-hollow : (p : Place → Bool) (ns : List Node) → total_size (map (hollow p) ns) ≤ total_size ns
total-hollow p [] = omega arith
total-hollow p (n ∷ ns) =
    let one = size-hollow (p n.place) n.standing in
    let rest = total-hollow p ns in
    let left = sum_by-cons (λ (m : Node). size_of m.standing) (hollow p n) (map (hollow p) ns) in
    let right = sum_by-cons (λ (m : Node). size_of m.standing) n ns in
    omega arith

abbrev lies_in : Place → Node → Bool
lies_in place n = same_place (parent_of n.place) place

children-hollow : (p : Place → Bool) (place : Place) (ns : List Node) → child_count (map (hollow p) ns) place ≡ child_count ns place
children-hollow p place [] = refl
children-hollow p place (n ∷ ns) =
    count_by-cons (lies_in place) (hollow p n) (map (hollow p) ns)
    ∙ ap (λ count. if lies_in place n then count + 1 else count) (children-hollow p place ns)
    ∙ sym (count_by-cons (lies_in place) n ns)

long-hollow : (p : Place → Bool) (ns : List Node) → list_any is_too_long (map (hollow p) ns) ≡ list_any is_too_long ns
long-hollow p [] = refl
long-hollow p (n ∷ ns) = ap (λ b. is_too_long n || b) (long-hollow p ns)

-- ---- limits

-- less passes no limit that more does not pass
less-passes : (limit less more : ℕ) → less ≤ more → nat_lt limit more ≡ false → nat_lt limit less ≡ false
less-passes limit less more le h = cases (nat_lt limit less) refl
  where
    cases : (b : Bool) → nat_lt limit less ≡ b → b ≡ false
    cases true k = let low = ltb-false limit more h in let high = ltb-true limit less k in absurd (omega arith)
    cases false k = refl

none-passed : (b : Bool) (which : Which) (rest : Option Which) → (if b then Some which else rest) ≡ None → (b ≡ false) × (rest ≡ None)
none-passed true which rest h = absurd (cc)
none-passed false which rest h = (refl, h)

abbrev fourth : List Node → Place → Option Which
fourth ns place = if nat_lt 4096 (child_count ns (parent_of place)) then Some Children else None

abbrev third : List Node → Place → Option Which
third ns place = if nat_lt 65536 (length ns) then Some Nodes else fourth ns place

abbrev second : List Node → Place → Option Which
second ns place = if nat_lt 268435456 (total_size ns) then Some AllFiles else third ns place

abbrev node_of : Place → Standing → Node
node_of place standing = record { place = place; standing = standing }

pub passed-hollow : (p : Place → Bool) (ns : List Node) (place : Place) (less more : Standing) → size_of less ≤ size_of more → passed_by ns (node_of place more) ≡ None → passed_by (map (hollow p) ns) (node_of place less) ≡ None
passed-hollow p ns place less more le h =
    let a = none-passed (nat_lt 1048576 (size_of more)) FileSize (second ns place) h in
    let b = none-passed (nat_lt 268435456 (total_size ns)) AllFiles (third ns place) a.1 in
    let c = none-passed (nat_lt 65536 (length ns)) Nodes (fourth ns place) b.1 in
    let d = none-passed (nat_lt 4096 (child_count ns (parent_of place))) Children None c.1 in
    let size = less-passes 1048576 (size_of less) (size_of more) le a.0 in
    let total = less-passes 268435456 (total_size (map (hollow p) ns)) (total_size ns) (total-hollow p ns) b.0 in
    let count : nat_lt 65536 (length (map (hollow p) ns)) ≡ false = ap (λ n. nat_lt 65536 n) (length-map ns (hollow p)) ∙ c.0 in
    let inside : nat_lt 4096 (child_count (map (hollow p) ns) (parent_of place)) ≡ false = ap (λ n. nat_lt 4096 n) (children-hollow p (parent_of place) ns) ∙ d.0 in
    rw (size, total, count, inside) refl

-- where nothing passes a limit, nothing passes one among hollow nodes
pub limit-hollow : (keeps : Bool) (p : Place → Bool) (ns : List Node) (place : Place) (standing : Standing) → EachOnce ns → limit_of ns (node_of place standing) ≡ None → limit_of (map (hollow p) ns) (node_of place (hollow_standing keeps standing)) ≡ None
limit-hollow keeps p ns place standing u h =
    ap (λ ms. passed_by ms (node_of place (hollow_standing keeps standing))) (hollow-with_node place standing keeps p ns u)
    ∙ passed-hollow (λ q. if same_place place q then keeps else p q) (with_node ns (node_of place standing)) place (hollow_standing keeps standing) standing (size-hollow keeps standing) h

or-none : (a b : Option Which) → option_or a b ≡ None → (a ≡ None) × (b ≡ None)
or-none None b h = (refl, h)
or-none (Some which) b h = absurd (cc)

pub carry-hollow : (keeps : Bool) (p : Place → Bool) (ns : List Node) (from to : Place) (moving : Bool) (standing : Standing) → EachOnce ns
    → limit_of_carry ns from to moving standing ≡ None → limit_of_carry (map (hollow p) ns) from to moving (hollow_standing keeps standing) ≡ None
carry-hollow keeps p ns from to moving standing u h =
    ap (λ ms. option_or (passed_by ms (node_of to (hollow_standing keeps standing))) (path_limit (copies from to (map (hollow p) ns)))) (hollow-after (Some (Carried from to moving)) true p ns u)
    ∙ ap (λ ms. option_or (passed_by after (node_of to (hollow_standing keeps standing))) (path_limit ms)) (hollow-copies from to p ns)
    ∙ ap (λ b. option_or (passed_by after (node_of to (hollow_standing keeps standing))) (if b then Some PathLength else None)) (long-hollow q (copies from to ns))
    ∙ ap (λ o. option_or o (path_limit (copies from to ns))) (passed-hollow q (nodes_after (Some (Carried from to moving)) ns) to (hollow_standing keeps standing) standing (size-hollow keeps standing) both.0)
    ∙ both.1
  where
    q : Place → Bool
    q place = if is_at_or_above to place then p (moved to from place) else p place

    after : List Node
    after = map (hollow q) (nodes_after (Some (Carried from to moving)) ns)

    both : (passed_by (nodes_after (Some (Carried from to moving)) ns) (node_of to standing) ≡ None) × (path_limit (copies from to ns) ≡ None)
    both = or-none (passed_by (nodes_after (Some (Carried from to moving)) ns) (node_of to standing)) (path_limit (copies from to ns)) h
