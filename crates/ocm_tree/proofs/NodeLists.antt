use Rattle.std.proofs.Common.{◌≡◌, ℕ, ◌+◌, ◌<◌, ◌≤◌, List, [], ◌∷◌, length, Bool, true, false, cond, Option, Some, None, refl, arith}
use Rattle.std.specs.Prelude.{option_map}
use Rattle.std.proofs.lemmas.List.Sums.{sum_by-cons, count_by-le-length}
use Rattle.ocm_entry.specs.declared.rows.Place.{Place}
use Rattle.ocm_entry.specs.declared.rows.Standing.{Standing}
use Rattle.ocm_entry.specs.declared.rows.Node.{Node}
use Rattle.ocm_rules.specs.Files.{same_place, parent_of, with_node, size_of, total_size, child_count}
use Rattle.ocm_rules.specs.State.{node_at}
use Rattle.ocm_tree.specs.Tables.{size_at, growth, index_of}
use Rattle.ocm_rules.proofs.Places.{same_place-equal, same_place-refl}

-- the bytes of all files, of one more node and others
pub total_size-cons : (m : Node) (ms : List Node) → total_size (m ∷ ms) ≡ size_of m.standing + total_size ms
total_size-cons m ms = sum_by-cons (λ (n : Node). size_of n.standing) m ms

-- how many nodes lie in a collection, of one more node and others
pub child_count-cons : (m : Node) (ms : List Node) (place : Place) → child_count (m ∷ ms) place ≡ cond (same_place (parent_of m.place) place) 1 0 + child_count ms place
child_count-cons m ms place = sum_by-cons (λ (n : Node). cond (same_place (parent_of n.place) place) 1 0) m ms

pub child_count-le-length : (ns : List Node) (place : Place) → child_count ns place ≤ length ns
child_count-le-length ns place = count_by-le-length (λ (n : Node). same_place (parent_of n.place) place) ns

-- what stands at a place has no more bytes than all
pub size_at-le-total_size : (ns : List Node) (place : Place) → size_at (node_at ns place) ≤ total_size ns
size_at-le-total_size [] place = omega arith
size_at-le-total_size (m ∷ ms) place =
    rw (total_size-cons m ms) (elim (same_place m.place place) as (λ b. size_at (cond b (Some m.standing) (node_at ms place)) ≤ size_of m.standing + total_size ms) [ true ↦ omega arith | false ↦ omega (arith, size_at-le-total_size ms place) ])

-- the bytes of all files once a node stands
pub total_size-with_node : (ns : List Node) (n : Node) → total_size (with_node ns n) + size_at (node_at ns n.place) ≡ total_size ns + size_of n.standing
total_size-with_node [] n = omega (arith, total_size-cons n [])
total_size-with_node (m ∷ ms) n =
    elim (same_place m.place n.place) as (λ b. total_size (cond b (n ∷ ms) (m ∷ with_node ms n)) + size_at (cond b (Some m.standing) (node_at ms n.place)) ≡ total_size (m ∷ ms) + size_of n.standing) [
      | true ↦ omega (arith, total_size-cons n ms, total_size-cons m ms)
      | false ↦ omega (arith, total_size-cons m (with_node ms n), total_size-cons m ms, total_size-with_node ms n)
    ]

-- how many nodes there are once a node stands
pub length-with_node : (ns : List Node) (n : Node) → length (with_node ns n) ≡ length ns + growth (node_at ns n.place)
length-with_node [] n = refl
length-with_node (m ∷ ms) n =
    elim (same_place m.place n.place) as (λ b. length (cond b (n ∷ ms) (m ∷ with_node ms n)) ≡ length (m ∷ ms) + growth (cond b (Some m.standing) (node_at ms n.place))) [
      | true ↦ omega arith
      | false ↦ omega (arith, length-with_node ms n)
    ]

-- how many more nodes lie in a collection once a node stands where this stood, by whether it lies there
abbrev pub more : Option Standing → Bool → ℕ
more None b = cond b 1 0
more (Some standing) b = 0

child-step : (b : Bool) (m n : Node) (ms others : List Node) (older : Option Standing) (place : Place) → (b ≡ true → m.place ≡ n.place) →
    child_count others place ≡ child_count ms place + more older (same_place (parent_of n.place) place) →
    child_count (cond b (n ∷ ms) (m ∷ others)) place ≡ child_count (m ∷ ms) place + more (cond b (Some m.standing) older) (same_place (parent_of n.place) place)
child-step true m n ms others older place same h =
    rw (child_count-cons n ms place, child_count-cons m ms place, same refl) (omega arith)
child-step false m n ms others older place same h =
    rw (child_count-cons m others place, child_count-cons m ms place, h) (omega arith)

-- how many nodes lie in a collection once a node stands
pub child_count-more : (ns : List Node) (n : Node) (place : Place) → child_count (with_node ns n) place ≡ child_count ns place + more (node_at ns n.place) (same_place (parent_of n.place) place)
child_count-more [] n place = rw (child_count-cons n [] place) (omega arith)
child_count-more (m ∷ ms) n place =
    child-step (same_place m.place n.place) m n ms (with_node ms n) (node_at ms n.place) place (same_place-equal m.place n.place) (child_count-more ms n place)

more-true : (older : Option Standing) → more older true ≡ growth older
more-true None = refl
more-true (Some standing) = refl

-- how many nodes lie in the collection of a node, once it stands
pub child_count-with_node : (ns : List Node) (n : Node) → child_count (with_node ns n) (parent_of n.place) ≡ child_count ns (parent_of n.place) + growth (node_at ns n.place)
child_count-with_node ns n =
    rw (child_count-more ns n (parent_of n.place), same_place-refl (parent_of n.place), more-true (node_at ns n.place)) refl

below-step : (b : Bool) (inner : Option ℕ) (count : ℕ) → ((j : ℕ) → inner ≡ Some j → j < count) → (i : ℕ) → cond b (Some 0) (option_map (λ k. k + 1) inner) ≡ Some i → i < count + 1
below-step true inner count h i e = let z : 0 ≡ i = cc in omega arith
below-step false None count h i e = absurd (cc)
below-step false (Some j) count h i e = let z : j + 1 ≡ i = cc in let l = h j refl in omega arith

-- the index of what stands at a place is one of the list
pub index_of-within : (ns : List Node) (place : Place) (i : ℕ) → index_of ns place ≡ Some i → i < length ns
index_of-within [] place i e = absurd (cc)
index_of-within (m ∷ ms) place i e =
    let l = below-step (same_place m.place place) (index_of ms place) (length ms) (index_of-within ms place) i e in
    omega (arith, l)
