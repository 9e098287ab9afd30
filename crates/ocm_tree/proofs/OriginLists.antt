use Rattle.std.proofs.Common.{◌≡◌, ℕ, List, [], ◌∷◌, ◌++◌, length, map, Bool, true, false, not, refl, sym, ap, ◌∙◌, arith}
use Rattle.std.specs.Prelude.{None, filter, if◌then◌else◌}
use Rattle.ocm_entry.specs.declared.rows.Place.{Place}
use Rattle.ocm_entry.specs.declared.rows.Node.{Node}
use Rattle.ocm_rules.specs.Files.{same_place, is_at_or_above, moved, with_node, copies}
use Rattle.ocm_law_origins.specs.Origins.{Origin, with_origin, copied, origin_stays}
use Rattle.ocm_tree.specs.Orders.{numbers_where}
use Rattle.ocm_tree.specs.Standings.{origins_of}
use Rattle.ocm_tree.specs.Tables.{index_of}
use Rattle.std.proofs.lemmas.List.{length-map}
use Rattle.ocm_rules.proofs.Nodes.{by_place, copies-one}
use Rattle.ocm_tree.proofs.IndexNumbers.{push-step, push-with_node}
use Rattle.ocm_tree.proofs.Carried.{filter-both, filter-alike, and-true}

abbrev pub origin_at : Place → ℕ → Origin
origin_at place number = record { place = place; number = number }

-- the numbers of origins are those of the nodes
pub numbers-origins : (ns : List Node) (ms : List ℕ) → length ns ≡ length ms → map (λ (o : Origin). o.number) (origins_of ns ms) ≡ ms
numbers-origins [] [] same = refl
numbers-origins [] (m ∷ ms) same = absurd (omega arith)
numbers-origins (n ∷ ns) [] same = absurd (omega arith)
numbers-origins (n ∷ ns) (m ∷ ms) same = ap (λ rest. m ∷ rest) (numbers-origins ns ms (omega (arith, same)))

-- the origins at the places that pass a test
pub origins-where : (keep : Place → Bool) (ns : List Node) (ms : List ℕ) → length ns ≡ length ms →
    filter (λ (o : Origin). keep o.place) (origins_of ns ms) ≡ origins_of (filter (by_place keep) ns) (numbers_where (by_place keep) ns ms)
origins-where keep [] ms same = refl
origins-where keep (n ∷ ns) [] same = absurd (omega arith)
origins-where keep (n ∷ ns) (m ∷ ms) same = by_test (origins-where keep ns ms (omega (arith, same))) (keep n.place)
  where
    by_test : filter (λ (o : Origin). keep o.place) (origins_of ns ms) ≡ origins_of (filter (by_place keep) ns) (numbers_where (by_place keep) ns ms) → (b : Bool) →
        (if b then origin_at n.place m ∷ filter (λ (o : Origin). keep o.place) (origins_of ns ms) else filter (λ (o : Origin). keep o.place) (origins_of ns ms))
        ≡ origins_of (if b then n ∷ filter (by_place keep) ns else filter (by_place keep) ns) (if b then m ∷ numbers_where (by_place keep) ns ms else numbers_where (by_place keep) ns ms)
    by_test rest true = ap (λ others. origin_at n.place m ∷ others) rest
    by_test rest false = rest

-- the origins of nodes before others
pub origins-append : (ns others : List Node) (ms more : List ℕ) → length ns ≡ length ms → origins_of (ns ++ others) (ms ++ more) ≡ origins_of ns ms ++ origins_of others more
origins-append [] others [] more same = refl
origins-append [] others (m ∷ ms) more same = absurd (omega arith)
origins-append (n ∷ ns) others [] more same = absurd (omega arith)
origins-append (n ∷ ns) others (m ∷ ms) more same = ap (λ rest. origin_at n.place m ∷ rest) (origins-append ns others ms more (omega (arith, same)))

copied-one : (from to : Place) (o : Origin) (os : List Origin) (b : Bool) → is_at_or_above from o.place ≡ b → copied from to (o ∷ os) ≡ (if b then origin_at (moved from to o.place) o.number ∷ copied from to os else copied from to os)
copied-one from to o os true h = rw h refl
copied-one from to o os false h = rw h refl

-- the origins of copies
pub origins-copied : (from to : Place) (ns : List Node) (ms : List ℕ) → length ns ≡ length ms →
    copied from to (origins_of ns ms) ≡ origins_of (copies from to ns) (numbers_where (λ (n : Node). is_at_or_above from n.place) ns ms)
origins-copied from to [] ms same = refl
origins-copied from to (n ∷ ns) [] same = absurd (omega arith)
origins-copied from to (n ∷ ns) (m ∷ ms) same =
    copied-one from to (origin_at n.place m) (origins_of ns ms) (is_at_or_above from n.place) refl
    ∙ (by_test (origins-copied from to ns ms (omega (arith, same))) (is_at_or_above from n.place)
    ∙ ap (λ nodes. origins_of nodes (if is_at_or_above from n.place then m ∷ numbers_where (λ (n : Node). is_at_or_above from n.place) ns ms else numbers_where (λ (n : Node). is_at_or_above from n.place) ns ms)) (sym (copies-one from to n ns (is_at_or_above from n.place) refl)))
  where
    copy : Node
    copy = record { place = moved from to n.place; standing = n.standing }

    rest_numbers : List ℕ
    rest_numbers = numbers_where (λ (n : Node). is_at_or_above from n.place) ns ms

    by_test : copied from to (origins_of ns ms) ≡ origins_of (copies from to ns) (numbers_where (λ (n : Node). is_at_or_above from n.place) ns ms) → (b : Bool) →
        (if b then origin_at (moved from to n.place) m ∷ copied from to (origins_of ns ms) else copied from to (origins_of ns ms))
        ≡ origins_of (if b then (let c : Node = record { place = moved from to n.place; standing = n.standing } in c) ∷ copies from to ns else copies from to ns) (if b then m ∷ numbers_where (λ (n : Node). is_at_or_above from n.place) ns ms else numbers_where (λ (n : Node). is_at_or_above from n.place) ns ms)
    by_test rest true = ap (λ others. origin_at (moved from to n.place) m ∷ others) rest
    by_test rest false = rest

-- the numbers once a node with this number stands at a place
abbrev pub numbers_with : List Node → List ℕ → Place → ℕ → List ℕ
numbers_with [] numbers place number = number ∷ []
numbers_with (n ∷ ns) [] place number = number ∷ []
numbers_with (n ∷ ns) (m ∷ ms) place number = if same_place n.place place then number ∷ ms else m ∷ numbers_with ns ms place number

-- the origins once a node stands
pub origins-with : (ns : List Node) (ms : List ℕ) (node : Node) (number : ℕ) → length ns ≡ length ms →
    with_origin (origins_of ns ms) (origin_at node.place number) ≡ origins_of (with_node ns node) (numbers_with ns ms node.place number)
origins-with [] ms node number same = refl
origins-with (n ∷ ns) [] node number same = absurd (omega arith)
origins-with (n ∷ ns) (m ∷ ms) node number same = by_test (origins-with ns ms node number (omega (arith, same))) (same_place n.place node.place)
  where
    by_test : with_origin (origins_of ns ms) (origin_at node.place number) ≡ origins_of (with_node ns node) (numbers_with ns ms node.place number) → (b : Bool) →
        (if b then origin_at node.place number ∷ origins_of ns ms else origin_at n.place m ∷ with_origin (origins_of ns ms) (origin_at node.place number))
        ≡ origins_of (if b then node ∷ ns else n ∷ with_node ns node) (if b then number ∷ ms else m ∷ numbers_with ns ms node.place number)
    by_test rest true = refl
    by_test rest false = ap (λ others. origin_at n.place m ∷ others) rest

-- a number of a node that stands where nothing stood is the last
pub numbers-push : (ns : List Node) (ms : List ℕ) (place : Place) (number : ℕ) → length ns ≡ length ms → index_of ns place ≡ None → numbers_with ns ms place number ≡ ms ++ number ∷ []
numbers-push [] [] place number same e = refl
numbers-push [] (m ∷ ms) place number same e = absurd (omega arith)
numbers-push (n ∷ ns) [] place number same e = absurd (omega arith)
numbers-push (n ∷ ns) (m ∷ ms) place number same e =
    push-step (same_place n.place place) (index_of ns place) m number ms (numbers_with ns ms place number) (numbers-push ns ms place number (omega (arith, same))) e

-- the origins of what stays at a move are those that stay once both places are cleared
pub origins-moving : (from to : Place) (os : List Origin) →
    filter (λ (o : Origin). not (is_at_or_above to o.place)) (filter (λ (o : Origin). not (is_at_or_above from o.place)) os) ≡ filter (origin_stays from to true) os
origins-moving from to os = filter-both (λ (o : Origin). not (is_at_or_above to o.place)) (λ (o : Origin). not (is_at_or_above from o.place)) os

-- the origins of what stays at a copy are those that stay once the second place is cleared
pub origins-copying : (from to : Place) (os : List Origin) → filter (λ (o : Origin). not (is_at_or_above to o.place)) os ≡ filter (origin_stays from to false) os
origins-copying from to os = filter-alike (λ (o : Origin). not (is_at_or_above to o.place)) (origin_stays from to false) (λ o. and-true (not (is_at_or_above to o.place))) os

-- as many copies as there are nodes at and below the first place
pub length-copies : (from to : Place) (ns : List Node) → length (copies from to ns) ≡ length (filter (λ (n : Node). is_at_or_above from n.place) ns)
length-copies from to ns = length-map (filter (λ (n : Node). is_at_or_above from n.place) ns) (λ (n : Node). let copy : Node = record { place = moved from to n.place; standing = n.standing } in copy)

-- the origins of what lies outside a place
pub origins-outside : (there : Place) (ns : List Node) (ms : List ℕ) → length ns ≡ length ms →
    origins_of (filter (λ (n : Node). not (is_at_or_above there n.place)) ns) (numbers_where (λ (n : Node). not (is_at_or_above there n.place)) ns ms) ≡ filter (λ (o : Origin). not (is_at_or_above there o.place)) (origins_of ns ms)
origins-outside there ns ms same = sym (origins-where (λ p. not (is_at_or_above there p)) ns ms same)

-- the origins once a node stands where nothing stood
pub origins-push : (ns : List Node) (ms : List ℕ) (node : Node) (number : ℕ) → length ns ≡ length ms → index_of ns node.place ≡ None →
    origins_of (ns ++ node ∷ []) (ms ++ number ∷ []) ≡ with_origin (origins_of ns ms) (origin_at node.place number)
origins-push ns ms node number same absent =
    ap (origins_of (ns ++ node ∷ [])) (sym (numbers-push ns ms node.place number same absent))
    ∙ (ap (λ nodes. origins_of nodes (numbers_with ns ms node.place number)) (sym (push-with_node ns node absent)) ∙ sym (origins-with ns ms node number same))
