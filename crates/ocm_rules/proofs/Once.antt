use Rattle.std.proofs.Common.{◌≡◌, ℕ, List, [], ◌∷◌, ◌++◌, Bool, true, false, ◌&&◌, not, refl, sym, ap, ◌∙◌}
use Rattle.std.specs.Prelude.{Option, Some, None, filter, if◌then◌else◌}
use Rattle.ocm_entry.specs.declared.entries.Entry.{Entry}
use Rattle.ocm_entry.specs.declared.rows.Place.{Place}
use Rattle.ocm_entry.specs.declared.rows.Node.{Node}
use Rattle.ocm_entry.specs.declared.rows.Standing.{Standing}
use Rattle.ocm_rules.specs.Files.{Act, Placed, Gone, Carried, act_after, same_place, is_at_or_above, moved, with_node, copies, stays, nodes_after, nodes}
use Rattle.ocm_rules.specs.State.{node_at, EachOnce}
use Rattle.ocm_rules.proofs.Lists.{not_both, both_pass}
use Rattle.ocm_rules.proofs.Places.{same_place-Decides, same_place-refl, same_place-equal, moved-there}
use Rattle.ocm_rules.proofs.Nodes.{node_at-with_node, node_at-filter, node_at-copies, copies-one, by_place}

-- places that do not compare equal do not, the other way round
pub other-way : (a b : Place) → same_place a b ≡ false → same_place b a ≡ false
other-way a b h = by_test (same_place b a) refl
  where
    by_test : (c : Bool) → same_place b a ≡ c → c ≡ false
    by_test true e = absurd (not_both (same_place a b) ((same_place-Decides a b).1 (sym (same_place-equal b a e))) h)
    by_test false e = refl

-- each place stands once, once a node stands
pub once-with_node : (ns : List Node) (node : Node) → EachOnce ns → EachOnce (with_node ns node)
once-with_node [] node h = (refl, tt)
once-with_node (other ∷ others) node h = by_test (once-with_node others node h.1) (same_place other.place node.place) refl
  where
    by_test : EachOnce (with_node others node) → (b : Bool) → same_place other.place node.place ≡ b → EachOnce (if b then node ∷ others else other ∷ with_node others node)
    by_test rest true e = (rw (← (same_place-equal other.place node.place e)) h.0, h.1)
    by_test rest false e = (rw (node_at-with_node others node other.place, other-way other.place node.place e) h.0, rest)

absent-either : (b : Bool) (o : Option Standing) → o ≡ None → (if b then o else None) ≡ None
absent-either true o h = h
absent-either false o h = refl

-- each place stands once among the nodes that pass a test of their places
pub once-filter : (keep : Place → Bool) (ns : List Node) → EachOnce ns → EachOnce (filter (by_place keep) ns)
once-filter keep [] h = tt
once-filter keep (n ∷ ns) h = by_test (once-filter keep ns h.1) (keep n.place)
  where
    by_test : EachOnce (filter (by_place keep) ns) → (b : Bool) → EachOnce (if b then n ∷ filter (by_place keep) ns else filter (by_place keep) ns)
    by_test rest true = (node_at-filter keep ns n.place ∙ absent-either (keep n.place) (node_at ns n.place) h.0, rest)
    by_test rest false = rest

once-copies : (from to : Place) (ns : List Node) → EachOnce ns → EachOnce (copies from to ns)
once-copies from to [] h = tt
once-copies from to (n ∷ ns) h = rw (copies-one from to n ns (is_at_or_above from n.place) refl) (by_test (once-copies from to ns h.1) (is_at_or_above from n.place) refl)
  where
    by_test : EachOnce (copies from to ns) → (b : Bool) → is_at_or_above from n.place ≡ b
        → EachOnce (if b then (let copy : Node = record { place = moved from to n.place; standing = n.standing } in copy) ∷ copies from to ns else copies from to ns)
    by_test rest true e =
        let back = moved-there from to n.place (moved from to n.place) e (same_place-refl (moved from to n.place)) in
        (node_at-copies from to ns (moved from to n.place) ∙ absent-either (is_at_or_above to (moved from to n.place)) (node_at ns (moved to from (moved from to n.place))) (ap (node_at ns) back.1 ∙ h.0), rest)
    by_test rest false e = rest

-- nothing stands at a place among nodes where nothing stands there among the first or the others
pub node_at-apart : (xs ys : List Node) (place : Place) → node_at xs place ≡ None → node_at ys place ≡ None → node_at (xs ++ ys) place ≡ None
node_at-apart [] ys place h k = k
node_at-apart (n ∷ xs) ys place h k = by_test (node_at-apart xs ys place) (same_place n.place place) h
  where
    by_test : (node_at xs place ≡ None → node_at ys place ≡ None → node_at (xs ++ ys) place ≡ None) → (b : Bool) → (if b then Some n.standing else node_at xs place) ≡ None → (if b then Some n.standing else node_at (xs ++ ys) place) ≡ None
    by_test rest true g = absurd (cc)
    by_test rest false g = rest g k

-- nodes that lie not at or below a place, before others that do
once-apart : (keep : Place → Bool) (ns ys : List Node) → EachOnce ns → EachOnce ys → ((place : Place) → keep place ≡ true → node_at ys place ≡ None) → EachOnce (filter (by_place keep) ns ++ ys)
once-apart keep [] ys h k apart = k
once-apart keep (n ∷ ns) ys h k apart = by_test (once-apart keep ns ys h.1 k apart) (keep n.place) refl
  where
    by_test : EachOnce (filter (by_place keep) ns ++ ys) → (b : Bool) → keep n.place ≡ b → EachOnce ((if b then n ∷ filter (by_place keep) ns else filter (by_place keep) ns) ++ ys)
    by_test rest true e = (node_at-apart (filter (by_place keep) ns) ys n.place (node_at-filter keep ns n.place ∙ absent-either (keep n.place) (node_at ns n.place) h.0) (apart n.place e), rest)
    by_test rest false e = rest

-- each place stands once among what stays and what was copied
pub once-carried : (from to : Place) (moving : Bool) (ns : List Node) → EachOnce ns → EachOnce (filter (stays from to moving) ns ++ copies from to ns)
once-carried from to moving ns h =
    once-apart (λ p. not (is_at_or_above to p) && not (moving && is_at_or_above from p)) ns (copies from to ns) h (once-copies from to ns h) apart
  where
    outside : (b : Bool) → not b ≡ true → b ≡ false
    outside true e = absurd (cc)
    outside false e = refl

    apart : (place : Place) → (not (is_at_or_above to place) && not (moving && is_at_or_above from place)) ≡ true → node_at (copies from to ns) place ≡ None
    apart place e = rw (node_at-copies from to ns place, outside (is_at_or_above to place) (both_pass (not (is_at_or_above to place)) (not (moving && is_at_or_above from place)) e).0) refl

once-nodes_after : (act : Option Act) (ns : List Node) → EachOnce ns → EachOnce (nodes_after act ns)
once-nodes_after None ns h = h
once-nodes_after (Some (Placed there standing)) ns h = once-with_node ns (record { place = there; standing = standing }) h
once-nodes_after (Some (Gone there)) ns h = once-filter (λ p. not (is_at_or_above there p)) ns h
once-nodes_after (Some (Carried from to moving)) ns h = once-carried from to moving ns h

-- each place stands once among the nodes of a history
pub once-nodes : (host : List ℕ) (g : List Entry) → EachOnce (nodes host g)
once-nodes host [] = tt
once-nodes host (e ∷ before) = once-nodes_after (act_after host before e.ask) (nodes host before) (once-nodes host before)
