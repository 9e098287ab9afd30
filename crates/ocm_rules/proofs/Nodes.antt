use Rattle.std.proofs.Common.{◌≡◌, ℕ, List, [], ◌∷◌, ◌++◌, Bool, true, false, ◌&&◌, not, refl, sym, ap, ◌∙◌}
use Rattle.std.specs.Prelude.{Option, Some, None, filter, if◌then◌else◌}
use Rattle.std.specs.Option.{option_or}
use Rattle.ocm_entry.specs.declared.entries.Entry.{Entry}
use Rattle.ocm_entry.specs.declared.rows.Place.{Place}
use Rattle.ocm_entry.specs.declared.rows.Node.{Node}
use Rattle.ocm_entry.specs.declared.rows.Standing.{Standing}
use Rattle.ocm_rules.specs.Files.{Act, Placed, Gone, Carried, act_after, same_place, is_at_or_above, moved, with_node, copies, stays, nodes_after, nodes, stands_after, left_at}
use Rattle.ocm_rules.specs.State.{node_at}
use Rattle.ocm_rules.proofs.Lists.{not_both}
use Rattle.ocm_rules.proofs.Places.{same_place-Decides, same_place-equal, moved-there, moved-back}

-- ---- one node more

-- what stands at a place among the nodes once one more stands
pub node_at-with_node : (ns : List Node) (node : Node) (place : Place) → node_at (with_node ns node) place ≡ (if same_place node.place place then Some node.standing else node_at ns place)
node_at-with_node [] node place = refl
node_at-with_node (other ∷ others) node place = by_tests (node_at-with_node others node place) (same_place other.place node.place) refl (same_place node.place place) refl
  where
    goal : Bool → Bool → Type 0
    goal b c = node_at (if b then node ∷ others else other ∷ with_node others node) place ≡ (if c then Some node.standing else node_at (other ∷ others) place)

    by_tests : node_at (with_node others node) place ≡ (if same_place node.place place then Some node.standing else node_at others place)
        → (b : Bool) → same_place other.place node.place ≡ b → (c : Bool) → same_place node.place place ≡ c → goal b c
    by_tests rest true h true k = rw k refl
    by_tests rest true h false k = rw (k, same_place-equal other.place node.place h, k) refl
    by_tests rest false h true k = rw (rest, k) (by_other (same_place other.place place) refl)
      where
        by_other : (d : Bool) → same_place other.place place ≡ d → (if d then Some other.standing else Some node.standing) ≡ Some node.standing
        by_other true m = absurd (not_both (same_place other.place node.place) ((same_place-Decides other.place node.place).1 (same_place-equal other.place place m ∙ sym (same_place-equal node.place place k))) h)
        by_other false m = refl
    by_tests rest false h false k = rw (rest, k) refl

-- ---- nodes that stay

abbrev nothing : Option Standing
nothing = None

no_choice : (b : Bool) → nothing ≡ (if b then nothing else nothing)
no_choice true = refl
no_choice false = refl

-- a test of nodes by their places alone
abbrev pub by_place : (Place → Bool) → Node → Bool
by_place keep n = keep n.place

-- what stands at a place among the nodes that pass a test of their places
pub node_at-filter : (keep : Place → Bool) (ns : List Node) (place : Place) → node_at (filter (by_place keep) ns) place ≡ (if keep place then node_at ns place else None)
node_at-filter keep [] place = no_choice (keep place)
node_at-filter keep (n ∷ ns) place = by_tests (node_at-filter keep ns place) (keep n.place) refl (same_place n.place place) refl
  where
    goal : Bool → Bool → Type 0
    goal b c = node_at (if b then n ∷ filter (by_place keep) ns else filter (by_place keep) ns) place ≡ (if keep place then (if c then Some n.standing else node_at ns place) else None)

    there : (b c : Bool) → keep n.place ≡ b → same_place n.place place ≡ true → keep place ≡ b
    there b c h k = ap keep (sym (same_place-equal n.place place k)) ∙ h

    by_tests : node_at (filter (by_place keep) ns) place ≡ (if keep place then node_at ns place else None)
        → (b : Bool) → keep n.place ≡ b → (c : Bool) → same_place n.place place ≡ c → goal b c
    by_tests rest true h true k = rw (there true true h k, k) refl
    by_tests rest true h false k = rw (k, rest) refl
    by_tests rest false h true k = rw (rest, there false true h k) refl
    by_tests rest false h false k = rest

-- what stands at a place among these nodes and those behind them
node_at-append : (xs ys : List Node) (place : Place) → node_at (xs ++ ys) place ≡ option_or (node_at xs place) (node_at ys place)
node_at-append [] ys place = refl
node_at-append (n ∷ xs) ys place = by_test (node_at-append xs ys place) (same_place n.place place)
  where
    by_test : node_at (xs ++ ys) place ≡ option_or (node_at xs place) (node_at ys place)
        → (b : Bool) → (if b then Some n.standing else node_at (xs ++ ys) place) ≡ option_or (if b then Some n.standing else node_at xs place) (node_at ys place)
    by_test rest true = refl
    by_test rest false = rest

-- ---- nodes that are carried

-- what is copied, node by node
pub copies-one : (from to : Place) (n : Node) (ns : List Node) (b : Bool) → is_at_or_above from n.place ≡ b
    → copies from to (n ∷ ns) ≡ (if b then (let moved_node : Node = record { place = moved from to n.place; standing = n.standing } in moved_node) ∷ copies from to ns else copies from to ns)
copies-one from to n ns true h = rw h refl
copies-one from to n ns false h = rw h refl

-- what stands at a place among the copies
pub node_at-copies : (from to : Place) (ns : List Node) (place : Place) → node_at (copies from to ns) place ≡ (if is_at_or_above to place then node_at ns (moved to from place) else None)
node_at-copies from to [] place = no_choice (is_at_or_above to place)
node_at-copies from to (n ∷ ns) place =
    ap (λ all. node_at all place) (copies-one from to n ns (is_at_or_above from n.place) refl)
    ∙ by_tests (node_at-copies from to ns place) (is_at_or_above from n.place) refl (same_place (moved from to n.place) place) refl (is_at_or_above to place) refl (same_place n.place (moved to from place)) refl
  where
    goal : Bool → Bool → Bool → Bool → Type 0
    goal a b c d = node_at (if a then (let moved_node : Node = record { place = moved from to n.place; standing = n.standing } in moved_node) ∷ copies from to ns else copies from to ns) place
        ≡ (if c then (if d then Some n.standing else node_at ns (moved to from place)) else None)

    by_tests : node_at (copies from to ns) place ≡ (if is_at_or_above to place then node_at ns (moved to from place) else None)
        → (a : Bool) → is_at_or_above from n.place ≡ a → (b : Bool) → same_place (moved from to n.place) place ≡ b
        → (c : Bool) → is_at_or_above to place ≡ c → (d : Bool) → same_place n.place (moved to from place) ≡ d → goal a b c d
    by_tests rest true ha true hb true hc true hd = rw hb refl
    by_tests rest true ha true hb true hc false hd =
        absurd (not_both (same_place n.place (moved to from place)) ((same_place-Decides n.place (moved to from place)).1 (sym (moved-there from to n.place place ha hb).1)) hd)
    by_tests rest true ha true hb false hc d hd = absurd (not_both (is_at_or_above to place) (moved-there from to n.place place ha hb).0 hc)
    by_tests rest true ha false hb true hc true hd = absurd (not_both (same_place (moved from to n.place) place) (moved-back from to n.place place hc hd).1 hb)
    by_tests rest true ha false hb true hc false hd = rw (hb, rest, hc) refl
    by_tests rest true ha false hb false hc d hd = rw (hb, rest, hc) refl
    by_tests rest false ha b hb true hc true hd = absurd (not_both (is_at_or_above from n.place) (moved-back from to n.place place hc hd).0 ha)
    by_tests rest false ha b hb true hc false hd = rw (rest, hc) refl
    by_tests rest false ha b hb false hc d hd = rw (rest, hc) refl

-- ---- all acts

-- what stands at a place, among the nodes after something was done
node_at-nodes_after : (act : Option Act) (ns : List Node) (place : Place) → node_at (nodes_after act ns) place ≡ stands_after act (node_at ns) place
node_at-nodes_after None ns place = refl
node_at-nodes_after (Some (Placed there standing)) ns place = node_at-with_node ns (record { place = there; standing = standing }) place
node_at-nodes_after (Some (Gone there)) ns place = node_at-filter (λ p. not (is_at_or_above there p)) ns place ∙ by_test (is_at_or_above there place)
  where
    by_test : (b : Bool) → (if not b then node_at ns place else None) ≡ (if b then None else node_at ns place)
    by_test true = refl
    by_test false = refl
node_at-nodes_after (Some (Carried from to moving)) ns place =
    node_at-append (filter (stays from to moving) ns) (copies from to ns) place
    ∙ (let kept = node_at-filter (λ p. not (is_at_or_above to p) && not (moving && is_at_or_above from p)) ns place in
    rw (kept, node_at-copies from to ns place) (by_tests (is_at_or_above to place) (moving && is_at_or_above from place)))
  where
    by_tests : (b c : Bool) → option_or (if not b && not c then node_at ns place else None) (if b then node_at ns (moved to from place) else None)
        ≡ (if b then node_at ns (moved to from place) else (if c then None else node_at ns place))
    by_tests true true = refl
    by_tests true false = refl
    by_tests false true = refl
    by_tests false false = by_standing (node_at ns place)
      where
        by_standing : (o : Option Standing) → option_or o None ≡ o
        by_standing None = refl
        by_standing (Some standing) = refl

-- the same is done to files that stand alike
stands_after-alike : (act : Option Act) (p q : Place → Option Standing) → ((place : Place) → p place ≡ q place) → (place : Place) → stands_after act p place ≡ stands_after act q place
stands_after-alike act p q h place = ap (λ older. stands_after act older place) (λ i at_place. h at_place i)

-- what the last entry that did something at a place left there stands among the nodes
pub left_at-nodes : (host : List ℕ) (g : List Entry) (place : Place) → left_at host g place ≡ node_at (nodes host g) place
left_at-nodes host [] place = refl
left_at-nodes host (e ∷ before) place =
    stands_after-alike (act_after host before e.ask) (left_at host before) (node_at (nodes host before)) (left_at-nodes host before) place
    ∙ sym (node_at-nodes_after (act_after host before e.ask) (nodes host before) place)
