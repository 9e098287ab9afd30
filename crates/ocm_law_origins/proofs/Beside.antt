use Rattle.std.proofs.Common.{◌≡◌, ℕ, List, [], ◌∷◌, ◌++◌, map, Bool, true, false, refl, sym, ap, ◌∙◌}
use Rattle.std.specs.Prelude.{Option, Some, None, filter, not, if◌then◌else◌}
use Rattle.std.specs.List.{AllZip, AllByRecursion}
use Rattle.ocm_entry.specs.declared.rows.Place.{Place}
use Rattle.ocm_entry.specs.declared.rows.Node.{Node}
use Rattle.ocm_entry.specs.declared.rows.Standing.{Standing}
use Rattle.ocm_rules.specs.Files.{Act, Placed, Gone, Carried, same_place, is_at_or_above, moved, with_node, copies, nodes_after}
use Rattle.ocm_rules.specs.Lean.{stays_at}
use Rattle.ocm_rules.proofs.Nodes.{by_place}
use Rattle.ocm_law_origins.specs.Origins.{Origin, with_origin, copied, origins_after, HaveSamePlaces}

-- ---- origins beside nodes

-- an origin is beside a node: at the same place, and its number goes with what stands there
abbrev pub Beside : (ℕ → Standing → Type 0) → Origin → Node → Type 0
Beside R o n = (o.place ≡ n.place) × R o.number n.standing

-- each origin is beside a node, in the same order
abbrev pub AllBeside : (ℕ → Standing → Type 0) → List Origin → List Node → Type 0
AllBeside R os ns = AllZip (Beside R) os ns

-- any number goes with anything that stands
abbrev pub Anyhow : ℕ → Standing → Type 0
Anyhow k standing = Unit {0}

pub beside-weaker : (R S : ℕ → Standing → Type 0) → ((k : ℕ) (standing : Standing) → R k standing → S k standing)
    → (os : List Origin) (ns : List Node) → AllBeside R os ns → AllBeside S os ns
beside-weaker R S weaker [] [] h = tt
beside-weaker R S weaker [] (n ∷ ns) h = absurd h
beside-weaker R S weaker (o ∷ os) [] h = absurd h
beside-weaker R S weaker (o ∷ os) (n ∷ ns) h = ((h.0.0, weaker o.number n.standing h.0.1), beside-weaker R S weaker os ns h.1)

-- what holds of each number that goes with something
pub beside-all : (R : ℕ → Standing → Type 0) (Q : ℕ → Type 0) → ((k : ℕ) (standing : Standing) → R k standing → Q k)
    → (os : List Origin) (ns : List Node) → AllBeside R os ns → AllByRecursion (λ (o : Origin). Q o.number) os
beside-all R Q holds [] [] h = tt
beside-all R Q holds [] (n ∷ ns) h = tt
beside-all R Q holds (o ∷ os) [] h = absurd h
beside-all R Q holds (o ∷ os) (n ∷ ns) h = (holds o.number n.standing h.0.1, beside-all R Q holds os ns h.1)

-- the same places are those of origins beside nodes
pub places-beside : (R : ℕ → Standing → Type 0) (os : List Origin) (ns : List Node) → AllBeside R os ns → HaveSamePlaces os ns
places-beside R [] [] h = refl
places-beside R [] (n ∷ ns) h = absurd h
places-beside R (o ∷ os) [] h = absurd h
places-beside R (o ∷ os) (n ∷ ns) h = ap (λ p. p ∷ map (λ (o : Origin). o.place) os) h.0.0 ∙ ap (λ ps. n.place ∷ ps) (places-beside R os ns h.1)

cons-parts : (p q : Place) (ps qs : List Place) → p ∷ ps ≡ q ∷ qs → (p ≡ q) × (ps ≡ qs)
cons-parts p q ps qs h = ((cc), (cc))

nil-cons : (p : Place) (ps : List Place) → [] ≡ p ∷ ps → ⊥
nil-cons p ps h = cc

pub beside-places : (os : List Origin) (ns : List Node) → HaveSamePlaces os ns → AllBeside Anyhow os ns
beside-places [] [] h = tt
beside-places [] (n ∷ ns) h = absurd (nil-cons n.place (map (λ (n : Node). n.place) ns) h)
beside-places (o ∷ os) [] h = absurd (nil-cons o.place (map (λ (o : Origin). o.place) os) (sym h))
beside-places (o ∷ os) (n ∷ ns) h =
    let parts = cons-parts o.place n.place (map (λ (o : Origin). o.place) os) (map (λ (n : Node). n.place) ns) h in ((parts.0, tt), beside-places os ns parts.1)

-- ---- after something was done

beside-with : (R : ℕ → Standing → Type 0) (os : List Origin) (ns : List Node) (o : Origin) (n : Node) → Beside R o n → AllBeside R os ns → AllBeside R (with_origin os o) (with_node ns n)
beside-with R [] [] o n b h = (b, tt)
beside-with R [] (m ∷ ns) o n b h = absurd h
beside-with R (p ∷ os) [] o n b h = absurd h
beside-with R (p ∷ os) (m ∷ ns) o n b h =
    by_tests (beside-with R os ns o n b h.1) (same_place p.place o.place) (same_place m.place n.place) (ap (λ q. same_place q o.place) h.0.0 ∙ ap (λ q. same_place m.place q) b.0)
  where
    by_tests : AllBeside R (with_origin os o) (with_node ns n) → (c d : Bool) → c ≡ d
        → AllBeside R (if c then o ∷ os else p ∷ with_origin os o) (if d then n ∷ ns else m ∷ with_node ns n)
    by_tests rest true true e = (b, h.1)
    by_tests rest true false e = absurd (cc)
    by_tests rest false true e = absurd (cc)
    by_tests rest false false e = (h.0, rest)

-- a test of origins by their places alone
abbrev pub origin_by_place : (Place → Bool) → Origin → Bool
origin_by_place keep o = keep o.place

beside-filter : (R : ℕ → Standing → Type 0) (keep : Place → Bool) (os : List Origin) (ns : List Node) → AllBeside R os ns → AllBeside R (filter (origin_by_place keep) os) (filter (by_place keep) ns)
beside-filter R keep [] [] h = tt
beside-filter R keep [] (n ∷ ns) h = absurd h
beside-filter R keep (o ∷ os) [] h = absurd h
beside-filter R keep (o ∷ os) (n ∷ ns) h = by_tests (beside-filter R keep os ns h.1) (keep o.place) (keep n.place) (ap keep h.0.0)
  where
    by_tests : AllBeside R (filter (origin_by_place keep) os) (filter (by_place keep) ns) → (c d : Bool) → c ≡ d
        → AllBeside R (if c then o ∷ filter (origin_by_place keep) os else filter (origin_by_place keep) os) (if d then n ∷ filter (by_place keep) ns else filter (by_place keep) ns)
    by_tests rest true true e = (h.0, rest)
    by_tests rest true false e = absurd (cc)
    by_tests rest false true e = absurd (cc)
    by_tests rest false false e = rest

-- an origin, and a node, that was carried
abbrev pub carried_origin : Place → Place → Origin → Origin
carried_origin from to o = record { place = moved from to o.place; number = o.number }

abbrev carried_node : Place → Place → Node → Node
carried_node from to n = record { place = moved from to n.place; standing = n.standing }

beside-carried : (R : ℕ → Standing → Type 0) (from to : Place) (os : List Origin) (ns : List Node) → AllBeside R os ns → AllBeside R (map (carried_origin from to) os) (map (carried_node from to) ns)
beside-carried R from to [] [] h = tt
beside-carried R from to [] (n ∷ ns) h = absurd h
beside-carried R from to (o ∷ os) [] h = absurd h
beside-carried R from to (o ∷ os) (n ∷ ns) h = ((ap (moved from to) h.0.0, h.0.1), beside-carried R from to os ns h.1)

beside-copies : (R : ℕ → Standing → Type 0) (from to : Place) (os : List Origin) (ns : List Node) → AllBeside R os ns → AllBeside R (copied from to os) (copies from to ns)
beside-copies R from to os ns h =
    beside-carried R from to (filter (origin_by_place (is_at_or_above from)) os) (filter (by_place (is_at_or_above from)) ns) (beside-filter R (is_at_or_above from) os ns h)

beside-append : (R : ℕ → Standing → Type 0) (os : List Origin) (ns : List Node) (ps : List Origin) (ms : List Node) → AllBeside R os ns → AllBeside R ps ms → AllBeside R (os ++ ps) (ns ++ ms)
beside-append R [] [] ps ms h k = k
beside-append R [] (n ∷ ns) ps ms h k = absurd h
beside-append R (o ∷ os) [] ps ms h k = absurd h
beside-append R (o ∷ os) (n ∷ ns) ps ms h k = (h.0, beside-append R os ns ps ms h.1 k)

-- what was beside nodes is beside what these become
pub beside-after : (R : ℕ → Standing → Type 0) (act : Option Act) (number : ℕ) (os : List Origin) (ns : List Node)
    → ((there : Place) (standing : Standing) → act ≡ Some (Placed there standing) → R number standing)
    → AllBeside R os ns → AllBeside R (origins_after act number os) (nodes_after act ns)
beside-after R None number os ns put h = h
beside-after R (Some (Placed there standing)) number os ns put h =
    beside-with R os ns (record { place = there; number = number }) (record { place = there; standing = standing }) (refl, put there standing refl) h
beside-after R (Some (Gone there)) number os ns put h = beside-filter R (λ p. not (is_at_or_above there p)) os ns h
beside-after R (Some (Carried from to moving)) number os ns put h =
    beside-append R (filter (origin_by_place (stays_at from to moving)) os) (filter (by_place (stays_at from to moving)) ns) (copied from to os) (copies from to ns)
    (beside-filter R (stays_at from to moving) os ns h) (beside-copies R from to os ns h)

pub places-after : (act : Option Act) (number : ℕ) (os : List Origin) (ns : List Node) → HaveSamePlaces os ns → HaveSamePlaces (origins_after act number os) (nodes_after act ns)
places-after act number os ns h =
    places-beside Anyhow (origins_after act number os) (nodes_after act ns) (beside-after Anyhow act number os ns (λ there standing is. tt) (beside-places os ns h))
