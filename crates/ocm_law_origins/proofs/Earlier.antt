use Rattle.std.proofs.Common.{ℕ, ◌≤◌, List, [], ◌∷◌, Bool, true, false, arith}
use Rattle.std.specs.Prelude.{Option, Some, None, filter, not, if◌then◌else◌}
use Rattle.std.specs.List.{All}
use Rattle.std.proofs.lemmas.List.Elements.{All-cons, All-head, All-tail, All-append, All-map, All-filter}
use Rattle.ocm_rules.specs.Files.{Act, Placed, Gone, Carried, same_place, is_at_or_above}
use Rattle.ocm_law_origins.specs.Origins.{Origin, with_origin, copied, origin_stays, origins_after}
use Rattle.ocm_law_origins.proofs.Beside.{origin_by_place, carried_origin}

all-with : (P : Origin → Type 0) (os : List Origin) (o : Origin) → P o → All P os → All P (with_origin os o)
all-with P [] o new h = All-cons P o [] new h
all-with P (p ∷ os) o new h = by_test (all-with P os o new (All-tail P p os h)) (same_place p.place o.place)
  where
    by_test : All P (with_origin os o) → (b : Bool) → All P (if b then o ∷ os else p ∷ with_origin os o)
    by_test rest true = All-cons P o os new (All-tail P p os h)
    by_test rest false = All-cons P p (with_origin os o) (All-head P p os h) rest

-- what is done by an entry gives nothing a later number
pub after-earlier : (act : Option Act) (number : ℕ) (os : List Origin) → All (λ (o : Origin). o.number ≤ number) os → All (λ (o : Origin). o.number ≤ number) (origins_after act number os)
after-earlier act number os h = by_act act
  where
    Earlier : Origin → Type 0
    Earlier o = o.number ≤ number

    by_act : (act : Option Act) → All Earlier (origins_after act number os)
    by_act None = h
    by_act (Some (Placed there standing)) = all-with Earlier os (record { place = there; number = number }) (omega arith) h
    by_act (Some (Gone there)) = All-filter (origin_by_place (λ p. not (is_at_or_above there p))) Earlier os h
    by_act (Some (Carried from to moving)) =
        All-append Earlier (filter (origin_stays from to moving) os) (copied from to os) (All-filter (origin_stays from to moving) Earlier os h)
        (All-map Earlier (carried_origin from to) (filter (origin_by_place (is_at_or_above from)) os) (All-filter (origin_by_place (is_at_or_above from)) Earlier os h))
