-- Calls that were gathered, as the shares of those who made them.
use Rattle.std.proofs.Common.{◌≡◌, ◌≢◌, ℕ, ◌+◌, List, [], ◌∷◌, length, arith}
use Rattle.std.specs.List.{AllByRecursion}
use Rattle.ocm_entry.specs.declared.entries.Entry.{Entry}
use Rattle.ocm_turn.specs.declared.view.Call.{Call}
use Rattle.ocm_turn.specs.Calls.{Each, StandIn, InOrder, Disjoint, merged}
use Rattle.ocm_turn.specs.Laws.{EachAlone}
use Rattle.ocm_turn.proofs.JoinedCalls.{merged_each, ordered_are_alone, joined_stand, joined_are_alone, joined_are_counted}
use Rattle.ocm_server.specs.Objects.{gathered, AllApart, number_of, Shares}

stand_all : (history : List Entry) (calls : List Call) (all : List (List Call)) → StandIn history (gathered calls all) → StandIn history calls × AllByRecursion (StandIn history) all
stand_all history calls [] h = (h, tt)
stand_all history calls (others ∷ more) h =
    let k = stand_all history (merged calls others) more h in
    let both = joined_stand history calls others k.0 in
    (both.0, (both.1, k.1))

-- apart from joined calls is apart from both
apart_both : (calls others : List Call) (all : List (List Call)) → AllByRecursion (Disjoint (merged calls others)) all → AllByRecursion (Disjoint calls) all × AllByRecursion (Disjoint others) all
apart_both calls others [] h = (tt, tt)
apart_both calls others (x ∷ all) h =
    let both = merged_each (λ c. Each (λ d. c.place ≢ d.place) x) calls others h.0 in
    let k = apart_both calls others all h.1 in
    ((both.0, k.0), (both.1, k.1))

apart_all : (calls : List Call) (all : List (List Call)) → EachAlone (gathered calls all) → EachAlone calls × AllByRecursion (Disjoint calls) all × AllApart all
apart_all calls [] h = (h, tt, tt)
apart_all calls (others ∷ more) h =
    let k = apart_all (merged calls others) more h in
    let both = joined_are_alone calls others k.0 in
    let apart = apart_both calls others more k.1 in
    (both.0, (both.2, apart.0), (apart.1, k.2))

count_all : (calls : List Call) (all : List (List Call)) → length (gathered calls all) ≡ length calls + number_of all
count_all calls [] = omega arith
count_all calls (others ∷ more) = let k = count_all (merged calls others) more in let n = joined_are_counted calls others in omega (arith, k, n)

pub shares : (history : List Entry) (all : List (List Call)) (own : ℕ) → StandIn history (gathered [] all) → AllByRecursion InOrder all → InOrder (gathered [] all) → own ≡ length (gathered [] all) → Shares history all own
shares history all own stand each order count =
    let a = apart_all [] all (ordered_are_alone (gathered [] all) order) in
    let n = count_all [] all in
    record { stand = (stand_all history [] all stand).1; order = each; apart = a.2; counted = omega (arith, count, n) }
