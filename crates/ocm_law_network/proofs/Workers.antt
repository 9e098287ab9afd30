-- The calls of all workers are the whole history, where they are as many.
use Rattle.std.proofs.Common.{◌≡◌, ◌≢◌, ℕ, ◌+◌, ◌<◌, ◌≤◌, List, [], ◌∷◌, ◌++◌, length, cond, Bool, true, false, refl, sym, ap, ◌∙◌, subst, arith}
use Rattle.std.specs.Prelude.{◌⊎◌, nat_eq, nat_lt, Some}
use Rattle.std.specs.List.{AllByRecursion}
use mathlib.Core.Logic.{inl, inr}
use Rattle.ocm_entry.specs.declared.entries.Entry.{Entry}
use Rattle.ocm_rules.proofs.Searches.{some-same}
use Rattle.ocm_server.specs.Objects.{AllApart, beginner, gathered, number_of}
use Rattle.ocm_server.specs.Visits.{desk}
use Rattle.ocm_turn.specs.Calls.{Disjoint, Each, InOrder, StandIn, call, entries, entry_at, merged, placed}
use Rattle.ocm_turn.specs.Passes.{Known}
use Rattle.ocm_turn.specs.declared.view.Call.{Call}
use Rattle.ocm_turn.proofs.CallLemmas.{in_order_merged, inside, length_in_order, length_merged}
use Rattle.ocm_law_network.specs.Network.{Has}
use Rattle.ocm_law_network.specs.Working.{AreBacked, CallsAreWorkers, IsWorkers, WorkersAreBacked}
use Rattle.ocm_law_network.proofs.Backing.{visits-backed}

-- ---- one worker

append-none : (xs : List Call) → xs ++ [] ≡ xs
append-none [] = refl
append-none (x ∷ xs) = ap (λ l. x ∷ l) (append-none xs)

pub worker-backed : (C Terms : Type 0) → WorkersAreBacked C Terms
worker-backed C Terms sides config gate first draw old new calls past shift =
    let w = shift.worked in
    let same_first : beginner first ≡ w.before = some-same (beginner first) w.before w.had in
    let same_last : shift.last ≡ w.after = some-same shift.last w.after w.has in
    let made = visits-backed sides config gate.limit old.delivers w.serves.visits (desk draw old.clock old.exchanges w.before) (desk new.draw new.clock new.exchanges w.after) w.serves.served in
    let mine : calls ≡ made.moved.mine.0 =
    shift.calls_are ∙ ap (λ (k : Known Terms). k.mine) same_last ∙ made.moved.mine.1 ∙ ap (λ l. made.moved.mine.0 ++ l) (sym (ap (λ (k : Known Terms). k.mine) same_first)) ∙ append-none made.moved.mine.0 in
    (made.added, subst (AreBacked made.added) (sym (ap entries mine ∙ made.moved.mine.2)) made.backed, made.adds)

-- ---- calls that were merged

each-placed : (P : Call → Type 0) (c : Call) (ds : List Call) → P c → Each P ds → Each P (placed c ds)
each-placed P c [] p h = (p, tt)
each-placed P c (d ∷ ds) p h = elim (nat_lt d.place c.place) as (λ b. Each P (cond b (c ∷ d ∷ ds) (d ∷ placed c ds))) [
  | true ↦ (p, h)
  | false ↦ (h.0, each-placed P c ds p h.1)
]

each-merged : (P : Call → Type 0) (xs ys : List Call) → Each P xs → Each P ys → Each P (merged xs ys)
each-merged P [] ys h k = k
each-merged P (x ∷ xs) ys h k = each-placed P x (merged xs ys) h.0 (each-merged P xs ys h.1 k)

has-placed : (c : Call) (ds : List Call) (x : Call) → Has (placed c ds) x → (c ≡ x) ⊎ Has ds x
has-placed c [] x (inl same) = inl same
has-placed c [] x (inr none) = absurd none
has-placed c (d ∷ ds) x h = (elim (nat_lt d.place c.place) as (λ b. Has (cond b (c ∷ d ∷ ds) (d ∷ placed c ds)) x → (c ≡ x) ⊎ Has (d ∷ ds) x) [
  | true ↦ λ k. k
  | false ↦ λ k. behind (has-placed c ds x) k
]) h
  where
    further : (c ≡ x) ⊎ Has ds x → (c ≡ x) ⊎ Has (d ∷ ds) x
    further (inl same) = inl same
    further (inr there) = inr (inr there)

    behind : (Has (placed c ds) x → (c ≡ x) ⊎ Has ds x) → (d ≡ x) ⊎ Has (placed c ds) x → (c ≡ x) ⊎ Has (d ∷ ds) x
    behind rest (inl same) = inr (inl same)
    behind rest (inr there) = further (rest there)

has-merged : (xs ys : List Call) (c : Call) → Has (merged xs ys) c → Has xs c ⊎ Has ys c
has-merged [] ys c h = inr h
has-merged (x ∷ xs) ys c h = by_case (has-merged xs ys c) (has-placed x (merged xs ys) c h)
  where
    further : Has xs c ⊎ Has ys c → Has (x ∷ xs) c ⊎ Has ys c
    further (inl there) = inl (inr there)
    further (inr there) = inr there

    by_case : (Has (merged xs ys) c → Has xs c ⊎ Has ys c) → (x ≡ c) ⊎ Has (merged xs ys) c → Has (x ∷ xs) c ⊎ Has ys c
    by_case rest (inl same) = inl (inl same)
    by_case rest (inr there) = further (rest there)

-- ---- calls that were gathered

merged-apart : (calls others : List Call) (all : List (List Call)) → AllByRecursion (Disjoint calls) all → AllByRecursion (Disjoint others) all → AllByRecursion (Disjoint (merged calls others)) all
merged-apart calls others [] h k = tt
merged-apart calls others (x ∷ all) h k = (each-merged (λ c. Each (λ d. c.place ≢ d.place) x) calls others h.0 k.0, merged-apart calls others all h.1 k.1)

gathered-sound : (history : List Entry) (calls : List Call) (all : List (List Call)) → StandIn history calls → InOrder calls → AllByRecursion (StandIn history) all → AllByRecursion InOrder all → AllByRecursion (Disjoint calls) all → AllApart all
    → StandIn history (gathered calls all) × InOrder (gathered calls all)
gathered-sound history calls [] stand order stands orders apart all_apart = (stand, order)
gathered-sound history calls (others ∷ more) stand order stands orders apart all_apart =
    gathered-sound history (merged calls others) more
    (each-merged (λ c. entry_at history c.place ≡ Some c.entry) calls others stand stands.0)
    (in_order_merged calls others order orders.0 apart.0)
    stands.1 orders.1
    (merged-apart calls others more apart.1 all_apart.0)
    all_apart.1

none-apart : (all : List (List Call)) → AllByRecursion (Disjoint []) all
none-apart [] = tt
none-apart (x ∷ all) = (tt, none-apart all)

length-gathered : (calls : List Call) (all : List (List Call)) → length (gathered calls all) ≡ length calls + number_of all
length-gathered calls [] = omega arith
length-gathered calls (others ∷ more) = let k = length-gathered (merged calls others) more in let n = length_merged calls others in omega (arith, k, n)

has-gathered : (calls : List Call) (all : List (List Call)) (c : Call) → Has (gathered calls all) c → Has calls c ⊎ IsWorkers all c
has-gathered calls [] c h = inl h
has-gathered calls (others ∷ more) c h = by_case (has-gathered (merged calls others) more c h)
  where
    split : Has calls c ⊎ Has others c → Has calls c ⊎ IsWorkers (others ∷ more) c
    split (inl there) = inl there
    split (inr there) = inr (record { calls = others; worker = inl refl; made = there })

    by_case : Has (merged calls others) c ⊎ IsWorkers more c → Has calls c ⊎ IsWorkers (others ∷ more) c
    by_case (inl there) = split (has-merged calls others c there)
    by_case (inr one) = inr (record { calls = one.calls; worker = inr one.worker; made = one.made })

-- ---- as many calls as a history has

-- each entry of a history is among these calls, at its place
abbrev AreAmong : List Call → List Entry → Type 0
AreAmong calls [] = Unit {0}
AreAmong calls (e ∷ older) = Has calls (call (length older) e) × AreAmong calls older

among-more : (c : Call) (calls : List Call) (history : List Entry) → AreAmong calls history → AreAmong (c ∷ calls) history
among-more c calls [] h = tt
among-more c calls (e ∷ older) h = (inr h.0, among-more c calls older h.1)

-- the newest entry stands at the last place, and the others before it
at-last : (e : Entry) (older : List Entry) (place : ℕ) (x : Entry) → place ≡ length older → entry_at (e ∷ older) place ≡ Some x → e ≡ x
at-last e older place x last at = by_test (nat_eq place (length older)) refl at
  where
    by_test : (b : Bool) → nat_eq place (length older) ≡ b → cond b (Some e) (entry_at older place) ≡ Some x → e ≡ x
    by_test true is h = some-same e x h
    by_test false far h = absurd (grind (arith, far, last))

pub at-older : (e : Entry) (older : List Entry) (place : ℕ) (x : Entry) → place < length older → entry_at (e ∷ older) place ≡ Some x → entry_at older place ≡ Some x
at-older e older place x below at = by_test (nat_eq place (length older)) refl at
  where
    by_test : (b : Bool) → nat_eq place (length older) ≡ b → cond b (Some e) (entry_at older place) ≡ Some x → entry_at older place ≡ Some x
    by_test true is h = absurd (grind (arith, is, below))
    by_test false far h = h

stand-older : (e : Entry) (older : List Entry) (n : ℕ) (calls : List Call) → n ≤ length older → Each (λ b. b.place < n) calls → StandIn (e ∷ older) calls → StandIn older calls
stand-older e older n [] few below stand = tt
stand-older e older n (c ∷ calls) few below stand =
    let here : c.place < n = below.0 in
    (at-older e older c.place c.entry (omega (arith, here, few)) stand.0, stand-older e older n calls few below.1 stand.1)

all-among : (history : List Entry) (calls : List Call) → StandIn history calls → InOrder calls → length calls ≡ length history → AreAmong calls history
all-among [] calls stand order same = tt
all-among (e ∷ older) [] stand order same = absurd (omega (arith, same))
all-among (e ∷ older) (c ∷ calls) stand order same =
    let many : length calls ≤ c.place = length_in_order calls c.place order.1 order.0 in
    let within : c.place < length (e ∷ older) = inside (e ∷ older) c.place c.entry stand.0 in
    let last : c.place ≡ length older = omega (arith, many, within, same) in
    let is : e ≡ c.entry = at-last e older c.place c.entry last stand.0 in
    let few : c.place ≤ length older = omega (arith, last) in
    let fewer : length calls ≡ length older = omega (arith, same) in
    (inl (λ i. call (last i) (sym is i)), among-more c calls older (all-among older calls (stand-older e older c.place calls few order.0 stand.1) order.1 fewer))

at-place : (calls : List Call) (newer older : List Entry) (e : Entry) → AreAmong calls (newer ++ e ∷ older) → Has calls (call (length older) e)
at-place calls [] older e h = h.0
at-place calls (first ∷ newer) older e h = at-place calls newer older e h.1

pub calls-are-workers : CallsAreWorkers
calls-are-workers history all own shares whole newer older e is =
    let sound = gathered-sound history [] all tt tt shares.stand shares.order (none-apart all) shares.apart in
    let count = length-gathered [] all in
    let counted = shares.counted in
    let many : length (gathered [] all) ≡ length history = omega (arith, count, counted, whole) in
    let among = subst (AreAmong (gathered [] all)) is (all-among history (gathered [] all) sound.0 sound.1 many) in
    ones (has-gathered [] all (call (length older) e) (at-place (gathered [] all) newer older e among))
  where
    ones : Has {X = Call} [] (call (length older) e) ⊎ IsWorkers all (call (length older) e) → IsWorkers all (call (length older) e)
    ones (inl none) = absurd none
    ones (inr one) = one
