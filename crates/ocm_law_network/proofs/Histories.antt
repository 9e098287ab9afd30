-- The one history of all workers.
use Rattle.std.proofs.Common.{◌≡◌, ℕ, suc, ◌<◌, ◌≤◌, List, [], ◌∷◌, ◌++◌, length, cond, Bool, true, false, refl, sym, ap, ◌∙◌, subst, arith, append_assoc}
use Rattle.std.specs.Prelude.{◌⊎◌, slice_index_or, nat_eq, Some}
use Rattle.std.specs.List.{AllByRecursion}
use mathlib.Core.Logic.{inl, inr}
use Rattle.ocm_entry.specs.declared.asks.Ask.TheVariants as asks
use Rattle.ocm_entry.specs.declared.entries.Entry.{Entry}
use Rattle.ocm_pump.specs.declared.exchanges.Exchange.{Exchange}
use Rattle.ocm_rules.proofs.Searches.{some-same}
use Rattle.ocm_server.specs.Objects.{Shares}
use Rattle.ocm_turn.specs.Calls.{Each, InOrder, StandIn, call, entries, entry, entry_at}
use Rattle.ocm_turn.specs.declared.view.Call.{Call}
use Rattle.ocm_law_world.specs.World.{is_settlement}
use Rattle.ocm_law_network.specs.Network.{Has}
use Rattle.ocm_law_network.specs.Working.{AreBacked, HasOwn, IsWorkers, WasDelivered, left_for}
use Rattle.ocm_law_network.specs.Serving.{HistoriesSettleAnswers, SettlesAnswers, ShiftsSettleAnswers}
use Rattle.ocm_law_network.proofs.Workers.{at-older, calls-are-workers, worker-backed}

-- what stands at a place below an entry's stands before it
stands-before : (newer older : List Entry) (e : Entry) (place : ℕ) (x : Entry) → place < length older → entry_at (newer ++ e ∷ older) place ≡ Some x → entry_at older place ≡ Some x
stands-before [] older e place x below at = at-older e older place x below at
stands-before (first ∷ newer) older e place x below at =
    let more = longer newer in
    stands-before newer older e place x below (at-older first (newer ++ e ∷ older) place x (omega (arith, below, more)) at)
  where
    longer : (newer : List Entry) → length older ≤ length (newer ++ e ∷ older)
    longer [] = omega arith
    longer (y ∷ newer) = let rest = longer newer in omega (arith, rest)

-- and is one of those
at-has : (history : List Entry) (place : ℕ) (x : Entry) → entry_at history place ≡ Some x → Has history x
at-has [] place x at = absurd (cc)
at-has (e ∷ before) place x at = by_test (at-has before place x) (nat_eq place (length before)) at
  where
    by_test : (entry_at before place ≡ Some x → Has before x) → (b : Bool) → cond b (Some e) (entry_at before place) ≡ Some x → Has (e ∷ before) x
    by_test rest true is = inl (some-same e x is)
    by_test rest false there = inr (rest there)

-- an entry among calls below a place is one of the history before that
entry-before : (newer older : List Entry) (e : Entry) (calls : List Call) (x : Entry) → StandIn (newer ++ e ∷ older) calls → Each (λ b. b.place < length older) calls → Has (entries calls) x → Has older x
entry-before newer older e [] x stand below none = absurd none
entry-before newer older e (c ∷ calls) x stand below (inl same) =
    subst (λ y. Has older y) same (at-has older c.place c.entry (stands-before newer older e c.place c.entry below.0 stand.0))
entry-before newer older e (c ∷ calls) x stand below (inr there) = entry-before newer older e calls x stand.1 below.1 there

-- a call of a worker is backed in the history
backed-there : (newer older : List Entry) (e : Entry) (exchanges : List Exchange) (calls : List Call) → StandIn (newer ++ e ∷ older) calls → InOrder calls → AreBacked exchanges (entries calls) → Has calls (call (length older) e)
    → (is_settlement e.ask ≡ false) ⊎ ((added : List Exchange) × WasDelivered added older e)
backed-there newer older e exchanges [] stand order backed none = absurd none
backed-there newer older e exchanges (c ∷ calls) stand order backed (inl same) = by_case backed.0
  where
    here : c.entry ≡ e
    here = ap (λ (d : Call). d.entry) same

    below : Each (λ b. b.place < length older) calls
    below = subst (λ n. Each (λ b. b.place < n) calls) (ap (λ (d : Call). d.place) same) order.0

    by_case : (is_settlement c.entry.ask ≡ false) ⊎ HasOwn exchanges (entries calls) c.entry → (is_settlement e.ask ≡ false) ⊎ ((added : List Exchange) × WasDelivered added older e)
    by_case (inl plain) = inl (subst (λ (x : Entry). is_settlement x.ask ≡ false) here plain)
    by_case (inr own) =
        let d = own.delivered in
        inr (
          own.added,
          record {
            message = d.message;
            answered = d.answered;
            due = record { reply = d.due.reply; asked = entry-before newer older e calls (entry asks.Due d.due.reply) stand.1 below d.due.asked; told = d.due.told };
            posted = d.posted;
            is = ap (λ (x : Entry). x.ask) (sym here) ∙ d.is;
          },
        )
backed-there newer older e exchanges (c ∷ calls) stand order backed (inr there) = backed-there newer older e (left_for {before = entries calls} {e = c.entry} exchanges backed.0) calls stand.1 order.1 backed.1 there

-- the calls of one worker among those of all
abbrev Worker : List Entry → List Call → Type 0
Worker history calls = StandIn history calls × InOrder calls × ((exchanges : List Exchange) × AreBacked exchanges (entries calls))

worker-at : (history : List Entry) (all : List (List Call)) (calls : List Call) → AllByRecursion (StandIn history) all → AllByRecursion InOrder all → AllByRecursion (λ calls. (exchanges : List Exchange) × AreBacked exchanges (entries calls)) all → Has all calls → Worker history calls
worker-at history [] calls stand order backed none = absurd none
worker-at history (first ∷ all) calls stand order backed (inl same) = subst (Worker history) same (stand.0, order.0, backed.0)
worker-at history (first ∷ all) calls stand order backed (inr there) = worker-at history all calls stand.1 order.1 backed.1 there

served-from : (history : List Entry) (all : List (List Call)) (own : ℕ) → Shares history all own → own ≡ length history → AllByRecursion (λ calls. (exchanges : List Exchange) × AreBacked exchanges (entries calls)) all
    → (newer older : List Entry) → history ≡ newer ++ older → SettlesAnswers older
served-from history all own shares whole backed newer [] split = tt
served-from history all own shares whole backed newer (e ∷ older) split =
    let one : IsWorkers all (call (length older) e) = calls-are-workers history all own shares whole newer older e split in
    let worker : Worker history one.calls = worker-at history all one.calls shares.stand shares.order backed one.worker in
    let stand : StandIn (newer ++ e ∷ older) one.calls = subst (λ h. StandIn h one.calls) split worker.0 in (
      backed-there newer older e worker.2.0 one.calls stand worker.1 worker.2.1 one.made,
      served-from history all own shares whole backed (newer ++ e ∷ []) older (split ∙ sym (append_assoc newer (e ∷ []) older)),
    )

pub histories-settle : HistoriesSettleAnswers
histories-settle history all own shares whole backed = served-from history all own shares whole backed [] history refl

-- ---- workers

-- what holds at each index holds of each
at-each : (P : List Call → Type 0) (all : List (List Call)) → ((i : ℕ) → i < length all → P (slice_index_or all i [])) → AllByRecursion P all
at-each P [] h = tt
at-each P (calls ∷ all) h = (h 0 (omega arith), at-each P all (λ i below. h (suc i) (omega (arith, below))))

pub shifts-settle : (C Terms : Type 0) → ShiftsSettleAnswers C Terms
shifts-settle C Terms sides config gate first workers draws old new past all history own shifts shares whole =
    let backed = at-each (λ calls. (exchanges : List Exchange) × AreBacked exchanges (entries calls)) all (λ i below.
    let within : i < workers = omega (arith, below, shifts.0) in
    let worker = worker-backed C Terms sides config gate first (draws i) (old i) (new i) (slice_index_or all i []) past (shifts.1 i within) in
    (worker.0, worker.1)) in
    histories-settle history all own shares whole backed
