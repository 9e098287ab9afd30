-- What is written of an entry is read as that entry.
use Rattle.std.proofs.Common.{◌≡◌, ℕ, ◌^◌, ◌<◌, ◌≤◌, ◌==◌, nat_lt, List, ◌∷◌, ◌++◌, length, Bool, true, false, refl, ap, ◌∙◌, arith, Option, Some, None, Result}
use Rattle.std.specs.Prelude.{if◌then◌else◌, nat_le, option_and_then, option_map, unwrap_or}
use Rattle.std.specs.Int.{w64, from_be_bytes, to_be_bytes}
use Rattle.std.specs.Option.{option_or}
use Rattle.std.specs.Result.{result_ok}
use Rattle.std.proofs.lemmas.Bool.{le-leb}
use Rattle.std.proofs.lemmas.Bool.Decides.{nat_tests}
use Rattle.std.proofs.lemmas.List.{length-append, take_at, drop_at}
use Rattle.std.proofs.lemmas.Nat.{from_be_bytes-to_be_bytes_8}
use Rattle.ocm_entry.specs.declared.asks.Ask.{Ask}
use Rattle.ocm_entry_bytes.specs.declared.entry_faults.EntryFault.{EntryFault}
use Rattle.ocm_entry.specs.declared.entries.Entry.{Entry}
use Rattle.ocm_entry_bytes.specs.Spells.{eight_bytes, spelling, Fits}
use Rattle.ocm_entry_bytes.proofs.Whole.{ask_of-spelling}
use Rattle.ocm_entry_bytes.proofs.Lengths.{spelled_len}
use Rattle.ocm_rules.specs.Shares.{clock_of, moment}
use Rattle.ocm_entry.specs.Ticks.{is_tick}
use Rattle.ocm_rules.specs.History.{answer_kept, changes}
use Rattle.ocm_law_lean.proofs.Thin.{of_tick}
use Rattle.ocm_journal_records.specs.declared.stamps.Stamped.{Stamped}
use Rattle.ocm_journal_records.specs.declared.stamps.Stamped.TheVariants as stamps
use Rattle.ocm_journal_records.specs.Stamps.{spelled, timed, moment_in, said_in_second, stamped_of}
use Rattle.ocm_law_sessions.specs.Readings.{with_ask, with_moment, with_stamped, goes_on}
use Rattle.ocm_law_sessions.specs.Written.{record_of}
use Rattle.ocm_law_sessions.proofs.Entries.{with_ask-changes, with_moment-stays, same_tick, clocks, tick-is, moment-other}

-- ---- what a record says

-- a spelling is read back
pub spelled-spelling : (ask : Ask) → Fits ask → spelled (spelling ask) ≡ Some ask
unfolding spelled
spelled-spelling ask fits = ap (λ (r : Result Ask EntryFault). result_ok r) (ask_of-spelling (spelling ask) ask (record { fits = fits; text = refl }))

unless : Bool → Stamped → Option Stamped
unless tick said = if tick then None else Some said

timed-other : (clock : ℕ) (ask : Ask) → is_tick ask ≡ false → timed clock ask ≡ Some (stamps.Timed clock ask)
unfolding unless
timed-other clock ask is = ap (λ b. unless b (stamps.Timed clock ask)) (same_tick ask ∙ is)

-- eight bytes are a moment
said-moment : (clock : ℕ) → clock < 2 ^ 64 → said_in_second (eight_bytes clock) ≡ Some (stamps.Moment clock)
unfolding said_in_second moment_in eight_bytes
said-moment clock lt = ap (λ n. Some (stamps.Moment n)) (from_be_bytes-to_be_bytes_8 clock lt)

-- eight bytes and more are a moment and an ask
said-behind : (front rest : List ℕ) (clock : ℕ) (ask : Ask) → length front ≡ 8 → 0 < length rest → from_be_bytes w64 front ≡ clock → spelled rest ≡ Some ask → said_in_second (front ++ rest) ≡ timed clock ask
unfolding said_in_second moment_in
said-behind front rest clock ask len some is_clock is_ask =
    let both = length-append front rest in
    let few : nat_lt (length (front ++ rest)) 8 ≡ false = grind (arith, nat_tests) in
    let alone : (length (front ++ rest) == 8) ≡ false = grind (arith, nat_tests) in
    rw (few, alone, take_at front rest 8 len, drop_at front rest 8 len, is_clock, is_ask) refl

said-timed : (clock : ℕ) (ask : Ask) → clock < 2 ^ 64 → Fits ask → is_tick ask ≡ false → said_in_second (eight_bytes clock ++ spelling ask) ≡ Some (stamps.Timed clock ask)
unfolding eight_bytes
said-timed clock ask lt fits other =
    let some = (spelled_len ask (spelling ask) (record { fits = fits; text = refl })).0 in
    said-behind (to_be_bytes w64 clock) (spelling ask) clock ask refl some (from_be_bytes-to_be_bytes_8 clock lt) (spelled-spelling ask fits) ∙ timed-other clock ask other

-- a record of form 1 is an ask
pub stamped-first : (form : ℕ) (k : List Entry) (e : Entry) → (form == 1) ≡ true → Fits e.ask → stamped_of form (record_of form k e) ≡ Some (stamps.Bare e.ask)
unfolding stamped_of record_of
stamped-first form k e first fits = rw first (ap (λ o. option_map stamps.Bare o) (spelled-spelling e.ask fits))

-- a record of form 2 is a moment alone for a tick
pub stamped-tick : (form : ℕ) (k : List Entry) (e : Entry) → (form == 1) ≡ false → is_tick e.ask ≡ true → Fits e.ask → stamped_of form (record_of form k e) ≡ Some (stamps.Moment (moment (e ∷ k)))
unfolding stamped_of record_of
stamped-tick form k e second is fits =
    let below : moment (e ∷ k) < 2 ^ 64 = of_tick (λ a. Fits a → unwrap_or (option_or (clock_of a) (clocks k)) 0 < 2 ^ 64) (λ clock h. h) e.ask is fits in
    rw (second, is) (said-moment (moment (e ∷ k)) below)

-- for another ask it is the moment so far and the ask
pub stamped-other : (form : ℕ) (k : List Entry) (e : Entry) → (form == 1) ≡ false → is_tick e.ask ≡ false → Fits e.ask → moment k < 2 ^ 64 → stamped_of form (record_of form k e) ≡ Some (stamps.Timed (moment k) e.ask)
unfolding stamped_of record_of
stamped-other form k e second is fits below =
    rw (second, is) (ap (λ n. said_in_second (eight_bytes n ++ spelling e.ask)) (moment-other e k is) ∙ said-timed (moment k) e.ask below fits is)

-- ---- how a history goes on by it

-- by a moment with an ask, where the moment makes these kept entries of those
pub with_timed : (host : List ℕ) (k b : List Entry) (e : Entry) (clock : ℕ) → moment b ≤ clock → with_moment host clock b ≡ k → e.reply ≡ answer_kept host k e.ask → changes host k e ≡ true
    → with_stamped host (stamps.Timed clock e.ask) b ≡ Some (e ∷ k)
with_timed host k b e clock le makes answered ch =
    let up : nat_le (moment b) clock ≡ true = le-leb (moment b) clock le in
    rw up (ap (λ l. with_ask host e.ask l) makes ∙ with_ask-changes host k e answered ch)

-- by what a record says
pub goes_on-said : (host : List ℕ) (form : ℕ) (k : List Entry) (bytes : List ℕ) (said : Stamped) → stamped_of form bytes ≡ Some said → goes_on host form k bytes ≡ with_stamped host said k
unfolding goes_on
goes_on-said host form k bytes said is = ap (λ o. option_and_then (λ s. with_stamped host s k) o) is

-- by the record of an entry with its answer, which changes something: by that entry
pub goes_on-record : (host : List ℕ) (form : ℕ) (k : List Entry) (e : Entry) → e.reply ≡ answer_kept host k e.ask → changes host k e ≡ true → Fits e.ask → moment k < 2 ^ 64
    → goes_on host form k (record_of form k e) ≡ Some (e ∷ k)
goes_on-record host form k e answered ch fits below = by_form (form == 1) refl
  where
    second : (form == 1) ≡ false → (b : Bool) → is_tick e.ask ≡ b → goes_on host form k (record_of form k e) ≡ Some (e ∷ k)
    second other true is =
        goes_on-said host form k (record_of form k e) (stamps.Moment (moment (e ∷ k))) (stamped-tick form k e other is fits)
        ∙ ap (λ a. with_ask host a k) (tick-is e.ask (clocks k) is)
        ∙ with_ask-changes host k e answered ch
    second other false is =
        goes_on-said host form k (record_of form k e) (stamps.Timed (moment k) e.ask) (stamped-other form k e other is fits below)
        ∙ with_timed host k k e (moment k) (omega arith) (with_moment-stays host k) answered ch

    by_form : (b : Bool) → (form == 1) ≡ b → goes_on host form k (record_of form k e) ≡ Some (e ∷ k)
    by_form true is = goes_on-said host form k (record_of form k e) (stamps.Bare e.ask) (stamped-first form k e is fits) ∙ with_ask-changes host k e answered ch
    by_form false is = second is (is_tick e.ask) refl
