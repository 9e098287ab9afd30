-- The lists of a server at a further moment.
use Rattle.std.proofs.Common.{◌≡◌, ℕ, ◌≤◌, List, [], ◌∷◌, Bool, true, false, refl, sym, ap, ◌∙◌, append-nil, arith, Option}
use Rattle.std.specs.Prelude.{if◌then◌else◌, nat_lt, unwrap_or}
use Rattle.std.specs.Option.{option_or}
use Rattle.std.proofs.lemmas.Bool.Decides.{nat_tests}
use Rattle.ocm_entry.specs.declared.asks.Ask.{Ask}
use Rattle.ocm_entry.specs.declared.asks.Ask.TheVariants as asks
use Rattle.ocm_entry.specs.declared.replies.Reply.{Reply}
use Rattle.ocm_entry.specs.declared.entries.Entry.{Entry}
use Rattle.ocm_rules.specs.declared.rows.SentRow.{SentRow}
use Rattle.ocm_rules.specs.History.{IsAnswered}
use Rattle.ocm_entry.specs.Ticks.{is_tick}
use Rattle.ocm_rules.specs.Shares.{clock_of, moment}
use Rattle.ocm_rules.specs.State.{State, state_of, step, view_in}
use Rattle.ocm_rules.proofs.States.{state_of-read}
use Rattle.ocm_rules.proofs.Steps.{other-shares, other-records, other-requests, other-messages}
use Rattle.ocm_law_sessions.specs.Readings.{entry_after, with_moment}
use Rattle.ocm_law_sessions.proofs.Entries.{clocks}
use Rattle.ocm_logcheck.specs.Steps.{up_to_ask}

-- these lists at another moment
abbrev pub at_moment : ℕ → State → State
at_moment clock st = record st { moment = clock }

-- a tick moves the moment alone
pub tick-step : (st : State) (clock : ℕ) (reply : Reply) → step st (asks.Tick clock) reply ≡ at_moment clock st
tick-step st clock reply =
    let ask : Ask = asks.Tick clock in
    rw (other-shares ask st.shares refl, other-records (view_in st).messages ask st.received refl, other-requests (view_in st).messages ask st.requests refl, other-messages ask st.sent refl)
    (ap (λ (sent : List SentRow). let r : State = record st { moment = clock; sent = sent } in r) (append-nil st.sent))

step-of : (st : State) (ask : Ask) (reply : Reply) (o : Option ℕ) → is_tick ask ≡ true → step st ask reply ≡ at_moment (unwrap_or (option_or (clock_of ask) o) 0) st
step-of st (asks.Tick clock) reply o is = tick-step st clock reply
step-of st _ reply o is = absurd (cc)

tick-state : (host : List ℕ) (e : Entry) (k : List Entry) → is_tick e.ask ≡ true → state_of host (e ∷ k) ≡ at_moment (moment (e ∷ k)) (state_of host k)
tick-state host e k is = step-of (state_of host k) e.ask e.reply (clocks k) is

-- the lists of a list stand at its moment
pub own-moment : (host : List ℕ) (k : List Entry) → IsAnswered host k → at_moment (moment k) (state_of host k) ≡ state_of host k
own-moment host k answered = let read = state_of-read host k answered in ap (at_moment (moment k)) read ∙ sym read

-- the newest ticks move the moment alone
pub ticks-state : (host : List ℕ) (k : List Entry) → IsAnswered host k → state_of host k ≡ at_moment (moment k) (state_of host (up_to_ask k))
ticks-state host [] answered = sym (own-moment host [] answered)
ticks-state host (e ∷ before) answered = by_test (ticks-state host before answered.2) (is_tick e.ask) refl
  where
    by_test : state_of host before ≡ at_moment (moment before) (state_of host (up_to_ask before)) → (b : Bool) → is_tick e.ask ≡ b
        → state_of host (e ∷ before) ≡ at_moment (moment (e ∷ before)) (state_of host (if b then up_to_ask before else e ∷ before))
    by_test older true is = tick-state host e before is ∙ ap (at_moment (moment (e ∷ before))) older
    by_test older false is = sym (own-moment host (e ∷ before) answered)

-- a tick after a list moves the moment of its lists
pub with_moment-state : (host : List ℕ) (clock : ℕ) (k : List Entry) → IsAnswered host k → moment k ≤ clock → state_of host (with_moment host clock k) ≡ at_moment clock (state_of host k)
with_moment-state host clock k answered up = by_test (nat_lt (moment k) clock) refl
  where
    by_test : (b : Bool) → nat_lt (moment k) clock ≡ b → state_of host (if b then entry_after host k (asks.Tick clock) ∷ k else k) ≡ at_moment clock (state_of host k)
    by_test true is = tick-step (state_of host k) clock (entry_after host k (asks.Tick clock)).reply
    by_test false is = let same : moment k ≡ clock = grind (arith, nat_tests) in sym (own-moment host k answered) ∙ ap (λ m. at_moment m (state_of host k)) same

-- the entries up to the newest ask that is no tick
pub up_to-answered : (host : List ℕ) (k : List Entry) → IsAnswered host k → IsAnswered host (up_to_ask k)
up_to-answered host [] answered = tt
up_to-answered host (e ∷ before) answered = by_test (up_to-answered host before answered.2) (is_tick e.ask)
  where
    by_test : IsAnswered host (up_to_ask before) → (b : Bool) → IsAnswered host (if b then up_to_ask before else e ∷ before)
    by_test older true = older
    by_test older false = answered
