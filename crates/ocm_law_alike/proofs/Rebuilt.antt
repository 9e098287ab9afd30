-- The asks of a list that are neither ticks nor for files decide all its rows.
use Rattle.std.proofs.Common.{◌≡◌, ℕ, ◌+◌, List, [], ◌∷◌, ◌++◌, length, Bool, true, false, refl, sym, ap, ◌∙◌, subst, append-nil}
use Rattle.std.specs.Prelude.{Option, Some, None, if◌then◌else◌, nat_lt}
use Rattle.ocm_texts.specs.Hex.{hex}
use Rattle.ocm_limits.specs.Limits.{most_users}
use Rattle.ocm_entry.specs.declared.asks.Ask.{Ask}
use Rattle.ocm_entry.specs.declared.asks.Ask.TheVariants as asks
use Rattle.ocm_entry.specs.declared.replies.Reply.{Reply}
use Rattle.ocm_entry.specs.declared.replies.Reply.TheVariants as replies
use Rattle.ocm_types.specs.declared.phases.Which.TheVariants.{Users}
use Rattle.ocm_entry.specs.declared.refusals.Why.TheVariants.{Collision, UserExists}
use Rattle.ocm_entry.specs.declared.entries.Entry.{Entry}
use Rattle.ocm_entry.specs.declared.rows.Place.{Place}
use Rattle.ocm_rules.specs.declared.rows.SentRow.{SentRow}
use Rattle.ocm_rules.specs.Answers.{add_user_reply, refused, limited, reply_in}
use Rattle.ocm_rules.specs.History.{IsAnswered, changes_in}
use Rattle.ocm_rules.specs.Messages.{view_of}
use Rattle.ocm_rules.specs.Shares.{is_used, moment}
use Rattle.ocm_rules.specs.State.{State, empty_of, node_at, state_of, step, view_in}
use Rattle.ocm_rules.specs.Users.{is_taken}
use Rattle.ocm_rules.specs.Views.{View}
use Rattle.ocm_rules.proofs.States.{view_of-state}
use Rattle.ocm_rules_steps.proofs.Rows.{step-added}
use Rattle.ocm_law_alike.specs.Alike.{AreAlike}
use Rattle.ocm_law_alike.specs.Others.{Dated, is_aside, others}

-- lists without their files, at this moment
abbrev bare : ℕ → State → State
bare clock st = record st { moment = clock; nodes = [] }

-- lists at this moment
abbrev at_moment : ℕ → State → State
at_moment clock st = record st { moment = clock }

-- the reply that an ask has which changes something, where the lists depend on it
abbrev reply_to : Ask → Reply
reply_to (asks.AddUser name fresh) = replies.Key (hex fresh)
reply_to ask = replies.Done

-- the lists that asks with their moments make
abbrev rebuilt : List ℕ → List Dated → State
rebuilt host [] = empty_of host
rebuilt host (dated ∷ before) = step (at_moment dated.moment (rebuilt host before)) dated.ask (reply_to dated.ask)

-- ---- ticks and asks for files

bare-sent : (clock : ℕ) (st : State) → (let r : State = record st { moment = clock; nodes = []; sent = st.sent ++ [] } in r) ≡ bare clock st
bare-sent clock st = ap (λ (sent : List SentRow). let r : State = record st { moment = clock; nodes = []; sent = sent } in r) (append-nil st.sent)

-- they leave all but the moment and the files
bare-aside : (clock : ℕ) (st : State) (ask : Ask) (reply : Reply) → is_aside ask ≡ true → bare clock (step st ask reply) ≡ bare clock st
bare-aside clock st (asks.Tick tick) reply h = ap (bare clock) (step-added st (asks.Tick tick) reply refl refl refl refl) ∙ bare-sent clock st
bare-aside clock st (asks.Dav secret method path body) reply h = ap (bare clock) (step-added st (asks.Dav secret method path body) reply refl refl refl refl) ∙ bare-sent clock st
bare-aside clock st (asks.Carry secret from to moving overwrite) reply h = ap (bare clock) (step-added st (asks.Carry secret from to moving overwrite) reply refl refl refl refl) ∙ bare-sent clock st
bare-aside clock st (asks.AddUser name fresh) reply h = absurd (cc)
bare-aside clock st (asks.Local key cmd) reply h = absurd (cc)
bare-aside clock st (asks.Offer offer) reply h = absurd (cc)
bare-aside clock st (asks.Notice notice fresh) reply h = absurd (cc)
bare-aside clock st asks.Due reply h = absurd (cc)
bare-aside clock st (asks.Settle number status id) reply h = absurd (cc)

-- ---- all other asks

-- what becomes of the rows does not depend on the files
bare-step : (clock : ℕ) (st : State) (ask : Ask) (reply : Reply) → bare clock (step st ask reply) ≡ bare clock (step (bare st.moment st) ask reply)
bare-step clock st ask reply = refl

-- the reply by which a change is told is the one that the lists depend on
IsTold : Ask → Reply → Type 0
IsTold (asks.AddUser name fresh) reply = reply ≡ replies.Key (hex fresh)
IsTold ask reply = Unit {0}

told-by : (v : View) (ask : Ask) → changes_in v ask (reply_in v ask) ≡ true → IsTold ask (reply_in v ask)
unfolding IsTold
told-by v (asks.AddUser name fresh) h = by_tests (is_taken v.users name) (nat_lt most_users (length v.users + 1)) (is_used v.users v.shares (hex fresh)) h
  where
    by_tests : (taken full used : Bool) → changes_in v (asks.AddUser name fresh) (if taken then refused UserExists else (if full then limited Users else (if used then refused Collision else replies.Key (hex fresh)))) ≡ true
        → (if taken then refused UserExists else (if full then limited Users else (if used then refused Collision else replies.Key (hex fresh)))) ≡ replies.Key (hex fresh)
    by_tests true full used k = absurd (cc)
    by_tests false true used k = absurd (cc)
    by_tests false false true k = absurd (cc)
    by_tests false false false k = refl
told-by v (asks.Local key cmd) h = tt
told-by v (asks.Offer offer) h = tt
told-by v (asks.Notice notice fresh) h = tt
told-by v (asks.Dav secret method path body) h = tt
told-by v asks.Due h = tt
told-by v (asks.Settle number status id) h = tt
told-by v (asks.Tick clock) h = tt
told-by v (asks.Carry secret from to moving overwrite) h = tt

step-told : (st : State) (ask : Ask) (reply : Reply) → IsTold ask reply → step st ask reply ≡ step st ask (reply_to ask)
unfolding IsTold
step-told st (asks.AddUser name fresh) reply h = ap (step st (asks.AddUser name fresh)) h
step-told st (asks.Local key cmd) reply h = refl
step-told st (asks.Offer offer) reply h = refl
step-told st (asks.Notice notice fresh) reply h = refl
step-told st (asks.Dav secret method path body) reply h = refl
step-told st asks.Due reply h = refl
step-told st (asks.Settle number status id) reply h = refl
step-told st (asks.Tick clock) reply h = refl
step-told st (asks.Carry secret from to moving overwrite) reply h = refl

-- ---- whole lists

bare-rebuilt : (host : List ℕ) (k : List Entry) → IsAnswered host k → (clock : ℕ) → bare clock (state_of host k) ≡ bare clock (rebuilt host (others k))
bare-rebuilt host [] h clock = refl
bare-rebuilt host (e ∷ before) h clock = by_test (bare-rebuilt host before h.2) (is_aside e.ask) refl
  where
    at : moment before ≡ (state_of host before).moment
    at = ap (λ (v : View). v.moment) (view_of-state host before h.2)

    told : IsTold e.ask e.reply
    told = subst (IsTold e.ask) (sym h.0) (told-by (view_of host before) e.ask (subst (λ reply. changes_in (view_of host before) e.ask reply ≡ true) h.0 h.1))

    by_test : ((m : ℕ) → bare m (state_of host before) ≡ bare m (rebuilt host (others before))) → (b : Bool) → is_aside e.ask ≡ b
        → bare clock (step (state_of host before) e.ask e.reply) ≡ bare clock (rebuilt host (if b then others before else record { moment = moment before; ask = e.ask } ∷ others before))
    by_test older true aside = bare-aside clock (state_of host before) e.ask e.reply aside ∙ older clock
    by_test older false other =
        ap (bare clock) (step-told (state_of host before) e.ask e.reply told)
        ∙ bare-step clock (state_of host before) e.ask (reply_to e.ask)
        ∙ ap (λ all. bare clock (step all e.ask (reply_to e.ask))) (ap (λ m. bare m (state_of host before)) (sym at) ∙ older (moment before))
        ∙ sym (bare-step clock (at_moment (moment before) (rebuilt host (others before))) e.ask (reply_to e.ask))

pub others-decide : (host : List ℕ) (k other : List Entry) → IsAnswered host k → IsAnswered host other → others k ≡ others other → moment k ≡ moment other
    → ((place : Place) → node_at (state_of host k).nodes place ≡ node_at (state_of host other).nodes place) → AreAlike (state_of host k) (state_of host other)
others-decide host k other h also same at files = record {
  host = ap (λ (st : State). st.host) all;
  moment = sym (ap (λ (v : View). v.moment) (view_of-state host k h)) ∙ at ∙ ap (λ (v : View). v.moment) (view_of-state host other also);
  users = ap (λ (st : State). st.users) all;
  shares = ap (λ (st : State). st.shares) all;
  limits = ap (λ (st : State). st.limits) all;
  files = files;
  received = ap (λ (st : State). st.received) all;
  requests = ap (λ (st : State). st.requests) all;
  sent = ap (λ (st : State). st.sent) all;
}
  where
    all : bare 0 (state_of host k) ≡ bare 0 (state_of host other)
    all = bare-rebuilt host k h 0 ∙ ap (λ dated. bare 0 (rebuilt host dated)) same ∙ sym (bare-rebuilt host other also 0)
