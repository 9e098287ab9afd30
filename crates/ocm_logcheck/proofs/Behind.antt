-- Lists that stand at a list of kept entries, except for its newest ticks.
use Rattle.std.proofs.Common.{◌≡◌, ℕ, ◌<◌, ◌≤◌, List, ◌∷◌, Bool, true, false, refl, sym, ap, ◌∙◌, subst, arith}
use Rattle.std.specs.Prelude.{if◌then◌else◌, nat_lt}
use Rattle.std.proofs.lemmas.Bool.Decides.{nat_tests}
use Rattle.ocm_entry.specs.declared.asks.Ask.{Ask}
use Rattle.ocm_entry.specs.declared.asks.Ask.TheVariants as asks
use Rattle.ocm_entry.specs.declared.entries.Entry.{Entry}
use Rattle.ocm_rules.specs.History.{IsAnswered, IsLegal, answer, answer_kept, changes, kept}
use Rattle.ocm_entry.specs.Ticks.{is_tick}
use Rattle.ocm_rules.specs.Shares.{moment}
use Rattle.ocm_rules.specs.State.{State, state_of}
use Rattle.ocm_rules.proofs.Kept.{kept-answered}
use Rattle.ocm_core.specs.Standing.{IsAfter}
use Rattle.ocm_law_sessions.specs.Readings.{entry_after, with_moment}
use Rattle.ocm_law_sessions.specs.Sessions.{heard, would_change}
use Rattle.ocm_law_sessions.proofs.Entries.{answered-kept, answered-legal, with_moment-stays}
use Rattle.ocm_logcheck.specs.Steps.{IsBehind, up_to_ask}
use Rattle.ocm_logcheck.proofs.Prefixes.{up_to-ask}
use Rattle.ocm_logcheck.proofs.Moments.{at_moment, own-moment, tick-step, ticks-state, up_to-answered, with_moment-state}

-- ---- a list with a tick

pub with_moment-answered : (host : List ℕ) (clock : ℕ) (k : List Entry) → IsAnswered host k → IsAnswered host (with_moment host clock k)
with_moment-answered host clock k answered = by_test (nat_lt (moment k) clock) refl
  where
    by_test : (b : Bool) → nat_lt (moment k) clock ≡ b → IsAnswered host (if b then entry_after host k (asks.Tick clock) ∷ k else k)
    by_test true is = (refl, is, answered)
    by_test false is = answered

with_moment-from : (host : List ℕ) (clock : ℕ) (k : List Entry) → moment k ≤ moment (with_moment host clock k)
with_moment-from host clock k = by_test (nat_lt (moment k) clock) refl
  where
    by_test : (b : Bool) → nat_lt (moment k) clock ≡ b → moment k ≤ moment (if b then entry_after host k (asks.Tick clock) ∷ k else k)
    by_test true is = let above : moment k ≤ clock = grind (arith, nat_tests) in above
    by_test false is = omega arith

-- ---- lists of a list all of which is kept

pub after-whole : (host : List ℕ) (st : State) (l : List Entry) → st.host ≡ host → IsAnswered host l → st ≡ state_of host l → IsAfter st l
after-whole host st l home answered is =
    let P : List ℕ → Type 0 = λ h. (st ≡ state_of h (kept h l)) × IsLegal h l in
    let here : P host = (is ∙ ap (state_of host) (sym (answered-kept host l answered)), answered-legal host l answered) in
    let there : P st.host = subst P (sym home) here in
    record { lists = there.0; legal = there.1 }

whole-after : (host : List ℕ) (st : State) (l : List Entry) → st.host ≡ host → IsAnswered host l → IsAfter st l → st ≡ state_of host l
whole-after host st l home answered after = after.lists ∙ ap (λ h. state_of h (kept h l)) home ∙ ap (state_of host) (answered-kept host l answered)

-- lists stand at the moment of what is kept of their history
pub own-clock : (st : State) (g : List Entry) → IsAfter st g → st.moment ≡ moment (kept st.host g)
own-clock st g after = ap (λ (s : State). s.moment) (after.lists ∙ sym (own-moment st.host (kept st.host g) (kept-answered st.host g after.legal)))

pub whole-clock : (host : List ℕ) (st : State) (l : List Entry) → st.host ≡ host → IsAnswered host l → IsAfter st l → st.moment ≡ moment l
whole-clock host st l home answered after =
    own-clock st l after ∙ ap (λ h. moment (kept h l)) home ∙ ap (λ x. moment x) (answered-kept host l answered)

heard-whole : (host : List ℕ) (k : List Entry) (ask : Ask) → IsAnswered host k → heard host k ask ≡ entry_after host k ask
heard-whole host k ask answered = ap (λ l. entry_after host l ask) (answered-kept host k answered)

pub would-whole : (host : List ℕ) (k : List Entry) (ask : Ask) → IsAnswered host k → would_change host k ask ≡ changes host k (entry_after host k ask)
would-whole host k ask answered = ap (λ l. changes host l (entry_after host l ask)) (answered-kept host k answered)

-- ---- lists behind a list

-- the list for which they stand: up to the newest ask that is no tick, and a tick to their moment
abbrev pub behind_list : List ℕ → State → List Entry → List Entry
behind_list host st k = with_moment host st.moment (up_to_ask k)

behind-answered : (host : List ℕ) (st : State) (k : List Entry) → IsBehind host st k → IsAnswered host (behind_list host st k)
behind-answered host st k behind = with_moment-answered host st.moment (up_to_ask k) (up_to-answered host k behind.answered)

behind-clock : (host : List ℕ) (st : State) (k : List Entry) → IsBehind host st k → st.moment ≡ moment (behind_list host st k)
behind-clock host st k behind = whole-clock host st (behind_list host st k) behind.home (behind-answered host st k behind) behind.lists

pub behind-low : (host : List ℕ) (st : State) (k : List Entry) → IsBehind host st k → moment (up_to_ask k) ≤ st.moment
behind-low host st k behind =
    let own = behind-clock host st k behind in
    let from = with_moment-from host st.moment (up_to_ask k) in
    omega arith

behind-state : (host : List ℕ) (st : State) (k : List Entry) → IsBehind host st k → st ≡ at_moment st.moment (state_of host (up_to_ask k))
behind-state host st k behind =
    whole-after host st (behind_list host st k) behind.home (behind-answered host st k behind) behind.lists
    ∙ with_moment-state host st.moment (up_to_ask k) (up_to-answered host k behind.answered) (behind-low host st k behind)

behind-at : (host : List ℕ) (st : State) (k : List Entry) → st.host ≡ host → IsAnswered host k → st ≡ at_moment st.moment (state_of host (up_to_ask k)) → moment (up_to_ask k) ≤ st.moment → st.moment ≤ moment k → IsBehind host st k
behind-at host st k home answered is low high =
    let own = up_to-answered host k answered in
    record {
      home = home;
      answered = answered;
      lists = after-whole host st (behind_list host st k) home (with_moment-answered host st.moment (up_to_ask k) own) (is ∙ sym (with_moment-state host st.moment (up_to_ask k) own low));
      within = high;
    }

-- ---- going on by a tick

-- a tick above the moment of the lists would change something
pub tick-changes : (st : State) (g : List Entry) (clock : ℕ) → IsAfter st g → st.moment < clock → would_change st.host g (asks.Tick clock) ≡ true
tick-changes st g clock after above =
    let own = own-clock st g after in
    let is : nat_lt (moment (kept st.host g)) clock ≡ true = grind (arith, nat_tests) in
    is

-- the lists with it, of each history for which they stood
abbrev pub TakesTick : State → State → ℕ → Type 0
TakesTick st new clock = (g : List Entry) → IsAfter st g → IsAfter new (heard st.host g (asks.Tick clock) ∷ g)

tick-state : (host : List ℕ) (st new : State) (k : List Entry) (clock : ℕ) → IsBehind host st k → new.host ≡ st.host → st.moment < clock → TakesTick st new clock → new ≡ at_moment clock (state_of host (up_to_ask k))
tick-state host st new k clock behind home above takes =
    let g = behind_list host st k in
    let answered = behind-answered host st k behind in
    let own = behind-clock host st k behind in
    let tick : Entry = entry_after host g (asks.Tick clock) in
    let changed : nat_lt (moment g) clock ≡ true = grind (arith, nat_tests) in
    let after : IsAfter new (tick ∷ g) =
    subst (λ (e : Entry). IsAfter new (e ∷ g)) (ap (λ h. heard h g (asks.Tick clock)) behind.home ∙ heard-whole host g (asks.Tick clock) answered) (takes g behind.lists) in
    whole-after host new (tick ∷ g) (home ∙ behind.home) (refl, changed, answered) after
    ∙ tick-step (state_of host g) clock tick.reply
    ∙ ap (at_moment clock) (sym (whole-after host st g behind.home answered behind.lists) ∙ behind-state host st k behind)

pub tick-clock : (host : List ℕ) (st new : State) (k : List Entry) (clock : ℕ) → IsBehind host st k → new.host ≡ st.host → st.moment < clock → TakesTick st new clock → new.moment ≡ clock
tick-clock host st new k clock behind home above takes = ap (λ (s : State). s.moment) (tick-state host st new k clock behind home above takes)

pub behind-tick : (host : List ℕ) (st new : State) (k : List Entry) (clock : ℕ) → IsBehind host st k → new.host ≡ st.host → st.moment < clock → clock ≤ moment k → TakesTick st new clock → IsBehind host new k
behind-tick host st new k clock behind home above high takes =
    let is = tick-state host st new k clock behind home above takes in
    let now = tick-clock host st new k clock behind home above takes in
    let low = behind-low host st k behind in
    behind-at host new k (home ∙ behind.home) behind.answered (is ∙ ap (λ m. at_moment m (state_of host (up_to_ask k))) (sym now)) (omega arith) (omega arith)

-- ---- going on by an ask that is no tick

-- lists at the moment of the list are those of the list
pub behind-there : (host : List ℕ) (st : State) (k : List Entry) → IsBehind host st k → st.moment ≡ moment k → IsAfter st k
behind-there host st k behind at =
    after-whole host st k behind.home behind.answered
    (behind-state host st k behind ∙ ap (λ m. at_moment m (state_of host (up_to_ask k))) at ∙ sym (ticks-state host k behind.answered))

-- the lists with an ask that changes something
pub behind-ask : (host : List ℕ) (new : State) (k : List Entry) (ask : Ask) → is_tick ask ≡ false → IsAnswered host k → changes host k (entry_after host k ask) ≡ true → new.host ≡ host → IsAfter new (heard host k ask ∷ k)
    → IsBehind host new (entry_after host k ask ∷ k)
behind-ask host new k ask other answered changed home after =
    let e : Entry = entry_after host k ask in
    let all : IsAnswered host (e ∷ k) = (refl, changed, answered) in
    let here : IsAfter new (e ∷ k) = subst (λ (x : Entry). IsAfter new (x ∷ k)) (heard-whole host k ask answered) after in
    let now = whole-clock host new (e ∷ k) home all here in
    record {
      home = home;
      answered = all;
      lists = subst (λ (l : List Entry). IsAfter new l)
          (sym (ap (with_moment host new.moment) (up_to-ask e k other) ∙ ap (λ m. with_moment host m (e ∷ k)) now ∙ with_moment-stays host (e ∷ k))) here;
      within = omega arith;
    }

-- ---- what they answer

pub behind-answer : (host : List ℕ) (st : State) (k : List Entry) (ask : Ask) (clock : ℕ) → IsBehind host st k → st.moment ≡ clock
    → answer st.host (behind_list host st k) ask ≡ answer_kept host (with_moment host clock (up_to_ask k)) ask
behind-answer host st k ask clock behind at =
    ap (λ h. answer_kept h (kept h (behind_list host st k)) ask) behind.home
    ∙ ap (λ l. answer_kept host l ask) (answered-kept host (behind_list host st k) (behind-answered host st k behind))
    ∙ ap (λ m. answer_kept host (with_moment host m (up_to_ask k)) ask) at
