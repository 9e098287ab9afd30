-- Entries with the answers after the kept entries before them.
use Rattle.std.proofs.Common.{◌≡◌, ℕ, List, [], ◌∷◌, Bool, true, false, refl, sym, ap, ◌∙◌, subst, arith}
use Rattle.std.specs.Prelude.{Option, Some, None, if◌then◌else◌, nat_lt, unwrap_or}
use Rattle.std.specs.Option.{option_or}
use Rattle.std.proofs.lemmas.Bool.{le-ltb}
use mathlib.Core.Logic.{inl}
use Rattle.ocm_entry.specs.declared.asks.Ask.{Ask}
use Rattle.ocm_entry.specs.declared.asks.Ask.TheVariants as asks
use Rattle.ocm_entry.specs.declared.replies.Reply.{Reply}
use Rattle.ocm_entry.specs.declared.entries.Entry.{Entry}
use Rattle.ocm_rules.specs.Numbers.{latest}
use Rattle.ocm_rules.specs.Views.{View}
use Rattle.ocm_rules.specs.Messages.{view_of}
use Rattle.ocm_rules.specs.Answers.{reply_in}
use Rattle.ocm_rules.specs.Shares.{clock_of, moment}
use Rattle.ocm_entry.specs.Ticks.{is_tick, is_tick as is_stamped_tick}
use Rattle.ocm_rules.specs.History.{kept, answer_kept, changes, changes_in, IsAnswered, IsLegal}
use Rattle.ocm_law_lean.proofs.Thin.{of_tick}
use Rattle.ocm_law_sessions.specs.Readings.{entry_after, with_change, with_ask, with_moment}

-- ---- the entry of an ask

-- an entry with the answer is the one of its ask
pub entry_after-answered : (host : List ℕ) (k : List Entry) (e : Entry) → e.reply ≡ answer_kept host k e.ask → entry_after host k e.ask ≡ e
entry_after-answered host k e answered = let own : (reply : Reply) → Entry = λ reply. record { ask = e.ask; reply = reply } in ap own (sym answered)

-- a history goes on by an ask whose entry changes something
pub with_ask-changes : (host : List ℕ) (k : List Entry) (e : Entry) → e.reply ≡ answer_kept host k e.ask → changes host k e ≡ true → with_ask host e.ask k ≡ Some (e ∷ k)
with_ask-changes host k e answered ch = ap (λ x. with_change host x k) (entry_after-answered host k e answered) ∙ by_test (changes host k e) ch
  where
    nothing : Option (List Entry)
    nothing = None

    by_test : (b : Bool) → b ≡ true → (if b then Some (e ∷ k) else nothing) ≡ Some (e ∷ k)
    by_test true h = refl
    by_test false h = absurd (cc)

-- where a history goes on by an ask, its entry changes something and stands before the others
pub with_ask-gives : (host : List ℕ) (ask : Ask) (k now : List Entry) → with_ask host ask k ≡ Some now → (changes host k (entry_after host k ask) ≡ true) × (entry_after host k ask ∷ k ≡ now)
with_ask-gives host ask k now h = by_test (changes host k (entry_after host k ask)) refl h
  where
    nothing : Option (List Entry)
    nothing = None

    by_test : (b : Bool) → changes host k (entry_after host k ask) ≡ b → (if b then Some (entry_after host k ask ∷ k) else nothing) ≡ Some now
        → (changes host k (entry_after host k ask) ≡ true) × (entry_after host k ask ∷ k ≡ now)
    by_test true is g = (is, cc)
    by_test false is g = absurd (cc)

-- ---- answered lists

-- of entries that each change something, all are kept
pub answered-kept : (host : List ℕ) (l : List Entry) → IsAnswered host l → kept host l ≡ l
answered-kept host [] answered = refl
answered-kept host (e ∷ before) answered =
    ap (λ l. if changes host l e then e ∷ l else l) (answered-kept host before answered.2) ∙ ap (λ b. if b then e ∷ before else before) answered.1

-- they are a legal history
pub answered-legal : (host : List ℕ) (l : List Entry) → IsAnswered host l → IsLegal host l
answered-legal host [] answered = tt
answered-legal host (e ∷ before) answered =
    (inl (answered.0 ∙ ap (λ l. answer_kept host l e.ask) (sym (answered-kept host before answered.2))), answered-legal host before answered.2)

-- ---- ticks

-- what a record takes for a tick is one
pub same_tick : (ask : Ask) → is_stamped_tick ask ≡ is_tick ask
same_tick (asks.Tick clock) = refl
same_tick _ = refl

-- what the last tick of these kept entries tells
abbrev pub clocks : List Entry → Option ℕ
clocks k = latest (λ (e : Entry). clock_of e.ask) k

-- a tick is that of the moment after it
pub tick-is : (ask : Ask) (o : Option ℕ) → is_tick ask ≡ true → asks.Tick (unwrap_or (option_or (clock_of ask) o) 0) ≡ ask
tick-is ask o is = of_tick (λ a. asks.Tick (unwrap_or (option_or (clock_of a) o) 0) ≡ a) (λ clock. refl) ask is

-- another ask tells no clock
other-clock : (ask : Ask) → is_tick ask ≡ false → clock_of ask ≡ None
other-clock (asks.Tick clock) is = absurd (cc)
other-clock _ is = refl

-- the moment at another ask is that before it
pub moment-other : (e : Entry) (k : List Entry) → is_tick e.ask ≡ false → moment (e ∷ k) ≡ moment k
moment-other e k is = ap (λ c. unwrap_or (option_or c (clocks k)) 0) (other-clock e.ask is)

-- a tick that changes something is above the moment before it
tick-above : (v : View) (ask : Ask) (reply : Reply) (o : Option ℕ) → is_tick ask ≡ true → reply ≡ reply_in v ask → changes_in v ask reply ≡ true → nat_lt v.moment (unwrap_or (option_or (clock_of ask) o) 0) ≡ true
tick-above v ask reply o is = of_tick (λ a. reply ≡ reply_in v a → changes_in v a reply ≡ true → nat_lt v.moment (unwrap_or (option_or (clock_of a) o) 0) ≡ true)
    (λ clock done_so ch. let P : Reply → Type 0 = λ r. changes_in v (asks.Tick clock) r ≡ true in subst P done_so ch) ask is

pub tick-later : (host : List ℕ) (k : List Entry) (e : Entry) → is_tick e.ask ≡ true → e.reply ≡ answer_kept host k e.ask → changes host k e ≡ true → nat_lt (moment k) (moment (e ∷ k)) ≡ true
tick-later host k e is answered ch = tick-above (view_of host k) e.ask e.reply (clocks k) is answered ch

-- ---- the moment so far

pub not-above : (n : ℕ) → nat_lt n n ≡ false
not-above n = le-ltb n n (omega arith)

-- where a moment is not above that of the kept entries, they stay
pub with_moment-stays : (host : List ℕ) (k : List Entry) → with_moment host (moment k) k ≡ k
with_moment-stays host k = ap (λ b. if b then entry_after host k (asks.Tick (moment k)) ∷ k else k) (not-above (moment k))

-- a tick that changes something is the one of its moment
pub with_moment-tick : (host : List ℕ) (k : List Entry) (e : Entry) → is_tick e.ask ≡ true → e.reply ≡ answer_kept host k e.ask → changes host k e ≡ true → with_moment host (moment (e ∷ k)) k ≡ e ∷ k
with_moment-tick host k e is answered ch =
    ap (λ b. if b then entry_after host k (asks.Tick (moment (e ∷ k))) ∷ k else k) (tick-later host k e is answered ch)
    ∙ ap (λ a. entry_after host k a ∷ k) (tick-is e.ask (clocks k) is)
    ∙ ap (λ x. x ∷ k) (entry_after-answered host k e answered)
