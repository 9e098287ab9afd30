-- How what is kept of a history grows, entry by entry.
use Rattle.std.proofs.Common.{◌≡◌, ℕ, ◌<◌, ◌≤◌, List, [], ◌∷◌, ◌++◌, Bool, true, false, refl, subst, arith}
use Rattle.std.specs.Prelude.{Option, if◌then◌else◌, nat_lt, unwrap_or}
use Rattle.std.specs.Option.{option_or}
use Rattle.std.proofs.lemmas.Bool.{ltb-true}
use Rattle.std.proofs.lemmas.List.{append-nil}
use Rattle.ocm_entry.specs.declared.asks.Ask.{Ask}
use Rattle.ocm_entry.specs.declared.asks.Ask.TheVariants as asks
use Rattle.ocm_entry.specs.declared.entries.Entry.{Entry}
use Rattle.ocm_entry.specs.declared.replies.Reply.{Reply}
use Rattle.ocm_entry.specs.declared.replies.Reply.TheVariants.{Done}
use Rattle.ocm_rules.specs.History.{kept, changes, changes_in}
use Rattle.ocm_entry.specs.Ticks.{is_tick}
use Rattle.ocm_rules.specs.Messages.{view_of}
use Rattle.ocm_rules.specs.Shares.{clock_of, moment}
use Rattle.ocm_rules.specs.Views.{View}
use Rattle.ocm_rules.proofs.Kept.{kept-kept}
use Rattle.ocm_law_lean.proofs.Thin.{of_tick}
use Rattle.ocm_law_sessions.proofs.Entries.{clocks, moment-other}

-- an entry is kept, after entries that are all kept
abbrev pub IsKept : List ℕ → Entry → List Entry → Type 0
IsKept host e l = (kept host l ≡ l) × (changes host l e ≡ true)

-- what stays with each kept entry more
abbrev pub Stays : List ℕ → (List Entry → Type 0) → Type 0
Stays host P = (e : Entry) (l : List Entry) → IsKept host e l → P l → P (e ∷ l)

-- it holds of what is kept of a later history
pub grown : (P : List Entry → Type 0) (host : List ℕ) (later g : List Entry) → Stays host P → P (kept host g) → P (kept host (later ++ g))
grown P host [] g step first = first
grown P host (e ∷ later) g step first = cases (grown P host later g step first) (changes host (kept host (later ++ g)) e) refl
  where
    cases : P (kept host (later ++ g)) → (b : Bool) → changes host (kept host (later ++ g)) e ≡ b → P (if b then e ∷ kept host (later ++ g) else kept host (later ++ g))
    cases older true ch = step e (kept host (later ++ g)) (kept-kept host (later ++ g), ch) older
    cases older false ch = older

-- and of what is kept of any, where it holds of nothing
pub of_kept : (P : List Entry → Type 0) (host : List ℕ) (g : List Entry) → Stays host P → P [] → P (kept host g)
of_kept P host g step first = let Q : List Entry → Type 0 = λ l. P (kept host l) in subst Q (append-nil g) (grown P host g [] step first)

-- ---- moments

tick-rises : (v : View) (ask : Ask) (reply : Reply) (o : Option ℕ) → is_tick ask ≡ true → changes_in v ask reply ≡ true → (reply ≡ Done) × (nat_lt v.moment (unwrap_or (option_or (clock_of ask) o) 0) ≡ true)
tick-rises v ask reply o is = of_tick (λ a. changes_in v a reply ≡ true → (reply ≡ Done) × (nat_lt v.moment (unwrap_or (option_or (clock_of a) o) 0) ≡ true)) (λ clock. by_reply clock reply) ask is
  where
    by_reply : (clock : ℕ) (r : Reply) → changes_in v (asks.Tick clock) r ≡ true → (r ≡ Done) × (nat_lt v.moment clock ≡ true)
    by_reply clock Done ch = (refl, ch)
    by_reply clock _ ch = absurd (cc)

-- a tick that is kept was done, and is above the moment before it
pub kept-tick : (host : List ℕ) (e : Entry) (l : List Entry) → IsKept host e l → is_tick e.ask ≡ true → (e.reply ≡ Done) × (moment l < moment (e ∷ l))
kept-tick host e l is tick = let rises = tick-rises (view_of host l) e.ask e.reply (clocks l) tick is.1 in (rises.0, ltb-true (moment l) (moment (e ∷ l)) rises.1)

-- no moment is below the one before
pub moment-grows : (host : List ℕ) (e : Entry) (l : List Entry) → IsKept host e l → moment l ≤ moment (e ∷ l)
moment-grows host e l is = cases (is_tick e.ask) refl
  where
    cases : (b : Bool) → is_tick e.ask ≡ b → moment l ≤ moment (e ∷ l)
    cases true tick = let rises = kept-tick host e l is tick in let above = rises.1 in omega arith
    cases false other = let same = moment-other e l other in omega arith
