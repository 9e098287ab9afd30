use Rattle.std.proofs.Common.{◌≡◌, ℕ, ◌+◌, List, [], ◌∷◌, length, Bool, true, false, refl, sym, ap, ◌∙◌}
use Rattle.std.specs.Prelude.{◌&&◌, not, if◌then◌else◌, count_by}
use Rattle.ocm_entry.specs.declared.asks.Ask.{Ask}
use Rattle.ocm_entry.specs.declared.asks.Ask.TheVariants as asks
use Rattle.ocm_entry.specs.declared.asks.Method.TheVariants as methods
use Rattle.ocm_entry.specs.declared.replies.Reply.{Reply}
use Rattle.ocm_entry.specs.declared.entries.Entry.{Entry}
use Rattle.ocm_path.specs.Paths.{Segments}
use Rattle.ocm_rules.specs.History.{kept}
use Rattle.ocm_rules.specs.Lean.{count, without_body, emptied_unless, emptied_among, still_stands, unless_passed, without_passed_ticks, lean}
use Rattle.ocm_entry.specs.Ticks.{is_tick}
use Rattle.ocm_rules.proofs.Lists.{count_by-cons}

-- an ask, without its body unless that is kept
abbrev pub kept_ask : Bool → Ask → Ask
kept_ask keeps ask = if keeps then ask else without_body ask

-- one entry more, unless it is a tick that another followed at once
abbrev pub thin_cons : Bool → Entry → List Entry → List Entry
thin_cons passed e rest = if passed then rest else e ∷ rest

-- a list without the ticks that others follow at once, and without the bodies that are not kept, where a tick follows the first or not
abbrev pub thin : (ℕ → Bool) → Bool → List Entry → List Entry
thin keep first [] = []
thin keep first (e ∷ before) = thin_cons (first && is_tick e.ask) (emptied_unless (keep (length before + 1)) e) (thin keep (is_tick e.ask) before)

-- what is the same for a PUT with and without its body is the same for each ask
pub same_without : {X : Type 0} (f : Ask → X) → ((secret : List ℕ) (path : Segments) (body : List ℕ) → f (asks.Dav secret methods.Put path []) ≡ f (asks.Dav secret methods.Put path body)) → (ask : Ask) → f (without_body ask) ≡ f ask
same_without f h (asks.Dav secret methods.Put path body) = h secret path body
same_without f h _ = refl

pub same_kept : {X : Type 0} (f : Ask → X) → ((secret : List ℕ) (path : Segments) (body : List ℕ) → f (asks.Dav secret methods.Put path []) ≡ f (asks.Dav secret methods.Put path body)) → (keeps : Bool) (ask : Ask) → f (kept_ask keeps ask) ≡ f ask
same_kept f h true ask = refl
same_kept f h false ask = same_without f h ask

-- what holds of each tick
pub of_tick : (P : Ask → Type 0) → ((clock : ℕ) → P (asks.Tick clock)) → (ask : Ask) → is_tick ask ≡ true → P ask
of_tick P h (asks.Tick clock) is = h clock
of_tick P h _ is = absurd (cc)

-- emptying keeps ticks
pub is_tick-kept : (keeps : Bool) (ask : Ask) → is_tick (kept_ask keeps ask) ≡ is_tick ask
is_tick-kept keeps ask = same_kept is_tick (λ secret path body. refl) keeps ask

-- what is lean of a list is the thin list that keeps what stands
pub thin-among : (host : List ℕ) (g : List Entry) (first : Bool) (l : List Entry) → without_passed_ticks first (emptied_among host g l) ≡ thin (still_stands host g) first l
thin-among host g first [] = refl
thin-among host g first (e ∷ before) =
    let keeps : Bool = still_stands host g (length before + 1) in
    let same : is_tick (kept_ask keeps e.ask) ≡ is_tick e.ask = is_tick-kept keeps e.ask in
    let P : Bool → Type 0 = λ b. unless_passed first (emptied_unless keeps e) (without_passed_ticks b (emptied_among host g before)) ≡ thin_cons (first && b) (emptied_unless keeps e) (thin (still_stands host g) (is_tick e.ask) before) in
    rw (same, thin-among host g (is_tick e.ask) before) refl

-- what is read of a list, entry by entry, and neither of ticks nor of bodies
pub thin-read : {X : Type 0} (read : List Entry → X) (step : Ask → Reply → X → X)
    → ((ask : Ask) (reply : Reply) (l : List Entry) → read (record { ask = ask; reply = reply } ∷ l) ≡ step ask reply (read l))
    → ((keeps : Bool) (ask : Ask) (reply : Reply) (x : X) → step (kept_ask keeps ask) reply x ≡ step ask reply x)
    → ((ask : Ask) (reply : Reply) (x : X) → is_tick ask ≡ true → step ask reply x ≡ x)
    → (keep : ℕ → Bool) (first : Bool) (l : List Entry) → read (thin keep first l) ≡ read l
thin-read read step steps bodies ticks keep first [] = refl
thin-read read step steps bodies ticks keep first (e ∷ before) = cases (thin-read read step steps bodies ticks keep (is_tick e.ask) before) first (is_tick e.ask) refl
  where
    keeps : Bool
    keeps = keep (length before + 1)

    stays : (rest : List Entry) → read rest ≡ read before → read (emptied_unless keeps e ∷ rest) ≡ read (e ∷ before)
    stays rest older = steps (kept_ask keeps e.ask) e.reply rest ∙ bodies keeps e.ask e.reply (read rest) ∙ ap (λ x. step e.ask e.reply x) older ∙ sym (steps e.ask e.reply before)

    cases : read (thin keep (is_tick e.ask) before) ≡ read before → (f b : Bool) → is_tick e.ask ≡ b → read (thin_cons (f && b) (emptied_unless keeps e) (thin keep (is_tick e.ask) before)) ≡ read (e ∷ before)
    cases older true true is = older ∙ sym (ticks e.ask e.reply (read before) is) ∙ sym (steps e.ask e.reply before)
    cases older true false is = stays (thin keep (is_tick e.ask) before) older
    cases older false b is = stays (thin keep (is_tick e.ask) before) older

-- ---- the count

abbrev counted : Entry → Bool
counted e = not (is_tick e.ask)

abbrev counts : Ask → Reply → ℕ → ℕ
counts ask reply n = if not (is_tick ask) then n + 1 else n

pub thin-count : (keep : ℕ → Bool) (first : Bool) (l : List Entry) → count_by counted (thin keep first l) ≡ count_by counted l
thin-count keep first l =
    thin-read (count_by counted) counts (λ ask reply l. count_by-cons counted (record { ask = ask; reply = reply }) l)
    (λ keeps ask reply n. ap (λ b. if not b then n + 1 else n) (is_tick-kept keeps ask))
    (λ ask reply n is. rw is refl) keep first l

pub lean-count : (host : List ℕ) (g : List Entry) → count host g ≡ count_by counted (lean host g)
lean-count host g = sym (ap (λ l. count_by counted l) (thin-among host (kept host g) false (kept host g)) ∙ thin-count (still_stands host (kept host g)) false (kept host g))

pub count-same : (host : List ℕ) (g other : List Entry) → lean host g ≡ lean host other → count host g ≡ count host other
count-same host g other same = lean-count host g ∙ ap (λ l. count_by counted l) same ∙ sym (lean-count host other)
