use Rattle.std.proofs.Common.{◌≡◌, ℕ, ◌+◌, List, [], ◌∷◌, length, Bool, true, false, refl, sym, ap, ◌∙◌}
use Rattle.std.specs.Prelude.{Option, None, ◌&&◌, ◌||◌, unwrap_or}
use Rattle.std.specs.List.{list_any}
use Rattle.std.specs.Option.{option_or}
use Rattle.ocm_types.specs.declared.rights.Rights.{Rights}
use Rattle.ocm_entry.specs.declared.asks.Ask.{Ask}
use Rattle.ocm_entry.specs.declared.replies.Reply.{Reply}
use Rattle.ocm_entry.specs.declared.entries.Entry.{Entry}
use Rattle.ocm_entry.specs.declared.rows.User.{User}
use Rattle.ocm_entry.specs.declared.rows.Share.{Share}
use Rattle.ocm_rules.specs.Numbers.{added, is_number, latest}
use Rattle.ocm_rules.specs.Users.{users, user_by}
use Rattle.ocm_rules.specs.Shares.{moment, clock_of, closed_by, is_closed, end_by, until, goes_on, is_live, is_live_among, limit_by, granted_to, perms_among, effective_among, share_by, made}
use Rattle.ocm_rules.specs.Holders.{root_among}
use Rattle.ocm_rules.specs.Files.{act_by, act_after}
use Rattle.ocm_rules.specs.History.{kept}
use Rattle.ocm_rules.specs.Lean.{emptied_unless, still_stands, lean}
use Rattle.ocm_entry.specs.Ticks.{is_tick}
use Rattle.ocm_law_lean.proofs.Thin.{kept_ask, thin_cons, thin, same_kept, of_tick, thin-read, thin-among}

-- ---- users

abbrev user_step : Ask → Reply → List User → List User
user_step ask reply us = added us (user_by ask reply)

pub thin-users : (keep : ℕ → Bool) (first : Bool) (l : List Entry) → users (thin keep first l) ≡ users l
thin-users keep first l =
    thin-read users user_step (λ ask reply l. refl)
    (λ keeps ask reply us. same_kept (λ a. user_step a reply us) (λ secret path body. refl) keeps ask)
    (λ ask reply us is. of_tick (λ a. user_step a reply us ≡ us) (λ clock. refl) ask is) keep first l

-- ---- what the newest entry tells that tells anything

pub thin-latest : {Y : Type 0} (tells : Ask → Option Y) → ((keeps : Bool) (ask : Ask) → tells (kept_ask keeps ask) ≡ tells ask) → ((ask : Ask) → is_tick ask ≡ true → tells ask ≡ None)
    → (keep : ℕ → Bool) (first : Bool) (l : List Entry) → latest (λ (e : Entry). tells e.ask) (thin keep first l) ≡ latest (λ (e : Entry). tells e.ask) l
thin-latest tells bodies ticks keep first l =
    thin-read (latest (λ (e : Entry). tells e.ask)) (λ ask reply x. option_or (tells ask) x) (λ ask reply l. refl)
    (λ keeps ask reply x. ap (λ o. option_or o x) (bodies keeps ask))
    (λ ask reply x is. ap (λ o. option_or o x) (ticks ask is)) keep first l

pub thin-any : (tells : Ask → Bool) → ((keeps : Bool) (ask : Ask) → tells (kept_ask keeps ask) ≡ tells ask) → ((ask : Ask) → is_tick ask ≡ true → tells ask ≡ false)
    → (keep : ℕ → Bool) (first : Bool) (l : List Entry) → list_any (λ (e : Entry). tells e.ask) (thin keep first l) ≡ list_any (λ (e : Entry). tells e.ask) l
thin-any tells bodies ticks keep first l =
    thin-read (list_any (λ (e : Entry). tells e.ask)) (λ ask reply x. tells ask || x) (λ ask reply l. refl)
    (λ keeps ask reply x. ap (λ o. o || x) (bodies keeps ask))
    (λ ask reply x is. ap (λ o. o || x) (ticks ask is)) keep first l

pub thin-perms : (ms : List Share) (i : ℕ) (keep : ℕ → Bool) (first : Bool) (l : List Entry) → perms_among ms (thin keep first l) i ≡ perms_among ms l i
thin-perms ms i keep first l =
    ap (λ o. unwrap_or o (granted_to ms i))
    (thin-latest (limit_by i) (λ keeps ask. same_kept (limit_by i) (λ secret path body. refl) keeps ask) (λ ask is. of_tick (λ a. limit_by i a ≡ None) (λ clock. refl) ask is) keep first l)

-- ---- shares

abbrev share_step : List ℕ → List User → List Share → (ℕ → Rights) → Ask → List Share
share_step host us ms perms ask = added ms (share_by host us ms (effective_among ms perms) ask)

pub thin-made : (host : List ℕ) (keep : ℕ → Bool) (first : Bool) (l : List Entry) → made host (thin keep first l) ≡ made host l
thin-made host keep first [] = refl
thin-made host keep first (e ∷ before) = cases (thin-made host keep (is_tick e.ask) before) first (is_tick e.ask) refl
  where
    keeps : Bool
    keeps = keep (length before + 1)

    rest : List Entry
    rest = thin keep (is_tick e.ask) before

    same_perms : perms_among (made host before) rest ≡ perms_among (made host before) before
    same_perms = λ at_i i. thin-perms (made host before) i keep (is_tick e.ask) before at_i

    stays : made host rest ≡ made host before → made host (emptied_unless keeps e ∷ rest) ≡ made host (e ∷ before)
    stays older =
        ap (λ ms. share_step host (users rest) ms (perms_among ms rest) (kept_ask keeps e.ask)) older
        ∙ ap (λ us. share_step host us (made host before) (perms_among (made host before) rest) (kept_ask keeps e.ask)) (thin-users keep (is_tick e.ask) before)
        ∙ ap (λ p. share_step host (users before) (made host before) p (kept_ask keeps e.ask)) same_perms
        ∙ same_kept (λ a. share_step host (users before) (made host before) (perms_among (made host before) before) a) (λ secret path body. refl) keeps e.ask

    cases : made host rest ≡ made host before → (f b : Bool) → is_tick e.ask ≡ b → made host (thin_cons (f && b) (emptied_unless keeps e) rest) ≡ made host (e ∷ before)
    cases older true true is = older ∙ sym (of_tick (λ a. share_step host (users before) (made host before) (perms_among (made host before) before) a ≡ made host before) (λ clock. refl) e.ask is)
    cases older true false is = stays older
    cases older false b is = stays older

-- the same is done to files
pub thin-act : (host : List ℕ) (keep : ℕ → Bool) (first : Bool) (l : List Entry) (ask : Ask) → act_after host (thin keep first l) ask ≡ act_after host l ask
thin-act host keep first l ask =
    ap (λ us. act_by (root_among us (made host (thin keep first l))) ask) (thin-users keep first l) ∙ ap (λ ms. act_by (root_among (users l) ms) ask) (thin-made host keep first l)

-- ---- the time, and what goes on

abbrev clocked : Entry → Option ℕ
clocked e = clock_of e.ask

clock_of-kept : (keeps : Bool) (ask : Ask) → clock_of (kept_ask keeps ask) ≡ clock_of ask
clock_of-kept keeps ask = same_kept clock_of (λ secret path body. refl) keeps ask

some_clock : (x y : Option ℕ) (ask : Ask) → is_tick ask ≡ true → option_or (clock_of ask) x ≡ option_or (clock_of ask) y
some_clock x y ask is = of_tick (λ a. option_or (clock_of a) x ≡ option_or (clock_of a) y) (λ clock. refl) ask is

thin-clock : (keep : ℕ → Bool) (l : List Entry) → latest clocked (thin keep false l) ≡ latest clocked l
thin-clock keep [] = refl
thin-clock keep (e ∷ before) = cases (thin-clock keep before) (is_tick e.ask) refl
  where
    keeps : Bool
    keeps = keep (length before + 1)

    cases : latest clocked (thin keep false before) ≡ latest clocked before → (b : Bool) → is_tick e.ask ≡ b → option_or (clock_of (kept_ask keeps e.ask)) (latest clocked (thin keep b before)) ≡ option_or (clock_of e.ask) (latest clocked before)
    cases older true is =
        ap (λ o. option_or o (latest clocked (thin keep true before))) (clock_of-kept keeps e.ask)
        ∙ some_clock (latest clocked (thin keep true before)) (latest clocked before) e.ask is
    cases older false is =
        ap (λ o. option_or o (latest clocked (thin keep false before))) (clock_of-kept keeps e.ask) ∙ ap (λ x. option_or (clock_of e.ask) x) older

pub thin-moment : (keep : ℕ → Bool) (l : List Entry) → moment (thin keep false l) ≡ moment l
thin-moment keep l = ap (λ o. unwrap_or o 0) (thin-clock keep l)

pub thin-goes_on : (keep : ℕ → Bool) (l : List Entry) (i : ℕ) → goes_on (thin keep false l) i ≡ goes_on l i
thin-goes_on keep l i = rw (closes, ends, thin-moment keep l) refl
  where
    closes : is_closed (thin keep false l) i ≡ is_closed l i
    closes = thin-any (λ a. is_number i (closed_by a)) (λ keeps ask. same_kept (λ a. is_number i (closed_by a)) (λ secret path body. refl) keeps ask) (λ ask is. of_tick (λ a. is_number i (closed_by a) ≡ false) (λ clock. refl) ask is) keep false l

    ends : until (thin keep false l) i ≡ until l i
    ends = thin-latest (end_by i) (λ keeps ask. same_kept (end_by i) (λ secret path body. refl) keeps ask) (λ ask is. of_tick (λ a. end_by i a ≡ None) (λ clock. refl) ask is) keep false l

pub thin-live : (host : List ℕ) (keep : ℕ → Bool) (l : List Entry) (i : ℕ) → is_live host (thin keep false l) i ≡ is_live host l i
thin-live host keep l i =
    ap (λ ms. is_live_among ms (goes_on (thin keep false l)) i) (thin-made host keep false l)
    ∙ (let on : goes_on (thin keep false l) ≡ goes_on l = λ at_i j. thin-goes_on keep l j at_i in ap (λ f. is_live_among (made host l) f i) on)

-- ---- of lean lists

pub lean-thin : (host : List ℕ) (g : List Entry) → lean host g ≡ thin (still_stands host (kept host g)) false (kept host g)
lean-thin host g = thin-among host (kept host g) false (kept host g)

pub made-lean : (host : List ℕ) (g : List Entry) → made host (lean host g) ≡ made host (kept host g)
made-lean host g = ap (λ l. made host l) (lean-thin host g) ∙ thin-made host (still_stands host (kept host g)) false (kept host g)

pub live-lean : (host : List ℕ) (g : List Entry) (i : ℕ) → is_live host (lean host g) i ≡ is_live host (kept host g) i
live-lean host g i = ap (λ l. is_live host l i) (lean-thin host g) ∙ thin-live host (still_stands host (kept host g)) (kept host g) i

pub made-same : (host : List ℕ) (g other : List Entry) → lean host g ≡ lean host other → made host (kept host g) ≡ made host (kept host other)
made-same host g other same = sym (made-lean host g) ∙ ap (λ l. made host l) same ∙ made-lean host other

pub live-same : (host : List ℕ) (g other : List Entry) (i : ℕ) → lean host g ≡ lean host other → is_live host (kept host g) i ≡ is_live host (kept host other) i
live-same host g other i same = sym (live-lean host g i) ∙ ap (λ l. is_live host l i) same ∙ live-lean host other i
