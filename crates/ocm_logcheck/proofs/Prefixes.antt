-- The prefixes of a list, by how many of their entries are no tick.
use Rattle.std.proofs.Common.{◌≡◌, ℕ, ◌+◌, ◌<◌, ◌≤◌, List, [], ◌∷◌, ◌++◌, Bool, true, false, refl, sym, ap, ◌∙◌, arith, Option, Some, None}
use Rattle.std.specs.Prelude.{if◌then◌else◌, nat_eq, not, unwrap_or, count_by}
use Rattle.std.specs.Option.{option_or}
use Rattle.std.proofs.lemmas.Bool.Decides.{nat_tests}
use mathlib.Core.Logic.{inl, inr}
use Rattle.ocm_entry.specs.declared.entries.Entry.{Entry}
use Rattle.ocm_rules.specs.History.{IsAnswered}
use Rattle.ocm_rules.specs.Lean.{count}
use Rattle.ocm_entry.specs.Ticks.{is_tick}
use Rattle.ocm_rules.specs.Shares.{moment}
use Rattle.ocm_rules.proofs.Lists.{count_by-cons}
use Rattle.ocm_law_sessions.proofs.Entries.{answered-kept, moment-other}
use Rattle.ocm_access_log.specs.Truth.{end_of, if_counts, prefix_at}
use Rattle.ocm_logcheck.specs.Steps.{up_to_ask}
use Rattle.ocm_logcheck.specs.Replays.{IsOver}

-- ---- one entry more

abbrev counted : Entry → Bool
counted e = not (is_tick e.ask)

count-next : (host : List ℕ) (e : Entry) (k : List Entry) → IsAnswered host (e ∷ k) → count host (e ∷ k) ≡ (if not (is_tick e.ask) then count host k + 1 else count host k)
count-next host e k answered =
    ap (λ l. count_by counted l) (answered-kept host (e ∷ k) answered)
    ∙ count_by-cons counted e k
    ∙ ap (λ n. if counted e then n + 1 else n) (ap (λ l. count_by counted l) (sym (answered-kept host k answered.2)))

-- a tick leaves the count, and another ask adds one to it
pub count-tick : (host : List ℕ) (e : Entry) (k : List Entry) → IsAnswered host (e ∷ k) → is_tick e.ask ≡ true → count host (e ∷ k) ≡ count host k
count-tick host e k answered is = count-next host e k answered ∙ ap (λ b. if not b then count host k + 1 else count host k) is

pub count-ask : (host : List ℕ) (e : Entry) (k : List Entry) → IsAnswered host (e ∷ k) → is_tick e.ask ≡ false → count host (e ∷ k) ≡ count host k + 1
count-ask host e k answered is = count-next host e k answered ∙ ap (λ b. if not b then count host k + 1 else count host k) is

count-grows : (host : List ℕ) (e : Entry) (k : List Entry) → IsAnswered host (e ∷ k) → count host k ≤ count host (e ∷ k)
count-grows host e k answered = by_test (is_tick e.ask) refl
  where
    by_test : (b : Bool) → is_tick e.ask ≡ b → count host k ≤ count host (e ∷ k)
    by_test true is = let same = count-tick host e k answered is in omega arith
    by_test false is = let more = count-ask host e k answered is in omega arith

pub up_to-ask : (e : Entry) (k : List Entry) → is_tick e.ask ≡ false → up_to_ask (e ∷ k) ≡ e ∷ k
up_to-ask e k is = ap (λ b. if b then up_to_ask k else e ∷ k) is

-- ---- prefixes

counted-own : (host : List ℕ) (k : List Entry) → if_counts host (count host k) k ≡ Some k
counted-own host k = let own : nat_eq (count host k) (count host k) ≡ true = grind (arith, nat_tests) in rw own refl

counted-less : (host : List ℕ) (place : ℕ) (k : List Entry) → count host k < place → if_counts host place k ≡ None
counted-less host place k less = let other : nat_eq (count host k) place ≡ false = grind (arith, nat_tests) in rw other refl

-- no prefix has a place above the count
pub prefix-above : (host : List ℕ) (place : ℕ) (k : List Entry) → IsAnswered host k → count host k < place → prefix_at host place k ≡ None
prefix-above host place [] answered above = counted-less host place [] above
prefix-above host place (e ∷ before) answered above =
    ap (λ o. option_or o (if_counts host place (e ∷ before))) (prefix-above host place before answered.2 (let grows = count-grows host e before answered in omega arith))
    ∙ counted-less host place (e ∷ before) above

-- the shortest prefix with the count ends with the newest ask that is no tick
pub prefix-own : (host : List ℕ) (k : List Entry) → IsAnswered host k → prefix_at host (count host k) k ≡ Some (up_to_ask k)
prefix-own host [] answered = counted-own host []
prefix-own host (e ∷ before) answered = by_test (prefix-own host before answered.2) (is_tick e.ask) refl
  where
    here : ℕ → Option (List Entry)
    here n = if_counts host n (e ∷ before)

    by_test : prefix_at host (count host before) before ≡ Some (up_to_ask before) → (b : Bool) → is_tick e.ask ≡ b → prefix_at host (count host (e ∷ before)) (e ∷ before) ≡ Some (if b then up_to_ask before else e ∷ before)
    by_test older true is =
        ap (λ n. option_or (prefix_at host n before) (here n)) (count-tick host e before answered is)
        ∙ ap (λ o. option_or o (here (count host before))) older
    by_test older false is =
        ap (λ o. option_or o (here (count host (e ∷ before))))
        (prefix-above host (count host (e ∷ before)) before answered.2 (let more = count-ask host e before answered is in omega arith))
        ∙ counted-own host (e ∷ before)

-- a prefix stays where more follows
pub prefix-later : (host : List ℕ) (place : ℕ) (later k q : List Entry) → prefix_at host place k ≡ Some q → prefix_at host place (later ++ k) ≡ Some q
prefix-later host place [] k q is = is
prefix-later host place (e ∷ later) k q is = ap (λ o. option_or o (if_counts host place (e ∷ (later ++ k)))) (prefix-later host place later k q is)

-- ---- where a place is over

-- the newest place of these kept entries, in a list that may come of them once it is over
pub record Ends (host : List ℕ) (k end : List Entry) : Type 0 where
  pub begins : prefix_at host (count host k) end ≡ Some (up_to_ask k)
  pub over : moment (end_of host (count host k) end) ≡ moment k

pub over-ends : (host : List ℕ) (k end : List Entry) → IsAnswered host k → IsOver host k end → Ends host k end
over-ends host k end answered (inl same) = record {
  begins = ap (prefix_at host (count host k)) same ∙ prefix-own host k answered;
  over = ap (λ l. moment (unwrap_or (prefix_at host (count host k + 1) l) l)) same ∙ ap (λ o. moment (unwrap_or o k)) (prefix-above host (count host k + 1) k answered (omega arith));
}
over-ends host k end answered (inr (e, other, more, later)) = record {
  begins =
      ap (prefix_at host (count host k)) later.1
      ∙ prefix-later host (count host k) later.0 (e ∷ k) (up_to_ask k) (ap (λ o. option_or o (if_counts host (count host k) (e ∷ k))) (prefix-own host k answered));
  over =
      ap (λ o. moment (unwrap_or o end)) (ap (prefix_at host (count host k + 1)) later.1 ∙ prefix-later host (count host k + 1) later.0 (e ∷ k) (e ∷ k) next)
      ∙ moment-other e k other;
}
  where
    next : prefix_at host (count host k + 1) (e ∷ k) ≡ Some (e ∷ k)
    next = ap (λ n. prefix_at host n (e ∷ k)) (sym (count-ask host e k more other)) ∙ prefix-own host (e ∷ k) more ∙ ap (λ l. Some l) (up_to-ask e k other)
