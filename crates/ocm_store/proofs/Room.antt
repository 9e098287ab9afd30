-- Whether a change fits into an area, by the size that its memory tells.
use Rattle.std.proofs.Common.{◌≡◌, ℕ, ◌+◌, ◌<◌, ◌≤◌, ◌^◌, List, ◌∷◌, length, min, Bool, true, false, sym, ap, ◌∙◌, arith}
use Rattle.std.specs.Prelude.{if◌then◌else◌}
use Rattle.std.proofs.lemmas.Bool.Decides.{nat_tests}
use Rattle.ocm_entry.specs.declared.asks.Ask.{Ask}
use Rattle.ocm_entry.specs.declared.entries.Entry.{Entry}
use Rattle.ocm_history_records.specs.declared.drafts.Draft.{Draft}
use Rattle.ocm_history.specs.declared.histories.History.{History}
use Rattle.ocm_history.specs.Changes.{FitsInto, IsChange}
use Rattle.ocm_history.specs.Histories.{home_of}
use Rattle.ocm_history_records.specs.Kept.{IsBound, is_tick_record}
use Rattle.ocm_history_records.proofs.Leaning.{is_tick-record}
use Rattle.ocm_history.proofs.Memories.{change-would}
use Rattle.ocm_law_lean.proofs.Thin.{is_tick-kept}
use Rattle.ocm_law_sessions.specs.Sessions.{fits, heard, lean_size}
use Rattle.ocm_law_sessions.specs.Written.{asks_size, ends_with_tick}
use Rattle.ocm_law_sessions.proofs.Replying.{kept-changed}
use Rattle.ocm_law_sessions.proofs.Sizes.{records-size}
use Rattle.ocm_plan.specs.Plans.{Plan}
use Rattle.ocm_rules.specs.History.{kept}
use Rattle.ocm_rules.specs.Lean.{emptied_among, lean, still_stands, without_passed_ticks}
use Rattle.ocm_entry.specs.Ticks.{is_tick}

ends-lean : (host : List ℕ) (k : List Entry) (e : Entry) → ends_with_tick (without_passed_ticks false (emptied_among host (e ∷ k) (e ∷ k))) ≡ is_tick e.ask
ends-lean host k e = is_tick-kept (still_stands host (e ∷ k) (length k + 1)) e.ask

module _ (history : History) (g : List Entry) (ask : Ask) (plan : Plan) (form : ℕ) (draft : Draft) (change : IsChange history g ask plan form draft) where
  tick : is_tick_record draft.newest ≡ is_tick ask
  tick = ap is_tick_record change.drafted.memory ∙ is_tick-record _ ask

  -- the lean list takes the records of asks and the rest
  size-is : lean_size (home_of history) (heard (home_of history) g ask ∷ g) ≡ asks_size (lean (home_of history) (heard (home_of history) g ask ∷ g)) + (if is_tick_record draft.newest then 15 else 2)
  size-is =
      let size = records-size (lean (home_of history) (heard (home_of history) g ask ∷ g)) in
      let ends : ends_with_tick (lean (home_of history) (heard (home_of history) g ask ∷ g)) ≡ is_tick_record draft.newest =
      ap (λ k. ends_with_tick (without_passed_ticks false (emptied_among (home_of history) k k))) (kept-changed (home_of history) g ask (change-would history g ask plan form draft change))
      ∙ ends-lean (home_of history) (kept (home_of history) g) (heard (home_of history) g ask) ∙ sym tick in
      by_tick _ _ (is_tick_record draft.newest) (size ∙ ap (λ b. asks_size (lean (home_of history) (heard (home_of history) g ask ∷ g)) + (if b then 13 else 0)) ends)
    where
      by_tick : (n m : ℕ) (b : Bool) → n ≡ m + (if b then 13 else 0) → 2 + n ≡ m + (if b then 15 else 2)
      by_tick n m true h = omega arith
      by_tick n m false h = omega arith

  -- what is counted to fit does
  pub counted-fits : (area size rest sum : ℕ) → area ≤ 2 ^ 38 → IsBound size (asks_size (lean (home_of history) (heard (home_of history) g ask ∷ g))) → rest ≡ (if is_tick_record draft.newest then 15 else 2)
      → sum ≡ min (size + rest) 18446744073709551615 → sum ≤ area → FitsInto area history g ask
  counted-fits area size rest sum few bound rest_is sum_is below = let is = size-is in grind (arith, nat_tests)

  -- and what is counted not to fit does not
  pub counted-full : (area size rest sum : ℕ) → area ≤ 2 ^ 38
      → (area < size + (if is_tick_record draft.newest then 15 else 2) → size ≡ min (asks_size (lean (home_of history) (heard (home_of history) g ask ∷ g))) 18446744073709551615)
      → rest ≡ (if is_tick_record draft.newest then 15 else 2) → sum ≡ min (size + rest) 18446744073709551615 → area < sum → fits (home_of history) area g ask ≡ false
  counted-full area size rest sum few exact rest_is sum_is over =
      let is = size-is in
      let beyond : area < size + (if is_tick_record draft.newest then 15 else 2) = omega arith in
      let counted = exact beyond in
      grind (arith, nat_tests)
