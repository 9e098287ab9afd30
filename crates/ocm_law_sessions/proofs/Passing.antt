-- Ticks that others follow at once have no records of their own.
use Rattle.std.proofs.Common.{◌≡◌, ℕ, List, [], ◌∷◌, ◌++◌, Bool, true, false, refl, ap, ◌∙◌}
use Rattle.std.specs.Prelude.{if◌then◌else◌, ◌&&◌, unwrap_or}
use Rattle.std.specs.Option.{option_or}
use Rattle.ocm_entry.specs.declared.entries.Entry.{Entry}
use Rattle.ocm_rules.specs.Shares.{clock_of, moment}
use Rattle.ocm_rules.specs.Lean.{emptied_among, without_passed_ticks, lean}
use Rattle.ocm_entry.specs.Ticks.{is_tick}
use Rattle.ocm_rules.specs.History.{kept}
use Rattle.ocm_law_lean.proofs.Thin.{of_tick}
use Rattle.ocm_law_sessions.specs.Written.{stamp, record_of, ask_records, records_of}
use Rattle.ocm_law_sessions.proofs.Entries.{clocks}

clocks-passed : (l : List Entry) → clocks (without_passed_ticks false l) ≡ clocks l
clocks-passed [] = refl
clocks-passed (e ∷ before) = cases (clocks-passed before) (is_tick e.ask) refl
  where
    cases : clocks (without_passed_ticks false before) ≡ clocks before → (b : Bool) → is_tick e.ask ≡ b → option_or (clock_of e.ask) (clocks (without_passed_ticks b before)) ≡ option_or (clock_of e.ask) (clocks before)
    cases older true is = of_tick (λ a. option_or (clock_of a) (clocks (without_passed_ticks true before)) ≡ option_or (clock_of a) (clocks before)) (λ clock. refl) e.ask is
    cases older false is = ap (λ o. option_or (clock_of e.ask) o) older

moment-passed : (l : List Entry) → moment (without_passed_ticks false l) ≡ moment l
moment-passed l = ap (λ o. unwrap_or o 0) (clocks-passed l)

record-passed : (e : Entry) (before : List Entry) → record_of 2 (without_passed_ticks (is_tick e.ask) before) e ≡ record_of 2 before e
unfolding record_of
record-passed e before = ap (λ n. stamp n e.ask) (moment-passed (e ∷ before))

asks-passed : (tick_follows : Bool) (l : List Entry) → ask_records (without_passed_ticks tick_follows l) ≡ ask_records l
asks-passed tick_follows [] = refl
asks-passed tick_follows (e ∷ before) = cases (asks-passed (is_tick e.ask) before) tick_follows (is_tick e.ask) refl
  where
    rest : List Entry
    rest = without_passed_ticks (is_tick e.ask) before

    goal : Bool → List (List ℕ)
    goal b = if b then ask_records before else ask_records before ++ record_of 2 before e ∷ []

    stays : ask_records rest ≡ ask_records before → ask_records (e ∷ rest) ≡ goal (is_tick e.ask)
    stays older =
        ap (λ rs. if is_tick e.ask then rs else rs ++ record_of 2 rest e ∷ []) older
        ∙ ap (λ r. if is_tick e.ask then ask_records before else ask_records before ++ r ∷ []) (record-passed e before)

    cases : ask_records rest ≡ ask_records before → (follows b : Bool) → is_tick e.ask ≡ b → ask_records (if follows && b then rest else e ∷ rest) ≡ goal b
    cases older true true is = older
    cases older true false is = stays older ∙ ap goal is
    cases older false b is = stays older ∙ ap goal is

records-passed : (l : List Entry) → records_of (without_passed_ticks false l) ≡ records_of l
records-passed [] = refl
records-passed (e ∷ before) =
    ap (λ rs. rs ++ record_of 2 (without_passed_ticks (is_tick e.ask) before) e ∷ []) (asks-passed (is_tick e.ask) before)
    ∙ ap (λ r. ask_records before ++ r ∷ []) (record-passed e before)

-- the records of the lean list are those of all kept entries, each without its body where that no longer stands
pub lean-records : (host : List ℕ) (g : List Entry) → records_of (lean host g) ≡ records_of (emptied_among host (kept host g) (kept host g))
lean-records host g = records-passed (emptied_among host (kept host g) (kept host g))
