-- The records that are written for a list of kept entries open to it.
use Rattle.std.proofs.Common.{◌≡◌, ℕ, ◌≤◌, List, [], ◌∷◌, ◌++◌, Bool, true, false, refl, sym, ap, ◌∙◌, subst, arith, Some}
use Rattle.std.specs.Prelude.{if◌then◌else◌, ◌&&◌}
use Rattle.std.proofs.lemmas.Bool.{ltb-true}
use Rattle.ocm_entry.specs.declared.entries.Entry.{Entry}
use Rattle.ocm_journal_records.specs.declared.stamps.Stamped.TheVariants as stamps
use Rattle.ocm_rules.specs.Shares.{moment}
use Rattle.ocm_rules.specs.Lean.{emptied_among, without_passed_ticks, lean}
use Rattle.ocm_entry.specs.Ticks.{is_tick}
use Rattle.ocm_rules.specs.History.{kept, answer_kept, changes, IsAnswered, IsLegal}
use Rattle.ocm_law_lean.proofs.Answered.{lean-answered}
use Rattle.ocm_law_sessions.specs.Readings.{with_moment, goes_on, opened}
use Rattle.ocm_law_sessions.specs.Written.{record_of, ask_records, records_of, IsSpelled, ends_with_tick, TicksApart}
use Rattle.ocm_law_sessions.proofs.Entries.{with_moment-stays, with_moment-tick, tick-later}
use Rattle.ocm_law_sessions.proofs.Stamping.{stamped-other, with_timed, goes_on-said, goes_on-record}
use Rattle.ocm_law_sessions.proofs.Opening.{opened-more}
use Rattle.ocm_law_sessions.proofs.Spelling.{moment-below}

-- these kept entries without the newest, where that is a tick
abbrev pub before_tick : List Entry → List Entry
before_tick [] = []
before_tick (e ∷ before) = if is_tick e.ask then before else e ∷ before

-- where no tick is the newest, none is left out
before_tick-none : (k : List Entry) → ends_with_tick k ≡ false → before_tick k ≡ k
before_tick-none [] h = refl
before_tick-none (e ∷ before) h = ap (λ b. if b then before else e ∷ before) h

-- the moment makes the list of what stands before its newest tick
record Made (host : List ℕ) (k : List Entry) : Type 0 where
  pub again : with_moment host (moment k) (before_tick k) ≡ k
  pub low : moment (before_tick k) ≤ moment k

made_by_moment : (host : List ℕ) (k : List Entry) → IsAnswered host k → Made host k
made_by_moment host [] answered = record { again = refl; low = omega arith }
made_by_moment host (e ∷ before) answered = by_test (is_tick e.ask) refl
  where
    rest : Bool → List Entry
    rest b = if b then before else e ∷ before

    parts : (b : Bool) → is_tick e.ask ≡ b → (with_moment host (moment (e ∷ before)) (rest b) ≡ e ∷ before) × (moment (rest b) ≤ moment (e ∷ before))
    parts true is =
        let later = ltb-true (moment before) (moment (e ∷ before)) (tick-later host before e is answered.0 answered.1) in
        (with_moment-tick host before e is answered.0 answered.1, omega arith)
    parts false is = (with_moment-stays host (e ∷ before), omega arith)

    by_test : (b : Bool) → is_tick e.ask ≡ b → Made host (e ∷ before)
    by_test b is =
        let P : Bool → Type 0 = λ c. (with_moment host (moment (e ∷ before)) (if c then before else e ∷ before) ≡ e ∷ before) × (moment (if c then before else e ∷ before) ≤ moment (e ∷ before)) in
        let here = subst P (sym is) (parts b is) in
        record { again = here.0; low = here.1 }

-- the record of an ask that is no tick, behind the asks before it
goes_on-ask : (host : List ℕ) (e : Entry) (before : List Entry) → is_tick e.ask ≡ false → IsAnswered host (e ∷ before) → IsSpelled (e ∷ before) → goes_on host 2 (before_tick before) (record_of 2 before e) ≡ Some (e ∷ before)
goes_on-ask host e before is answered fits =
    let made = made_by_moment host before answered.2 in
    goes_on-said host 2 (before_tick before) (record_of 2 before e) (stamps.Timed (moment before) e.ask) (stamped-other 2 before e refl is fits.0 (moment-below before fits.1))
    ∙ with_timed host before (before_tick before) e (moment before) made.low made.again answered.0 answered.1

-- what the records of the asks open to
opened-asks : (host : List ℕ) (k : List Entry) → IsAnswered host k → TicksApart k → IsSpelled k → opened host 2 (ask_records k) ≡ Some (before_tick k)
opened-asks host [] answered apart fits = refl
opened-asks host (e ∷ before) answered apart fits = by_test (opened-asks host before answered.2 apart.1 fits.1) (is_tick e.ask) refl apart.0
  where
    Opens : Bool → Type 0
    Opens b = opened host 2 (if b then ask_records before else ask_records before ++ record_of 2 before e ∷ []) ≡ Some (if b then before else e ∷ before)

    by_test : opened host 2 (ask_records before) ≡ Some (before_tick before) → (b : Bool) → is_tick e.ask ≡ b → (b && ends_with_tick before) ≡ false → Opens b
    by_test older true is none = older ∙ ap (λ l. Some l) (before_tick-none before none)
    by_test older false is none = opened-more host 2 (ask_records before) (record_of 2 before e) (before_tick before) older ∙ goes_on-ask host e before is answered fits

-- what is written for a list of kept entries opens to it
pub written-opens : (host : List ℕ) (k : List Entry) → IsAnswered host k → TicksApart k → IsSpelled k → opened host 2 (records_of k) ≡ Some k
written-opens host [] answered apart fits = refl
written-opens host (e ∷ before) answered apart fits = by_test (is_tick e.ask) refl apart.0
  where
    older : opened host 2 (ask_records before) ≡ Some (before_tick before)
    older = opened-asks host before answered.2 apart.1 fits.1

    by_test : (b : Bool) → is_tick e.ask ≡ b → (b && ends_with_tick before) ≡ false → opened host 2 (records_of (e ∷ before)) ≡ Some (e ∷ before)
    by_test true is none =
        opened-more host 2 (ask_records before) (record_of 2 before e) (before_tick before) older
        ∙ ap (λ l. goes_on host 2 l (record_of 2 before e)) (before_tick-none before none)
        ∙ goes_on-record host 2 before e answered.0 answered.1 fits.0 (moment-below before fits.1)
    by_test false is none = opened-more host 2 (ask_records before) (record_of 2 before e) (before_tick before) older ∙ goes_on-ask host e before is answered fits

-- ---- lean lists

-- without the ticks that others follow at once no tick follows a tick
pub apart-lean : (tick_follows : Bool) (l : List Entry) → TicksApart (without_passed_ticks tick_follows l) × ((tick_follows && ends_with_tick (without_passed_ticks tick_follows l)) ≡ false)
apart-lean true [] = (tt, refl)
apart-lean false [] = (tt, refl)
apart-lean tick_follows (e ∷ before) = cases tick_follows (is_tick e.ask) refl (apart-lean (is_tick e.ask) before)
  where
    rest : List Entry
    rest = without_passed_ticks (is_tick e.ask) before

    apart_more : (b : Bool) → is_tick e.ask ≡ b → TicksApart rest × ((b && ends_with_tick rest) ≡ false) → TicksApart (e ∷ rest)
    apart_more b is older = (ap (λ c. c && ends_with_tick rest) is ∙ older.1, older.0)

    cases : (follows b : Bool) → is_tick e.ask ≡ b → TicksApart rest × ((b && ends_with_tick rest) ≡ false)
        → TicksApart (if follows && b then rest else e ∷ rest) × ((follows && ends_with_tick (if follows && b then rest else e ∷ rest)) ≡ false)
    cases true true is older = older
    cases true false is older = (apart_more false is older, is)
    cases false b is older = (apart_more b is older, refl)

pub lean-apart : (host : List ℕ) (g : List Entry) → TicksApart (lean host g)
lean-apart host g = (apart-lean false (emptied_among host (kept host g) (kept host g))).0

-- what is written for the lean list of a legal history opens to it
pub lean-opens : (host : List ℕ) (g : List Entry) → IsLegal host g → IsSpelled (lean host g) → opened host 2 (records_of (lean host g)) ≡ Some (lean host g)
lean-opens host g legal fits = written-opens host (lean host g) (lean-answered host g legal) (lean-apart host g) fits

-- a list goes on by the record of an entry
pub entry-goes_on : (host : List ℕ) (form : ℕ) (k : List Entry) (e : Entry) → e.reply ≡ answer_kept host k e.ask → changes host k e ≡ true → IsSpelled (e ∷ k) → goes_on host form k (record_of form k e) ≡ Some (e ∷ k)
entry-goes_on host form k e answered ch fits = goes_on-record host form k e answered ch fits.0 (moment-below k fits.1)
