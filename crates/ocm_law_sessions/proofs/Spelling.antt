-- Which asks have spellings, and what their fields keep.
use Rattle.std.proofs.Common.{◌≡◌, ℕ, ◌+◌, ◌^◌, ◌<◌, ◌==◌, List, [], ◌∷◌, length, take, drop, Bool, true, false, refl, sym, subst, arith, Option, Some, None, Result, Ok, Err}
use Rattle.std.specs.Prelude.{if◌then◌else◌, ◌&&◌, nat_lt, nat_le, option_and_then, option_map, unwrap_or}
use Rattle.std.specs.Option.{option_or}
use Rattle.std.specs.Result.{result_ok}
use Rattle.std.proofs.lemmas.List.{take-append-drop}
use Rattle.ocm_entry.specs.declared.asks.Ask.{Ask}
use Rattle.ocm_entry.specs.declared.asks.Ask.TheVariants as asks
use Rattle.ocm_entry.specs.declared.asks.Method.TheVariants as methods
use Rattle.ocm_entry.specs.declared.entries.Entry.{Entry}
use Rattle.ocm_entry_bytes.specs.declared.entry_faults.EntryFault.{EntryFault}
use Rattle.ocm_entry_bytes.specs.Reading.{ask_of}
use Rattle.ocm_entry_bytes.specs.Spells.{Fits, AreBytes}
use Rattle.ocm_entry_bytes.proofs.FieldLaws.{AreBytes-front, AreBytes-rest, wide64}
use Rattle.ocm_entry_bytes.proofs.Whole.{ask_of-spells}
use Rattle.ocm_rules.specs.Shares.{clock_of, moment}
use Rattle.ocm_rules.specs.Lean.{without_body, still_stands, emptied_unless, emptied_among, without_passed_ticks, lean}
use Rattle.ocm_entry.specs.Ticks.{is_tick, is_tick as is_stamped_tick}
use Rattle.ocm_rules.specs.History.{kept}
use Rattle.ocm_law_lean.proofs.Thin.{of_tick}
use Rattle.ocm_journal_records.specs.declared.stamps.Stamped.{Stamped}
use Rattle.ocm_journal_records.specs.declared.stamps.Stamped.TheVariants as stamps
use Rattle.ocm_journal_records.specs.Stamps.{spelled, timed, moment_in, said_in_second, stamped_of}
use Rattle.ocm_law_sessions.specs.Readings.{entry_after, with_ask, with_moment, with_stamped, goes_on, opened_from}
use Rattle.ocm_law_sessions.specs.Written.{IsSpelled, AreAllBytes}
use Rattle.ocm_law_sessions.proofs.Entries.{clocks, moment-other, with_ask-gives}

-- ---- moments

-- the moment is a number of eight bytes
pub moment-below : (k : List Entry) → IsSpelled k → moment k < 2 ^ 64
moment-below [] fits = omega arith
moment-below (e ∷ before) fits = by_test (moment-below before fits.1) (is_tick e.ask) refl
  where
    by_test : moment before < 2 ^ 64 → (b : Bool) → is_tick e.ask ≡ b → moment (e ∷ before) < 2 ^ 64
    by_test older true is = of_tick (λ a. Fits a → unwrap_or (option_or (clock_of a) (clocks before)) 0 < 2 ^ 64) (λ clock h. h) e.ask is fits.0
    by_test older false is = let same = moment-other e before is in omega arith

-- ---- lean lists

without_body-fits : (ask : Ask) → Fits ask → Fits (without_body ask)
without_body-fits (asks.Dav secret methods.Put path body) fits = (fits.0, fits.1, fits.2, (omega arith, omega arith))
without_body-fits _ fits = fits

emptied-fits : (b : Bool) (e : Entry) → Fits e.ask → Fits (emptied_unless b e).ask
emptied-fits true e fits = fits
emptied-fits false e fits = without_body-fits e.ask fits

emptied-spelled : (host : List ℕ) (g l : List Entry) → IsSpelled l → IsSpelled (emptied_among host g l)
emptied-spelled host g [] fits = tt
emptied-spelled host g (e ∷ before) fits = (emptied-fits (still_stands host g (length before + 1)) e fits.0, emptied-spelled host g before fits.1)

passed-spelled : (tick_follows : Bool) (l : List Entry) → IsSpelled l → IsSpelled (without_passed_ticks tick_follows l)
passed-spelled tick_follows [] fits = tt
passed-spelled tick_follows (e ∷ before) fits = by_test (tick_follows && is_tick e.ask) (passed-spelled (is_tick e.ask) before fits.1)
  where
    rest : List Entry
    rest = without_passed_ticks (is_tick e.ask) before

    by_test : (b : Bool) → IsSpelled rest → IsSpelled (if b then rest else e ∷ rest)
    by_test true older = older
    by_test false older = (fits.0, older)

pub lean-spelled : (host : List ℕ) (g : List Entry) → IsSpelled (kept host g) → IsSpelled (lean host g)
lean-spelled host g fits = passed-spelled false (emptied_among host (kept host g) (kept host g)) (emptied-spelled host (kept host g) (kept host g) fits)

-- ---- what is read fits

some-same : {X : Type 0} (x y : X) → Some x ≡ Some y → x ≡ y
some-same x y h = cc

pub spelled-fits : (bytes : List ℕ) (ask : Ask) → AreBytes bytes → spelled bytes ≡ Some ask → Fits ask
unfolding spelled
spelled-fits bytes ask are is = by_result (ask_of bytes) refl is
  where
    by_result : (r : Result Ask EntryFault) → ask_of bytes ≡ r → result_ok r ≡ Some ask → Fits ask
    by_result (Ok a) was h =
        let P : Ask → Type 0 = λ x. Fits x in
        subst P (some-same a ask h) (ask_of-spells bytes a are was).fits
    by_result (Err fault) was h = absurd (cc)

-- what a record says is a moment in eight bytes and an ask with fields of their types
abbrev pub FitsStamped : Stamped → Type 0
FitsStamped (stamps.Bare ask) = Fits ask
FitsStamped (stamps.Moment clock) = clock < 2 ^ 64
FitsStamped (stamps.Timed clock ask) = (clock < 2 ^ 64) × Fits ask

moment_in-below : (bytes : List ℕ) → AreBytes bytes → moment_in bytes < 2 ^ 64
unfolding moment_in
moment_in-below bytes are =
    let P : List ℕ → Type 0 = λ l. AreBytes l in
    wide64.below (take 8 bytes) (AreBytes-front (take 8 bytes) (drop 8 bytes) (subst P (sym (take-append-drop 8 bytes)) are))

bare-fits : (bytes : List ℕ) (said : Stamped) → AreBytes bytes → option_map stamps.Bare (spelled bytes) ≡ Some said → FitsStamped said
bare-fits bytes said are h = by_ask (spelled bytes) refl h
  where
    by_ask : (o : Option Ask) → spelled bytes ≡ o → option_map stamps.Bare o ≡ Some said → FitsStamped said
    by_ask None is g = absurd (cc)
    by_ask (Some ask) is g =
        let P : Stamped → Type 0 = λ s. FitsStamped s in
        subst P (some-same (stamps.Bare ask) said g) (spelled-fits bytes ask are is)

timed-fits : (clock : ℕ) (ask : Ask) (said : Stamped) → clock < 2 ^ 64 → Fits ask → timed clock ask ≡ Some said → FitsStamped said
timed-fits clock ask said below fits h = by_test (is_stamped_tick ask) h
  where
    nothing : Option Stamped
    nothing = None

    by_test : (b : Bool) → (if b then nothing else Some (stamps.Timed clock ask)) ≡ Some said → FitsStamped said
    by_test true g = absurd (cc)
    by_test false g = let P : Stamped → Type 0 = λ s. FitsStamped s in subst P (some-same (stamps.Timed clock ask) said g) (below, fits)

said-fits : (bytes : List ℕ) (said : Stamped) → AreBytes bytes → said_in_second bytes ≡ Some said → FitsStamped said
unfolding said_in_second
said-fits bytes said are h = by_length (nat_lt (length bytes) 8) (length bytes == 8) h
  where
    nothing : Option Stamped
    nothing = None

    behind : AreBytes (drop 8 bytes)
    behind =
        let P : List ℕ → Type 0 = λ l. AreBytes l in
        AreBytes-rest (take 8 bytes) (drop 8 bytes) (subst P (sym (take-append-drop 8 bytes)) are)

    by_ask : (o : Option Ask) → spelled (drop 8 bytes) ≡ o → option_and_then (timed (moment_in bytes)) o ≡ Some said → FitsStamped said
    by_ask None is g = absurd (cc)
    by_ask (Some ask) is g = timed-fits (moment_in bytes) ask said (moment_in-below bytes are) (spelled-fits (drop 8 bytes) ask behind is) g

    by_length : (few alone : Bool) → (if few then nothing else (if alone then Some (stamps.Moment (moment_in bytes)) else option_and_then (timed (moment_in bytes)) (spelled (drop 8 bytes)))) ≡ Some said → FitsStamped said
    by_length true alone g = absurd (cc)
    by_length false true g = let P : Stamped → Type 0 = λ s. FitsStamped s in subst P (some-same (stamps.Moment (moment_in bytes)) said g) (moment_in-below bytes are)
    by_length false false g = by_ask (spelled (drop 8 bytes)) refl g

pub stamped-fits : (form : ℕ) (bytes : List ℕ) (said : Stamped) → AreBytes bytes → stamped_of form bytes ≡ Some said → FitsStamped said
unfolding stamped_of
stamped-fits form bytes said are h = by_form (form == 1) h
  where
    by_form : (b : Bool) → (if b then option_map stamps.Bare (spelled bytes) else said_in_second bytes) ≡ Some said → FitsStamped said
    by_form true g = bare-fits bytes said are g
    by_form false g = said-fits bytes said are g

-- ---- what is opened is spelled

with_ask-spelled : (host : List ℕ) (ask : Ask) (k now : List Entry) → IsSpelled k → Fits ask → with_ask host ask k ≡ Some now → IsSpelled now
with_ask-spelled host ask k now older fits h =
    let P : List Entry → Type 0 = λ l. IsSpelled l in
    subst P (with_ask-gives host ask k now h).1 (fits, older)

with_moment-spelled : (host : List ℕ) (clock : ℕ) (k : List Entry) → IsSpelled k → clock < 2 ^ 64 → IsSpelled (with_moment host clock k)
with_moment-spelled host clock k older below = by_test (nat_lt (moment k) clock)
  where
    by_test : (b : Bool) → IsSpelled (if b then entry_after host k (asks.Tick clock) ∷ k else k)
    by_test true = (below, older)
    by_test false = older

with_stamped-spelled : (host : List ℕ) (said : Stamped) (k now : List Entry) → IsSpelled k → FitsStamped said → with_stamped host said k ≡ Some now → IsSpelled now
with_stamped-spelled host (stamps.Bare ask) k now older fits h = with_ask-spelled host ask k now older fits h
with_stamped-spelled host (stamps.Moment clock) k now older fits h = with_ask-spelled host (asks.Tick clock) k now older fits h
with_stamped-spelled host (stamps.Timed clock ask) k now older fits h = by_test (nat_le (moment k) clock) h
  where
    nothing : Option (List Entry)
    nothing = None

    by_test : (b : Bool) → (if b then with_ask host ask (with_moment host clock k) else nothing) ≡ Some now → IsSpelled now
    by_test true g = with_ask-spelled host ask (with_moment host clock k) now (with_moment-spelled host clock k older fits.0) fits.1 g
    by_test false g = absurd (cc)

pub goes_on-spelled : (host : List ℕ) (form : ℕ) (k : List Entry) (bytes : List ℕ) (now : List Entry) → IsSpelled k → AreBytes bytes → goes_on host form k bytes ≡ Some now → IsSpelled now
unfolding goes_on
goes_on-spelled host form k bytes now older are h = by_record (stamped_of form bytes) refl h
  where
    by_record : (o : Option Stamped) → stamped_of form bytes ≡ o → option_and_then (λ said. with_stamped host said k) o ≡ Some now → IsSpelled now
    by_record None is g = absurd (cc)
    by_record (Some said) is g = with_stamped-spelled host said k now older (stamped-fits form bytes said are is) g

pub opened_from-spelled : (host : List ℕ) (form : ℕ) (records : List (List ℕ)) (k now : List Entry) → IsSpelled k → AreAllBytes records → opened_from host form k records ≡ Some now → IsSpelled now
opened_from-spelled host form [] k now older are h =
    let P : List Entry → Type 0 = λ l. IsSpelled l in
    subst P (some-same k now h) older
opened_from-spelled host form (r ∷ rs) k now older are h =
    by_record (λ mid is g. opened_from-spelled host form rs mid now (goes_on-spelled host form k r mid older are.0 is) are.1 g) (goes_on host form k r) refl h
  where
    by_record : ((mid : List Entry) → goes_on host form k r ≡ Some mid → opened_from host form mid rs ≡ Some now → IsSpelled now)
        → (o : Option (List Entry)) → goes_on host form k r ≡ o → option_and_then (λ mid. opened_from host form mid rs) o ≡ Some now → IsSpelled now
    by_record further None is g = absurd (cc)
    by_record further (Some mid) is g = further mid is g
