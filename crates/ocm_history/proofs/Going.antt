-- How a memory goes on by records.
use Rattle.std.proofs.Common.{◌≡◌, ℕ, ◌<◌, ◌≤◌, ◌==◌, nat_lt, List, [], ◌∷◌, ◌++◌, length, Bool, true, false, refl, sym, ap, ◌∙◌, subst, arith, Option, Some, None, Result, Ok, Err}
use Rattle.std.specs.Prelude.{IfOk, if◌then◌else◌, nat_le, option_and_then}
use Rattle.std.proofs.lemmas.Bool.Decides.{nat_tests}
use Rattle.std.proofs.lemmas.List.{map-append}
use Rattle.ocm_entry.specs.declared.asks.Ask.{Ask}
use Rattle.ocm_entry.specs.declared.asks.Ask.TheVariants.{Tick}
use Rattle.ocm_entry.specs.declared.entries.Entry.{Entry}
use Rattle.ocm_journal_image.specs.declared.readings.RawRecord.{RawRecord}
use Rattle.ocm_journal_image.specs.Layout.{contents}
use Rattle.ocm_journal_records.specs.declared.stamps.Stamped.{Stamped}
use Rattle.ocm_journal_records.specs.declared.stamps.Stamped.TheVariants as stamps
use Rattle.ocm_journal_records.specs.Stamps.{stamped_of}
use Rattle.ocm_rules.specs.History.{changes, kept}
use Rattle.ocm_rules.specs.Shares.{moment}
use Rattle.ocm_core.specs.Standing.{IsAfter}
use Rattle.ocm_law_sessions.specs.Readings.{entry_after, goes_on, opened, refused_at, with_ask, with_moment, with_stamped}
use Rattle.ocm_law_sessions.specs.Sessions.{heard, would_change}
use Rattle.ocm_law_sessions.proofs.Entries.{with_moment-stays}
use Rattle.ocm_law_sessions.proofs.Opening.{opened-more, refused-first}
use Rattle.ocm_law_sessions.proofs.Replying.{kept-changed}
use Rattle.ocm_law_sessions.proofs.Stamping.{goes_on-said}
use Rattle.ocm_history.specs.declared.histories.History.{History}
use Rattle.ocm_history.specs.Histories.{IsOf, home_of}
use Rattle.ocm_history.specs.Replays.{GoesOn, IsMemoryOf, with_clock}

-- ---- by an ask

-- these kept entries, or none
abbrev list_if : Bool → List Entry → Option (List Entry)
list_if b k = if b then Some k else None

takes-ask : (old new : History) (ask : Ask) (taken : Bool) → home_of new ≡ home_of old
    → ((g : List Entry) → IsOf old g → taken ≡ would_change (home_of old) g ask)
    → (taken ≡ true → (g : List Entry) → IsOf old g → IsOf new (heard (home_of old) g ask ∷ g))
    → GoesOn old new (with_ask (home_of old) ask) taken
takes-ask old new ask taken home tells goes = record {
  on = λ is k m. (heard host k ask ∷ k, step k m.all_kept ∙ ap (λ b. list_if b (heard host k ask ∷ k)) (sym (tells k m.memory) ∙ is), memory is k m);
  nowhere = λ is k m. step k m.all_kept ∙ ap (λ b. list_if b (heard host k ask ∷ k)) (sym (tells k m.memory) ∙ is);
}
  where
    host : List ℕ
    host = home_of old

    step : (k : List Entry) → kept host k ≡ k → with_ask host ask k ≡ list_if (would_change host k ask) (heard host k ask ∷ k)
    step k whole = ap (λ l. list_if (changes host l (entry_after host l ask)) (entry_after host l ask ∷ k)) (sym whole)

    memory : taken ≡ true → (k : List Entry) → IsMemoryOf old k → IsMemoryOf new (heard host k ask ∷ k)
    memory is k m = record {
      all_kept = ap (λ h. kept h (heard host k ask ∷ k)) home ∙ kept-changed host k ask (sym (tells k m.memory) ∙ is) ∙ ap (λ l. heard host k ask ∷ l) m.all_kept;
      memory = goes is k m.memory;
    }

pub if-ok : {E : Type 0} (r : Result Bool E) (P Q : Bool → Type 0) → ((b : Bool) → P b → Q b) → IfOk r P → IfOk r Q
if-ok (Ok b) P Q step holds = step b holds
if-ok (Err e) P Q step holds = tt

-- the same of what taking an ask answers
pub takes-asked : {E : Type 0} (old new : History) (ask : Ask) (r : Result Bool E) → home_of new ≡ home_of old
    → IfOk r (λ taken. (g : List Entry) → IsOf old g → taken ≡ would_change (home_of old) g ask)
    → ((g : List Entry) → IsOf old g → r ≡ Ok true → IsOf new (heard (home_of old) g ask ∷ g))
    → IfOk r (GoesOn old new (with_ask (home_of old) ask))
takes-asked old new ask (Ok taken) home tells goes = takes-ask old new ask taken home tells (λ is g memory. goes g memory (ap (λ b. Ok b) is))
takes-asked old new ask (Err e) home tells goes = tt

-- a step that comes to the same
pub goes-same : (old new : History) (step other : List Entry → Option (List Entry)) (taken : Bool) → GoesOn old new step taken → ((k : List Entry) → IsMemoryOf old k → other k ≡ step k) → GoesOn old new other taken
goes-same old new step other taken goes same = record {
  on = λ is k m. (let next = goes.on is k m in (next.0, same k m ∙ next.1, next.2));
  nowhere = λ is k m. same k m ∙ goes.nowhere is k m;
}

-- ---- by a moment

-- the entries with a tick that is above their moment
tick-step : (host : List ℕ) (clock : ℕ) (k : List Entry) → moment k < clock → with_clock host clock k ≡ with_ask host (Tick clock) k
tick-step host clock k above =
    let up : nat_le (moment k) clock ≡ true = grind (arith, nat_tests) in
    let over : nat_lt (moment k) clock ≡ true = grind (arith, nat_tests) in
    rw (up, over) refl

-- a tick that is taken where it is above the moment
pub takes-tick : (old new : History) (clock m : ℕ) (taken : Bool) → ((g : List Entry) → IsAfter old.core.state g → m ≡ moment (kept (home_of old) g)) → m < clock
    → GoesOn old new (with_ask (home_of old) (Tick clock)) taken → GoesOn old new (with_clock (home_of old) clock) taken
takes-tick old new clock m taken tells above goes =
    goes-same old new (with_ask (home_of old) (Tick clock)) (with_clock (home_of old) clock) taken goes
    (λ k memory. tick-step (home_of old) clock k (let now = tells k memory.memory.lists ∙ ap moment memory.all_kept in omega (arith, now)))

-- no tick is taken where the moment is not above
pub takes-none : (old : History) (clock m : ℕ) → ((g : List Entry) → IsAfter old.core.state g → m ≡ moment (kept (home_of old) g)) → clock ≤ m → GoesOn old old (with_clock (home_of old) clock) (m == clock)
takes-none old clock m tells below = record {
  on = λ is k memory. (k, stays k (now k memory) is, memory);
  nowhere = λ is k memory. none k (now k memory) is;
}
  where
    now : (k : List Entry) → IsMemoryOf old k → m ≡ moment k
    now k memory = tells k memory.memory.lists ∙ ap moment memory.all_kept

    stays : (k : List Entry) → m ≡ moment k → (m == clock) ≡ true → with_clock (home_of old) clock k ≡ Some k
    stays k is same =
        let up : nat_le (moment k) clock ≡ true = grind (arith, nat_tests) in
        let own : clock ≡ moment k = grind (arith, nat_tests) in
        rw up (ap (λ n. Some (with_moment (home_of old) n k)) own ∙ ap (λ l. Some l) (with_moment-stays (home_of old) k))

    none : (k : List Entry) → m ≡ moment k → (m == clock) ≡ false → with_clock (home_of old) clock k ≡ None
    none k is other = let up : nat_le (moment k) clock ≡ false = grind (arith, nat_tests) in rw up refl

-- ---- by a moment, and then by an ask

timed-after : (host : List ℕ) (clock : ℕ) (ask : Ask) (k next : List Entry) → with_clock host clock k ≡ Some next → with_stamped host (stamps.Timed clock ask) k ≡ with_ask host ask next
timed-after host clock ask k next is = by_test (nat_le (moment k) clock) is
  where
    by_test : (b : Bool) → list_if b (with_moment host clock k) ≡ Some next → (if b then with_ask host ask (with_moment host clock k) else None) ≡ with_ask host ask next
    by_test true h = let same : with_moment host clock k ≡ next = cc in ap (with_ask host ask) same
    by_test false h = absurd (cc)

timed-none : (host : List ℕ) (clock : ℕ) (ask : Ask) (k : List Entry) → with_clock host clock k ≡ None → with_stamped host (stamps.Timed clock ask) k ≡ None
timed-none host clock ask k is = by_test (nat_le (moment k) clock) is
  where
    by_test : (b : Bool) → list_if b (with_moment host clock k) ≡ None → (if b then with_ask host ask (with_moment host clock k) else None) ≡ None
    by_test true h = absurd (cc)
    by_test false h = refl

pub goes-then : (old middle new : History) (clock : ℕ) (ask : Ask) (taken : Bool) → home_of middle ≡ home_of old → GoesOn old middle (with_clock (home_of old) clock) true
    → GoesOn middle new (with_ask (home_of middle) ask) taken → GoesOn old new (with_stamped (home_of old) (stamps.Timed clock ask)) taken
goes-then old middle new clock ask taken home first second = record {
  on = λ is k m.
      (let on = first.on refl k m in
      let next = second.on is on.0 on.2 in
      (next.0, timed-after (home_of old) clock ask k on.0 on.1 ∙ ap (λ h. with_ask h ask on.0) (sym home) ∙ next.1, next.2));
  nowhere = λ is k m.
      (let on = first.on refl k m in
      timed-after (home_of old) clock ask k on.0 on.1 ∙ ap (λ h. with_ask h ask on.0) (sym home) ∙ second.nowhere is on.0 on.2);
}

pub goes-nowhere : (old middle : History) (clock : ℕ) (ask : Ask) → GoesOn old middle (with_clock (home_of old) clock) false → GoesOn old middle (with_stamped (home_of old) (stamps.Timed clock ask)) false
goes-nowhere old middle clock ask first = record {
  on = λ is k m. absurd (cc);
  nowhere = λ is k m. timed-none (home_of old) clock ask k (first.nowhere refl k m);
}

-- ---- by a record

pub goes-said : (old new : History) (form : ℕ) (bytes : List ℕ) (said : Stamped) (taken : Bool) → stamped_of form bytes ≡ Some said → GoesOn old new (with_stamped (home_of old) said) taken
    → GoesOn old new (λ k. goes_on (home_of old) form k bytes) taken
goes-said old new form bytes said taken is goes =
    goes-same old new (with_stamped (home_of old) said) (λ k. goes_on (home_of old) form k bytes) taken goes (λ k m. goes_on-said (home_of old) form k bytes said is)

goes_on-none : (host : List ℕ) (form : ℕ) (k : List Entry) (bytes : List ℕ) → stamped_of form bytes ≡ None → goes_on host form k bytes ≡ None
unfolding goes_on
goes_on-none host form k bytes is = ap (λ o. option_and_then (λ said. with_stamped host said k) o) is

pub goes-unsaid : (old : History) (form : ℕ) (bytes : List ℕ) → stamped_of form bytes ≡ None → GoesOn old old (λ k. goes_on (home_of old) form k bytes) false
goes-unsaid old form bytes is = record {
  on = λ wrong k m. absurd (cc);
  nowhere = λ own k m. goes_on-none (home_of old) form k bytes is;
}

-- ---- by records

-- a memory stands for what these records open to
pub record Opened (host : List ℕ) (form : ℕ) (records : List RawRecord) (history : History) : Type 0 where
  pub list : List Entry
  pub opens : opened host form (contents records) ≡ Some list
  pub memory : IsMemoryOf history list

pub opened-none : (host : List ℕ) (form : ℕ) (history : History) → IsMemoryOf history [] → Opened host form [] history
opened-none host form history memory = record { list = []; opens = refl; memory = memory }

-- with one more
pub opened-next : (host : List ℕ) (form : ℕ) (before : List RawRecord) (r : RawRecord) (old new : History) → Opened host form before old → GoesOn old new (λ k. goes_on host form k r.bytes) true
    → Opened host form (before ++ r ∷ []) new
opened-next host form before r old new upto goes =
    let next = goes.on refl upto.list upto.memory in
    record {
      list = next.0;
      opens = ap (opened host form) (map-append (λ (x : RawRecord). x.bytes) before (r ∷ []))
          ∙ opened-more host form (contents before) r.bytes upto.list upto.opens
          ∙ next.1;
      memory = next.2;
    }

-- or one that is refused
pub opened-refused : (host : List ℕ) (form : ℕ) (records before rest : List RawRecord) (r : RawRecord) (old new : History) → records ≡ before ++ r ∷ rest
    → Opened host form before old → GoesOn old new (λ k. goes_on host form k r.bytes) false → refused_at host form records ≡ Some r.place
opened-refused host form records before rest r old new is upto goes =
    ap (refused_at host form) is
    ∙ refused-first host form before rest r [] upto.list upto.opens (goes.nowhere refl upto.list upto.memory)

nothing-behind : (xs : List RawRecord) → xs ++ [] ≡ xs
nothing-behind [] = refl
nothing-behind (x ∷ xs) = ap (λ l. x ∷ l) (nothing-behind xs)

-- all of them
pub opened-all : (host : List ℕ) (form : ℕ) (before rest records : List RawRecord) (history : History) → before ++ rest ≡ records → length rest ≡ 0 → Opened host form before history
    → (k : List Entry) × (opened host form (contents records) ≡ Some k) × IsMemoryOf history k
opened-all host form before [] records history is none upto = (upto.list, ap (λ rs. opened host form (contents rs)) (sym is ∙ nothing-behind before) ∙ upto.opens, upto.memory)
opened-all host form before (r ∷ rest) records history is none upto = absurd (let wrong : ⊥ = omega (arith, none) in wrong)

-- a step of another spelling of the host
pub goes-home : (old new : History) (host other : List ℕ) (form : ℕ) (bytes : List ℕ) (taken : Bool) → other ≡ host → GoesOn old new (λ k. goes_on other form k bytes) taken → GoesOn old new (λ k. goes_on host form k bytes) taken
goes-home old new host other form bytes taken same goes = subst (λ (h : List ℕ). GoesOn old new (λ k. goes_on h form k bytes) taken) same goes
