-- How a replay goes on by records.
use Rattle.std.proofs.Common.{◌≡◌, ℕ, ◌+◌, ◌-◌, ◌^◌, ◌<◌, ◌≤◌, ◌==◌, nat_lt, List, [], ◌∷◌, ◌++◌, length, take, drop, get_or, Bool, true, false, refl, sym, ap, ◌∙◌, subst, arith, Option, Some, None, Result, Ok, Err}
use Rattle.std.specs.Prelude.{IfOk, IsOk, if◌then◌else◌, nat_le, option_and_then}
use Rattle.std.proofs.lemmas.Bool.Decides.{nat_tests}
use Rattle.std.proofs.lemmas.List.{length-drop, take_all, take_more}
use Rattle.std.proofs.Math.Seq.{take-length}
use Rattle.ocm_entry.specs.declared.asks.Ask.{Ask}
use Rattle.ocm_entry.specs.declared.asks.Ask.TheVariants.{Tick}
use Rattle.ocm_entry.specs.declared.entries.Entry.{Entry}
use Rattle.ocm_journal_image.specs.declared.readings.RawRecord.{RawRecord}
use Rattle.ocm_journal_image.specs.Layout.{contents}
use Rattle.ocm_journal_image.specs.Reading.{FirstIs, put_first, records_from}
use Rattle.ocm_journal_image.specs.declared.readings.Records.{Records}
use Rattle.ocm_journal_records.specs.declared.stamps.Stamped.{Stamped}
use Rattle.ocm_journal_records.specs.declared.stamps.Stamped.TheVariants as stamps
use Rattle.ocm_journal_records.specs.Stamps.{stamped_of}
use Rattle.ocm_rules.specs.History.{changes, kept}
use Rattle.ocm_rules.specs.Shares.{moment}
use Rattle.ocm_core.specs.Standing.{IsAfter}
use Rattle.ocm_law_sessions.specs.Readings.{entry_after, goes_on, opened, opened_from, refused_from, with_ask, with_moment, with_stamped}
use Rattle.ocm_law_sessions.specs.Sessions.{heard, would_change}
use Rattle.ocm_law_sessions.proofs.Entries.{with_moment-stays}
use Rattle.ocm_law_sessions.proofs.Opening.{opened-more}
use Rattle.ocm_law_sessions.proofs.Replying.{kept-changed}
use Rattle.ocm_law_sessions.proofs.Stamping.{goes_on-said}
use Rattle.ocm_entry.specs.declared.replies.Reply.{Reply}
use Rattle.ocm_entry_bytes.specs.Spells.{Fits}
use Rattle.ocm_law_alike.specs.Others.{is_aside, others}
use Rattle.ocm_compact.specs.declared.replays.Replay.{Replay}
use Rattle.ocm_compact.specs.Replays.{GoesOn, IsReplayOf, home_of, opened_by, refused_by, with_clock}
use Rattle.ocm_compact.specs.Texts.{AllFit, dated_text, dated_texts, noted}
use Rattle.ocm_core.proofs.Taking.{told}

-- ---- by an ask

-- these kept entries, or none
abbrev list_if : Bool → List Entry → Option (List Entry)
list_if b k = if b then Some k else None

-- an ask that is taken: what it adds to the asks that are neither ticks nor for files
others-on : (k : List Entry) (ask : Ask) (reply : Reply) (texts next : List (List ℕ)) (clock : ℕ) → clock ≡ moment k → texts ≡ dated_texts (others k) → next ≡ noted clock ask texts
    → next ≡ dated_texts (others (told ask reply ∷ k))
others-on k ask reply texts next clock at are is = is ∙ by_test (is_aside ask)
  where
    by_test : (b : Bool) → (if b then texts else texts ++ dated_text clock ask ∷ []) ≡ dated_texts (if b then others k else record { moment = moment k; ask = ask } ∷ others k)
    by_test true = are
    by_test false = ap (λ l. l ++ dated_text clock ask ∷ []) are ∙ ap (λ m. dated_texts (others k) ++ dated_text m ask ∷ []) at

fit-on : (k : List Entry) (ask : Ask) (reply : Reply) (clock : ℕ) → clock ≡ moment k → clock < 2 ^ 64 → AllFit (others k) → (is_aside ask ≡ false → Fits ask) → AllFit (others (told ask reply ∷ k))
fit-on k ask reply clock at small fit also = by_test (is_aside ask) refl
  where
    by_test : (b : Bool) → is_aside ask ≡ b → AllFit (if b then others k else record { moment = moment k; ask = ask } ∷ others k)
    by_test true is = fit
    by_test false is = (omega (arith, at, small), also is, fit)

-- what an ask that is taken leaves
pub record IsTaken (old new : Replay) (ask : Ask) : Type 0 where
  pub clock : ℕ
  pub small : clock < 2 ^ 64
  pub at : (g : List Entry) → IsAfter old.core.state g → clock ≡ moment (kept (home_of old) g)
  pub lists : (g : List Entry) → IsAfter old.core.state g → IsAfter new.core.state (heard (home_of old) g ask ∷ g)
  pub texts : new.others ≡ noted clock ask old.others
  pub fits : is_aside ask ≡ false → Fits ask

pub takes-ask : (old new : Replay) (ask : Ask) (taken : Bool) → home_of new ≡ home_of old
    → ((g : List Entry) → IsAfter old.core.state g → taken ≡ would_change (home_of old) g ask)
    → (taken ≡ true → IsTaken old new ask)
    → GoesOn old new (with_ask (home_of old) ask) taken
takes-ask old new ask taken home tells goes = record {
  on = λ is k m. (heard host k ask ∷ k, step k m.all_kept ∙ ap (λ b. list_if b (heard host k ask ∷ k)) (sym (tells k m.lists) ∙ is), replay is k m);
  nowhere = λ is k m. step k m.all_kept ∙ ap (λ b. list_if b (heard host k ask ∷ k)) (sym (tells k m.lists) ∙ is);
}
  where
    host : List ℕ
    host = home_of old

    step : (k : List Entry) → kept host k ≡ k → with_ask host ask k ≡ list_if (would_change host k ask) (heard host k ask ∷ k)
    step k whole = ap (λ l. list_if (changes host l (entry_after host l ask)) (entry_after host l ask ∷ k)) (sym whole)

    replay : taken ≡ true → (k : List Entry) → IsReplayOf old k → IsReplayOf new (heard host k ask ∷ k)
    replay is k m =
        let on = goes is in
        let at = on.at k m.lists ∙ ap moment m.all_kept in
        record {
          all_kept = ap (λ h. kept h (heard host k ask ∷ k)) home ∙ kept-changed host k ask (sym (tells k m.lists) ∙ is) ∙ ap (λ l. heard host k ask ∷ l) m.all_kept;
          lists = on.lists k m.lists;
          texts = others-on k ask (heard host k ask).reply old.others new.others on.clock at m.texts on.texts;
          fit = fit-on k ask (heard host k ask).reply on.clock at on.small m.fit on.fits;
        }

pub if-ok : {E : Type 0} (r : Result Bool E) (P Q : Bool → Type 0) → ((b : Bool) → P b → Q b) → IfOk r P → IfOk r Q
if-ok (Ok b) P Q step holds = step b holds
if-ok (Err e) P Q step holds = tt

-- a step that comes to the same
pub goes-same : (old new : Replay) (step other : List Entry → Option (List Entry)) (taken : Bool) → GoesOn old new step taken → ((k : List Entry) → IsReplayOf old k → other k ≡ step k) → GoesOn old new other taken
goes-same old new step other taken goes same = record {
  on = λ is k m. (let next = goes.on is k m in (next.0, same k m ∙ next.1, next.2));
  nowhere = λ is k m. same k m ∙ goes.nowhere is k m;
}

-- ---- by a moment

-- the entries with a tick that is above their moment
tick-step : (host : List ℕ) (clock : ℕ) (k : List Entry) → moment k < clock → with_clock host clock k ≡ with_ask host (Tick clock) k
tick-step host clock k above =
    let up : nat_le (moment k) clock ≡ true = grind (arith, nat_tests) in
    let over : nat_lt (moment k) clock ≡ true = grind (arith, nat_tests) in
    rw (up, over) refl

-- a tick that is taken where it is above the moment
pub takes-tick : (old new : Replay) (clock m : ℕ) (taken : Bool) → ((g : List Entry) → IsAfter old.core.state g → m ≡ moment (kept (home_of old) g)) → m < clock
    → GoesOn old new (with_ask (home_of old) (Tick clock)) taken → GoesOn old new (with_clock (home_of old) clock) taken
takes-tick old new clock m taken tells above goes =
    goes-same old new (with_ask (home_of old) (Tick clock)) (with_clock (home_of old) clock) taken goes
    (λ k memory. tick-step (home_of old) clock k (let now = tells k memory.lists ∙ ap moment memory.all_kept in omega (arith, now)))

-- no tick is taken where the moment is not above
pub takes-none : (old : Replay) (clock m : ℕ) → ((g : List Entry) → IsAfter old.core.state g → m ≡ moment (kept (home_of old) g)) → clock ≤ m → GoesOn old old (with_clock (home_of old) clock) (m == clock)
takes-none old clock m tells below = record {
  on = λ is k memory. (k, stays k (now k memory) is, memory);
  nowhere = λ is k memory. none k (now k memory) is;
}
  where
    now : (k : List Entry) → IsReplayOf old k → m ≡ moment k
    now k memory = tells k memory.lists ∙ ap moment memory.all_kept

    stays : (k : List Entry) → m ≡ moment k → (m == clock) ≡ true → with_clock (home_of old) clock k ≡ Some k
    stays k is same =
        let up : nat_le (moment k) clock ≡ true = grind (arith, nat_tests) in
        let own : clock ≡ moment k = grind (arith, nat_tests) in
        rw up (ap (λ n. Some (with_moment (home_of old) n k)) own ∙ ap (λ l. Some l) (with_moment-stays (home_of old) k))

    none : (k : List Entry) → m ≡ moment k → (m == clock) ≡ false → with_clock (home_of old) clock k ≡ None
    none k is other = let up : nat_le (moment k) clock ≡ false = grind (arith, nat_tests) in rw up refl

-- ---- by a moment, and then by an ask

timed-after : (host : List ℕ) (clock : ℕ) (ask : Ask) (k next : List Entry) → with_clock host clock k ≡ Some next → with_stamped host (stamps.Timed clock ask) k ≡ with_ask host ask next
timed-after host clock ask k next is = by_test (nat_le (moment k) clock) is
  where
    by_test : (b : Bool) → list_if b (with_moment host clock k) ≡ Some next → (if b then with_ask host ask (with_moment host clock k) else None) ≡ with_ask host ask next
    by_test true h = let same : with_moment host clock k ≡ next = cc in ap (with_ask host ask) same
    by_test false h = absurd (cc)

timed-none : (host : List ℕ) (clock : ℕ) (ask : Ask) (k : List Entry) → with_clock host clock k ≡ None → with_stamped host (stamps.Timed clock ask) k ≡ None
timed-none host clock ask k is = by_test (nat_le (moment k) clock) is
  where
    by_test : (b : Bool) → list_if b (with_moment host clock k) ≡ None → (if b then with_ask host ask (with_moment host clock k) else None) ≡ None
    by_test true h = absurd (cc)
    by_test false h = refl

pub goes-then : (old middle new : Replay) (clock : ℕ) (ask : Ask) (taken : Bool) → home_of middle ≡ home_of old → GoesOn old middle (with_clock (home_of old) clock) true
    → GoesOn middle new (with_ask (home_of middle) ask) taken → GoesOn old new (with_stamped (home_of old) (stamps.Timed clock ask)) taken
goes-then old middle new clock ask taken home first second = record {
  on = λ is k m.
      (let on = first.on refl k m in
      let next = second.on is on.0 on.2 in
      (next.0, timed-after (home_of old) clock ask k on.0 on.1 ∙ ap (λ h. with_ask h ask on.0) (sym home) ∙ next.1, next.2));
  nowhere = λ is k m.
      (let on = first.on refl k m in
      timed-after (home_of old) clock ask k on.0 on.1 ∙ ap (λ h. with_ask h ask on.0) (sym home) ∙ second.nowhere is on.0 on.2);
}

pub goes-nowhere : (old middle : Replay) (clock : ℕ) (ask : Ask) → GoesOn old middle (with_clock (home_of old) clock) false → GoesOn old middle (with_stamped (home_of old) (stamps.Timed clock ask)) false
goes-nowhere old middle clock ask first = record {
  on = λ is k m. absurd (cc);
  nowhere = λ is k m. timed-none (home_of old) clock ask k (first.nowhere refl k m);
}

-- ---- by a record

pub goes-said : (old new : Replay) (form : ℕ) (bytes : List ℕ) (said : Stamped) (taken : Bool) → stamped_of form bytes ≡ Some said → GoesOn old new (with_stamped (home_of old) said) taken
    → GoesOn old new (λ k. goes_on (home_of old) form k bytes) taken
goes-said old new form bytes said taken is goes =
    goes-same old new (with_stamped (home_of old) said) (λ k. goes_on (home_of old) form k bytes) taken goes (λ k m. goes_on-said (home_of old) form k bytes said is)

goes_on-none : (host : List ℕ) (form : ℕ) (k : List Entry) (bytes : List ℕ) → stamped_of form bytes ≡ None → goes_on host form k bytes ≡ None
unfolding goes_on
goes_on-none host form k bytes is = ap (λ o. option_and_then (λ said. with_stamped host said k) o) is

pub goes-unsaid : (old : Replay) (form : ℕ) (bytes : List ℕ) → stamped_of form bytes ≡ None → GoesOn old old (λ k. goes_on (home_of old) form k bytes) false
goes-unsaid old form bytes is = record {
  on = λ wrong k m. absurd (cc);
  nowhere = λ own k m. goes_on-none (home_of old) form k bytes is;
}

-- ---- by records

-- a replay stands at what these records open to
pub record Opened (host : List ℕ) (form : ℕ) (records : List (List ℕ)) (replay : Replay) : Type 0 where
  pub list : List Entry
  pub opens : opened host form records ≡ Some list
  pub stands : IsReplayOf replay list

pub opened-none : (host : List ℕ) (form : ℕ) (replay : Replay) → IsReplayOf replay [] → Opened host form [] replay
opened-none host form replay stands = record { list = []; opens = refl; stands = stands }

-- with one more
opened-one : (host : List ℕ) (form : ℕ) (records : List (List ℕ)) (r : List ℕ) (old new : Replay) → Opened host form records old → GoesOn old new (λ k. goes_on host form k r) true → Opened host form (records ++ r ∷ []) new
opened-one host form records r old new upto goes =
    let next = goes.on refl upto.list upto.stands in
    record {
      list = next.0;
      opens = opened-more host form records r upto.list upto.opens ∙ next.1;
      stands = next.2;
    }

pub opened-next : (host : List ℕ) (form : ℕ) (records : List (List ℕ)) (i : ℕ) (r : List ℕ) (old new : Replay) → i < length records → r ≡ get_or records i r
    → Opened host form (take i records) old → GoesOn old new (λ k. goes_on host form k r) true → Opened host form (take (i + 1) records) new
opened-next host form records i r old new below is upto goes =
    subst (λ rs. Opened host form rs new) (sym (take_more records i r below ∙ ap (λ x. take i records ++ x ∷ []) (sym is))) (opened-one host form (take i records) r old new upto goes)

-- all of them
pub opened-all : (host : List ℕ) (form n : ℕ) (items records : List (List ℕ)) (replay : Replay) → n ≡ length items → items ≡ records → Opened host form (take n items) replay
    → (k : List Entry) × (opened host form records ≡ Some k) × IsReplayOf replay k
opened-all host form n items records replay whole same upto =
    (upto.list, ap (opened host form) (sym (ap (λ m. take m items) whole ∙ take-length items ∙ same)) ∙ upto.opens, upto.stands)

-- a step of another spelling of the host
pub goes-home : (old new : Replay) (host other : List ℕ) (form : ℕ) (bytes : List ℕ) (taken : Bool) → other ≡ host → GoesOn old new (λ k. goes_on other form k bytes) taken → GoesOn old new (λ k. goes_on host form k bytes) taken
goes-home old new host other form bytes taken same goes = subst (λ (h : List ℕ). GoesOn old new (λ k. goes_on h form k bytes) taken) same goes

-- ---- by the records of an area

-- A replay stands at a list to which the first records of an area open, and from which the rest of them goes on as all of
-- them do from nothing.
pub record ComesFrom (host : List ℕ) (form : ℕ) (all rest : Result Records ℕ) (replay : Replay) : Type 0 where
  pub list : List Entry
  pub stands : IsReplayOf replay list
  pub opens : opened_by host form list rest ≡ opened_by host form [] all
  pub refuses : refused_by host form list rest ≡ refused_by host form [] all

pub comes-start : (host : List ℕ) (form : ℕ) (all : Result Records ℕ) (replay : Replay) → IsReplayOf replay [] → ComesFrom host form all all replay
comes-start host form all replay stands = record { list = []; stands = stands; opens = refl; refuses = refl }

opens-first : (host : List ℕ) (form : ℕ) (k next : List Entry) (r : RawRecord) (tail : Result Records ℕ) → goes_on host form k r.bytes ≡ Some next → opened_by host form next tail ≡ opened_by host form k (put_first r tail)
opens-first host form k next r (Ok read) is = sym (ap (λ o. option_and_then (λ now. opened_from host form now (contents read.items)) o) is)
opens-first host form k next r (Err place) is = refl

refuses-first : (host : List ℕ) (form : ℕ) (k next : List Entry) (r : RawRecord) (tail : Result Records ℕ) → goes_on host form k r.bytes ≡ Some next → refused_by host form next tail ≡ refused_by host form k (put_first r tail)
refuses-first host form k next r (Ok read) is = sym (ap (λ o. Ok (elim o [ None ↦ Some r.place | Some now ↦ refused_from host form now read.items ])) is)
refuses-first host form k next r (Err place) is = refl

-- one more of them
pub comes-next : (host : List ℕ) (form : ℕ) (all rest tail : Result Records ℕ) (r : RawRecord) (old new : Replay) → rest ≡ put_first r tail
    → ComesFrom host form all rest old → GoesOn old new (λ k. goes_on host form k r.bytes) true → ComesFrom host form all tail new
comes-next host form all rest tail r old new is comes goes =
    let next = goes.on refl comes.list comes.stands in
    record {
      list = next.0;
      stands = next.2;
      opens = opens-first host form comes.list next.0 r tail next.1 ∙ ap (opened_by host form comes.list) (sym is) ∙ comes.opens;
      refuses = refuses-first host form comes.list next.0 r tail next.1 ∙ ap (refused_by host form comes.list) (sym is) ∙ comes.refuses;
    }

refused-first-of : (host : List ℕ) (form : ℕ) (k : List Entry) (r : RawRecord) (tail : Result Records ℕ) (found : Result (Option ℕ) ℕ) → goes_on host form k r.bytes ≡ None → IsOk found
    → refused_by host form k (put_first r tail) ≡ found → Ok (Some r.place) ≡ found
refused-first-of host form k r (Ok read) found is ok same = sym (ap (λ o. Ok (elim o [ None ↦ Some r.place | Some now ↦ refused_from host form now read.items ])) is) ∙ same
refused-first-of host form k r (Err place) found is ok same = absurd (not-ok found place same ok)
  where
    not-ok : (f : Result (Option ℕ) ℕ) (p : ℕ) → Err p ≡ f → IsOk f → ⊥
    not-ok (Ok x) p e k = cc
    not-ok (Err q) p e k = cc

refused-ok : (host : List ℕ) (form : ℕ) (k : List Entry) (all : Result Records ℕ) → IsOk all → IsOk (refused_by host form k all)
refused-ok host form k (Ok read) ok = refl
refused-ok host form k (Err place) ok = absurd (cc)

-- or one that is refused
pub comes-refused : (host : List ℕ) (form : ℕ) (all rest tail : Result Records ℕ) (r : RawRecord) (old new : Replay) → IsOk all → rest ≡ put_first r tail
    → ComesFrom host form all rest old → GoesOn old new (λ k. goes_on host form k r.bytes) false → refused_by host form [] all ≡ Ok (Some r.place)
comes-refused host form all rest tail r old new ok is comes goes =
    sym (refused-first-of host form comes.list r tail (refused_by host form [] all) (goes.nowhere refl comes.list comes.stands) (refused-ok host form [] all ok)
    (ap (refused_by host form comes.list) (sym is) ∙ comes.refuses))

-- all of them
pub comes-end : (host : List ℕ) (form end : ℕ) (all rest : Result Records ℕ) (replay : Replay) → rest ≡ Ok (record { items = []; end = end }) → ComesFrom host form all rest replay
    → (k : List Entry) × (opened_by host form [] all ≡ Some k) × IsReplayOf replay k
comes-end host form end all rest replay is comes = (comes.list, sym comes.opens ∙ ap (opened_by host form comes.list) is, comes.stands)

pub comes-whole : (host : List ℕ) (form end : ℕ) (all rest : Result Records ℕ) (replay : Replay) → rest ≡ Ok (record { items = []; end = end }) → ComesFrom host form all rest replay
    → refused_by host form [] all ≡ Ok None
comes-whole host form end all rest replay is comes = sym comes.refuses ∙ ap (refused_by host form comes.list) is

pub comes-fault : (host : List ℕ) (form place : ℕ) (all rest : Result Records ℕ) (replay : Replay) → rest ≡ Err place → ComesFrom host form all rest replay → refused_by host form [] all ≡ Err place
comes-fault host form place all rest replay is comes = sym comes.refuses ∙ ap (refused_by host form comes.list) is

-- ---- by the records of an area

-- what follows a record is the bytes behind it
rest-is : (rest : List ℕ) (k : ℕ) → take (length rest - k) (drop k rest) ≡ drop k rest
rest-is rest k = take_all (length rest - k) (drop k rest) (omega (arith, length-drop k rest))

-- one more record of an area
pub comes-more : (host other : List ℕ) (form end : ℕ) (all : Result Records ℕ) (rest r : List ℕ) (old new : Replay) → other ≡ host → FirstIs end rest (Some r)
    → ComesFrom host form all (records_from 0 end rest) old → GoesOn old new (λ k. goes_on other form k r) true
    → ComesFrom host form all (records_from 0 (end + (5 + length r)) (take (length rest - (5 + length r)) (drop (5 + length r) rest))) new
comes-more host other form end all rest r old new home first comes goes =
    subst (λ (l : List ℕ). ComesFrom host form all (records_from 0 (end + (5 + length r)) l) new) (sym (rest-is rest (5 + length r)))
    (comes-next host form all (records_from 0 end rest) (records_from 0 (end + (5 + length r)) (drop (5 + length r) rest)) (record { place = end; bytes = r }) old new first.2 comes
    (goes-home old new host other form r true home goes))

-- or one that is refused
pub comes-halts : (host other : List ℕ) (form end : ℕ) (all : Result Records ℕ) (rest r : List ℕ) (old new : Replay) → IsOk all → other ≡ host → FirstIs end rest (Some r)
    → ComesFrom host form all (records_from 0 end rest) old → GoesOn old new (λ k. goes_on other form k r) false → refused_by host form [] all ≡ Ok (Some end)
comes-halts host other form end all rest r old new ok home first comes goes =
    comes-refused host form all (records_from 0 end rest) (records_from 0 (end + (5 + length r)) (drop (5 + length r) rest)) (record { place = end; bytes = r }) old new ok first.2 comes
    (goes-home old new host other form r false home goes)
