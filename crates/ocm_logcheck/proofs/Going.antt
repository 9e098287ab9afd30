-- How a replay goes on by records.
use Rattle.std.proofs.Common.{◌≡◌, ℕ, ◌+◌, ◌<◌, ◌≤◌, nat_lt, List, [], ◌∷◌, ◌++◌, length, take, drop, get_or, suc, append_assoc, Bool, true, false, refl, sym, ap, ◌∙◌, subst, arith, Option, Some, None, Ok}
use Rattle.std.specs.Prelude.{if◌then◌else◌, nat_le, option_and_then}
use Rattle.std.proofs.lemmas.Bool.Decides.{nat_tests}
use Rattle.std.proofs.lemmas.List.{map-append, take_more}
use Rattle.std.proofs.Math.Seq.{split_at, take-length}
use mathlib.Core.Logic.{inl, inr}
use Rattle.ocm_entry.specs.declared.asks.Ask.{Ask}
use Rattle.ocm_entry.specs.declared.asks.Ask.TheVariants.{Tick}
use Rattle.ocm_entry.specs.declared.entries.Entry.{Entry}
use Rattle.ocm_journal_image.specs.declared.readings.RawRecord.{RawRecord}
use Rattle.ocm_journal_image.specs.Layout.{contents}
use Rattle.ocm_rules.specs.History.{IsAnswered, changes}
use Rattle.ocm_rules.specs.Lean.{count}
use Rattle.ocm_entry.specs.Ticks.{is_tick}
use Rattle.ocm_rules.specs.Shares.{clock_of, moment}
use Rattle.ocm_rules.specs.State.{State}
use Rattle.ocm_tables.specs.Tables.{ServerLists}
use Rattle.ocm_core.specs.Standing.{IsAfter}
use Rattle.ocm_journal_records.specs.Stamps.{stamped_of}
use Rattle.ocm_journal_records.specs.declared.stamps.Stamped.{Stamped}
use Rattle.ocm_journal_records.specs.declared.stamps.Stamped.TheVariants as stamps
use Rattle.ocm_law_sessions.specs.Readings.{entry_after, goes_on, opened, refused_at, with_ask, with_moment, with_stamped}
use Rattle.ocm_law_sessions.specs.Sessions.{heard, would_change}
use Rattle.ocm_law_sessions.proofs.Entries.{moment-other}
use Rattle.ocm_law_sessions.proofs.Opening.{opened-more, refused-first}
use Rattle.ocm_law_sessions.proofs.Stamping.{goes_on-said}
use Rattle.ocm_access_log.specs.declared.lines.LogLine.{LogLine}
use Rattle.ocm_access_log.specs.Reads.{AreLoggedFrom}
use Rattle.ocm_logcheck.specs.declared.replays.Replay.{Replay}
use Rattle.ocm_logcheck.specs.declared.faults.LogFault.{LogFault}
use Rattle.ocm_logcheck.specs.Steps.{IsBehind, up_to_ask, with_clock}
use Rattle.ocm_logcheck.specs.Replays.{Extends, GivesCount, GoesOn, IsLookedUp, IsOver, IsReplayOf, lines_left}
use Rattle.ocm_logcheck.proofs.Prefixes.{count-ask, count-tick, up_to-ask}
use Rattle.ocm_logcheck.proofs.Behind.{behind-ask, behind-there, would-whole}
use Rattle.ocm_logcheck.proofs.Looking.{looked-all}

-- ---- the asks that are no ticks

pub no-tick : (ask : Ask) → clock_of ask ≡ None → is_tick ask ≡ false
no-tick (Tick clock) none = absurd (cc)
no-tick _ none = refl

-- ---- by a tick, which is put off

-- these kept entries, or none
abbrev list_if : Bool → List Entry → Option (List Entry)
list_if b k = if b then Some k else None

later-extends : (e : Entry) (k end : List Entry) → Extends (e ∷ k) end → Extends k end
later-extends e k end later = (later.0 ++ e ∷ [], later.1 ∙ sym (append_assoc later.0 (e ∷ []) k))

stands-tick : (host : List ℕ) (lines : List LogLine) (old : Replay) (k : List Entry) (clock : ℕ) → nat_lt (moment k) clock ≡ true → IsReplayOf host lines old k
    → (let new : Replay = record old { moment = clock } in IsReplayOf host lines new (entry_after host k (Tick clock) ∷ k))
stands-tick host lines old k clock above stands =
    let tick : Entry = entry_after host k (Tick clock) in
    let lists : IsBehind host old.core.state k = stands.lists in
    let answered : IsAnswered host (tick ∷ k) = (refl, above, lists.answered) in
    let same : count host (tick ∷ k) ≡ count host k = count-tick host tick k answered refl in
    let up : moment k ≤ clock = grind (arith, nat_tests) in
    let within = lists.within in
    record {
      lists = record { home = lists.home; answered = answered; lists = lists.lists; within = omega arith };
      clock = refl;
      asks = stands.asks ∙ sym same;
      counts = λ end later. stands.counts end (later-extends tick k end later);
      last = stands.last;
      order = subst (λ p. AreLoggedFrom p stands.last (lines_left old lines)) (sym same) stands.order;
      since = stands.since;
    }

-- a tick that is above the moment so far, and one that is not
pub goes-tick : (host : List ℕ) (lines : List LogLine) (old : Replay) (clock : ℕ) → old.moment < clock → (let new : Replay = record old { moment = clock } in GoesOn host lines old new (with_ask host (Tick clock)) true)
goes-tick host lines old clock above = record {
  on = λ is k stands.
      (let now = stands.clock in
      let changed : nat_lt (moment k) clock ≡ true = grind (arith, nat_tests) in
      (entry_after host k (Tick clock) ∷ k, ap (λ b. list_if b (entry_after host k (Tick clock) ∷ k)) changed, stands-tick host lines old k clock changed stands));
  nowhere = λ wrong k stands. absurd (cc);
}

pub stays-tick : (host : List ℕ) (lines : List LogLine) (old : Replay) (clock : ℕ) → clock ≤ old.moment → GoesOn host lines old old (with_ask host (Tick clock)) false
stays-tick host lines old clock below = record {
  on = λ wrong k stands. absurd (cc);
  nowhere = λ is k stands.
      (let now = stands.clock in
      let none : nat_lt (moment k) clock ≡ false = grind (arith, nat_tests) in
      ap (λ b. list_if b (entry_after host k (Tick clock) ∷ k)) none);
}

-- ---- by a tick where the moment is above that so far

stands-same : (host : List ℕ) (lines : List LogLine) (old : Replay) (k : List Entry) (clock : ℕ) → moment k ≡ clock → IsReplayOf host lines old k
    → (let new : Replay = record old { moment = clock } in IsReplayOf host lines new k)
stands-same host lines old k clock same stands = record {
  lists = stands.lists;
  clock = sym same;
  asks = stands.asks;
  counts = stands.counts;
  last = stands.last;
  order = stands.order;
  since = stands.since;
}

pub goes-clock : (host : List ℕ) (lines : List LogLine) (old : Replay) (clock : ℕ) → old.moment ≤ clock → (let new : Replay = record old { moment = clock } in GoesOn host lines old new (with_clock host clock) true)
goes-clock host lines old clock up = record {
  on = λ is k stands.
      (let now = stands.clock in
      let known : nat_le (moment k) clock ≡ true = grind (arith, nat_tests) in
      (with_moment host clock k, ap (λ b. list_if b (with_moment host clock k)) known, stands-clock host lines old k clock (omega arith) stands));
  nowhere = λ wrong k stands. absurd (cc);
}
  where
    stands-clock : (host : List ℕ) (lines : List LogLine) (old : Replay) (k : List Entry) (clock : ℕ) → moment k ≤ clock → IsReplayOf host lines old k
        → (let new : Replay = record old { moment = clock } in IsReplayOf host lines new (with_moment host clock k))
    stands-clock host lines old k clock up stands = by_test (nat_lt (moment k) clock) refl
      where
        by_test : (b : Bool) → nat_lt (moment k) clock ≡ b
            → (let new : Replay = record old { moment = clock } in IsReplayOf host lines new (if b then entry_after host k (Tick clock) ∷ k else k))
        by_test true above = stands-tick host lines old k clock above stands
        by_test false other = let same : moment k ≡ clock = grind (arith, nat_tests) in stands-same host lines old k clock same stands

pub stays-clock : (host : List ℕ) (lines : List LogLine) (old : Replay) (clock : ℕ) → clock < old.moment → GoesOn host lines old old (with_clock host clock) false
stays-clock host lines old clock below = record {
  on = λ wrong k stands. absurd (cc);
  nowhere = λ is k stands.
      (let now = stands.clock in
      let none : nat_le (moment k) clock ≡ false = grind (arith, nat_tests) in
      ap (λ b. list_if b (with_moment host clock k)) none);
}

-- ---- by an ask that is no tick

-- before the ask the lines of this place are looked up
pub looks-up : (host : List ℕ) (lines : List LogLine) (old : Replay) (k : List Entry) → IsReplayOf host lines old k → IsLookedUp host lines (count host k) old k
looks-up host lines old k stands = record {
  lists = stands.lists;
  clock = stands.clock;
  asks = stands.asks;
  counts = λ end over. stands.counts end (over-extends end over);
  last = stands.last;
  order = stands.order;
  since = stands.since;
}
  where
    over-extends : (end : List Entry) → IsOver host k end → Extends k end
    over-extends end (inl same) = ([], same)
    over-extends end (inr (e, other, answered, later)) = later-extends e k end later

-- then the lists go on to the moment of the list
pub arrives : (host : List ℕ) (lines : List LogLine) (looked : Replay) (lists : State) (k : List Entry)
    → (IsBehind host looked.core.state k → looked.core.state.moment ≤ looked.moment → looked.moment ≤ moment k → IsBehind host lists k)
    → (IsBehind host looked.core.state k → looked.core.state.moment ≤ looked.moment → lists.moment ≡ looked.moment)
    → IsLookedUp host lines (count host k + 1) looked k → IsBehind host lists k × (lists.moment ≡ moment k)
arrives host lines looked lists k moves at stands =
    let clock = stands.clock in
    let within = stands.lists.within in
    let low : looked.core.state.moment ≤ looked.moment = omega arith in
    let high : looked.moment ≤ moment k = omega arith in
    (moves stands.lists low high, at stands.lists low ∙ stands.clock)

-- the step comes to the ask, where it changes something
ask-step : (host : List ℕ) (lists : State) (k : List Entry) (ask : Ask) (taken : Bool) → IsBehind host lists k → lists.moment ≡ moment k → ((g : List Entry) → IsAfter lists g → taken ≡ would_change lists.host g ask)
    → changes host k (entry_after host k ask) ≡ taken
ask-step host lists k ask taken behind at tells =
    sym (tells k (behind-there host lists k behind at) ∙ ap (λ h. would_change h k ask) behind.home ∙ would-whole host k ask behind.answered)

stands-ask : (host : List ℕ) (lines : List LogLine) (looked : Replay) (lists : State) (core : ServerLists) (k : List Entry) (ask : Ask)
    → clock_of ask ≡ None → IsLookedUp host lines (count host k + 1) looked k → IsBehind host lists k → lists.moment ≡ moment k → core.state.host ≡ lists.host
    → changes host k (entry_after host k ask) ≡ true → IsAfter core.state (heard lists.host k ask ∷ k)
    → (let new : Replay = record looked { core = core; place = looked.place + 1 } in IsReplayOf host lines new (entry_after host k ask ∷ k))
stands-ask host lines looked lists core k ask none stands behind at home changed after =
    let e : Entry = entry_after host k ask in
    let other : is_tick ask ≡ false = no-tick ask none in
    let answered : IsAnswered host (e ∷ k) = (refl, changed, behind.answered) in
    let more : count host (e ∷ k) ≡ count host k + 1 = count-ask host e k answered other in
    let here : IsBehind host core.state (e ∷ k) = behind-ask host core.state k ask other behind.answered changed (home ∙ behind.home) (subst (λ h. IsAfter core.state (heard h k ask ∷ k)) behind.home after) in
    let within : core.state.moment ≤ moment (e ∷ k) = here.within in
    let last : up_to_ask (e ∷ k) ≡ e ∷ k = up_to-ask e k other in
    let since : core.state.moment ≤ moment (up_to_ask (e ∷ k)) = subst (λ l. core.state.moment ≤ moment l) (sym last) within in
    record {
      lists = here;
      clock = stands.clock ∙ sym (moment-other e k other);
      asks = ap (λ n. n + 1) stands.asks ∙ sym more;
      counts = λ end later. stands.counts end (inr (e, other, answered, later));
      last = stands.last;
      order = subst (λ p. AreLoggedFrom p stands.last (lines_left looked lines)) (sym more) stands.order;
      since = omega arith;
    }

pub goes-ask : (host : List ℕ) (lines : List LogLine) (old looked : Replay) (lists : State) (core : ServerLists) (ask : Ask)
    → clock_of ask ≡ None
    → ((k : List Entry) → IsReplayOf host lines old k → IsLookedUp host lines (count host k + 1) looked k)
    → ((k : List Entry) → IsLookedUp host lines (count host k + 1) looked k → IsBehind host lists k × (lists.moment ≡ moment k))
    → ((g : List Entry) → IsAfter lists g → true ≡ would_change lists.host g ask)
    → ((g : List Entry) → IsAfter lists g → IsAfter core.state (heard lists.host g ask ∷ g))
    → core.state.host ≡ lists.host
    → (let new : Replay = record looked { core = core; place = looked.place + 1 } in GoesOn host lines old new (with_ask host ask) true)
goes-ask host lines old looked lists core ask none looks arrives tells takes home = record {
  on = λ is k stands.
      (let there = looks k stands in
      let at = arrives k there in
      let changed = ask-step host lists k ask true at.0 at.1 tells in (
        entry_after host k ask ∷ k,
        ap (λ b. list_if b (entry_after host k ask ∷ k)) changed,
        stands-ask host lines looked lists core k ask none there at.0 at.1 home changed (takes k (behind-there host lists k at.0 at.1)),
      ));
  nowhere = λ wrong k stands. absurd (cc);
}

pub stays-ask : (host : List ℕ) (lines : List LogLine) (old looked new : Replay) (lists : State) (ask : Ask)
    → ((k : List Entry) → IsReplayOf host lines old k → IsLookedUp host lines (count host k + 1) looked k)
    → ((k : List Entry) → IsLookedUp host lines (count host k + 1) looked k → IsBehind host lists k × (lists.moment ≡ moment k))
    → ((g : List Entry) → IsAfter lists g → false ≡ would_change lists.host g ask)
    → GoesOn host lines old new (with_ask host ask) false
stays-ask host lines old looked new lists ask looks arrives tells = record {
  on = λ wrong k stands. absurd (cc);
  nowhere = λ is k stands.
      (let at = arrives k (looks k stands) in
      ap (λ b. list_if b (entry_after host k ask ∷ k)) (ask-step host lists k ask false at.0 at.1 tells));
}

-- ---- by a moment, and then by an ask

timed-after : (host : List ℕ) (clock : ℕ) (ask : Ask) (k next : List Entry) → with_clock host clock k ≡ Some next → with_stamped host (stamps.Timed clock ask) k ≡ with_ask host ask next
timed-after host clock ask k next is = by_test (nat_le (moment k) clock) is
  where
    by_test : (b : Bool) → list_if b (with_moment host clock k) ≡ Some next → (if b then with_ask host ask (with_moment host clock k) else None) ≡ with_ask host ask next
    by_test true h = let same : with_moment host clock k ≡ next = cc in ap (with_ask host ask) same
    by_test false h = absurd (cc)

timed-none : (host : List ℕ) (clock : ℕ) (ask : Ask) (k : List Entry) → with_clock host clock k ≡ None → with_stamped host (stamps.Timed clock ask) k ≡ None
timed-none host clock ask k is = by_test (nat_le (moment k) clock) is
  where
    by_test : (b : Bool) → list_if b (with_moment host clock k) ≡ None → (if b then with_ask host ask (with_moment host clock k) else None) ≡ None
    by_test true h = absurd (cc)
    by_test false h = refl

pub goes-then : (host : List ℕ) (lines : List LogLine) (old middle new : Replay) (clock : ℕ) (ask : Ask) (taken : Bool) → GoesOn host lines old middle (with_clock host clock) true
    → GoesOn host lines middle new (with_ask host ask) taken → GoesOn host lines old new (with_stamped host (stamps.Timed clock ask)) taken
goes-then host lines old middle new clock ask taken first second = record {
  on = λ is k stands.
      (let on = first.on refl k stands in
      let next = second.on is on.0 on.2 in
      (next.0, timed-after host clock ask k on.0 on.1 ∙ next.1, next.2));
  nowhere = λ is k stands.
      (let on = first.on refl k stands in
      timed-after host clock ask k on.0 on.1 ∙ second.nowhere is on.0 on.2);
}

pub goes-nowhere : (host : List ℕ) (lines : List LogLine) (old middle : Replay) (clock : ℕ) (ask : Ask) → GoesOn host lines old middle (with_clock host clock) false → GoesOn host lines old middle (with_stamped host (stamps.Timed clock ask)) false
goes-nowhere host lines old middle clock ask first = record {
  on = λ is k stands. absurd (cc);
  nowhere = λ is k stands. timed-none host clock ask k (first.nowhere refl k stands);
}

-- ---- by a record

pub goes-said : (host : List ℕ) (lines : List LogLine) (old new : Replay) (form : ℕ) (bytes : List ℕ) (said : Stamped) (taken : Bool) → stamped_of form bytes ≡ Some said → GoesOn host lines old new (with_stamped host said) taken
    → GoesOn host lines old new (λ k. goes_on host form k bytes) taken
goes-said host lines old new form bytes said taken is goes = record {
  on = λ own k stands. (let next = goes.on own k stands in (next.0, goes_on-said host form k bytes said is ∙ next.1, next.2));
  nowhere = λ own k stands. goes_on-said host form k bytes said is ∙ goes.nowhere own k stands;
}

goes_on-none : (host : List ℕ) (form : ℕ) (k : List Entry) (bytes : List ℕ) → stamped_of form bytes ≡ None → goes_on host form k bytes ≡ None
unfolding goes_on
goes_on-none host form k bytes is = ap (λ o. option_and_then (λ said. with_stamped host said k) o) is

pub goes-unsaid : (host : List ℕ) (lines : List LogLine) (old : Replay) (form : ℕ) (bytes : List ℕ) → stamped_of form bytes ≡ None → GoesOn host lines old old (λ k. goes_on host form k bytes) false
goes-unsaid host lines old form bytes is = record {
  on = λ wrong k stands. absurd (cc);
  nowhere = λ own k stands. goes_on-none host form k bytes is;
}

-- ---- by records

-- a replay stands at what these records open to
pub record Opened (host : List ℕ) (form : ℕ) (lines : List LogLine) (records : List RawRecord) (replay : Replay) : Type 0 where
  pub list : List Entry
  pub opens : opened host form (contents records) ≡ Some list
  pub stands : IsReplayOf host lines replay list

pub opened-none : (host : List ℕ) (form : ℕ) (lines : List LogLine) (replay : Replay) → IsReplayOf host lines replay [] → Opened host form lines [] replay
opened-none host form lines replay stands = record { list = []; opens = refl; stands = stands }

-- with one more
pub opened-next : (host : List ℕ) (form : ℕ) (lines : List LogLine) (records : List RawRecord) (i : ℕ) (r : RawRecord) (old new : Replay) → i < length records → r ≡ get_or records i r
    → Opened host form lines (take i records) old → GoesOn host lines old new (λ k. goes_on host form k r.bytes) true → Opened host form lines (take (i + 1) records) new
opened-next host form lines records i r old new below is upto goes =
    let next = goes.on refl upto.list upto.stands in
    record {
      list = next.0;
      opens = ap (λ rs. opened host form (contents rs)) (take_more records i r below ∙ ap (λ x. take i records ++ x ∷ []) (sym is))
          ∙ ap (opened host form) (map-append (λ (x : RawRecord). x.bytes) (take i records) (r ∷ []))
          ∙ opened-more host form (contents (take i records)) r.bytes upto.list upto.opens
          ∙ next.1;
      stands = next.2;
    }

-- or one that is refused
pub opened-refused : (host : List ℕ) (form : ℕ) (lines : List LogLine) (records : List RawRecord) (i : ℕ) (r : RawRecord) (old new : Replay) → i < length records → r ≡ get_or records i r
    → Opened host form lines (take i records) old → GoesOn host lines old new (λ k. goes_on host form k r.bytes) false → refused_at host form records ≡ Some r.place
opened-refused host form lines records i r old new below is upto goes =
    ap (refused_at host form) (split_at records i r below ∙ ap (λ x. take i records ++ x ∷ rest) (sym is))
    ∙ refused-first host form (take i records) rest r [] upto.list upto.opens (goes.nowhere refl upto.list upto.stands)
  where
    rest : List RawRecord
    rest = drop (suc i) records

-- all of them, and then the lines that are left
pub opened-all : (host : List ℕ) (form n : ℕ) (lines : List LogLine) (records : List RawRecord) (replay looked : Replay) → n ≡ length records → Opened host form lines (take n records) replay
    → ((k : List Entry) → IsReplayOf host lines replay k → IsLookedUp host lines (count host k + 1) looked k) → GivesCount host form records lines (Ok looked.found)
opened-all host form n lines records replay looked whole upto looks =
    (upto.list, ap (λ rs. opened host form (contents rs)) (sym (ap (λ m. take m records) whole ∙ take-length records)) ∙ upto.opens, looked-all host lines looked upto.list (looks upto.list upto.stands))
