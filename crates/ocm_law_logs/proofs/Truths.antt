-- Which lines are true of a history, and that they stay so.
use Rattle.std.proofs.Common.{◌≡◌, ℕ, ◌+◌, ◌<◌, ◌≤◌, List, [], ◌∷◌, ◌++◌, Bool, true, false, refl, sym, ap, ◌∙◌, arith}
use Rattle.std.specs.Prelude.{Option, Some, None, ◌&&◌, ◌⊎◌, if◌then◌else◌, nat_eq, nat_le, nat_lt, option_map, unwrap_or}
use Rattle.std.specs.Option.{option_or, option_map_or}
use Rattle.std.proofs.lemmas.Bool.{eqb-true, eq-eqb, lt-ltb, ltb-true, le-leb, leb-true}
use mathlib.Core.Logic.{inl, inr}
use Rattle.ocm_entry.specs.declared.asks.Ask.{Ask}
use Rattle.ocm_entry.specs.declared.asks.Ask.TheVariants as asks
use Rattle.ocm_entry.specs.declared.entries.Entry.{Entry}
use Rattle.ocm_entry.specs.declared.replies.Reply.{Reply}
use Rattle.ocm_entry.specs.declared.replies.Reply.TheVariants.{Done}
use Rattle.ocm_rules.specs.History.{kept, answer_kept, answer}
use Rattle.ocm_rules.specs.Lean.{without_body, lean, count}
use Rattle.ocm_entry.specs.Ticks.{is_tick}
use Rattle.ocm_rules.specs.Shares.{moment}
use Rattle.ocm_rules.proofs.Lists.{both_pass}
use Rattle.ocm_law_lean.proofs.Thin.{of_tick, count-same}
use Rattle.ocm_law_sessions.specs.Readings.{entry_after, with_moment}
use Rattle.ocm_law_sessions.specs.Crashes.{HasLeanWith, IsNext, unheard}
use Rattle.ocm_law_sessions.specs.Sessions.{heard}
use Rattle.ocm_law_sessions.proofs.Entries.{clocks, tick-is, with_moment-stays}
use Rattle.ocm_access_log.specs.declared.lines.LogLine.{LogLine}
use Rattle.ocm_access_log.specs.Truth.{end_of, status_of, has_status, is_true_after, is_true, first_false}
use Rattle.ocm_law_logs.specs.Logged.{AreTrue, is_read, is_true_of, line_after}
use Rattle.ocm_law_logs.proofs.Bare.{bare, bare-same, moment-same, followed-same, status-same}
use Rattle.ocm_law_logs.proofs.Growing.{IsKept, grown, of_kept, kept-tick, moment-grows}
use Rattle.ocm_law_logs.proofs.Fronts.{tally, tally-tick, tally-other, tally-grows, if_tally, front, finish, own, front-none, front-tick, front-bare, finish-bare, prefix-front, end-finish}

-- ---- places and moments

pub count-grows : (host : List ℕ) (later g : List Entry) → count host g ≤ count host (later ++ g)
count-grows host later g = grown (λ l. count host g ≤ tally l) host later g (λ e l is le. (let more = tally-grows e l in omega arith)) (omega arith)

pub moments-grow : (host : List ℕ) (later g : List Entry) → moment (kept host g) ≤ moment (kept host (later ++ g))
moments-grow host later g = grown (λ l. moment (kept host g) ≤ moment l) host later g (λ e l is le. (let more = moment-grows host e l is in omega arith)) (omega arith)

-- histories with the same lean list have the same line for a read
pub line-same : (host : List ℕ) (g other : List Entry) (ask : Ask) (status : ℕ) → lean host g ≡ lean host other → line_after host g ask status ≡ line_after host other ask status
line-same host g other ask status same =
    ap (λ n. line n (moment (kept host g))) (count-same host g other same)
    ∙ ap (λ n. line (count host other) n) (moment-same (kept host g) (kept host other) (bare-same host g other same))
  where
    line : ℕ → ℕ → LogLine
    line place now = record { place = place; moment = now; ask = ask; status = status }

-- ---- a tick at a moment

moment-with : (host : List ℕ) (clock : ℕ) (q : List Entry) → moment q ≤ moment (with_moment host clock q)
moment-with host clock q = cases (nat_lt (moment q) clock) refl
  where
    cases : (b : Bool) → nat_lt (moment q) clock ≡ b → moment q ≤ moment (if b then entry_after host q (asks.Tick clock) ∷ q else q)
    cases true is = let above = ltb-true (moment q) clock is in omega arith
    cases false is = omega arith

-- where a tick follows, one at the end is passed
with-followed : (host : List ℕ) (clock : ℕ) (q : List Entry) → bare true (with_moment host clock q) ≡ bare true q
with-followed host clock q = cases (nat_lt (moment q) clock)
  where
    cases : (b : Bool) → bare true (if b then entry_after host q (asks.Tick clock) ∷ q else q) ≡ bare true q
    cases true = refl
    cases false = refl

-- prefixes with the same bare list have the same with a tick at a moment
pub with-same : (host : List ℕ) (clock : ℕ) (q r : List Entry) → bare false q ≡ bare false r → bare false (with_moment host clock q) ≡ bare false (with_moment host clock r)
with-same host clock q r same =
    cases (nat_lt (moment q) clock)
    ∙ ap (λ n. bare false (if nat_lt n clock then entry_after host r (asks.Tick clock) ∷ r else r)) (moment-same q r same)
  where
    tick : Entry
    tick = record { ask = asks.Tick clock; reply = Done }

    cases : (b : Bool) → bare false (if b then entry_after host q (asks.Tick clock) ∷ q else q) ≡ bare false (if b then entry_after host r (asks.Tick clock) ∷ r else r)
    cases true = ap (λ l. tick ∷ l) (followed-same q r same)
    cases false = same

-- ---- at the read

-- the shortest prefix with the place of a history, and a tick at its moment, have the history's bare list
abbrev IsReached : List ℕ → List Entry → Type 0
IsReached host l = (q : List Entry) × (front (tally l) l ≡ Some q) × (bare false l ≡ bare false (with_moment host (moment l) q))

whole : (host : List ℕ) (l : List Entry) → front (tally l) l ≡ Some l → IsReached host l
whole host l there = (l, there, ap (λ x. bare false x) (sym (with_moment-stays host l)))

tick-reached : (host : List ℕ) (e : Entry) (l : List Entry) → IsKept host e l → is_tick e.ask ≡ true → IsReached host l → IsReached host (e ∷ l)
tick-reached host e l is tick older = (older.0, there, same)
  where
    q : List Entry
    q = older.0

    there : front (tally (e ∷ l)) (e ∷ l) ≡ Some q
    there = front-tick (tally (e ∷ l)) e l tick ∙ ap (λ n. front n l) (tally-tick e l tick) ∙ older.1

    rises : (e.reply ≡ Done) × (moment l < moment (e ∷ l))
    rises = kept-tick host e l is tick

    below : moment q ≤ moment l
    below = let with = moment-with host (moment l) q in let equal = moment-same l (with_moment host (moment l) q) older.2 in omega arith

    above : nat_lt (moment q) (moment (e ∷ l)) ≡ true
    above = let low = below in let high = rises.1 in lt-ltb (moment q) (moment (e ∷ l)) (omega arith)

    entry_of : Ask → Reply → Entry
    entry_of ask reply = record { ask = ask; reply = reply }

    bodiless : without_body e.ask ≡ e.ask
    bodiless = of_tick (λ a. without_body a ≡ a) (λ clock. refl) e.ask tick

    first : entry_of (without_body e.ask) e.reply ≡ entry_of (asks.Tick (moment (e ∷ l))) Done
    first = ap (λ a. entry_of a e.reply) (bodiless ∙ sym (tick-is e.ask (clocks l) tick)) ∙ ap (λ r. entry_of (asks.Tick (moment (e ∷ l))) r) rises.0

    same : bare false (e ∷ l) ≡ bare false (with_moment host (moment (e ∷ l)) q)
    same =
        ap (λ b. entry_of (without_body e.ask) e.reply ∷ bare b l) tick
        ∙ ap (λ x. x ∷ bare true l) first
        ∙ ap (λ x. entry_of (asks.Tick (moment (e ∷ l))) Done ∷ x) (followed-same l (with_moment host (moment l) q) older.2 ∙ with-followed host (moment l) q)
        ∙ ap (λ b. bare false (if b then entry_after host q (asks.Tick (moment (e ∷ l))) ∷ q else q)) (sym above)

reached : (host : List ℕ) (g : List Entry) → IsReached host (kept host g)
reached host g = of_kept (λ l. IsReached host l) host g step (whole host [] (own []))
  where
    step : (e : Entry) (l : List Entry) → IsKept host e l → IsReached host l → IsReached host (e ∷ l)
    step e l is older = cases (is_tick e.ask) refl
      where
        cases : (b : Bool) → is_tick e.ask ≡ b → IsReached host (e ∷ l)
        cases true tick = tick-reached host e l is tick older
        cases false other =
            let more = tally-other e l other in
            let none = front-none (tally (e ∷ l)) l (omega arith) in
            whole host (e ∷ l) (ap (λ o. option_or o (if_tally (tally (e ∷ l)) (e ∷ l))) none ∙ own (e ∷ l))

-- ---- what a true line is

-- what makes a line true of a list after q, up to the end of its place
abbrev IsSo : List ℕ → List Entry → List Entry → LogLine → Type 0
IsSo host q end line = (moment q ≤ line.moment) × (line.moment ≤ moment end) × (status_of (answer_kept host (with_moment host line.moment q) line.ask) ≡ Some line.status)

all-pass : (a b : Bool) (o : Option ℕ) (status : ℕ) → a ≡ true → b ≡ true → o ≡ Some status → (a && b && option_map_or (nat_eq status) o false) ≡ true
all-pass a b o status low high is = let equal : nat_eq status status ≡ true = eq-eqb status status refl in rw (low, high, is, equal) refl

so-true : (host : List ℕ) (q end : List Entry) (line : LogLine) → IsSo host q end line → is_true_after host q end line ≡ true
so-true host q end line so =
    all-pass (nat_le (moment q) line.moment) (nat_le line.moment (moment end)) (status_of (answer_kept host (with_moment host line.moment q) line.ask)) line.status
    (le-leb (moment q) line.moment so.0) (le-leb line.moment (moment end) so.1) so.2

true-so : (host : List ℕ) (q end : List Entry) (line : LogLine) → is_true_after host q end line ≡ true → IsSo host q end line
true-so host q end line h =
    let outer = both_pass (nat_le (moment q) line.moment && nat_le line.moment (moment end)) (has_status line.status reply) h in
    let inner = both_pass (nat_le (moment q) line.moment) (nat_le line.moment (moment end)) outer.0 in
    (leb-true (moment q) line.moment inner.0, leb-true line.moment (moment end) inner.1, by_status (status_of reply) outer.1)
  where
    reply : Reply
    reply = answer_kept host (with_moment host line.moment q) line.ask

    by_status : (o : Option ℕ) → option_map_or (nat_eq line.status) o false ≡ true → o ≡ Some line.status
    by_status None k = absurd (cc)
    by_status (Some status) k = ap (λ n. Some n) (sym (eqb-true line.status status k))

-- a line is true of a history where it is so after the shortest prefix with its place
pub found-true : (host : List ℕ) (g q : List Entry) (line : LogLine) → front line.place (kept host g) ≡ Some q → IsSo host q (finish line.place (kept host g)) line → is_true_of host g line ≡ true
found-true host g q line there so =
    ap (λ o. option_map_or (λ p. is_true_after host p (end_of host line.place (kept host g)) line) o false) (prefix-front host line.place g ∙ there)
    ∙ ap (λ end. is_true_after host q end line) (end-finish host line.place g)
    ∙ so-true host q (finish line.place (kept host g)) line so

true-found : (host : List ℕ) (g : List Entry) (line : LogLine) → is_true_of host g line ≡ true
    → (q : List Entry) × (front line.place (kept host g) ≡ Some q) × IsSo host q (finish line.place (kept host g)) line
true-found host g line h = cases (front line.place (kept host g)) refl (ap (λ o. holds o) (sym (prefix-front host line.place g)) ∙ h)
  where
    holds : Option (List Entry) → Bool
    holds o = option_map_or (λ p. is_true_after host p (end_of host line.place (kept host g)) line) o false

    cases : (o : Option (List Entry)) → front line.place (kept host g) ≡ o → holds o ≡ true
        → (q : List Entry) × (front line.place (kept host g) ≡ Some q) × IsSo host q (finish line.place (kept host g)) line
    cases None is k = absurd (cc)
    cases (Some q) is k = (q, is, true-so host q (finish line.place (kept host g)) line (ap (λ end. is_true_after host q end line) (sym (end-finish host line.place g)) ∙ k))

-- ---- the laws

-- what is logged is true
pub logged-true : (host : List ℕ) (g : List Entry) (ask : Ask) (status : ℕ) → is_read ask ≡ true → status_of (answer host g ask) ≡ Some status → is_true_of host g (line_after host g ask status) ≡ true
logged-true host g ask status is answered =
    let l : List Entry = kept host g in
    let at_read = reached host g in
    let low = moment-with host (moment l) at_read.0 in
    let equal = moment-same l (with_moment host (moment l) at_read.0) at_read.2 in
    let over : front (tally l + 1) l ≡ None = front-none (tally l + 1) l (omega arith) in
    let end : finish (tally l) l ≡ l = ap (λ o. unwrap_or o l) over in
    let high : moment l ≤ moment (finish (tally l) l) = let same = ap moment end in omega arith in
    found-true host g at_read.0 (line_after host g ask status) at_read.1
    (omega arith, high, sym (status-same host l (with_moment host (moment l) at_read.0) ask is at_read.2) ∙ answered)

-- a later list has the same prefix
front-later : (host : List ℕ) (place : ℕ) (later g q : List Entry) → front place (kept host g) ≡ Some q → front place (kept host (later ++ g)) ≡ Some q
front-later host place later g q there =
    grown (λ l. front place l ≡ Some q) host later g (λ e l is older. ap (λ o. option_or o (if nat_eq (tally (e ∷ l)) place then Some (e ∷ l) else None)) older) there

-- and does not end its place earlier
finish-later : (host : List ℕ) (place : ℕ) (later g : List Entry) → moment (finish place (kept host g)) ≤ moment (finish place (kept host (later ++ g)))
finish-later host place later g = grown (λ l. moment (finish place (kept host g)) ≤ moment (finish place l)) host later g step (omega arith)
  where
    step : (e : Entry) (l : List Entry) → IsKept host e l → moment (finish place (kept host g)) ≤ moment (finish place l) → moment (finish place (kept host g)) ≤ moment (finish place (e ∷ l))
    step e l is older = cases (front (place + 1) l) (nat_eq (tally (e ∷ l)) (place + 1)) older
      where
        cases : (o : Option (List Entry)) (b : Bool) → moment (finish place (kept host g)) ≤ moment (unwrap_or o l)
            → moment (finish place (kept host g)) ≤ moment (unwrap_or (option_or o (if b then Some (e ∷ l) else None)) (e ∷ l))
        cases (Some q) b le = le
        cases None true le = let more = moment-grows host e l is in omega arith
        cases None false le = let more = moment-grows host e l is in omega arith

-- of what has the same bare list, the prefixes have the same bare list
map-some : (o : Option (List Entry)) (x : List Entry) → option_map (bare false) o ≡ Some (bare false x) → (q : List Entry) × (o ≡ Some q) × (bare false q ≡ bare false x)
map-some None x h = absurd (cc)
map-some (Some q) x h = (q, refl, cc)

pub true-later : (host : List ℕ) (later g next : List Entry) (line : LogLine) → is_read line.ask ≡ true → lean host next ≡ lean host (later ++ g) → is_true_of host g line ≡ true → is_true_of host next line ≡ true
true-later host later g next line is same h =
    found-true host next now.0 line now.1
    (low, high, status-same host (with_moment host line.moment now.0) (with_moment host line.moment found.0) line.ask is (with-same host line.moment now.0 found.0 now.2) ∙ found.2.2)
  where
    place : ℕ
    place = line.place

    all : List Entry
    all = kept host (later ++ g)

    found : (q : List Entry) × (front place (kept host g) ≡ Some q) × IsSo host q (finish place (kept host g)) line
    found = true-found host g line h

    equal : bare false (kept host next) ≡ bare false all
    equal = bare-same host next (later ++ g) same

    now : (q : List Entry) × (front place (kept host next) ≡ Some q) × (bare false q ≡ bare false found.0)
    now = map-some (front place (kept host next)) found.0
        (sym (front-bare place false (kept host next)) ∙ ap (λ l. front place l) equal ∙ front-bare place false all ∙ ap (λ o. option_map (bare false) o) (front-later host place later g found.0 found.1))

    low : moment now.0 ≤ line.moment
    low = let alike = moment-same now.0 found.0 now.2 in let before = found.2.0 in omega arith

    high : line.moment ≤ moment (finish place (kept host next))
    high =
        let alike = moment-same (finish place (kept host next)) (finish place all) (finish-bare place (kept host next) ∙ ap (λ l. finish place l) equal ∙ sym (finish-bare place all)) in
        let further = finish-later host place later g in
        let before = found.2.1 in
        omega arith

pub true-crash : (host : List ℕ) (k h : List Entry) (flight : Option Ask) (next : List Entry) (line : LogLine) → is_read line.ask ≡ true → IsNext host k h flight next
    → is_true_of host (h ++ k) line ≡ true → is_true_of host next line ≡ true
true-crash host k h flight next line is comes holds = by_case comes.1
  where
    g : List Entry
    g = h ++ k

    by_ask : (o : Option Ask) → HasLeanWith host g o next → is_true_of host next line ≡ true
    by_ask None with = absurd with
    by_ask (Some ask) with = true-later host (heard host g ask ∷ []) g next line is with holds

    by_case : (lean host next ≡ lean host g) ⊎ HasLeanWith host g (unheard host k h flight) next → is_true_of host next line ≡ true
    by_case (inl same) = true-later host [] g next line is same holds
    by_case (inr with) = by_ask (unheard host k h flight) with

pub all-later : (host : List ℕ) (later g next : List Entry) (lines : List LogLine) → lean host next ≡ lean host (later ++ g) → AreTrue host g lines → AreTrue host next lines
all-later host later g next [] same all = tt
all-later host later g next (line ∷ lines) same all = (all.0, true-later host later g next line all.0 same all.1, all-later host later g next lines same all.2)

if-true : (b : Bool) (x y : Option ℕ) → b ≡ true → (if b then x else y) ≡ x
if-true true x y h = refl
if-true false x y h = absurd (cc)

pub none-false : (host : List ℕ) (k : List Entry) (number : ℕ) (lines : List LogLine) → kept host k ≡ k → AreTrue host k lines → first_false host k number lines ≡ None
none-false host k number [] same all = refl
none-false host k number (line ∷ lines) same all =
    let holds : is_true host k line ≡ true = ap (λ l. is_true host l line) (sym same) ∙ all.1 in
    if-true (is_true host k line) (first_false host k (number + 1) lines) (Some number) holds ∙ none-false host k (number + 1) lines same all.2
