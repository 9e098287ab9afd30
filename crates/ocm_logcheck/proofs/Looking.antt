-- What a look-up of lines finds.
use Rattle.std.proofs.Common.{◌≡◌, ℕ, zero, suc, nat_lt, ◌+◌, ◌<◌, ◌≤◌, List, [], ◌∷◌, length, drop, get_or, Bool, true, false, ◌&&◌, refl, sym, ap, ◌∙◌, subst, arith, Option, Some, None, IsTrue}
use Rattle.std.specs.Prelude.{if◌then◌else◌, nat_eq, nat_le}
use Rattle.std.specs.Option.{option_map_or}
use Rattle.std.proofs.lemmas.Bool.{le-leb}
use Rattle.std.proofs.lemmas.Bool.Decides.{nat_tests}
use Rattle.std.proofs.lemmas.List.{drop_all, drop_more}
use mathlib.Core.Logic.{inl}
use Rattle.ocm_entry.specs.declared.entries.Entry.{Entry}
use Rattle.ocm_rules.specs.History.{IsAnswered, answer_kept}
use Rattle.ocm_rules.specs.Lean.{count}
use Rattle.ocm_rules.specs.Shares.{moment}
use Rattle.ocm_rules.specs.State.{State}
use Rattle.ocm_rules.proofs.Lists.{both_pass}
use Rattle.ocm_tables.specs.Tables.{ServerLists}
use Rattle.ocm_law_sessions.specs.Readings.{with_moment}
use Rattle.ocm_access_log.specs.declared.lines.LogLine.{LogLine}
use Rattle.ocm_access_log.specs.Reads.{AreLoggedFrom, is_read}
use Rattle.ocm_access_log.specs.Truth.{end_of, has_status, is_true, is_true_after, prefix_at}
use Rattle.ocm_logcheck.specs.declared.replays.Replay.{Replay}
use Rattle.ocm_logcheck.specs.Steps.{IsBehind, is_true_until, up_to_ask}
use Rattle.ocm_logcheck.specs.Replays.{IsLookedUp, IsOver, count_true, lines_left, next_at}
use Rattle.ocm_logcheck.proofs.Prefixes.{Ends, over-ends, prefix-above}
use Rattle.ocm_logcheck.proofs.Behind.{behind-low}

-- ---- one line

-- once a place is over, its lines are tested between the moments at which it began and ended
pub true-over : (host : List ℕ) (k end : List Entry) (line : LogLine) → Ends host k end → line.place ≡ count host k → is_true host end line ≡ is_true_until host (up_to_ask k) (moment k) line
true-over host k end line ends place =
    ap (λ p. option_map_or (λ q. is_true_after host q (end_of host p end) line) (prefix_at host p end) false) place
    ∙ ap (λ o. option_map_or (λ q. is_true_after host q (end_of host (count host k) end) line) o false) ends.begins
    ∙ ap (λ m. nat_le (moment (up_to_ask k)) line.moment && nat_le line.moment m && has_status line.status (answer_kept host (with_moment host line.moment (up_to_ask k)) line.ask)) ends.over

-- a line of a place above the count is false
pub false-above : (host : List ℕ) (k : List Entry) (line : LogLine) → IsAnswered host k → count host k < line.place → is_true host k line ≡ false
false-above host k line answered above = ap (λ o. option_map_or (λ q. is_true_after host q (end_of host line.place k) line) o false) (prefix-above host line.place k answered above)

-- the moment of a line is tested at the lists
start-same : (lists from m : ℕ) → from ≤ lists → (from ≤ m → lists ≤ m) → nat_le lists m ≡ nat_le from m
start-same lists from m low rises = by_test (nat_le from m) refl
  where
    by_test : (b : Bool) → nat_le from m ≡ b → nat_le lists m ≡ b
    by_test true is = let up : from ≤ m = grind (arith, nat_tests) in le-leb lists m (rises up)
    by_test false is = let over : m < from = grind (arith, nat_tests) in let is_false : nat_le lists m ≡ false = grind (arith, nat_tests) in is_false

-- the lists, and all lines of the place before this one, stand at no later moment than the line
abbrev pub Rises : State → List Entry → LogLine → Type 0
Rises st k line = moment (up_to_ask k) ≤ line.moment → st.moment ≤ line.moment

test-same : (host : List ℕ) (st : State) (k : List Entry) (end : ℕ) (line : LogLine) (b : Bool) → IsBehind host st k → Rises st k line → b ≡ (nat_le st.moment line.moment && nat_le line.moment end)
    → is_true_until host (up_to_ask k) end line ≡ (b && has_status line.status (answer_kept host (with_moment host line.moment (up_to_ask k)) line.ask))
test-same host st k end line b behind rises is =
    let told : Bool = has_status line.status (answer_kept host (with_moment host line.moment (up_to_ask k)) line.ask) in
    ap (λ a. a && nat_le line.moment end && told) (sym (start-same st.moment (moment (up_to_ask k)) line.moment (behind-low host st k behind) rises))
    ∙ ap (λ c. c && told) (sym is)

pub told-inside : (host : List ℕ) (st : State) (k : List Entry) (end : ℕ) (line : LogLine) (b : Bool) → IsBehind host st k → Rises st k line → b ≡ (nat_le st.moment line.moment && nat_le line.moment end) → b ≡ true
    → has_status line.status (answer_kept host (with_moment host line.moment (up_to_ask k)) line.ask) ≡ is_true_until host (up_to_ask k) end line
told-inside host st k end line b behind rises is within = sym (test-same host st k end line b behind rises is ∙ ap (λ c. c && has_status line.status (answer_kept host (with_moment host line.moment (up_to_ask k)) line.ask)) within)

pub bounds-inside : (from m end : ℕ) (b : Bool) → b ≡ (nat_le from m && nat_le m end) → b ≡ true → (from ≤ m) × (m ≤ end)
bounds-inside from m end b is within =
    let parts = both_pass (nat_le from m) (nat_le m end) (sym is ∙ within) in
    let low : nat_le from m ≡ true = parts.0 in
    let high : nat_le m end ≡ true = parts.1 in
    let below : from ≤ m = grind (arith, nat_tests) in
    let above : m ≤ end = grind (arith, nat_tests) in
    (below, above)

-- ---- the lines that are left

-- a line that is next is the first of those that are left
pub record IsNext (replay : Replay) (lines : List LogLine) (line : LogLine) : Type 0 where
  pub goes : replay.stopped ≡ false
  pub below : replay.found < length lines
  pub left : lines_left replay lines ≡ line ∷ drop (replay.found + 1) lines
  pub here : line.place ≡ replay.place

pub is-next : (replay : Replay) (lines : List LogLine) (line : LogLine) → Some line ≡ next_at replay.place (lines_left replay lines) → IsNext replay lines line
is-next replay lines line is = by_stop replay.stopped refl is
  where
    first : LogLine
    first = get_or lines replay.found line

    by_place : (b : Bool) → nat_eq first.place replay.place ≡ b → Some line ≡ (if b then Some first else None) → (first ≡ line) × (line.place ≡ replay.place)
    by_place true same g =
        let own : first ≡ line = cc in
        let here : first.place ≡ replay.place = grind (arith, nat_tests) in
        (own, ap (λ (l : LogLine). l.place) (sym own) ∙ here)
    by_place false other g = absurd (cc)

    Left : Type 0
    Left = (replay.found < length lines) × (drop replay.found lines ≡ line ∷ drop (replay.found + 1) lines) × (line.place ≡ replay.place)

    by_length : (b : Bool) → nat_lt replay.found (length lines) ≡ b → Some line ≡ next_at replay.place (drop replay.found lines) → Left
    by_length true is g =
        let below : replay.found < length lines = grind (arith, nat_tests) in
        let next = drop_more lines replay.found line below in
        let both = by_place (nat_eq first.place replay.place) refl (g ∙ ap (next_at replay.place) next) in
        (below, next ∙ ap (λ l. l ∷ drop (replay.found + 1) lines) both.0, both.1)
    by_length false is g =
        let past : length lines ≤ replay.found = grind (arith, nat_tests) in
        let none : Some line ≡ None = g ∙ ap (next_at replay.place) (drop_all replay.found lines past) in
        absurd (cc)

    by_stop : (b : Bool) → replay.stopped ≡ b → Some line ≡ next_at replay.place (if b then [] else drop replay.found lines) → IsNext replay lines line
    by_stop true stopped g = absurd (cc)
    by_stop false goes g =
        let left = by_length (nat_lt replay.found (length lines)) refl g in
        record { goes = goes; below = left.0; left = ap (λ b. if b then [] else drop replay.found lines) goes ∙ left.1; here = left.2 }

-- the lines of a log are of reads
pub logged-read : (place last : ℕ) (lines : List LogLine) (i : ℕ) (line : LogLine) → AreLoggedFrom place last lines → i < length lines → IsTrue (is_read (get_or lines i line).ask)
logged-read place last [] i line order below = absurd (omega arith)
logged-read place last (x ∷ lines) zero line order below = order.0
logged-read place last (x ∷ lines) (suc i) line order below = logged-read x.place x.moment lines i line order.3 (omega arith)

-- ---- one look-up

-- the next line stands at no earlier moment than those before it
pub next-rises : (host : List ℕ) (lines : List LogLine) (replay : Replay) (k : List Entry) (line : LogLine) → Some line ≡ next_at replay.place (lines_left replay lines) → IsLookedUp host lines (count host k) replay k → Rises replay.core.state k line
next-rises host lines replay k line is stands =
    λ up.
    let next = is-next replay lines line is in
    let order : AreLoggedFrom (count host k) stands.last (line ∷ drop (replay.found + 1) lines) = subst (λ l. AreLoggedFrom (count host k) stands.last l) next.left stands.order in
    let later : stands.last ≤ line.moment = order.2 in
    let since = stands.since in
    omega arith

-- what is found is whether it is true of each list that may come, once the place is over
found-true : (host : List ℕ) (lines : List LogLine) (replay : Replay) (k end : List Entry) (line : LogLine) (found : Bool) → IsNext replay lines line → IsLookedUp host lines (count host k) replay k → IsOver host k end
    → found ≡ is_true_until host (up_to_ask k) (moment k) line → is_true host end line ≡ found
found-true host lines replay k end line found next stands over is =
    true-over host k end line (over-ends host k end stands.lists.answered over) (next.here ∙ stands.asks) ∙ sym is

found-counts : (host : List ℕ) (lines : List LogLine) (replay : Replay) (k end : List Entry) (line : LogLine) (found : Bool) → IsNext replay lines line → IsLookedUp host lines (count host k) replay k → IsOver host k end
    → found ≡ is_true_until host (up_to_ask k) (moment k) line
    → count_true host end lines ≡ replay.found + (if found then 1 + count_true host end (drop (replay.found + 1) lines) else 0)
found-counts host lines replay k end line found next stands over is =
    stands.counts end over
    ∙ ap (λ l. replay.found + count_true host end l) next.left
    ∙ ap (λ b. replay.found + (if b then 1 + count_true host end (drop (replay.found + 1) lines) else 0)) (found-true host lines replay k end line found next stands over is)

-- the next line is true
pub looked-true : (host : List ℕ) (lines : List LogLine) (replay : Replay) (k : List Entry) (line : LogLine) (core : ServerLists) → Some line ≡ next_at replay.place (lines_left replay lines)
    → IsLookedUp host lines (count host k) replay k → IsBehind host core.state k → core.state.moment ≡ line.moment → true ≡ is_true_until host (up_to_ask k) (moment k) line
    → (let new : Replay = record replay { core = core; found = replay.found + 1 } in IsLookedUp host lines (count host k) new k)
looked-true host lines replay k line core some stands behind at is =
    let next = is-next replay lines line some in
    let rest = drop (replay.found + 1) lines in
    let left : (if replay.stopped then [] else rest) ≡ rest = ap (λ b. if b then [] else rest) next.goes in
    let order : AreLoggedFrom (count host k) stands.last (line ∷ rest) = subst (λ l. AreLoggedFrom (count host k) stands.last l) next.left stands.order in
    let order_rest : AreLoggedFrom (count host k) line.moment rest = subst (λ p. AreLoggedFrom p line.moment rest) (next.here ∙ stands.asks) order.3 in
    record {
      lists = behind;
      clock = stands.clock;
      asks = stands.asks;
      counts = λ end over.
          (let counted = found-counts host lines replay k end line true next stands over is in
          let more : replay.found + (1 + count_true host end rest) ≡ replay.found + 1 + count_true host end rest = omega arith in
          counted ∙ more ∙ ap (λ l. replay.found + 1 + count_true host end l) (sym left));
      last = line.moment;
      order = subst (λ l. AreLoggedFrom (count host k) line.moment l) (sym left) order_rest;
      since = omega arith;
    }

-- the next line is false
pub looked-false : (host : List ℕ) (lines : List LogLine) (replay : Replay) (k : List Entry) (line : LogLine) (core : ServerLists) → Some line ≡ next_at replay.place (lines_left replay lines)
    → IsLookedUp host lines (count host k) replay k → IsBehind host core.state k → false ≡ is_true_until host (up_to_ask k) (moment k) line
    → (let new : Replay = record replay { core = core; stopped = true } in IsLookedUp host lines (count host k + 1) new k)
looked-false host lines replay k line core some stands behind is =
    let next = is-next replay lines line some in
    record {
      lists = behind;
      clock = stands.clock;
      asks = stands.asks;
      counts = λ end over. found-counts host lines replay k end line false next stands over is;
      last = core.state.moment;
      order = tt;
      since = omega arith;
    }

-- ---- the end

left-false : (host : List ℕ) (k : List Entry) (last : ℕ) (lines : List LogLine) → IsAnswered host k → AreLoggedFrom (count host k + 1) last lines → count_true host k lines ≡ 0
left-false host k last [] answered order = refl
left-false host k last (line ∷ lines) answered order =
    let above : count host k + 1 ≤ line.place = order.1 in
    ap (λ b. if b then 1 + count_true host k lines else 0) (false-above host k line answered (omega arith))

-- once all records were taken, the lines that are left are false
pub looked-all : (host : List ℕ) (lines : List LogLine) (replay : Replay) (k : List Entry) → IsLookedUp host lines (count host k + 1) replay k → replay.found ≡ count_true host k lines
looked-all host lines replay k stands =
    let counted = stands.counts k (inl refl) in
    let none = left-false host k stands.last (lines_left replay lines) stands.lists.answered stands.order in
    omega arith
