use Rattle.std.proofs.Common.{◌≡◌, ℕ, ◌+◌, ◌≤◌, List, [], ◌∷◌, length, map, Bool, true, false, refl, sym, ap, ◌∙◌, subst, arith}
use Rattle.std.specs.Prelude.{Option, Some, None, ◌&&◌, if◌then◌else◌, nat_lt, unwrap_or}
use Rattle.std.specs.Option.{option_or}
use Rattle.std.proofs.lemmas.Bool.{ltb-true, ltb-false}
use mathlib.Core.Logic.{inl}
use Rattle.ocm_entry.specs.declared.asks.Ask.{Ask}
use Rattle.ocm_entry.specs.declared.asks.Ask.TheVariants as asks
use Rattle.ocm_entry.specs.declared.replies.Reply.{Reply}
use Rattle.ocm_entry.specs.declared.entries.Entry.{Entry}
use Rattle.ocm_entry.specs.declared.rows.Place.{Place}
use Rattle.ocm_entry.specs.declared.rows.Node.{Node}
use Rattle.ocm_entry.specs.declared.rows.Standing.{Standing}
use Rattle.ocm_entry.specs.declared.rows.Standing.TheVariants.{Collection}
use Rattle.ocm_path.specs.Paths.{is_root}
use Rattle.ocm_rules.specs.Numbers.{latest}
use Rattle.ocm_rules.specs.Shares.{moment, clock_of}
use Rattle.ocm_rules.specs.Files.{same_place, nodes, at, with_roots}
use Rattle.ocm_rules.specs.Messages.{view_of}
use Rattle.ocm_rules.specs.Views.{View}
use Rattle.ocm_rules.specs.Answers.{reply_in}
use Rattle.ocm_rules.specs.History.{kept, answer, answer_kept, changes, changes_in, IsAnswered, IsLegal}
use Rattle.ocm_rules.specs.Lean.{emptied_unless, still_stands, leaned, lean}
use Rattle.ocm_entry.specs.Ticks.{is_tick}
use Rattle.ocm_rules.specs.State.{node_at}
use Rattle.ocm_rules.proofs.Kept.{kept-answered}
use Rattle.ocm_rules.proofs.Places.{same_place-equal}
use Rattle.ocm_rules.proofs.States.{stands-rows}
use Rattle.ocm_law_lean.proofs.Thin.{kept_ask, thin_cons, thin, same_kept, of_tick, thin-among}
use Rattle.ocm_law_lean.proofs.Views.{with_files, thin-view}
use Rattle.ocm_law_lean.proofs.Hollow.{hollow, hollow_standing, kept_at, thin-nodes}
use Rattle.ocm_rules.proofs.Once.{once-nodes}
use Rattle.ocm_law_lean.proofs.Replies.{hollowed, Hollowed, hollow_view, reply-hollow, changes-files}
use Rattle.ocm_law_lean.proofs.Further.{leaned-step, leaned-leaned}
use Rattle.ocm_law_lean.proofs.Origins.{leaned-view}

-- ---- what stands after a thin list

node_at-hollow : (p : Place → Bool) (ns : List Node) (place : Place) → node_at (map (hollow p) ns) place ≡ hollowed (p place) (node_at ns place)
node_at-hollow p [] place = refl
node_at-hollow p (n ∷ ns) place = cases (node_at-hollow p ns place) (same_place n.place place) refl
  where
    cases : node_at (map (hollow p) ns) place ≡ hollowed (p place) (node_at ns place) → (b : Bool) → same_place n.place place ≡ b
        → (if b then Some (hollow_standing (p n.place) n.standing) else node_at (map (hollow p) ns) place) ≡ hollowed (p place) (if b then Some n.standing else node_at ns place)
    cases rest true h = ap (λ q. Some (hollow_standing (p q) n.standing)) (same_place-equal n.place place h)
    cases rest false h = rest

roots-test : (b keeps : Bool) (x y : Option Standing) → x ≡ hollowed keeps y → (if b then Some Collection else x) ≡ hollowed keeps (if b then Some Collection else y)
roots-test true keeps x y h = refl
roots-test false keeps x y h = h

roots-hollow : (p : Place → Bool) (ns : List Node) (place : Place) → with_roots (node_at (map (hollow p) ns)) place ≡ hollowed (p place) (with_roots (node_at ns) place)
roots-hollow p ns place = roots-test (is_root place.path) (p place) (node_at (map (hollow p) ns) place) (node_at ns place) (node_at-hollow p ns place)

pub thin-hollowed : (host : List ℕ) (keep : ℕ → Bool) (l : List Entry) → Hollowed (view_of host l) (at host (thin keep false l)) (kept_at host keep l)
thin-hollowed host keep l = ((λ place. stood place), once-nodes host l)
  where
    stood : (place : Place) → at host (thin keep false l) place ≡ hollowed (kept_at host keep l place) (at host l place)
    stood place =
        stands-rows host (thin keep false l) place
        ∙ ap (λ ns. with_roots (node_at ns) place) (thin-nodes host keep false l)
        ∙ roots-hollow (kept_at host keep l) (nodes host l) place
        ∙ ap (λ o. hollowed (kept_at host keep l place) o) (sym (stands-rows host l place))

pub thin-hollow_view : (host : List ℕ) (keep : ℕ → Bool) (l : List Entry) → view_of host (thin keep false l) ≡ hollow_view (view_of host l) (at host (thin keep false l)) (kept_at host keep l)
thin-hollow_view host keep l =
    thin-view host keep l ∙ ap (λ ns. with_files (view_of host l) (at host (thin keep false l)) ns) (thin-nodes host keep false l)

-- ---- ticks

kept-tick : (keeps : Bool) (ask : Ask) → is_tick ask ≡ true → kept_ask keeps ask ≡ ask
kept-tick keeps ask is = of_tick (λ a. kept_ask keeps a ≡ a) (λ clock. by_test keeps clock) ask is
  where
    by_test : (b : Bool) (clock : ℕ) → kept_ask b (asks.Tick clock) ≡ asks.Tick clock
    by_test true clock = refl
    by_test false clock = refl

tick-moment : (ask : Ask) (o : Option ℕ) → is_tick ask ≡ true → unwrap_or (option_or (clock_of ask) o) 0 ≡ unwrap_or (clock_of ask) 0
tick-moment ask o is = of_tick (λ a. unwrap_or (option_or (clock_of a) o) 0 ≡ unwrap_or (clock_of a) 0) (λ clock. refl) ask is

other-clock : (ask : Ask) → is_tick ask ≡ false → clock_of ask ≡ None
other-clock (asks.Tick clock) is = absurd (cc)
other-clock _ is = refl

other-moment : (ask : Ask) (o : Option ℕ) → is_tick ask ≡ false → unwrap_or (option_or (clock_of ask) o) 0 ≡ unwrap_or o 0
other-moment ask o is = ap (λ c. unwrap_or (option_or c o) 0) (other-clock ask is)

-- a tick that changed something is later than all before it
tick-later : (v : View) (ask : Ask) (reply : Reply) → is_tick ask ≡ true → reply ≡ reply_in v ask → changes_in v ask reply ≡ true → nat_lt v.moment (unwrap_or (clock_of ask) 0) ≡ true
tick-later v ask reply is = of_tick (λ a. reply ≡ reply_in v a → changes_in v a reply ≡ true → nat_lt v.moment (unwrap_or (clock_of a) 0) ≡ true)
    (λ clock done_so ch. let P : Reply → Type 0 = λ r. changes_in v (asks.Tick clock) r ≡ true in subst P done_so ch) ask is

tick-reply : (v w : View) (ask : Ask) → is_tick ask ≡ true → reply_in v ask ≡ reply_in w ask
tick-reply v w ask is = of_tick (λ a. reply_in v a ≡ reply_in w a) (λ clock. refl) ask is

-- a tick that is later changes something
tick-changes : (v w : View) (ask : Ask) (reply : Reply) → is_tick ask ≡ true → reply ≡ reply_in v ask → nat_lt w.moment (unwrap_or (clock_of ask) 0) ≡ true → changes_in w ask reply ≡ true
tick-changes v w ask reply is = of_tick (λ a. reply ≡ reply_in v a → nat_lt w.moment (unwrap_or (clock_of a) 0) ≡ true → changes_in w a reply ≡ true)
    (λ clock done_so later. let P : Reply → Type 0 = λ r. changes_in w (asks.Tick clock) r ≡ true in subst P (sym done_so) later) ask is

lower-later : (low high clock : ℕ) → low ≤ high → nat_lt high clock ≡ true → nat_lt low clock ≡ true
lower-later low high clock le h = cases (nat_lt low clock) refl
  where
    cases : (b : Bool) → nat_lt low clock ≡ b → b ≡ true
    cases true k = refl
    cases false k = let up = ltb-true high clock h in let down = ltb-false low clock k in absurd (omega arith)

abbrev clocks : List Entry → Option ℕ
clocks l = latest (λ (e : Entry). clock_of e.ask) l

-- the moment of a thin list is no later
moment-lower : (host : List ℕ) (keep : ℕ → Bool) (first : Bool) (l : List Entry) → IsAnswered host l → moment (thin keep first l) ≤ moment l
moment-lower host keep first [] answered = omega arith
moment-lower host keep first (e ∷ before) answered = cases first (is_tick e.ask) refl (moment-lower host keep (is_tick e.ask) before answered.2)
  where
    keeps : Bool
    keeps = keep (length before + 1)

    same_clock : clock_of (kept_ask keeps e.ask) ≡ clock_of e.ask
    same_clock = same_kept clock_of (λ secret path body. refl) keeps e.ask

    tick_stays : is_tick e.ask ≡ true → moment (emptied_unless keeps e ∷ thin keep true before) ≤ moment (e ∷ before)
    tick_stays is =
        let left : unwrap_or (option_or (clock_of (kept_ask keeps e.ask)) (clocks (thin keep true before))) 0 ≡ unwrap_or (clock_of e.ask) 0 =
        ap (λ c. unwrap_or (option_or c (clocks (thin keep true before))) 0) same_clock ∙ tick-moment e.ask (clocks (thin keep true before)) is in
        let right = tick-moment e.ask (clocks before) is in
        omega arith

    other_stays : is_tick e.ask ≡ false → moment (thin keep false before) ≤ moment before → moment (emptied_unless keeps e ∷ thin keep false before) ≤ moment (e ∷ before)
    other_stays is older =
        let left : unwrap_or (option_or (clock_of (kept_ask keeps e.ask)) (clocks (thin keep false before))) 0 ≡ moment (thin keep false before) =
        ap (λ c. unwrap_or (option_or c (clocks (thin keep false before))) 0) same_clock ∙ other-moment e.ask (clocks (thin keep false before)) is in
        let right = other-moment e.ask (clocks before) is in
        omega arith

    passed : is_tick e.ask ≡ true → moment (thin keep true before) ≤ moment before → moment (thin keep true before) ≤ moment (e ∷ before)
    passed is older =
        let later = ltb-true (moment before) (unwrap_or (clock_of e.ask) 0) (tick-later (view_of host before) e.ask e.reply is answered.0 answered.1) in
        let right = tick-moment e.ask (clocks before) is in
        omega arith

    cases : (f b : Bool) → is_tick e.ask ≡ b → moment (thin keep b before) ≤ moment before → moment (thin_cons (f && b) (emptied_unless keeps e) (thin keep b before)) ≤ moment (e ∷ before)
    cases true true is older = passed is older
    cases true false is older = other_stays is older
    cases false true is older = tick_stays is
    cases false false is older = other_stays is older

-- ---- replies

-- a thin list of kept entries has the replies that are given after the entries before them
pub thin-answered : (host : List ℕ) (keep : ℕ → Bool) (first : Bool) (l : List Entry) → IsAnswered host l → IsAnswered host (thin keep first l)
thin-answered host keep first [] answered = tt
thin-answered host keep first (e ∷ before) answered = cases first (is_tick e.ask) refl (thin-answered host keep (is_tick e.ask) before answered.2)
  where
    keeps : Bool
    keeps = keep (length before + 1)

    v : View
    v = view_of host before

    tick_stays : is_tick e.ask ≡ true → IsAnswered host (thin keep true before) → IsAnswered host (emptied_unless keeps e ∷ thin keep true before)
    tick_stays is older =
        let w : View = view_of host (thin keep true before) in
        let same = kept-tick keeps e.ask is in
        let lower = moment-lower host keep true before answered.2 in
        let later = lower-later (moment (thin keep true before)) (moment before) (unwrap_or (clock_of e.ask) 0) lower (tick-later v e.ask e.reply is answered.0 answered.1) in (
          answered.0 ∙ tick-reply v w e.ask is ∙ ap (λ a. reply_in w a) (sym same),
          ap (λ a. changes_in w a e.reply) same ∙ tick-changes v w e.ask e.reply is answered.0 later,
          older,
        )

    other_stays : IsAnswered host (thin keep false before) → IsAnswered host (emptied_unless keeps e ∷ thin keep false before)
    other_stays older =
        let now : List Entry = thin keep false before in
        let stands : Place → Option Standing = at host now in
        let p : Place → Bool = kept_at host keep before in
        let P : Reply → Type 0 = λ r. changes_in v e.ask r ≡ true in
        let change : changes_in v e.ask (reply_in v e.ask) ≡ true = subst P answered.0 answered.1 in (
          answered.0 ∙ sym (reply-hollow v stands p keeps e.ask (thin-hollowed host keep before) change) ∙ ap (λ w. reply_in w (kept_ask keeps e.ask)) (sym (thin-hollow_view host keep before)),
          ap (λ w. changes_in w (kept_ask keeps e.ask) e.reply) (thin-hollow_view host keep before)
              ∙ changes-files v stands (map (hollow p) v.nodes) (kept_ask keeps e.ask) e.reply
              ∙ same_kept (λ a. changes_in v a e.reply) (λ secret path body. refl) keeps e.ask
              ∙ answered.1,
          older,
        )

    cases : (f b : Bool) → is_tick e.ask ≡ b → IsAnswered host (thin keep b before) → IsAnswered host (thin_cons (f && b) (emptied_unless keeps e) (thin keep b before))
    cases true true is older = older
    cases true false is older = other_stays older
    cases false true is older = tick_stays is older
    cases false false is older = other_stays older

-- ---- the laws of lean lists

-- the replies of the lean list are given after the entries before them
pub lean-answered : (host : List ℕ) (g : List Entry) → IsLegal host g → IsAnswered host (lean host g)
lean-answered host g legal =
    let P : List Entry → Type 0 = λ l. IsAnswered host l in
    subst P (sym (thin-among host (kept host g) false (kept host g))) (thin-answered host (still_stands host (kept host g)) false (kept host g) (kept-answered host g legal))

-- of entries that each change something, all are kept
answered-kept : (host : List ℕ) (l : List Entry) → IsAnswered host l → kept host l ≡ l
answered-kept host [] answered = refl
answered-kept host (e ∷ before) answered =
    ap (λ l. if changes host l e then e ∷ l else l) (answered-kept host before answered.2) ∙ ap (λ b. if b then e ∷ before else before) answered.1

pub lean-kept : (host : List ℕ) (g : List Entry) → IsLegal host g → kept host (lean host g) ≡ lean host g
lean-kept host g legal = answered-kept host (lean host g) (lean-answered host g legal)

-- the lean list answers as the history does
pub answer-lean : (host : List ℕ) (g : List Entry) (ask : Ask) → answer_kept host (lean host g) ask ≡ answer host g ask
answer-lean host g ask = ap (λ v. reply_in v ask) (leaned-view host (kept host g))

pub answer-same : (host : List ℕ) (g other : List Entry) (ask : Ask) → lean host g ≡ lean host other → answer host g ask ≡ answer host other ask
answer-same host g other ask same = sym (answer-lean host g ask) ∙ ap (λ l. answer_kept host l ask) same ∙ answer-lean host other ask

-- what is lean of the list with one entry more
lean-on : (host : List ℕ) (e : Entry) (g : List Entry) → lean host (e ∷ g) ≡ (if changes host (lean host g) e then leaned host (e ∷ lean host g) else lean host g)
lean-on host e g = cases (changes host (kept host g) e) ∙ ap (λ v. if changes_in v e.ask e.reply then leaned host (e ∷ lean host g) else lean host g) (sym (leaned-view host (kept host g)))
  where
    cases : (b : Bool) → leaned host (if b then e ∷ kept host g else kept host g) ≡ (if b then leaned host (e ∷ lean host g) else lean host g)
    cases true = sym (leaned-step host e (kept host g))
    cases false = refl

pub lean-goes_on : (host : List ℕ) (e : Entry) (g other : List Entry) → lean host g ≡ lean host other → lean host (e ∷ g) ≡ lean host (e ∷ other)
lean-goes_on host e g other same =
    lean-on host e g ∙ ap (λ l. if changes host l e then leaned host (e ∷ l) else l) same ∙ sym (lean-on host e other)

-- ---- lean lists as histories

answered-legal : (host : List ℕ) (l : List Entry) → IsAnswered host l → IsLegal host l
answered-legal host [] answered = tt
answered-legal host (e ∷ before) answered =
    (inl (answered.0 ∙ ap (λ l. answer_kept host l e.ask) (sym (answered-kept host before answered.2))), answered-legal host before answered.2)

pub lean-legal : (host : List ℕ) (g : List Entry) → IsLegal host g → IsLegal host (lean host g)
lean-legal host g legal = answered-legal host (lean host g) (lean-answered host g legal)

pub lean-lean : (host : List ℕ) (g : List Entry) → IsLegal host g → lean host (lean host g) ≡ lean host g
lean-lean host g legal = ap (λ l. leaned host l) (lean-kept host g legal) ∙ leaned-leaned host (kept host g)
