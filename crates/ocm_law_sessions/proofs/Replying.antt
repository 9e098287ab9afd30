-- The replies of a session, and what they keep.
use Rattle.std.proofs.Common.{◌≡◌, ℕ, ◌+◌, List, [], ◌∷◌, ◌++◌, Bool, true, false, refl, sym, ap, ◌∙◌, subst, Option, Some, None}
use Rattle.std.specs.Prelude.{if◌then◌else◌, ◌&&◌, ◌⊎◌, not, nat_le}
use Rattle.std.specs.Option.{option_or}
use mathlib.Core.Logic.{inl, inr}
use Rattle.ocm_entry.specs.declared.asks.Ask.{Ask}
use Rattle.ocm_entry.specs.declared.replies.Reply.{Reply}
use Rattle.ocm_entry.specs.declared.replies.Reply.TheVariants as replies
use Rattle.ocm_entry.specs.declared.entries.Entry.{Entry}
use Rattle.ocm_rules.specs.Views.{View}
use Rattle.ocm_rules.specs.Messages.{view_of}
use Rattle.ocm_rules.specs.Answers.{reply_in}
use Rattle.ocm_rules.specs.Lean.{leaned, lean}
use Rattle.ocm_rules.specs.History.{kept, changes, changes_in, answer, is_failure, IsGiven, IsLegal}
use Rattle.ocm_rules.proofs.Lists.{not_both}
use Rattle.ocm_rules.proofs.Kept.{failure-changes}
use Rattle.ocm_law_lean.proofs.Origins.{leaned-view}
use Rattle.ocm_law_lean.proofs.Answered.{answer-same, lean-goes_on}
use Rattle.ocm_journal_image.specs.Layout.{blocks_size}
use Rattle.ocm_law_sessions.specs.Written.{records_of}
use Rattle.ocm_law_sessions.specs.Sessions.{heard, would_change, count_of, fault_in, fits, IsChangeReply, IsToldReply, IsReplyAfter, IsReply, IsSession}
use Rattle.ocm_law_sessions.proofs.Faultless.{answers-given}

-- ---- what a failure leaves

pub kept-failure : (host : List ℕ) (g : List Entry) (e : Entry) → is_failure e.reply ≡ true → kept host (e ∷ g) ≡ kept host g
kept-failure host g e failed = ap (λ b. if b then e ∷ kept host g else kept host g) (failure-changes (view_of host (kept host g)) e.ask e.reply failed)

pub lean-failure : (host : List ℕ) (g : List Entry) (e : Entry) → is_failure e.reply ≡ true → lean host (e ∷ g) ≡ lean host g
lean-failure host g e failed = ap (λ l. leaned host l) (kept-failure host g e failed)

-- ---- what a given entry adds

given-changes : (host : List ℕ) (g : List Entry) (e : Entry) → e.reply ≡ answer host g e.ask → changes host (kept host g) e ≡ would_change host g e.ask
given-changes host g e answered = ap (λ r. changes_in (view_of host (kept host g)) e.ask r) answered

-- what is kept grows by an entry that is no failure and would change something
pub kept-given : (host : List ℕ) (g : List Entry) (e : Entry) → IsGiven host g e → kept host (e ∷ g) ≡ (if not (is_failure e.reply) && would_change host g e.ask then e ∷ kept host g else kept host g)
kept-given host g e given = by_test (is_failure e.reply) refl given
  where
    grown : Bool → List Entry
    grown b = if b then e ∷ kept host g else kept host g

    by_test : (b : Bool) → is_failure e.reply ≡ b → IsGiven host g e → grown (changes host (kept host g) e) ≡ grown (not b && would_change host g e.ask)
    by_test true failed given = kept-failure host g e failed
    by_test false fine (inl answered) = ap grown (given-changes host g e answered)
    by_test false fine (inr failed) = absurd (not_both (is_failure e.reply) failed fine)

-- an ask with its answer is kept where it would change something
pub kept-changed : (host : List ℕ) (g : List Entry) (ask : Ask) → would_change host g ask ≡ true → kept host (heard host g ask ∷ g) ≡ heard host g ask ∷ kept host g
kept-changed host g ask change = ap (λ b. if b then heard host g ask ∷ kept host g else kept host g) change

pub kept-unchanged : (host : List ℕ) (g : List Entry) (ask : Ask) → would_change host g ask ≡ false → kept host (heard host g ask ∷ g) ≡ kept host g
kept-unchanged host g ask change = ap (λ b. if b then heard host g ask ∷ kept host g else kept host g) change

pub lean-unchanged : (host : List ℕ) (g : List Entry) (ask : Ask) → would_change host g ask ≡ false → lean host (heard host g ask ∷ g) ≡ lean host g
lean-unchanged host g ask change = ap (λ l. leaned host l) (kept-unchanged host g ask change)

-- ---- replies of a session

-- a reply that tells what the rules give, or that the server could not do it
Told : Reply → Reply → Type 0
Told answered reply = (reply ≡ answered) ⊎ (is_failure reply ≡ true)

failed-by : (reply failure : Reply) → is_failure failure ≡ true → reply ≡ failure → is_failure reply ≡ true
failed-by reply failure is same = ap is_failure same ∙ is

change-told : (fault : Option ℕ) (room : Bool) (answered reply : Reply) → IsChangeReply fault room answered reply → Told answered reply
unfolding Told
change-told (Some count) room answered reply told = inr (failed-by reply (replies.Stopped count) refl told)
change-told None true answered reply (inl done_so) = inl done_so
change-told None true answered reply (inr (count, told)) = inr (failed-by reply (replies.DiskFault count) refl told)
change-told None false answered reply told = inr (failed-by reply replies.JournalFull refl told)

reply-told : (change : Bool) (fault : Option ℕ) (room : Bool) (answered reply : Reply) → IsToldReply change fault room answered reply → Told answered reply
unfolding Told
reply-told true fault room answered reply told = change-told fault room answered reply told
reply-told false fault room answered reply told = inl told

-- a reply of a session is given by the rules
pub reply-given : (host : List ℕ) (area : ℕ) (fault : Option ℕ) (g : List Entry) (ask : Ask) (reply : Reply) → IsReplyAfter host area fault g ask reply → IsGiven host g (record { ask = ask; reply = reply })
unfolding Told
reply-given host area fault g ask reply (inl wanting) = inr (failed-by reply replies.NoMemory refl wanting)
reply-given host area fault g ask reply (inr told) = reply-told (would_change host g ask) fault (fits host area g ask) (answer host g ask) reply told

-- a session is a legal history
pub session-legal : (host : List ℕ) (area : ℕ) (k h : List Entry) → IsSession host area k h → IsLegal host (h ++ k)
session-legal host area k [] session = session
session-legal host area k (e ∷ h) session = (reply-given host area (fault_in h) (h ++ k) e.ask e.reply session.0, session-legal host area k h session.1)

-- ---- after a fault

failure-counts : (answered reply : Reply) → is_failure answered ≡ false → reply ≡ answered → count_of reply ≡ None
failure-counts answered reply fine same = ap count_of same ∙ none answered fine
  where
    none : (r : Reply) → is_failure r ≡ false → count_of r ≡ None
    none (replies.DiskFault count) h = absurd (cc)
    none _ h = refl

-- an answer tells no disk fault
pub answer-counts : (v : View) (ask : Ask) (reply : Reply) → reply ≡ reply_in v ask → count_of reply ≡ None
answer-counts v ask reply same = failure-counts (reply_in v ask) reply (answers-given v ask) same

-- an entry tells no fault and leaves what is kept
Idle : List ℕ → List Entry → Entry → Type 0
Idle host g e = (count_of e.reply ≡ None) × (kept host (e ∷ g) ≡ kept host g)

-- after a fault nothing changes, and no other fault is told
pub stopped-idle : (host : List ℕ) (area count : ℕ) (g : List Entry) (e : Entry) → IsReplyAfter host area (Some count) g e.ask e.reply → (count_of e.reply ≡ None) × (kept host (e ∷ g) ≡ kept host g)
unfolding Idle
stopped-idle host area count g e (inl wanting) = (ap count_of wanting, kept-failure host g e (failed-by e.reply replies.NoMemory refl wanting))
stopped-idle host area count g e (inr told) = by_test (would_change host g e.ask) refl told
  where
    by_test : (b : Bool) → would_change host g e.ask ≡ b → IsToldReply b (Some count) (fits host area g e.ask) (answer host g e.ask) e.reply → Idle host g e
    by_test true change stopped = (ap count_of stopped, kept-failure host g e (failed-by e.reply (replies.Stopped count) refl stopped))
    by_test false change answered = (
      answer-counts (view_of host (kept host g)) e.ask e.reply answered,
      ap (λ b. if b then e ∷ kept host g else kept host g) (given-changes host g e answered ∙ change),
    )

-- no other fault is told
pub fault-told : (host : List ℕ) (area : ℕ) (k h : List Entry) (e : Entry) (count : ℕ) → fault_in h ≡ Some count → IsReply host area k h e.ask e.reply → count_of e.reply ≡ None
fault-told host area k h e count was told =
    let P : Option ℕ → Type 0 = λ o. IsReplyAfter host area o (h ++ k) e.ask e.reply in
    (stopped-idle host area count (h ++ k) e (subst P was told)).0

-- the last fault stays
pub fault-stays : (host : List ℕ) (area : ℕ) (k h : List Entry) (e : Entry) (count : ℕ) → fault_in h ≡ Some count → IsReply host area k h e.ask e.reply → fault_in (e ∷ h) ≡ Some count
fault-stays host area k h e count was told =
    let P : Option ℕ → Type 0 = λ o. IsReplyAfter host area o (h ++ k) e.ask e.reply in
    let idle = stopped-idle host area count (h ++ k) e (subst P was told) in
    ap (λ o. option_or o (fault_in h)) idle.0 ∙ was

pub fault-keeps : (host : List ℕ) (area : ℕ) (k h : List Entry) (e : Entry) (count : ℕ) → fault_in h ≡ Some count → IsReply host area k h e.ask e.reply → kept host (e ∷ h ++ k) ≡ kept host (h ++ k)
fault-keeps host area k h e count was told =
    let P : Option ℕ → Type 0 = λ o. IsReplyAfter host area o (h ++ k) e.ask e.reply in
    (stopped-idle host area count (h ++ k) e (subst P was told)).1

-- ---- lists with the same lean list

-- what is read of a history is read of each with the same lean list
pub view-same : (host : List ℕ) (g other : List Entry) → lean host g ≡ lean host other → view_of host (kept host g) ≡ view_of host (kept host other)
view-same host g other same = sym (leaned-view host (kept host g)) ∙ ap (λ l. view_of host l) same ∙ leaned-view host (kept host other)

pub heard-same : (host : List ℕ) (g other : List Entry) (ask : Ask) → lean host g ≡ lean host other → heard host g ask ≡ heard host other ask
heard-same host g other ask same = let own : Reply → Entry = λ reply. record { ask = ask; reply = reply } in ap own (answer-same host g other ask same)

pub would_change-same : (host : List ℕ) (g other : List Entry) (ask : Ask) → lean host g ≡ lean host other → would_change host g ask ≡ would_change host other ask
would_change-same host g other ask same = ap (λ v. changes_in v ask (reply_in v ask)) (view-same host g other same)

-- the lean list with an ask and its answer
pub lean-heard : (host : List ℕ) (g other : List Entry) (ask : Ask) → lean host g ≡ lean host other → lean host (heard host g ask ∷ g) ≡ lean host (heard host other ask ∷ other)
lean-heard host g other ask same = lean-goes_on host (heard host g ask) g other same ∙ ap (λ e. lean host (e ∷ other)) (heard-same host g other ask same)

pub fits-same : (host : List ℕ) (area : ℕ) (g other : List Entry) (ask : Ask) → lean host g ≡ lean host other → fits host area g ask ≡ fits host area other ask
fits-same host area g other ask same = ap (λ l. nat_le (size l) area) (lean-heard host g other ask same)
  where
    size : List Entry → ℕ
    size l = 2 + blocks_size (records_of l)

pub reply-same : (host : List ℕ) (area : ℕ) (fault : Option ℕ) (g other : List Entry) (ask : Ask) (reply : Reply) → lean host g ≡ lean host other → IsReplyAfter host area fault g ask reply → IsReplyAfter host area fault other ask reply
reply-same host area fault g other ask reply same (inl wanting) = inl wanting
reply-same host area fault g other ask reply same (inr told) =
    let P : Bool → Type 0 = λ b. IsToldReply b fault (fits host area g ask) (answer host g ask) reply in
    let Q : Bool → Type 0 = λ b. IsToldReply (would_change host other ask) fault b (answer host g ask) reply in
    let R : Reply → Type 0 = λ r. IsToldReply (would_change host other ask) fault (fits host area other ask) r reply in
    inr (subst R (answer-same host g other ask same) (subst Q (fits-same host area g other ask same) (subst P (would_change-same host g other ask same) told)))
