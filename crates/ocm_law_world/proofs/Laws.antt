-- The laws, as contracts name them.
use Rattle.std.proofs.Common.{◌≡◌, ◌≤◌, arith, ℕ, List, ◌∷◌, ◌++◌, Bool, true, false, refl, sym, ap, ◌∙◌, subst}
use Rattle.std.specs.Prelude.{Some, None, ◌⊎◌}
use mathlib.Core.Logic.{inl, inr}
use Rattle.ocm_path.specs.Paths.{Segments}
use Rattle.ocm_types.specs.declared.letters.Offer.{Offer}
use Rattle.ocm_entry.specs.declared.asks.Ask.{Ask}
use Rattle.ocm_entry.specs.declared.asks.Ask.TheVariants as asks
use Rattle.ocm_entry.specs.declared.asks.Method.{Method}
use Rattle.ocm_entry.specs.declared.refusals.Why.TheVariants.{Unauthorized}
use Rattle.ocm_entry.specs.declared.replies.Reply.{Reply}
use Rattle.ocm_entry.specs.declared.replies.Reply.TheVariants as replies
use Rattle.ocm_entry.specs.declared.rows.Share.{Share}
use Rattle.ocm_rules.specs.Answers.{refused}
use Rattle.ocm_rules.specs.History.{IsAnswered, IsLegal, answer, changes_in}
use Rattle.ocm_rules.specs.Messages.{acceptance, out}
use Rattle.ocm_rules.specs.Numbers.{at_number}
use Rattle.ocm_rules.specs.Offers.{offers, told}
use Rattle.ocm_rules.specs.Settlements.{is_success}
use Rattle.ocm_rules.specs.Views.{grant_in}
use Rattle.ocm_rules.proofs.Kept.{kept-answered}
use Rattle.ocm_rules.proofs.Searches.{some-same}
use Rattle.ocm_law_grants.proofs.Holding.{nothing-granted}
use Rattle.ocm_law_sessions.specs.Sessions.{IsReply, IsToldReply, fault_in, fits}
use Rattle.ocm_law_sessions.proofs.Replying.{session-legal}
use Rattle.ocm_law_world.specs.World.{Answer, IsReached, Run, Session, World, history_of, kept_at}
use Rattle.ocm_law_world.specs.Ends.{IsEnded}
use Rattle.ocm_law_world.specs.Guests.{IsMade, view_at}
use Rattle.ocm_law_world.proofs.Confirming.{HasTold, told-lasts}
use Rattle.ocm_law_world.proofs.Growth.{HasEnded, ended-lasts}
use Rattle.ocm_law_world.proofs.Steps.{lasts-run, sessions-reached}
use Rattle.ocm_law_world.proofs.Truths.{AreTrue, one-true}
use Rattle.ocm_law_world.proofs.Reached.{holds-reached}

-- ---- histories

pub legal-reached : (w : World) (host : List ℕ) (s : Session) → IsReached w → w.session host ≡ Some s → IsLegal host (history_of s)
legal-reached w host s reached is = session-legal host s.area s.base s.calls (sessions-reached w reached host s is)

pub answered-reached : (w : World) (host : List ℕ) (s : Session) → IsReached w → w.session host ≡ Some s → IsAnswered host (kept_at host s)
answered-reached w host s reached is = kept-answered host (history_of s) (legal-reached w host s reached is)

-- ---- what has ended

pub ended-later : (w later : World) (host : List ℕ) (i : ℕ) (m : Share) → IsReached w → Run w later → IsEnded w host i m → IsEnded later host i m
ended-later w later host i m reached run (s, is, there, ended) =
    let at = lasts-run (HasEnded i m) w later host (ended-lasts i m) (sessions-reached w reached) run (s, is, (there, ended)) in
    (at.0, at.1, at.2.0, at.2.1)

-- an ask that is answered by a refusal, and would so change nothing, is told that or want of memory
refused-told : (host : List ℕ) (s : Session) (ask : Ask) (reply : Reply) → answer host (history_of s) ask ≡ refused Unauthorized → changes_in (view_at host s) ask (refused Unauthorized) ≡ false
    → IsReply host s.area s.base s.calls ask reply → (reply ≡ refused Unauthorized) ⊎ (reply ≡ replies.NoMemory)
refused-told host s ask reply is idle (inl wanting) = inr wanting
refused-told host s ask reply is idle (inr told) =
    let P : Bool → Type 0 = λ b. IsToldReply b (fault_in s.calls) (fits host s.area (history_of s) ask) (answer host (history_of s) ask) reply in
    let same : reply ≡ answer host (history_of s) ask = subst P (ap (λ r. changes_in (view_at host s) ask r) is ∙ idle) told in
    inl (same ∙ is)

ungranted : (w : World) (host : List ℕ) (s : Session) (i : ℕ) (m : Share) → IsReached w → IsEnded w host i m → w.session host ≡ Some s → grant_in (view_at host s) m.secret ≡ None
ungranted w host s i m reached (t, at, there, ended) is =
    let P : Session → Type 0 = λ u. grant_in (view_at host u) m.secret ≡ None in
    subst P (some-same t s (sym at ∙ is)) (nothing-granted host (kept_at host t) i m (answered-reached w host t reached at) there ended)

pub refused-read : (w : World) (host : List ℕ) (s : Session) (i : ℕ) (m : Share) (method : Method) (path : Segments) (body : List ℕ) (reply : Reply) → IsReached w → IsEnded w host i m → w.session host ≡ Some s
    → IsReply host s.area s.base s.calls (asks.Dav m.secret method path body) reply → (reply ≡ refused Unauthorized) ⊎ (reply ≡ replies.NoMemory)
refused-read w host s i m method path body reply reached ended is told =
    refused-told host s (asks.Dav m.secret method path body) reply (rw (ungranted w host s i m reached ended is) refl) refl told

pub refused-carry : (w : World) (host : List ℕ) (s : Session) (i : ℕ) (m : Share) (from to : Segments) (moving overwrite : Bool) (reply : Reply) → IsReached w → IsEnded w host i m → w.session host ≡ Some s
    → IsReply host s.area s.base s.calls (asks.Carry m.secret from to moving overwrite) reply → (reply ≡ refused Unauthorized) ⊎ (reply ≡ replies.NoMemory)
refused-carry w host s i m from to moving overwrite reply reached ended is told =
    refused-told host s (asks.Carry m.secret from to moving overwrite) reply (rw (ungranted w host s i m reached ended is) refl) refl told

-- ---- answers under way

pub answer-true : (w : World) (newer older : List Answer) (a : Answer) (s : Session) (n : ℕ) (offer : Offer) → IsReached w → w.answers ≡ newer ++ a ∷ older → w.session a.host ≡ Some s
    → at_number (out a.host (kept_at a.host s)) a.number ≡ Some (acceptance n offer) → is_success a.status ≡ true → w.foreign offer.owner.host ≡ false → IsMade w offer
answer-true w newer older a s n offer reached under is sent well ours =
    let own = (one-true w newer older a (subst (AreTrue w) under (holds-reached w reached).answers)).0 in
    let same : own.0 ≡ s = some-same own.0 s (sym own.2 ∙ is) in
    let P : Session → Type 0 = λ t. at_number (out a.host (kept_at a.host t)) a.number ≡ Some own.1 in
    own.4 well n offer (some-same own.1 (acceptance n offer) (sym (subst P same own.3) ∙ sent)) ours

-- ---- what was told

pub told-never_older : (w later : World) (host : List ℕ) (s : Session) (n : ℕ) (offer : Offer) → IsReached w → Run w later → w.session host ≡ Some s → at_number (offers (kept_at host s)) n ≡ Some offer
    → (t : Session) × (later.session host ≡ Some t) × (at_number (offers (kept_at host t)) n ≡ Some offer) × ((told (kept_at host s) n).serial ≤ (told (kept_at host t) n).serial)
told-never_older w later host s n offer reached run is there =
    let same : (told (kept_at host s) n).serial ≤ (told (kept_at host s) n).serial = omega arith in
    let at = lasts-run (HasTold n offer (told (kept_at host s) n).serial) w later host (told-lasts n offer (told (kept_at host s) n).serial) (sessions-reached w reached) run (s, is, (there, same)) in
    (at.0, at.1, at.2.0, at.2.1)
