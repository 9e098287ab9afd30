-- What holds of a world holds after each step.
use Rattle.std.proofs.Common.{◌≡◌, ℕ, zero, suc, List, [], ◌∷◌, ◌++◌, Bool, true, false, ◌||◌, refl, sym, ap, ◌∙◌, subst}
use Rattle.std.specs.Prelude.{Option, Some, None, option_map, option_and_then, if◌then◌else◌}
use Rattle.std.specs.Option.{option_or}
use Rattle.ocm_types.specs.declared.letters.Letter.{Letter}
use Rattle.ocm_types.specs.declared.letters.Letter.TheVariants as letters
use Rattle.ocm_types.specs.declared.letters.Offer.{Offer}
use Rattle.ocm_entry.specs.declared.asks.Ask.{Ask}
use Rattle.ocm_entry.specs.declared.replies.Reply.{Reply}
use Rattle.ocm_entry.specs.declared.entries.Entry.{Entry}
use Rattle.ocm_rules.specs.declared.rows.Message.{Message}
use Rattle.ocm_rules.specs.Numbers.{at_number}
use Rattle.ocm_rules.specs.Settlements.{is_success, is_refusal}
use Rattle.ocm_rules.specs.Offers.{is_confirmed}
use Rattle.ocm_rules.specs.Messages.{acceptance}
use Rattle.ocm_rules.proofs.Lists.{not_both}
use Rattle.ocm_rules.proofs.Searches.{some-same}
use Rattle.ocm_law_sessions.specs.Sessions.{IsReply, count_of, fault_in, would_change}
use Rattle.ocm_law_sessions.specs.Crashes.{faulted, if_changing, unheard}
use Rattle.ocm_law_sessions.proofs.Replying.{reply-given}
use Rattle.ocm_entry.specs.Deliveries.{delivered_status, letter_ask}
use Rattle.ocm_law_world.specs.World.{Session, Answer, World, Flight, Run, Step, answer_to, changed, empty_among, history_of, is_settlement, new_session, reopened, settlement_by, with_call, IsReached}
use Rattle.ocm_law_world.specs.World.Flight.{Nothing, Asked, Answered}
use Rattle.ocm_law_world.specs.World.Run.{Stays, Goes_on}
use Rattle.ocm_law_world.specs.World.Step.{Begins, Asks, Delivers, Foreign, Comes, Crashes}
use Rattle.ocm_law_world.specs.Guests.{IsMade, view_at}
use Rattle.ocm_law_world.proofs.Growth.{HasMessage}
use Rattle.ocm_law_world.proofs.Taken.{taken}
use Rattle.ocm_law_world.proofs.Steps.{Grows, grows-new, looked, onward-call, onward-crash, sessions-step}
use Rattle.ocm_law_world.proofs.Truths.{AreTrue, Holds, IsTrueAnswer, IsTrueAsk, all-true-on, holds-at, made-on, one-true, true-ask-on}

-- ---- asks that tell the truth

-- an ask that is no settlement
plain : (w : World) (host : List ℕ) (ask : Ask) → is_settlement ask ≡ false → IsTrueAsk w host ask
plain w host ask other number status id same well = absurd (not_both (is_settlement ask) (ap is_settlement same ∙ ap (λ b. b || is_refusal status) well) other)

letter-plain : (letter : Letter) (fresh : List ℕ) → is_settlement (letter_ask letter fresh) ≡ false
letter-plain (letters.Offer offer) fresh = refl
letter-plain (letters.Notice notice) fresh = refl

-- the settlement by an answer that tells the truth
by-answer : (w : World) (a : Answer) → IsTrueAnswer w a.host a.number a.status → IsTrueAsk w a.host (settlement_by a)
by-answer w a h number status id same well =
    let n : a.number ≡ number = cc in
    let s : a.status ≡ status = cc in
    let P : ℕ → Type 0 = λ k. IsTrueAnswer w a.host k status in
    let Q : ℕ → Type 0 = λ k. IsTrueAnswer w a.host a.number k in
    subst P n (subst Q s h)

-- the ask that a disk fault was told, after a call
fault-of : (Sound : Ask → Type 0) (s : Session) (ask : Ask) (reply : Reply) → Sound ask → ((a : Ask) → faulted s.calls ≡ Some a → Sound a) → (a : Ask) → faulted (with_call s ask reply).calls ≡ Some a → Sound a
fault-of Sound s ask reply sound older a h = by_count (count_of reply) h
  where
    by_count : (o : Option ℕ) → option_or (option_map (λ (count : ℕ). ask) o) (faulted s.calls) ≡ Some a → Sound a
    by_count None g = older a g
    by_count (Some count) g = subst Sound (some-same ask a g) sound

-- ---- deliveries

-- who says yes to an acceptance has made the offer
made-by : (w : World) (peer : Session) (fresh : List ℕ) (reply : Reply) (n : ℕ) (offer : Offer) (message : Message) → message ≡ acceptance n offer → w.session message.to ≡ Some peer
    → IsReply message.to peer.area peer.base peer.calls (letter_ask message.letter fresh) reply → is_success (delivered_status reply) ≡ true → IsMade w offer
made-by w peer fresh reply n offer message same = subst P (sym same) at_owner
  where
    P : Message → Type 0
    P m = w.session m.to ≡ Some peer → IsReply m.to peer.area peer.base peer.calls (letter_ask m.letter fresh) reply → is_success (delivered_status reply) ≡ true → IsMade w offer

    at_owner : P (acceptance n offer)
    at_owner there told well =
        (peer, there, taken offer.owner.host (history_of peer) offer fresh reply (reply-given offer.owner.host peer.area (fault_in peer.calls) (history_of peer) (letter_ask (acceptance n offer).letter fresh) reply told) well)

-- an answer of a foreign host tells nothing of the acceptances that go to others
foreign-true : (w : World) (host : List ℕ) (s : Session) (number : ℕ) (message : Message) (status : ℕ) → w.session host ≡ Some s → HasMessage number message (view_at host s)
    → w.foreign message.to ≡ true → IsTrueAnswer w host number status
foreign-true w host s number message status is sent theirs =
    (s, message, is, sent, λ well n offer same ours. absurd (not_both (w.foreign message.to) theirs (ap (λ (m : Message). w.foreign m.to) same ∙ ours)))

-- ---- crashes

flight-true : (w : World) (host : List ℕ) (flight : Option Ask) (answers : List Answer) → AreTrue w w.answers → Flight w host flight answers → AreTrue w answers × ((ask : Ask) → flight ≡ Some ask → IsTrueAsk w host ask)
flight-true w host _ _ h Nothing = (h, λ ask e. absurd (cc))
flight-true w host _ _ h (Asked asked other) = (h, λ ask e. subst (IsTrueAsk w host) (some-same asked ask e) (plain w host asked other))
flight-true w host _ _ h (Answered newer older a under own) =
    let parts = one-true w newer older a (subst (AreTrue w) under h) in
    let P : List ℕ → Type 0 = λ x. IsTrueAsk w x (settlement_by a) in
    (parts.1, λ ask e. subst (IsTrueAsk w host) (some-same (settlement_by a) ask e) (subst P own (by-answer w a parts.0)))

-- the ask that a crash may keep is that of a fault, or the one in flight
unheard-is : (Sound : Ask → Type 0) (host : List ℕ) (k h : List Entry) (flight : Option Ask) → ((ask : Ask) → faulted h ≡ Some ask → Sound ask) → ((ask : Ask) → flight ≡ Some ask → Sound ask)
    → (ask : Ask) → unheard host k h flight ≡ Some ask → Sound ask
unheard-is Sound host k h flight by_fault by_flight ask e = cases (faulted h) refl flight refl e
  where
    changing : (a : Ask) → flight ≡ Some a → (b : Bool) → (if b then Some a else None) ≡ Some ask → Sound ask
    changing a f true g = subst Sound (some-same a ask g) (by_flight a f)
    changing a f false g = absurd (cc)

    cases : (o : Option Ask) → faulted h ≡ o → (p : Option Ask) → flight ≡ p → option_or o (option_and_then (if_changing host (h ++ k)) p) ≡ Some ask → Sound ask
    cases (Some a) f p q g = subst Sound (some-same a ask g) (by_fault a f)
    cases None f None q g = absurd (cc)
    cases None f (Some a) q g = changing a q (would_change host (h ++ k) a) g

-- ---- every step

pub nothing-there : {X : Type 0} (n : ℕ) (x : X) → at_number [] n ≡ Some x → ⊥
nothing-there zero x h = cc
nothing-there (suc n) x h = cc

holds-begin : (w : World) (host : List ℕ) (area : ℕ) → Holds w → w.foreign host ≡ false → w.session host ≡ None → Holds (changed w host (new_session area) w.answers)
holds-begin w host area holds ours none = record {
  sessions = sessions-step w next holds.sessions (Begins host area ours none);
  confirmed =
      looked w host (new_session area) w.answers Confirmed (λ n offer there confirmed ours. absurd (nothing-there n offer there))
      (λ other u at n offer there confirmed ours. made-on w next offer grows (holds.confirmed other u at n offer there confirmed ours));
  answers = all-true-on w next w.answers refl grows holds.answers;
  faulted =
      looked w host (new_session area) w.answers Faulted (λ ask e. absurd (cc))
      (λ other u at ask e. true-ask-on w next other ask refl grows (holds.faulted other u at ask e));
}
  where
    next : World
    next = changed w host (new_session area) w.answers

    grows : Grows w next
    grows = grows-new w host (new_session area) w.answers none

    Confirmed : List ℕ → Session → Type 0
    Confirmed x u = (n : ℕ) (offer : Offer) → at_number (view_at x u).offers n ≡ Some offer → is_confirmed ((view_at x u).phase n) ≡ true → next.foreign offer.owner.host ≡ false → IsMade next offer

    Faulted : List ℕ → Session → Type 0
    Faulted x u = (ask : Ask) → faulted u.calls ≡ Some ask → IsTrueAsk next x ask

pub holds-step : (w next : World) → Holds w → Step w next → Holds next
holds-step w _ holds (Begins host area ours none) = holds-begin w host area holds ours none
holds-step w _ holds (Asks host s ask reply is other told) =
    let session = holds.sessions host s is in
    let true_ask = plain w host ask other in
    holds-at w host s (with_call s ask reply) w.answers holds is (told, session) (onward-call (IsTrueAsk w host) host s ask reply session told true_ask) holds.answers
    (fault-of (IsTrueAsk w host) s ask reply true_ask (holds.faulted host s is))
holds-step w _ holds (Delivers host s number message peer fresh reply is sent there told) =
    let to = message.to in
    let ask = letter_ask message.letter fresh in
    let session = holds.sessions to peer there in
    let true_ask = plain w to ask (letter-plain message.letter fresh) in
    let answer : IsTrueAnswer w host number (delivered_status reply) = (s, message, is, sent, λ well n offer same ours. made-by w peer fresh reply n offer message same there told well) in
    holds-at w to peer (with_call peer ask reply) (answer_to host number reply ∷ w.answers) holds there (told, session) (onward-call (IsTrueAsk w to) to peer ask reply session told true_ask) (answer, holds.answers)
    (fault-of (IsTrueAsk w to) peer ask reply true_ask (holds.faulted to peer there))
holds-step w _ holds (Foreign host s number message status id is sent theirs) = record {
  sessions = holds.sessions;
  confirmed = holds.confirmed;
  answers = (foreign-true w host s number message status is sent theirs, holds.answers);
  faulted = holds.faulted;
}
holds-step w _ holds (Comes newer older a s reply under is told) =
    let session = holds.sessions a.host s is in
    let parts = one-true w newer older a (subst (AreTrue w) under holds.answers) in
    let true_ask = by-answer w a parts.0 in
    holds-at w a.host s (with_call s (settlement_by a) reply) (newer ++ older) holds is (told, session) (onward-call (IsTrueAsk w a.host) a.host s (settlement_by a) reply session told true_ask) parts.1
    (fault-of (IsTrueAsk w a.host) s (settlement_by a) reply true_ask (holds.faulted a.host s is))
holds-step w _ holds (Crashes host s flight answers next is flies comes) =
    let session = holds.sessions host s is in
    let flown = flight-true w host flight answers holds.answers flies in
    holds-at w host s (reopened s next) answers holds is comes.0
    (onward-crash (IsTrueAsk w host) host s flight next session comes (unheard-is (IsTrueAsk w host) host s.base s.calls flight (holds.faulted host s is) flown.1)) flown.0
    (λ ask e. absurd (cc))

-- the world without servers
holds-empty : (foreign : List ℕ → Bool) → Holds (empty_among foreign)
holds-empty foreign = record {
  sessions = λ host s h. absurd (cc);
  confirmed = λ host s h n offer there confirmed ours. absurd (cc);
  answers = tt;
  faulted = λ host s h ask e. absurd (cc);
}

holds-run : (foreign : List ℕ → Bool) (w : World) → Run (empty_among foreign) w → Holds w
holds-run foreign _ Stays = holds-empty foreign
holds-run foreign _ (Goes_on w next run step) = holds-step w next (holds-run foreign w run) step

pub holds-reached : (w : World) → IsReached w → Holds w
holds-reached w reached = holds-run w.foreign w reached

-- a record that is confirmed is of an offer that its owner's server has made, where that is not foreign
pub guest : (w : World) → IsReached w → (host : List ℕ) (s : Session) → w.session host ≡ Some s → (n : ℕ) (offer : Offer) → at_number (view_at host s).offers n ≡ Some offer → is_confirmed ((view_at host s).phase n) ≡ true → w.foreign offer.owner.host ≡ false → IsMade w offer
guest w reached = (holds-reached w reached).confirmed
