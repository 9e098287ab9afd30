-- Along each run, a record that is confirmed is of an offer that its owner's server has made.
use Rattle.std.proofs.Common.{◌≡◌, ℕ, List, [], ◌∷◌, ◌++◌, Bool, true, false, refl, sym, ap, ◌∙◌, subst}
use Rattle.std.specs.Prelude.{Option, Some, ◌⊎◌, if◌then◌else◌}
use mathlib.Core.Logic.{inl, inr}
use Rattle.ocm_types.specs.declared.letters.Offer.{Offer}
use Rattle.ocm_entry.specs.declared.asks.Ask.{Ask}
use Rattle.ocm_entry.specs.declared.asks.Ask.TheVariants as asks
use Rattle.ocm_entry.specs.declared.entries.Entry.{Entry}
use Rattle.ocm_rules.specs.declared.rows.Message.{Message}
use Rattle.ocm_rules.specs.Numbers.{at_number}
use Rattle.ocm_rules.specs.Settlements.{is_success}
use Rattle.ocm_rules.specs.Offers.{offers, is_confirmed, phase_among}
use Rattle.ocm_rules.specs.Views.{View}
use Rattle.ocm_rules.specs.Messages.{acceptance, out, view_of}
use Rattle.ocm_rules.specs.History.{kept, changes, IsAnswered}
use Rattle.ocm_rules.proofs.Kept.{kept-answered}
use Rattle.ocm_rules.proofs.Searches.{some-same}
use Rattle.ocm_law_sessions.specs.Sessions.{IsSession}
use Rattle.ocm_law_sessions.specs.Crashes.{faulted}
use Rattle.ocm_law_world.specs.World.{Session, Answer, World, changed, history_of}
use Rattle.ocm_law_world.specs.Guests.{IsMade, Makes, view_at}
use Rattle.ocm_law_world.proofs.Growth.{HasMessage, made-lasts, message-lasts}
use Rattle.ocm_law_world.proofs.Accepting.{acceptances}
use Rattle.ocm_law_world.proofs.Confirming.{Confirms, confirmed-by}
use Rattle.ocm_law_world.proofs.Steps.{AreSessions, Grows, Onward, grows-at, lasts-grown, looked, onward-weaker}

-- ---- settlements that tell the truth

-- an answer of this status to the message of this number of a host: the message is there, and where the status says yes to
-- the acceptance of an offer, whose owner's host is not foreign, the offer's owner has made it
abbrev pub IsTrueAnswer : World → List ℕ → ℕ → ℕ → Type 0
IsTrueAnswer w host number status =
    (s : Session) × (message : Message) × (w.session host ≡ Some s) × HasMessage number message (view_at host s)
    × (is_success status ≡ true → (n : ℕ) (offer : Offer) → message ≡ acceptance n offer → w.foreign offer.owner.host ≡ false → IsMade w offer)

-- an ask that settles with yes, if it does, by such an answer
abbrev pub IsTrueAsk : World → List ℕ → Ask → Type 0
IsTrueAsk w host ask = (number status : ℕ) (id : Option (List ℕ)) → ask ≡ asks.Settle number status id → is_success status ≡ true → IsTrueAnswer w host number status

abbrev pub AreTrue : World → List Answer → Type 0
AreTrue w [] = Unit {0}
AreTrue w (a ∷ answers) = IsTrueAnswer w a.host a.number a.status × AreTrue w answers

-- ---- it stays so

pub made-on : (w next : World) (offer : Offer) → Grows w next → IsMade w offer → IsMade next offer
made-on w next offer grows made = lasts-grown (λ v. Makes v offer) w next offer.owner.host (made-lasts offer) grows made

-- no host becomes foreign, nor ceases to be
abbrev pub SameForeign : World → World → Type 0
SameForeign w next = next.foreign ≡ w.foreign

pub true-on : (w next : World) (host : List ℕ) (number status : ℕ) → SameForeign w next → Grows w next → IsTrueAnswer w host number status → IsTrueAnswer next host number status
true-on w next host number status alike grows (s, message, is, has, made) =
    let there = lasts-grown (HasMessage number message) w next host (message-lasts number message) grows (s, is, has) in
    (there.0, message, there.1, there.2, λ well n offer same ours. made-on w next offer grows (made well n offer same (ap (λ (f : List ℕ → Bool). f offer.owner.host) (sym alike) ∙ ours)))

pub true-ask-on : (w next : World) (host : List ℕ) (ask : Ask) → SameForeign w next → Grows w next → IsTrueAsk w host ask → IsTrueAsk next host ask
true-ask-on w next host ask alike grows true_ask number status id same well = true-on w next host number status alike grows (true_ask number status id same well)

pub all-true-on : (w next : World) (answers : List Answer) → SameForeign w next → Grows w next → AreTrue w answers → AreTrue next answers
all-true-on w next [] alike grows h = tt
all-true-on w next (a ∷ answers) alike grows h = (true-on w next a.host a.number a.status alike grows h.0, all-true-on w next answers alike grows h.1)

-- of answers that tell the truth, each one does, and so do the others
pub one-true : (w : World) (newer older : List Answer) (a : Answer) → AreTrue w (newer ++ a ∷ older) → IsTrueAnswer w a.host a.number a.status × AreTrue w (newer ++ older)
one-true w [] older a h = (h.0, h.1)
one-true w (b ∷ newer) older a h = let rest = one-true w newer older a h.1 in (rest.0, (h.0, rest.1))

-- ---- what holds of every world that is reached

pub record Holds (w : World) : Type 0 where
  pub sessions : AreSessions w
  pub confirmed : (host : List ℕ) (s : Session) → w.session host ≡ Some s → (n : ℕ) (offer : Offer) → at_number (view_at host s).offers n ≡ Some offer → is_confirmed ((view_at host s).phase n) ≡ true → w.foreign offer.owner.host ≡ false → IsMade w offer
  pub answers : AreTrue w w.answers
  pub faulted : (host : List ℕ) (s : Session) → w.session host ≡ Some s → (ask : Ask) → faulted s.calls ≡ Some ask → IsTrueAsk w host ask

-- a record that an entry confirms, whose ask tells the truth
confirmed-entry : (w : World) (host : List ℕ) (s : Session) (e : Entry) (before : List Entry) (n : ℕ) (offer : Offer) → w.session host ≡ Some s → out host before ≡ (view_at host s).messages
    → IsAnswered host (e ∷ before) → IsTrueAsk w host e.ask → at_number (offers before) n ≡ Some offer → Confirms (out host before) e.ask n → w.foreign offer.owner.host ≡ false → IsMade w offer
confirmed-entry w host s e before n offer is same answered true_ask there (number, status, id, message, asked, sent, about, well) ours =
    let answer = true_ask number status id asked well in
    let own : answer.0 ≡ s = some-same answer.0 s (sym answer.2 ∙ is) in
    let P : Session → Type 0 = λ t. at_number (view_at host t).messages number ≡ Some answer.1 in
    let found : at_number (out host before) number ≡ Some answer.1 = ap (λ l. at_number l number) same ∙ subst P own answer.3 in
    let equal : answer.1 ≡ message = some-same answer.1 message (sym found ∙ sent) in
    let accepts = acceptances host before number n message sent about in
    let this : accepts.0 ≡ offer = some-same accepts.0 offer (sym accepts.1 ∙ there) in
    answer.4 well n offer (equal ∙ accepts.2 ∙ ap (λ o. acceptance n o) this) ours

confirmed-onward : (w : World) (host : List ℕ) (s t : Session) → Holds w → w.session host ≡ Some s → Onward (IsTrueAsk w host) host s t
    → (n : ℕ) (offer : Offer) → at_number (view_at host t).offers n ≡ Some offer → is_confirmed ((view_at host t).phase n) ≡ true → w.foreign offer.owner.host ≡ false → IsMade w offer
confirmed-onward w host s t holds is (inl same) n offer there confirmed ours =
    let P : View → Type 0 = λ v. at_number v.offers n ≡ Some offer in
    let Q : View → Type 0 = λ v. is_confirmed (v.phase n) ≡ true in
    holds.confirmed host s is n offer (subst P same there) (subst Q same confirmed) ours
confirmed-onward w host s t holds is (inr (e, true_ask, legal, same)) n offer there confirmed ours =
    cases (changes host now e) (kept-answered host (e ∷ history_of s) legal) (subst P same there) (subst Q same confirmed)
  where
    now : List Entry
    now = kept host (history_of s)

    P : View → Type 0
    P v = at_number v.offers n ≡ Some offer

    Q : View → Type 0
    Q v = is_confirmed (v.phase n) ≡ true

    by_before : IsAnswered host (e ∷ now) → at_number (offers now) n ≡ Some offer → (is_confirmed (phase_among (out host now) now n) ≡ true) ⊎ Confirms (out host now) e.ask n → IsMade w offer
    by_before answered old (inl before) = holds.confirmed host s is n offer old before ours
    by_before answered old (inr confirms) = confirmed-entry w host s e now n offer is refl answered true_ask old confirms ours

    cases : (b : Bool) → IsAnswered host (if b then e ∷ now else now) → P (view_of host (if b then e ∷ now else now)) → Q (view_of host (if b then e ∷ now else now)) → IsMade w offer
    cases true answered old confirms = let by = confirmed-by host e now n offer answered old confirms in by_before answered by.0 by.1
    cases false answered old confirms = holds.confirmed host s is n offer old confirms ours

-- it holds after one server went on, by an ask that tells the truth
pub holds-at : (w : World) (host : List ℕ) (s t : Session) (answers : List Answer) → Holds w → w.session host ≡ Some s → IsSession host t.area t.base t.calls → Onward (IsTrueAsk w host) host s t
    → AreTrue w answers → ((ask : Ask) → faulted t.calls ≡ Some ask → IsTrueAsk w host ask) → Holds (changed w host t answers)
holds-at w host s t answers holds is session on true_answers true_fault = record {
  sessions = looked w host t answers (λ x u. IsSession x u.area u.base u.calls) session holds.sessions;
  confirmed =
      looked w host t answers Confirmed (λ n offer there confirmed ours. made-on w next offer grows (confirmed-onward w host s t holds is on n offer there confirmed ours))
      (λ other u at n offer there confirmed ours. made-on w next offer grows (holds.confirmed other u at n offer there confirmed ours));
  answers = all-true-on w next answers refl grows true_answers;
  faulted =
      looked w host t answers Faulted (λ ask e. true-ask-on w next host ask refl grows (true_fault ask e))
      (λ other u at ask e. true-ask-on w next other ask refl grows (holds.faulted other u at ask e));
}
  where
    next : World
    next = changed w host t answers

    grows : Grows w next
    grows = grows-at w host s t answers is (onward-weaker (IsTrueAsk w host) host s t on)

    Confirmed : List ℕ → Session → Type 0
    Confirmed x u = (n : ℕ) (offer : Offer) → at_number (view_at x u).offers n ≡ Some offer → is_confirmed ((view_at x u).phase n) ≡ true → next.foreign offer.owner.host ≡ false → IsMade next offer

    Faulted : List ℕ → Session → Type 0
    Faulted x u = (ask : Ask) → faulted u.calls ≡ Some ask → IsTrueAsk next x ask
