-- A run in which a host hears of an offer's permissions from the owner's server alone keeps the owner's word alone.
use Rattle.std.proofs.Common.{◌≡◌, ℕ, List, ◌∷◌, ◌++◌, Bool, true, false, ◌&&◌, ◌||◌, not, refl, sym, ap, ◌∙◌, subst}
use Rattle.std.specs.Prelude.{Option, Some, None, ◌⊎◌, if◌then◌else◌, nat_eq}
use Rattle.std.specs.List.{list_any}
use Rattle.std.proofs.lemmas.Bool.{eqb-true}
use mathlib.Core.Logic.{inl, inr}
use Rattle.ocm_types.specs.declared.letters.Letter.{Letter}
use Rattle.ocm_types.specs.declared.letters.Letter.TheVariants as letters
use Rattle.ocm_types.specs.declared.letters.Notice.TheVariants as notices
use Rattle.ocm_types.specs.declared.letters.Offer.{Offer}
use Rattle.ocm_types.specs.declared.rights.Rights.{Rights}
use Rattle.ocm_types.specs.Rights.{is_within}
use Rattle.ocm_entry.specs.declared.asks.Ask.{Ask}
use Rattle.ocm_entry.specs.declared.asks.Ask.TheVariants as asks
use Rattle.ocm_entry.specs.declared.replies.Reply.{Reply}
use Rattle.ocm_entry.specs.declared.replies.Reply.TheVariants as replies
use Rattle.ocm_entry.specs.declared.entries.Entry.{Entry}
use Rattle.ocm_rules.specs.declared.rows.Message.{Message}
use Rattle.ocm_rules.specs.declared.rows.Told.{Told}
use Rattle.ocm_rules.specs.Equal.{same_rights}
use Rattle.ocm_rules.specs.Numbers.{at_number, same_text}
use Rattle.ocm_rules.specs.Offers.{is_of}
use Rattle.ocm_rules.specs.Views.{View}
use Rattle.ocm_rules.specs.Messages.{out, view_of}
use Rattle.ocm_rules.specs.Lean.{lean, still_stands}
use Rattle.ocm_rules.specs.History.{changes, changes_in, kept}
use Rattle.ocm_rules.proofs.Lists.{both_pass}
use Rattle.ocm_law_lean.proofs.Readings.{lean-thin, thin-any}
use Rattle.ocm_law_lean.proofs.Thin.{of_tick, same_kept}
use Rattle.ocm_law_sessions.specs.Sessions.{heard}
use Rattle.ocm_law_sessions.specs.Crashes.{HasLeanWith, IsNext, unheard}
use Rattle.ocm_entry.specs.Deliveries.{letter_ask}
use Rattle.ocm_law_world.specs.World.{Answer, Run, Session, Step, World, answer_to, changed, empty_among, history_of, kept_at, new_session, reopened, settlement_by, with_call}
use Rattle.ocm_law_world.specs.World.Run.{Stays, Goes_on}
use Rattle.ocm_law_world.specs.World.Step.{Begins, Asks, Delivers, Foreign, Comes, Crashes}
use Rattle.ocm_law_world.specs.Guests.{HearsOwnerAlone, IsSaid, tells}
use Rattle.ocm_law_world.specs.Hearing.{HearsInRun, HearsInStep, IsOwnersWord}
use Rattle.ocm_law_world.proofs.Texts.{text-equal}
use Rattle.ocm_law_world.proofs.Growth.{HasMessage, message-lasts}
use Rattle.ocm_law_world.proofs.Steps.{AreSessions, Grows, grows-step, lasts-grown, looked, none-here, sessions-run}

-- ---- what was said stays said

said-on : (w next : World) (offer : Offer) (told : Told) → Grows w next → IsSaid w offer told → IsSaid next offer told
said-on w next offer told grows (s, number, message, is, sent, letter) =
    let there = lasts-grown (HasMessage number message) w next offer.owner.host (message-lasts number message) grows (s, is, sent) in
    (there.0, number, message, there.1, there.2, letter)

-- ---- what tells something

abbrev telling : Offer → Told → Entry → Bool
telling offer told e = tells offer told e.ask

-- an ask that tells something changes something only where it is noticed
noticed : (v : View) (offer : Offer) (told : Told) (ask : Ask) (reply : Reply) → tells offer told ask ≡ true → changes_in v ask reply ≡ true → reply ≡ replies.Noticed
noticed v offer told (asks.Notice (notices.Changed id secret serial perms) fresh) replies.Noticed h change = refl
noticed v offer told (asks.Notice (notices.Changed id secret serial perms) fresh) _ h change = absurd (cc)
noticed v offer told _ reply h change = absurd (cc)

-- ticks tell nothing, and neither do bodies
any-lean : (host : List ℕ) (g : List Entry) (offer : Offer) (told : Told) → list_any (telling offer told) (lean host g) ≡ list_any (telling offer told) (kept host g)
any-lean host g offer told =
    ap (λ l. list_any (telling offer told) l) (lean-thin host g)
    ∙ thin-any (tells offer told) (λ keeps ask. same_kept (tells offer told) (λ secret path body. refl) keeps ask) (λ ask is. of_tick (λ a. tells offer told a ≡ false) (λ clock. refl) ask is)
    (still_stands host (kept host g)) false (kept host g)

any-same : (host : List ℕ) (g other : List Entry) (offer : Offer) (told : Told) → lean host g ≡ lean host other → list_any (telling offer told) (kept host g) ≡ true → list_any (telling offer told) (kept host other) ≡ true
any-same host g other offer told same any =
    sym (any-lean host other offer told) ∙ ap (λ l. list_any (telling offer told) l) (sym same) ∙ any-lean host g offer told ∙ any

-- ---- one more entry, and a crash

abbrev Word : World → Offer → List Entry → Type 0
Word w offer l = (told : Told) → list_any (telling offer told) l ≡ true → IsSaid w offer told

-- what is kept with an entry more is the owner's word, where the entry is, or is not noticed
word-entry : (w : World) (host : List ℕ) (offer : Offer) (e : Entry) (g : List Entry) → (e.reply ≡ replies.Noticed → IsOwnersWord w offer e.ask) → Word w offer (kept host g) → Word w offer (kept host (e ∷ g))
word-entry w host offer e g owners older told any = by_change (changes host (kept host g) e) refl any
  where
    by_test : changes host (kept host g) e ≡ true → (b : Bool) → tells offer told e.ask ≡ b → (b || list_any (telling offer told) (kept host g)) ≡ true → IsSaid w offer told
    by_test change true h k = owners (noticed (view_of host (kept host g)) offer told e.ask e.reply h change) told h
    by_test change false h k = older told k

    by_change : (b : Bool) → changes host (kept host g) e ≡ b → list_any (telling offer told) (if b then e ∷ kept host g else kept host g) ≡ true → IsSaid w offer told
    by_change true change k = by_test change (tells offer told e.ask) refl k
    by_change false change k = older told k

-- what a crash leaves
word-crash : (w : World) (host : List ℕ) (offer : Offer) (s : Session) (flight : Option Ask) (next : List Entry) → IsNext host s.base s.calls flight next
    → ((ask : Ask) → unheard host s.base s.calls flight ≡ Some ask → lean host next ≡ lean host (heard host (history_of s) ask ∷ history_of s) → IsOwnersWord w offer ask)
    → Word w offer (kept_at host s) → Word w offer (kept host next)
word-crash w host offer s flight next comes owners older told any = by_case comes.1
  where
    g : List Entry
    g = history_of s

    by_ask : (o : Option Ask) → unheard host s.base s.calls flight ≡ o → HasLeanWith host g o next → IsSaid w offer told
    by_ask None is with = absurd with
    by_ask (Some ask) is with =
        word-entry w host offer (heard host g ask) g (λ told_so. owners ask is with) older told (any-same host next (heard host g ask ∷ g) offer told with any)

    by_case : (lean host next ≡ lean host g) ⊎ HasLeanWith host g (unheard host s.base s.calls flight) next → IsSaid w offer told
    by_case (inl same) = older told (any-same host next g offer told same any)
    by_case (inr with) = by_ask (unheard host s.base s.calls flight) refl with

-- ---- steps and runs

abbrev AloneAt : World → List ℕ → Offer → Type 0
AloneAt w host offer = (s : Session) → w.session host ≡ Some s → HearsOwnerAlone w host s offer

-- after a step at one server, where what that keeps is the owner's word if it is this host
alone-at : (w : World) (host : List ℕ) (offer : Offer) (other : List ℕ) (t : Session) (answers : List Answer) → Grows w (changed w other t answers) → AloneAt w host offer
    → (other ≡ host → Word w offer (kept_at other t)) → AloneAt (changed w other t answers) host offer
alone-at w host offer other t answers grows old new s is told any = said-on w (changed w other t answers) offer told grows (by_host s is told any)
  where
    by_host : (u : Session) → (changed w other t answers).session host ≡ Some u → Word w offer (kept_at host u)
    by_host u is =
        looked w other t answers (λ x v. x ≡ host → Word w offer (kept_at x v)) new
        (λ x v at same. let P : List ℕ → Type 0 = λ y. w.session y ≡ Some v → Word w offer (kept_at y v) in subst P (sym same) (λ here. old v here) at)
        host u is refl

alone-step : (w next : World) (host : List ℕ) (offer : Offer) (step : Step w next) → AreSessions w → AloneAt w host offer → HearsInStep host offer w next step → AloneAt next host offer
alone-step w _ host offer (Begins other area ours none) all old hears =
    alone-at w host offer other (new_session area) w.answers (grows-step w (changed w other (new_session area) w.answers) all (Begins other area ours none)) old (λ same told any. absurd (cc))
alone-step w _ host offer (Asks other s ask reply is plain told) all old hears =
    alone-at w host offer other (with_call s ask reply) w.answers (grows-step w (changed w other (with_call s ask reply) w.answers) all (Asks other s ask reply is plain told)) old
    (λ same. word-entry w other offer (record { ask = ask; reply = reply }) (history_of s) (hears same) (here same))
  where
    here : other ≡ host → Word w offer (kept_at other s)
    here same = let P : List ℕ → Type 0 = λ x. w.session x ≡ Some s → Word w offer (kept_at x s) in subst P (sym same) (λ at. old s at) is
alone-step w _ host offer (Delivers sender s number message peer fresh reply is sent there told) all old hears =
    alone-at w host offer message.to (with_call peer (letter_ask message.letter fresh) reply) (answer_to sender number reply ∷ w.answers)
    (grows-step w (changed w message.to (with_call peer (letter_ask message.letter fresh) reply) (answer_to sender number reply ∷ w.answers)) all (Delivers sender s number message peer fresh reply is sent there told)) old
    (λ same. word-entry w message.to offer (record { ask = letter_ask message.letter fresh; reply = reply }) (history_of peer) (hears same) (here same))
  where
    here : message.to ≡ host → Word w offer (kept_at message.to peer)
    here same = let P : List ℕ → Type 0 = λ x. w.session x ≡ Some peer → Word w offer (kept_at x peer) in subst P (sym same) (λ at. old peer at) there
alone-step w _ host offer (Foreign sender s number message status id is sent theirs) all old hears = old
alone-step w _ host offer (Comes newer older a s reply under is told) all old hears =
    alone-at w host offer a.host (with_call s (settlement_by a) reply) (newer ++ older)
    (grows-step w (changed w a.host (with_call s (settlement_by a) reply) (newer ++ older)) all (Comes newer older a s reply under is told)) old
    (λ same. word-entry w a.host offer (record { ask = settlement_by a; reply = reply }) (history_of s) (λ told_so told h. absurd (cc)) (here same))
  where
    here : a.host ≡ host → Word w offer (kept_at a.host s)
    here same = let P : List ℕ → Type 0 = λ x. w.session x ≡ Some s → Word w offer (kept_at x s) in subst P (sym same) (λ at. old s at) is
alone-step w _ host offer (Crashes other s flight answers next is flies comes) all old hears =
    alone-at w host offer other (reopened s next) answers (grows-step w (changed w other (reopened s next) answers) all (Crashes other s flight answers next is flies comes)) old
    (λ same. word-crash w other offer s flight next comes (hears same) (here same))
  where
    here : other ≡ host → Word w offer (kept_at other s)
    here same = let P : List ℕ → Type 0 = λ x. w.session x ≡ Some s → Word w offer (kept_at x s) in subst P (sym same) (λ at. old s at) is

pub hears-run : (foreign : List ℕ → Bool) (w : World) (run : Run (empty_among foreign) w) (host : List ℕ) (offer : Offer) → HearsInRun host offer (empty_among foreign) w run
    → (s : Session) → w.session host ≡ Some s → HearsOwnerAlone w host s offer
hears-run foreign _ Stays host offer hears s is = absurd (cc)
hears-run foreign _ (Goes_on w next run step) host offer hears s is =
    alone-step w next host offer step (sessions-run (empty_among foreign) w (none-here foreign) run) (hears-run foreign w run host offer hears.0) hears.1 s is

-- ---- what the owner's server delivers

rights-same : (a b : Rights) → same_rights a b ≡ true → a ≡ b
rights-same a b h =
    let both = both_pass (is_within a b) (is_within b a) h in
    let up = both_pass ((not a.read || b.read) && (not a.write || b.write)) (not a.share || b.share) both.0 in
    let up_more = both_pass (not a.read || b.read) (not a.write || b.write) up.0 in
    let down = both_pass ((not b.read || a.read) && (not b.write || a.write)) (not b.share || a.share) both.1 in
    let down_more = both_pass (not b.read || a.read) (not b.write || a.write) down.0 in
    λ i. record {
      read = each_way a.read b.read up_more.0 down_more.0 i;
      write = each_way a.write b.write up_more.1 down_more.1 i;
      share = each_way a.share b.share up.1 down.1 i;
    }
  where
    each_way : (x y : Bool) → (not x || y) ≡ true → (not y || x) ≡ true → x ≡ y
    each_way true true h k = refl
    each_way true false h k = absurd (cc)
    each_way false true h k = absurd (cc)
    each_way false false h k = refl

-- a letter that tells something is a change of that
letter-tells : (offer : Offer) (told : Told) (letter : Letter) (fresh : List ℕ) → tells offer told (letter_ask letter fresh) ≡ true → letter ≡ letters.Notice (notices.Changed offer.id offer.secret told.serial told.perms)
letter-tells offer told (letters.Notice (notices.Changed id secret serial perms)) fresh h =
    let first = both_pass (is_of id secret offer && nat_eq serial told.serial) (same_rights perms told.perms) h in
    let second = both_pass (is_of id secret offer) (nat_eq serial told.serial) first.0 in
    let third = both_pass (same_text offer.id id) (same_text offer.secret secret) second.0 in
    let same_id = text-equal offer.id id third.0 in
    let same_secret = text-equal offer.secret secret third.1 in
    let same_serial = eqb-true serial told.serial second.1 in
    let same_perms = rights-same perms told.perms first.1 in
    λ i. letters.Notice (notices.Changed (sym same_id i) (sym same_secret i) (same_serial i) (same_perms i))
letter-tells offer told (letters.Notice (notices.Accepted id secret owner with perms)) fresh h = absurd (cc)
letter-tells offer told (letters.Notice (notices.Declined id secret)) fresh h = absurd (cc)
letter-tells offer told (letters.Notice (notices.Unshared id secret)) fresh h = absurd (cc)
letter-tells offer told (letters.Notice (notices.ReshareRequest id secret with sender_id asked)) fresh h = absurd (cc)
letter-tells offer told (letters.Notice (notices.ReshareUndo id secret)) fresh h = absurd (cc)
letter-tells offer told (letters.Offer other) fresh h = absurd (cc)

-- what the owner's server has among its messages, it has said
pub sent-said : (w : World) (offer : Offer) (s : Session) (number : ℕ) (message : Message) (fresh : List ℕ) → w.session offer.owner.host ≡ Some s
    → at_number (out offer.owner.host (kept_at offer.owner.host s)) number ≡ Some message → IsOwnersWord w offer (letter_ask message.letter fresh)
sent-said w offer s number message fresh is sent told h = (s, number, message, is, sent, letter-tells offer told message.letter fresh h)
