-- The answers that are under way after a log, each with the connection that it is under way on; and one step of a world for
-- each kind of event.
use Rattle.std.proofs.Common.{◌≡◌, ℕ, List, [], ◌∷◌, ◌++◌, false, refl, sym, ap, ◌∙◌, subst}
use Rattle.std.specs.Prelude.{Bool, Option, Some, None, option_map, if◌then◌else◌}
use mathlib.Core.Logic.{inl, inr}
use Rattle.ocm_types.specs.declared.letters.Offer.{Offer}
use Rattle.ocm_entry.specs.declared.asks.Ask.{Ask}
use Rattle.ocm_entry.specs.declared.asks.Ask.TheVariants.{Settle}
use Rattle.ocm_entry.specs.declared.entries.Entry.{Entry}
use Rattle.ocm_entry.specs.declared.replies.Reply.{Reply}
use Rattle.ocm_entry.specs.declared.replies.Reply.TheVariants.{Noticed}
use Rattle.ocm_rules.specs.Lean.{lean}
use Rattle.ocm_rules.specs.Numbers.{same_text}
use Rattle.ocm_law_sessions.specs.Crashes.{IsNext, unheard}
use Rattle.ocm_law_sessions.specs.Sessions.{IsReply as IsSessionReply, heard}
use Rattle.ocm_law_world.specs.Hearing.{HearsInRun, HearsInStep, IsOwnersWord}
use Rattle.ocm_law_world.specs.World.{Answer, Run, Session, Step, World, changed, history_of, is_settlement, reopened, settlement_by, with_call}
use Rattle.ocm_law_world.specs.World.Flight.{Nothing as NoneFlies, Asked as AskFlies, Answered as AnswerFlies}
use Rattle.ocm_law_world.specs.World.Run.{Stays, Goes_on}
use Rattle.ocm_law_world.specs.World.Step.{Asks, Comes, Crashes}
use Rattle.ocm_law_network.specs.Network.{Event, InFlight, Has, Replies, session_of, world_of}
use Rattle.ocm_law_network.specs.Network.Event.{Called, Crashed, Settled}
use Rattle.ocm_law_network.specs.Hearing.{HearsInEvent}
use Rattle.ocm_law_network.specs.Network.InFlight.{Settling}

-- ---- answers on connections

abbrev pub Tagged : Type 0
Tagged = List (ℕ × Answer)

abbrev pub answers_in : Tagged → List Answer
answers_in [] = []
answers_in (one ∷ others) = one.1 ∷ answers_in others

pub answers-append : (newer older : Tagged) → answers_in (newer ++ older) ≡ answers_in newer ++ answers_in older
answers-append [] older = refl
answers-append (one ∷ newer) older = ap (λ l. one.1 ∷ l) (answers-append newer older)

-- what stands in a list stands between others
between : {X : Type 0} (xs : List X) (x : X) → Has xs x → (newer : List X) × (older : List X) × (xs ≡ newer ++ x ∷ older)
between [] x there = absurd there
between (first ∷ others) x (inl same) = ([], others, ap (λ y. y ∷ others) same)
between (first ∷ others) x (inr there) =
    let rest = between others x there in
    (first ∷ rest.0, rest.1, ap (λ l. first ∷ l) rest.2)

-- so does an answer among those that are under way
pub parted : (tagged : Tagged) (connection : ℕ) (a : Answer) → Has tagged (connection, a) → (newer : Tagged) × (older : Tagged) × (tagged ≡ newer ++ (connection, a) ∷ older) × (answers_in tagged ≡ answers_in newer ++ a ∷ answers_in older)
parted tagged connection a there = let parts = between tagged (connection, a) there in (parts.0, parts.1, parts.2, ap answers_in parts.2 ∙ answers-append parts.0 ((connection, a) ∷ parts.1))

-- another item is left when that is taken away
over : {X : Type 0} (newer older : List X) (x y : X) → (x ≡ y → ⊥) → Has (newer ++ x ∷ older) y → Has (newer ++ older) y
over [] older x y other (inl same) = absurd (other same)
over [] older x y other (inr there) = there
over (first ∷ newer) older x y other (inl same) = inl same
over (first ∷ newer) older x y other (inr there) = inr (over newer older x y other there)

pub left-over : {X : Type 0} (all newer older : List X) (x y : X) → all ≡ newer ++ x ∷ older → (x ≡ y → ⊥) → Has all y → Has (newer ++ older) y
left-over all newer older x y is other there = over newer older x y other (subst (λ l. Has l y) is there)

-- ---- steps

-- what is known of what a guest's server hears of an offer
abbrev pub Hearing : Type 1
Hearing = List ℕ → Offer → Type 0

-- a run, in which a guest's server hears the owner alone where this is known
abbrev pub RunHearing : Hearing → World → World → Type 0
RunHearing hears w next = (run : Run w next) × ((guest : List ℕ) (offer : Offer) → hears guest offer → HearsInRun guest offer w next run)

-- and a step
abbrev pub StepHearing : Hearing → World → World → Type 0
StepHearing hears w next = (step : Step w next) × ((guest : List ℕ) (offer : Offer) → hears guest offer → HearsInStep guest offer w next step)

-- of a call, of an event
abbrev pub call_hears : (List ℕ → Bool) → List Event → List ℕ → Ask → Reply → Hearing
call_hears foreign log host ask reply guest offer = host ≡ guest → reply ≡ Noticed → IsOwnersWord (world_of foreign log []) offer ask

abbrev pub event_hears : (List ℕ → Bool) → List Event → Event → Hearing
event_hears foreign log event guest offer = HearsInEvent foreign guest offer log event

abbrev pub nothing : Hearing
nothing guest offer = Unit {0}

abbrev pub Goes : Hearing → (List ℕ → Bool) → List Event → List Answer → List Event → List Answer → Type 0
Goes hears foreign log answers later others = RunHearing hears (world_of foreign log answers) (world_of foreign later others)

-- nothing happens
pub stays : (foreign : List ℕ → Bool) (log : List Event) (answers same : List Answer) → answers ≡ same → Goes nothing foreign log answers log same
stays foreign log answers same is = subst (λ l. Goes nothing foreign log answers log l) is (Stays, λ guest offer known. tt)

-- a session is put in the place of that of its host
placed : (foreign : List ℕ → Bool) (log : List Event) (host : List ℕ) (before answers : List Answer) (o : Option Session) (s : Session) → o ≡ Some s
    → changed (world_of foreign log before) host s answers ≡ record { foreign = foreign; session = λ other. if same_text other host then o else session_of log other; answers = answers }
placed foreign log host before answers o s is = λ i. record { foreign = foreign; session = λ other. if same_text other host then sym is i else session_of log other; answers = answers }

-- a call
abbrev pub call_at : Entry → Session → Session
call_at call s = with_call s call.ask call.reply

pub call-goes : (hears : Hearing) (foreign : List ℕ → Bool) (log : List Event) (event : Event) (host : List ℕ) (before answers : List Answer) (call : Entry) (s : Session) → session_of log host ≡ Some s
    → StepHearing hears (world_of foreign log before) (changed (world_of foreign log before) host (call_at call s) answers)
    → RunHearing hears (world_of foreign log before) (record { foreign = foreign; session = λ other. if same_text other host then option_map (call_at call) (session_of log host) else session_of log other; answers = answers })
call-goes hears foreign log event host before answers call s there step =
    subst (RunHearing hears (world_of foreign log before)) (placed foreign log host before answers (option_map (call_at call) (session_of log host)) (call_at call s) (ap (option_map (call_at call)) there))
    (Goes_on (world_of foreign log before) (changed (world_of foreign log before) host (call_at call s) answers) Stays step.0, λ guest offer known. (tt, step.1 guest offer known))

-- a crash
pub crash-goes : (hears : Hearing) (foreign : List ℕ → Bool) (log : List Event) (host : List ℕ) (before answers : List Answer) (next : List Entry) (s : Session) → session_of log host ≡ Some s
    → StepHearing hears (world_of foreign log before) (changed (world_of foreign log before) host (reopened s next) answers)
    → RunHearing hears (world_of foreign log before) (record { foreign = foreign; session = λ other. if same_text other host then option_map (λ t. reopened t next) (session_of log host) else session_of log other; answers = answers })
crash-goes hears foreign log host before answers next s there step =
    subst (RunHearing hears (world_of foreign log before)) (placed foreign log host before answers (option_map (λ t. reopened t next) (session_of log host)) (reopened s next) (ap (option_map (λ t. reopened t next)) there))
    (Goes_on (world_of foreign log before) (changed (world_of foreign log before) host (reopened s next) answers) Stays step.0, λ guest offer known. (tt, step.1 guest offer known))

-- a server is asked anything but to settle a message
pub asks-run : (foreign : List ℕ → Bool) (log : List Event) (on : Option ℕ) (host : List ℕ) (answers : List Answer) (call : Entry) → Replies log host call → is_settlement call.ask ≡ false
    → Goes (event_hears foreign log (Called host on call)) foreign log answers (Called host on call ∷ log) answers
asks-run foreign log on host answers call is plain =
    call-goes (event_hears foreign log (Called host on call)) foreign log (Called host on call) host answers answers call is.session is.there (Asks host is.session call.ask call.reply is.there plain is.told, λ guest offer known. known)

-- a settlement tells nothing of permissions
settles-word : (w : World) (offer : Offer) (number status : ℕ) (id : Option (List ℕ)) (ask : Ask) → ask ≡ Settle number status id → IsOwnersWord w offer ask
settles-word w offer number status id ask is = subst (IsOwnersWord w offer) (sym is) (λ told tells. absurd (cc))

-- so it is where it is asked so to settle one by what says neither yes nor no
pub settles-nothing-run : (foreign : List ℕ → Bool) (log : List Event) (connection : ℕ) (host : List ℕ) (answers : List Answer) (call : Entry) (number status : ℕ) (id : Option (List ℕ)) → call.ask ≡ Settle number status id → Replies log host call
    → is_settlement call.ask ≡ false → Goes nothing foreign log answers (Settled host connection call ∷ log) answers
settles-nothing-run foreign log connection host answers call number status id settle is plain =
    call-goes nothing foreign log (Settled host connection call) host answers answers call is.session is.there
    (Asks host is.session call.ask call.reply is.there plain is.told, λ guest offer known here noticed. settles-word (world_of foreign log answers) offer number status id call.ask settle)

-- an answer comes
comes-step : (w : World) (newer older : List Answer) (a : Answer) (host : List ℕ) (ask : Ask) (s : Session) (reply : Reply) → a.host ≡ host → settlement_by a ≡ ask → w.answers ≡ newer ++ a ∷ older → w.session host ≡ Some s
    → IsSessionReply host s.area s.base s.calls ask reply → StepHearing nothing w (changed w host (with_call s ask reply) (newer ++ older))
comes-step w newer older a host ask s reply own same under =
    subst (λ h. w.session h ≡ Some s → IsSessionReply h s.area s.base s.calls ask reply → StepHearing nothing w (changed w h (with_call s ask reply) (newer ++ older))) own
    (subst (λ q. w.session a.host ≡ Some s → IsSessionReply a.host s.area s.base s.calls q reply → StepHearing nothing w (changed w a.host (with_call s q reply) (newer ++ older))) same
    (λ there told. (Comes newer older a s reply under there told, λ guest offer known. tt)))

pub comes-run : (foreign : List ℕ → Bool) (log : List Event) (connection : ℕ) (host : List ℕ) (newer older : List Answer) (a : Answer) (call : Entry) → a.host ≡ host → settlement_by a ≡ call.ask → Replies log host call
    → Goes nothing foreign log (newer ++ a ∷ older) (Settled host connection call ∷ log) (newer ++ older)
comes-run foreign log connection host newer older a call own same is =
    call-goes nothing foreign log (Settled host connection call) host (newer ++ a ∷ older) (newer ++ older) call is.session is.there
    (comes-step (world_of foreign log (newer ++ a ∷ older)) newer older a host call.ask is.session call.reply own same refl is.there is.told)

-- what is known of a crash, with this ask in flight or none
abbrev pub crash_hears : (List ℕ → Bool) → List Event → List ℕ → Option Ask → List Entry → Session → Hearing
crash_hears foreign log host flight next s guest offer =
    host ≡ guest → (ask : Ask) → unheard host s.base s.calls flight ≡ Some ask → lean host next ≡ lean host (heard host (history_of s) ask ∷ history_of s) → IsOwnersWord (world_of foreign log []) offer ask

-- a server crashes, with an answer in flight
pub crash-answered-run : (foreign : List ℕ → Bool) (log : List Event) (connection : ℕ) (host : List ℕ) (newer older : List Answer) (a : Answer) (ask : Ask) (next : List Entry) (s : Session) → a.host ≡ host → settlement_by a ≡ ask
    → session_of log host ≡ Some s → IsNext host s.base s.calls (Some ask) next
    → Goes (crash_hears foreign log host (Some ask) next s) foreign log (newer ++ a ∷ older) (Crashed host (Settling connection ask) next ∷ log) (newer ++ older)
crash-answered-run foreign log connection host newer older a ask next s own same there comes =
    let w : World = world_of foreign log (newer ++ a ∷ older) in
    crash-goes (crash_hears foreign log host (Some ask) next s) foreign log host (newer ++ a ∷ older) (newer ++ older) next s there (
      Crashes host s (Some (settlement_by a)) (newer ++ older) next there (AnswerFlies newer older a refl own) (subst (λ q. IsNext host s.base s.calls (Some q) next) (sym same) comes),
      λ guest offer known. subst (λ q. crash_hears foreign log host (Some q) next s guest offer) (sym same) known,
    )

-- a server crashes, with another ask in flight
pub crash-asked-run : (foreign : List ℕ → Bool) (log : List Event) (host : List ℕ) (flight : InFlight) (ask : Ask) (answers : List Answer) (next : List Entry) (s : Session) → is_settlement ask ≡ false → session_of log host ≡ Some s
    → IsNext host s.base s.calls (Some ask) next → Goes (crash_hears foreign log host (Some ask) next s) foreign log answers (Crashed host flight next ∷ log) answers
crash-asked-run foreign log host flight ask answers next s plain there comes =
    crash-goes (crash_hears foreign log host (Some ask) next s) foreign log host answers answers next s there (Crashes host s (Some ask) answers next there (AskFlies ask plain) comes, λ guest offer known. known)

-- a server crashes, with nothing in flight
pub crash-run : (foreign : List ℕ → Bool) (log : List Event) (host : List ℕ) (flight : InFlight) (answers : List Answer) (next : List Entry) (s : Session) → session_of log host ≡ Some s → IsNext host s.base s.calls None next
    → Goes (crash_hears foreign log host None next s) foreign log answers (Crashed host flight next ∷ log) answers
crash-run foreign log host flight answers next s there comes =
    crash-goes (crash_hears foreign log host None next s) foreign log host answers answers next s there (Crashes host s None answers next there NoneFlies comes, λ guest offer known. known)
