-- Logs in which a guest's server hears of the permissions of an offer from the server of the offer's owner alone.
use Rattle.std.specs.Prelude.{◌≡◌, ℕ, List, [], ◌∷◌, Bool, false, Some}
use Rattle.ocm_types.specs.declared.letters.Offer.{Offer}
use Rattle.ocm_entry.specs.declared.asks.Ask.{Ask}
use Rattle.ocm_entry.specs.declared.entries.Entry.{Entry}
use Rattle.ocm_entry.specs.declared.replies.Reply.TheVariants.{Noticed}
use Rattle.ocm_rules.specs.Lean.{lean}
use Rattle.ocm_rules.specs.Numbers.{at_number}
use Rattle.ocm_law_sessions.specs.Crashes.{unheard}
use Rattle.ocm_law_sessions.specs.Sessions.{heard}
use Rattle.ocm_law_world.specs.Hearing.{IsOwnersWord}
use Rattle.ocm_law_world.specs.World.{Session, history_of}
use Rattle.ocm_law_world.specs.Guests.{HearsOwnerAlone}
use Rattle.ocm_law_network.specs.Network.{Along, Event, InFlight, IsLog, Post, RepliesAreTheirs, ask_of, posts, session_of, world_of}
use Rattle.ocm_law_network.specs.Network.Event.{Called, Crashed}

-- what a server keeps of the ask that was in flight when it crashed, although nobody heard the answer, is the owner's word
abbrev pub KeepsOwnersWord : (List ℕ → Bool) → Offer → List Event → List ℕ → InFlight → List Entry → Type 0
KeepsOwnersWord foreign offer log at flight next =
    (s : Session) (ask : Ask) → session_of log at ≡ Some s → unheard at s.base s.calls (ask_of flight) ≡ Some ask
    → lean at next ≡ lean at (heard at (history_of s) ask ∷ history_of s) → IsOwnersWord (world_of foreign log []) offer ask

-- At an event, this host takes nothing of an offer's permissions but the owner's word: neither by a call that is answered so,
-- nor by one that a crash keeps although its answer was not heard.
abbrev pub HearsInEvent : (List ℕ → Bool) → List ℕ → Offer → List Event → Event → Type 0
HearsInEvent foreign guest offer log (Called at on call) = at ≡ guest → call.reply ≡ Noticed → IsOwnersWord (world_of foreign log []) offer call.ask
HearsInEvent foreign guest offer log (Crashed at flight next) = at ≡ guest → KeepsOwnersWord foreign offer log at flight next
HearsInEvent foreign guest offer log _ = Unit {0}

-- so at each event of a log
abbrev pub HearsInLog : (List ℕ → Bool) → List ℕ → Offer → List Event → Type 0
HearsInLog foreign guest offer log = Along (HearsInEvent foreign guest offer) log

-- ---- laws

-- who hears the owner alone in a log, keeps its word alone
abbrev pub HearersKeepTheWord : Type 0
HearersKeepTheWord =
    (foreign : List ℕ → Bool) (log : List Event) (guest : List ℕ) (s : Session) (offer : Offer)
    → IsLog foreign log → RepliesAreTheirs foreign log → HearsInLog foreign guest offer log → session_of log guest ≡ Some s → HearsOwnerAlone (world_of foreign log []) guest s offer

-- a call on the connection of a post of the owner's server, of a message to a host that is not foreign, is the owner's word
abbrev pub PostsAreItsWord : Type 0
PostsAreItsWord =
    (foreign : List ℕ → Bool) (log : List Event) (host : List ℕ) (connection : ℕ) (call : Entry) (post : Post) (offer : Offer)
    → IsLog foreign (Called host (Some connection) call ∷ log) → RepliesAreTheirs foreign log
    → at_number (posts log) connection ≡ Some post → post.host ≡ offer.owner.host → foreign post.message.to ≡ false → IsOwnersWord (world_of foreign log []) offer call.ask
