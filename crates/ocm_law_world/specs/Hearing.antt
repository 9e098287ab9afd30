-- Runs in which a guest's server hears of the permissions of an offer from the server of the offer's owner alone.
use Rattle.std.specs.Prelude.{◌≡◌, ℕ, List, ◌∷◌, IsTrue, Some}
use Rattle.ocm_types.specs.declared.letters.Offer.{Offer}
use Rattle.ocm_entry.specs.declared.asks.Ask.{Ask}
use Rattle.ocm_entry.specs.declared.replies.Reply.TheVariants.{Noticed}
use Rattle.ocm_rules.specs.declared.rows.Told.{Told}
use Rattle.ocm_rules.specs.Lean.{lean}
use Rattle.ocm_law_sessions.specs.Sessions.{heard}
use Rattle.ocm_law_sessions.specs.Crashes.{unheard}
use Rattle.ocm_entry.specs.Deliveries.{letter_ask}
use Rattle.ocm_law_world.specs.World.{Run, Step, World, history_of}
use Rattle.ocm_law_world.specs.World.Run.{Stays, Goes_on}
use Rattle.ocm_law_world.specs.World.Step.{Begins, Asks, Delivers, Foreign, Comes, Crashes}
use Rattle.ocm_law_world.specs.Guests.{IsSaid, tells}

-- whatever an ask tells of an offer's permissions, the server of the offer's owner has said
abbrev pub IsOwnersWord : World → Offer → Ask → Type 0
IsOwnersWord w offer ask = (told : Told) → IsTrue (tells offer told ask) → IsSaid w offer told

-- At a step from this world, this host takes nothing of an offer's permissions but the owner's word: neither by a call that is
-- answered so, nor by one that a crash keeps although its answer was not heard.
abbrev pub HearsInStep : List ℕ → Offer → (w next : World) → Step w next → Type 0
HearsInStep host offer w _ (Begins other area ours none) = Unit {0}
HearsInStep host offer w _ (Asks other s ask reply is plain told) = other ≡ host → reply ≡ Noticed → IsOwnersWord w offer ask
HearsInStep host offer w _ (Delivers sender s number message peer fresh reply is sent there told) =
    message.to ≡ host → reply ≡ Noticed → IsOwnersWord w offer (letter_ask message.letter fresh)
HearsInStep host offer w _ (Foreign sender s number message status id is sent theirs) = Unit {0}
HearsInStep host offer w _ (Comes newer older a s reply under is told) = Unit {0}
HearsInStep host offer w _ (Crashes other s flight answers next is flies comes) =
    other ≡ host → (ask : Ask) → unheard other s.base s.calls flight ≡ Some ask
    → lean other next ≡ lean other (heard other (history_of s) ask ∷ history_of s) → IsOwnersWord w offer ask

-- at each step of a run
abbrev pub HearsInRun : List ℕ → Offer → (first w : World) → Run first w → Type 0
HearsInRun host offer first _ Stays = Unit {0}
HearsInRun host offer first _ (Goes_on w next run step) = HearsInRun host offer first w run × HearsInStep host offer w next step
