-- The shelf of a command that ended early.
use Rattle.std.proofs.Common.{◌≡◌, ◌⊎◌, List, [], ℕ}
use Rattle.std.specs.Prelude.{Option, Some, None, Result, Ok, Err, IfSome, OnErr}
use mathlib.Core.Logic.{inl, inr}
use Rattle.ocm_disk.specs.declared.shelf.ShelfPlace.{ShelfPlace}
use Rattle.ocm_script.specs.declared.events.Event.{Event}
use Rattle.ocm_world.specs.Shelves.{PrefixShelved}
use Rattle.ocm_commands.specs.Commands.{LeavesPart, MayShelve, RunsEvents}
use Rattle.ocm_commands_files.specs.Commands.{status_of}
use Rattle.ocm_commands_files.specs.declared.ends.End.{End}
use Rattle.ocm_commands_files.specs.declared.ends.End.TheVariants as ends
use Rattle.ocm_commands_files.specs.declared.ends.Fault.{Fault}
use Rattle.ocm_commands_files.specs.declared.ends.Fault.TheVariants as faults
use Rattle.ocm_commands_files.specs.declared.words.Command.{Command}

-- it has disks of a prefix of the events that the command runs
pub left-events : (command : Command) (bytes : List ℕ) (events : List Event) (places : List ShelfPlace) → RunsEvents command bytes events → PrefixShelved events places → LeavesPart command bytes places
left-events command bytes events places runs shelved = inr (events, runs, shelved)

-- it is empty, whatever the input is
pub left-input : (input : Option (List ℕ)) (command : Command) (places : List ShelfPlace) → places ≡ [] → IfSome input (λ bytes. LeavesPart command bytes places)
left-input None command places none = tt
left-input (Some bytes) command places none = inl none

-- it is empty, however the run ended
pub left-plain : (command : Command) (bytes : List ℕ) (places : List ShelfPlace) (run : Result End Fault) → places ≡ [] → OnErr run (LeavesPart command bytes places)
left-plain command bytes places (Ok end) none = tt
left-plain command bytes places (Err fault) none = inl none

-- with another status than 0, 4 and 5 no disk is on the shelf
pub unshelved-status : (run : Result End Fault) (n : ℕ) (places : List ShelfPlace) → n ≡ status_of run → MayShelve run ⊎ (places ≡ []) → (n ≡ 0) ⊎ (n ≡ 4) ⊎ (n ≡ 5) ⊎ (places ≡ [])
unshelved-status run n places is (inr none) = inr (inr (inr none))
unshelved-status (Ok ends.Done) n places is (inl may) = inl is
unshelved-status (Err faults.WriteFault) n places is (inl may) = inr (inl is)
unshelved-status (Err faults.NoMemory) n places is (inl may) = inr (inr (inl is))
unshelved-status run n places is (inl may) = absurd may
