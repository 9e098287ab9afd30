-- What a drill adds is what the command writes.
use Rattle.std.proofs.Common.{◌≡◌, ◌≤◌, ◌⊎◌, List, length, ℕ, refl, sym, subst}
use Rattle.std.specs.Prelude.{Option, Some, None, IfSome}
use mathlib.Core.Logic.{inl, inr}
use Rattle.ocm_disk.specs.declared.shelf.ShelfPlace.{ShelfPlace}
use Rattle.ocm_script_run.specs.Drills.{Drills, DrillsPart, summary_of}
use Rattle.ocm_script_run.specs.Servers.{World}
use Rattle.ocm_world.specs.Shelves.{AreShelved}
use Rattle.ocm_commands.specs.Commands.{Writes, WritesPart}
use Rattle.ocm_commands_files.specs.Words.{most_bytes}
use Rattle.ocm_commands_files.specs.declared.ends.End.TheVariants as whole
use Rattle.ocm_commands_files.specs.declared.words.Command.TheVariants as commands

-- the summary of a run
pub drilled : (number events : ℕ) (old new : Option (List ℕ)) (final : World) (shelf : List ShelfPlace) → Drills number events old new final → AreShelved final shelf → (bytes : List ℕ) → length bytes ≤ most_bytes (commands.Drill number events) → Writes (commands.Drill number events) bytes whole.Done old new shelf
drilled number events old new final shelf drills shelved bytes le = (le, summary_of events drills.0 final, drills.2, (final, drills.0, refl, drills.1, refl, shelved))

-- nothing, or a prefix of a summary
pub drilled-part : (number events : ℕ) (old new : Option (List ℕ)) → (new ≡ old) ⊎ DrillsPart number events old new → (bytes : List ℕ) → length bytes ≤ most_bytes (commands.Drill number events) → WritesPart (commands.Drill number events) bytes old new
drilled-part number events old new (inl same) bytes le = inl same
drilled-part number events old new (inr part) bytes le = inr (le, whole.Done, part.0, part.1, part.6, (part.3, part.2, refl, part.4, part.5, tt))

-- what holds of the bytes that were taken holds of the input, where that is told
pub on-input : (input : Option (List ℕ)) (bytes : List ℕ) (P : List ℕ → Type 0) → IfSome input (λ all. all ≡ bytes) → P bytes → IfSome input P
on-input None bytes P is holds = tt
on-input (Some all) bytes P is holds = subst P (sym is) holds
