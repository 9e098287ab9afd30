-- What stands on a disk after a change that a fault of it cut short.
use Rattle.std.specs.Prelude.{◌≡◌, ◌≤◌, ℕ, Bool, true, false, List}
use Rattle.ocm_disk.specs.declared.disk.Disk.{Ghosts}

-- Of the four device calls of a change so many passed, and the next one failed, as all behind it do. As it reads, as
-- it stood at the last sync, and torn, the disk has what was before the change. Where three passed it reads as after
-- the change, and where `ee` in the last byte counts as the byte does, it is torn to what is after the change.
pub record AfterFault {D : Type 0} (disk : Ghosts D) (left : ℕ) (ruin_counts : Bool) (before after : List ℕ → Type 0) (now : D) : Type 0 where
  pub few : left ≤ 2 → before (disk.seen now) × before (disk.synced now) × before (disk.torn now)
  pub three : left ≡ 3 → after (disk.seen now) × before (disk.synced now)
  pub three_torn_before : left ≡ 3 → ruin_counts ≡ false → before (disk.torn now)
  pub three_torn_after : left ≡ 3 → ruin_counts ≡ true → after (disk.torn now)
