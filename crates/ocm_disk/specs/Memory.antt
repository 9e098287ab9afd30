-- What a disk in memory is to its callers.
use Rattle.std.specs.Prelude.{ℕ, List, [], Option, None}
use Rattle.ocm_disk.specs.declared.crashes.Crash.{Crash}
use Rattle.ocm_disk.specs.declared.crashes.Crash.TheVariants.{Old, New, Torn}

-- the bytes as a read returns them, as they stood at the last successful sync, and as a read returns them with `ee`
-- in place of each that was written since; and how long the disk may get without memory
pub record ImagesState : Type 0 where
  pub seen : List ℕ
  pub synced : List ℕ
  pub torn : List ℕ
  pub limit : ℕ

-- a disk in memory: its images, those of each earlier moment, newest first, how many device calls pass, where that
-- is bounded, and how many faults it has had
pub record DiskState : Type 0 where
  pub images : ImagesState
  pub past : List ImagesState
  pub fuse : Option ℕ
  pub faults : ℕ

-- a disk of these bytes, all of them synced, without a past, a fuse or a fault
abbrev pub settled : List ℕ → ℕ → DiskState
settled bytes limit = record {
  images = record { seen = bytes; synced = bytes; torn = bytes; limit = limit };
  past = [];
  fuse = None;
  faults = 0;
}

-- what a crash leaves of these images
abbrev pub left_by : Crash → ImagesState → List ℕ
left_by Old images = images.synced
left_by New images = images.seen
left_by Torn images = images.torn
