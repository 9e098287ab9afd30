-- A disk as it is when it was opened.
use Rattle.std.specs.Prelude.{◌≡◌, ℕ, List}
use Rattle.ocm_disk.specs.Accounts.{fitted}
use Rattle.ocm_disk.specs.Disk.{Only}
use Rattle.ocm_disk.specs.declared.disk.Disk.{Ghosts}

-- A disk was opened, and is said to hold these bytes: it holds as many of them as it has place for, and zeros where they are fewer. No read
-- of it gave anything else yet, a crash at that moment leaves what it holds, and it has not failed.
pub record IsOpenedWith {D : Type 0} (disk : Ghosts D) (holds : List ℕ) (opened : D) : Type 0 where
  pub held : disk.seen opened ≡ fitted (disk.size opened) holds
  pub faithful : disk.faithful opened
  pub settled : Only (disk.seen opened) (disk.may_leave opened)
  pub unfailed : disk.count opened ≡ 0
