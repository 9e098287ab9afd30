-- Calls that fail only with their disk.
use Rattle.std.proofs.Common.{◌≡◌, ◌≤◌, ℕ, ◌+◌, true, List, Result, Ok, Err, IsOk, IfErr, OnOk, is_err, subst, arith}
use Rattle.ocm_disk.specs.declared.disk.Disk.{Ghosts}
use Rattle.ocm_journal_image.specs.declared.faults.ImageFault.{ImageFault}
use Rattle.ocm_journal_image.specs.declared.faults.ImageFault.TheVariants as image_faults
use Rattle.ocm_journal_image.specs.declared.readings.RawRecord.{RawRecord}
use Rattle.ocm_journal.specs.declared.faults.OpenFault.{OpenFault}
use Rattle.ocm_journal.specs.declared.faults.OpenFault.TheVariants.{NotJournal, OtherLabel, DiskFault, NoMemory}
use Rattle.ocm_journal.specs.Openings.{as_open_fault, IsSaid}
use Rattle.ocm_journal.specs.Passing.{AllPass, IsNoDiskFault, PassesWithDisk, FailsWithDisk}

-- a part that passed did not fail
pub not_failed : {T E : Type 0} (r : Result T E) → IsOk r → is_err r ≡ true → ⊥
not_failed (Ok x) ok failed = cc
not_failed (Err e) ok failed = cc

pub always : {T E P : Type 0} (r : Result T E) → P → OnOk r P
always (Ok x) holds = holds
always (Err e) holds = tt

-- a fault of an image is none of the disk
pub image_fault : (e : ImageFault) → IsNoDiskFault (as_open_fault e)
image_fault (image_faults.NotJournal place) = tt
image_fault image_faults.NoMemory = tt

-- what the bytes say is none either
pub said_fault : {T : Type 0} (r : Result T OpenFault) (says : Result (List RawRecord) OpenFault) → IfErr r (IsSaid says) → IfErr r IsNoDiskFault
said_fault (Ok opened) says said = tt
said_fault (Err (NotJournal place)) says said = tt
said_fault (Err (OtherLabel label)) says said = tt
said_fault (Err (DiskFault count)) says said = said
said_fault (Err NoMemory) says said = tt

module _ {D : Type 0} (disk : Ghosts D) where
  -- so many device calls
  pub some_calls : {T E : Type 0} (old new : D) (r : Result T E) (k : ℕ) → ((n : ℕ) → disk.passes old (n + k) → IsOk r × disk.passes new n) → AllPass disk old → IsOk r × AllPass disk new
  some_calls old new r k each all = ((each 0 (all (0 + k))).0, λ n. (each n (all (n + k))).1)

  pub with_room : {T E : Type 0} (old new : D) (r : Result T E) → PassesWithDisk disk old new r → 514 ≤ disk.spare old → AllPass disk old → IsOk r × AllPass disk new
  unfolding PassesWithDisk
  with_room old new r passes room all = passes all (omega (arith, room))

  -- the rest of a call, behind what changed neither
  pub behind_same : {T : Type 0} (old mid new : D) (r : Result T OpenFault) → disk.count mid ≡ disk.count old → (AllPass disk old → AllPass disk mid) → FailsWithDisk disk mid new r → FailsWithDisk disk old new r
  unfolding FailsWithDisk
  behind_same old mid new r same still last = (subst (λ n. OnOk r (disk.count new ≡ n)) same last.0, λ all. last.1 (still all))

  -- and behind a part that passed
  pub behind : {T U : Type 0} (old mid new : D) (x : U) (r : Result T OpenFault) → FailsWithDisk {T = U} disk old mid (Ok x) → FailsWithDisk disk mid new r → FailsWithDisk disk old new r
  unfolding FailsWithDisk
  behind old mid new x r first last = behind_same old mid new r first.0 (λ all. (first.1 all).0) last
