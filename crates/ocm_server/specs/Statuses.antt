-- The status of a program that ran a server.
use Rattle.std.specs.Prelude.{ℕ}
use Rattle.ocm_server.specs.declared.served.Served.{Served}
use Rattle.ocm_server.specs.declared.served.Served.TheVariants.{Ended, DoorFault, DiskFault, NotJournal, OtherHost, NoMemory}

abbrev pub status_of : Served → ℕ
status_of (Ended calls own) = 0
status_of (DoorFault calls own) = 11
status_of (DiskFault count) = 6
status_of (NotJournal place) = 7
status_of (OtherHost found) = 10
status_of NoMemory = 5
