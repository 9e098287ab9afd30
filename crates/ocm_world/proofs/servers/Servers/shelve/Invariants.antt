use Rattle.std.proofs.Common.{◌≡◌, map}
use Rattle.ocm_world.specs.Running.{shelved}
use Rattle.ocm_world.proofs.servers.Servers.shelve.Given as goal

-- the shelf has the disks of the servers so far
abbrev pub invariant-loop-node : goal.invariant-loop-node
invariant-loop-node l = l.shelf ≡ map shelved l.yielded
