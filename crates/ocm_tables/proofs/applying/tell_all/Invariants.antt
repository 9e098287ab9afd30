use Rattle.std.proofs.Common.{◌≡◌, take}
use Rattle.ocm_tables.specs.Changes.{told_all}
use Rattle.ocm_tables.proofs.applying.tell_all.Given as goal

-- those so far were told
abbrev pub invariant-loop-number : goal.invariant-loop-number
invariant-loop-number l = l.board.told ≡ told_all (take l.number-index l.numbers) (record { serial = l.serial; perms = l.perms }) l.initial.board.told
