use Rattle.std.proofs.Common.{◌≡◌, ◌≤◌, ◌+◌, ◌++◌, length, map}
use Rattle.std.specs.Vec.Iter.{into_iter_items, into_iter_len}
use Rattle.ocm_rules.specs.State.{new_sent_row}
use Rattle.ocm_tables.proofs.applying.send_all.Given as goal

-- the messages so far were added, and there are room and numbers for the rest
abbrev pub invariant-loop-message : goal.invariant-loop-message
invariant-loop-message l =
    (l.yielded ++ into_iter_items l.message-iterator ≡ into_iter_items l.initial.message-iterator)
    × (into_iter_len l.message-iterator ≡ length (into_iter_items l.message-iterator))
    × (l.outbox.sent ≡ l.initial.outbox.sent ++ map new_sent_row l.yielded)
    × (length (into_iter_items l.message-iterator) ≤ l.outbox.room)
    × (length l.outbox.sent + length (into_iter_items l.message-iterator) ≤ 1048576)
