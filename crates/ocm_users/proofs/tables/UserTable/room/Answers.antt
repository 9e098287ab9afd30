use Rattle.std.proofs.Common.{◌∙◌}
use Rattle.ocm_users.proofs.tables.UserTable.room.Goals as goal

pub invariant_of-self-in_err-reserve-3 : goal.invariant_of-self-in_err-reserve-3
invariant_of-self-in_err-reserve-3 c = rw c.in_ok-reserve.ensures.items (record {
  few = c.self.invariant.few;
  keys = λ s. c.in_ok-reserve-2.ensures.entries.2 s ∙ c.self.invariant.keys s;
  taken = λ s. c.in_err-reserve-3.ensures.keys.2 s ∙ c.self.invariant.taken s;
})

pub invariant_of-self-2 : goal.invariant_of-self-2
invariant_of-self-2 c = rw c.in_ok-reserve.ensures.items (record {
  few = c.self.invariant.few;
  keys = λ s. c.in_ok-reserve-2.ensures.entries.2 s ∙ c.self.invariant.keys s;
  taken = λ s. c.in_ok-reserve-3.ensures.keys.2 s ∙ c.self.invariant.taken s;
})
