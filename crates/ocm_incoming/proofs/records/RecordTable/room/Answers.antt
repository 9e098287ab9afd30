use Rattle.std.proofs.Common.{◌∙◌}
use Rattle.ocm_incoming.proofs.records.RecordTable.room.Goals as goal

pub invariant_of-self-in_err-reserve-3 : goal.invariant_of-self-in_err-reserve-3
invariant_of-self-in_err-reserve-3 c = rw c.in_ok-reserve.ensures.items (record {
  few = c.self.invariant.few;
  offers = λ k. c.in_ok-reserve-2.ensures.entries.2 k ∙ c.self.invariant.offers k;
  users = λ s. c.in_err-reserve-3.ensures.entries.2 s ∙ c.self.invariant.users s;
  marks = c.self.invariant.marks;
})

pub invariant_of-self-in_err-reserve-4 : goal.invariant_of-self-in_err-reserve-4
invariant_of-self-in_err-reserve-4 c = rw c.in_ok-reserve.ensures.items (record {
  few = c.self.invariant.few;
  offers = λ k. c.in_ok-reserve-2.ensures.entries.2 k ∙ c.self.invariant.offers k;
  users = λ s. c.in_ok-reserve-3.ensures.entries.2 s ∙ c.self.invariant.users s;
  marks = λ m. c.in_err-reserve-4.ensures.entries.2 m ∙ c.self.invariant.marks m;
})

pub invariant_of-self-2 : goal.invariant_of-self-2
invariant_of-self-2 c = rw c.in_ok-reserve.ensures.items (record {
  few = c.self.invariant.few;
  offers = λ k. c.in_ok-reserve-2.ensures.entries.2 k ∙ c.self.invariant.offers k;
  users = λ s. c.in_ok-reserve-3.ensures.entries.2 s ∙ c.self.invariant.users s;
  marks = λ m. c.in_ok-reserve-4.ensures.entries.2 m ∙ c.self.invariant.marks m;
})
