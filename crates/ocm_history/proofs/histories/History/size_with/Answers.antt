use Rattle.std.proofs.Common.{refl, arith}
use Rattle.ocm_history.proofs.Memories.{most-bound}
use Rattle.ocm_history.proofs.histories.History.size_with.Goals as goal

pub returns-then-saturating_add-area-clause-bound : goal.returns-then-saturating_add-area-clause-bound
returns-then-saturating_add-area-clause-bound c = λ g ask form change.
    most-bound c.args.self.now g ask c.args.planned.now form c.args.draft.now c.most_with-most.result change c.most_with-most.ensures.value

pub returns-else-saturating_add-area-clause-bound : goal.returns-else-saturating_add-area-clause-bound
returns-else-saturating_add-area-clause-bound c = λ g ask form change. let exact = c.lean_size.ensures g ask form c.args.draft.now change refl in omega (arith, exact)

pub returns-else-saturating_add-area-clause-exact : goal.returns-else-saturating_add-area-clause-exact
returns-else-saturating_add-area-clause-exact c = λ g ask form change over. c.lean_size.ensures g ask form c.args.draft.now change refl
