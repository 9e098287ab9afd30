use Rattle.std.proofs.Common.{◌∷◌, subst}
use Rattle.ocm_history.specs.Changes.{told}
use Rattle.ocm_history.specs.Histories.{IsOf}
use Rattle.ocm_history.proofs.Memories.{most-bound, same-of}
use Rattle.ocm_history.proofs.histories.History.take_planned.Goals as goal

pub returns-in-Ok-clause-goes_on : goal.returns-in-Ok-clause-goes_on
returns-in-Ok-clause-goes_on c = λ g memory is.
    let planned = c.args.planned in
    let old = c.prepare.new.self in
    let change = c.in-Ok.ensures.change g (same-of c.args.self.now old g c.prepare.ensures.same memory) in
    subst (λ r. IsOf c.make.new.self (told c.args.ask.now r ∷ g)) c.make.ensures.reply
    (c.make.ensures.goes_on g c.args.ask.now 2 c.in-Ok.draft change c.into_newest.ensures
    (most-bound old g c.args.ask.now planned 2 c.in-Ok.draft c.most_with-size.result change c.most_with-size.ensures.value))

pub returns-in-Err-clause-stays : goal.returns-in-Err-clause-stays
returns-in-Err-clause-stays c = λ g memory fails. same-of c.args.self.now c.prepare.new.self g c.prepare.ensures.same memory
