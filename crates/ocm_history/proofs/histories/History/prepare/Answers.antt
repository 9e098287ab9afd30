use Rattle.std.proofs.Common.{sym, subst}
use Rattle.ocm_plan.specs.Plans.{Plans}
use Rattle.ocm_history.specs.Histories.{home_of}
use Rattle.ocm_history.proofs.Memories.{plan-spelled}
use Rattle.ocm_history.proofs.histories.History.prepare.Goals as goal

pub after-requires : goal.after-requires
after-requires c = plan-spelled c.args.self.now.core.state c.args.ask.now c.args.planned.now c.requires.plans c.requires.changes c.requires.proper

pub returns-clause-change : goal.returns-clause-change
returns-clause-change c = λ g memory. record {
  memory = memory;
  plans = subst (λ st. Plans st c.args.ask.now c.args.planned.now) (sym c.in_ok-room.ensures.same.lists) c.requires.plans;
  changes = c.requires.changes;
  spelled = c.in_ok-draft.ensures.fits;
  drafted = c.in_ok-draft.ensures.drafted (home_of c.room.new.self) g (c.moment.ensures.history g memory.lists);
}
