use Rattle.std.proofs.Common.{◌++◌, ◌∙◌, sym, subst}
use Rattle.ocm_disk.specs.declared.disk.Disk.{Ghosts}
use Rattle.ocm_entry.specs.declared.asks.Ask.{Ask}
use Rattle.ocm_history.proofs.Memories.{would-plan}
use Rattle.ocm_plan.specs.Plans.{Plan, Plans}
use Rattle.ocm_store.specs.declared.apart.Front.{Front}
use Rattle.ocm_store.specs.Acts.{Acts}
use Rattle.ocm_store.proofs.Exits.{acts-idle, acts-wanting}
use Rattle.ocm_store.proofs.Props.{same-memory}
use Rattle.ocm_store.proofs.apart.Front.act.Goals as goal

-- a plan for the memory that waits is one for the store before the change was begun
planned : {D : Type 0} {disk : Ghosts D} (front : Front D disk) (ask : Ask) (plan : Plan) → Plans front.history.core.state ask plan → Plans front.mark.before.value.history.core.state ask plan
planned front ask plan plans = subst (λ st. Plans st ask plan) (same-memory front.mark.before.value.history front.history front.same).lists plans

pub returns-then-changes-clause-waits : goal.returns-then-changes-clause-waits
returns-then-changes-clause-waits g c = λ none k h s.
    would-plan c.args.self.now.mark.before.value.history.core.state (h ++ k) c.args.ask.now c.in-Ok.planned s.stands.memory.lists (planned c.args.self.now c.args.ask.now c.in-Ok.planned c.in-Ok.ensures.plans) ∙ sym c.changes.ensures ∙ c.if-changes.true

pub returns-else-changes-clause-acts : goal.returns-else-changes-clause-acts
returns-else-changes-clause-acts g c =
    let d = g.D.Disk in
    let before = c.args.self.now.mark.before.value in
    subst (λ r. Acts d before before c.args.ask.now r) (sym c.into_reply.ensures)
    (acts-idle d g.met.D.Disk.only_now before c.args.ask.now c.in-Ok.planned (planned c.args.self.now c.args.ask.now c.in-Ok.planned c.in-Ok.ensures.plans) (sym c.changes.ensures ∙ c.if-changes.false))

pub returns-in-Err-clause-acts : goal.returns-in-Err-clause-acts
returns-in-Err-clause-acts g c = acts-wanting g.D.Disk g.met.D.Disk.only_now c.args.self.now.mark.before.value c.args.ask.now
