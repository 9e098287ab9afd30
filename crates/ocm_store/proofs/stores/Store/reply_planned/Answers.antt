use Rattle.std.proofs.Common.{◌∙◌, sym, subst}
use Rattle.ocm_store.specs.Acts.{Acts}
use Rattle.ocm_store.proofs.Exits.{acts-idle}
use Rattle.ocm_store.proofs.Settled.{prepared-acts}
use Rattle.ocm_store.proofs.stores.Store.reply_planned.Goals as goal

pub returns-then-not-changes : goal.returns-then-not-changes
returns-then-not-changes g c =
    subst (λ r. Acts g.D.Disk c.args.self.now c.args.self.now c.args.ask.now r) (sym c.into_reply.ensures)
    (acts-idle g.D.Disk g.met.D.Disk.only_now c.args.self.now c.args.ask.now c.args.planned c.requires.plans (sym c.changes.ensures ∙ c.if-not-changes.true))

pub returns-in-Ok : goal.returns-in-Ok
returns-in-Ok g c =
    prepared-acts g.D.Disk c.args.self.now c.answer.new.self c.write_down.new.self c.args.ask.now c.write_down.result c.in-Ok.ensures.prepared (c.write_down.ensures c.args.ask.now c.in-Ok.ensures.ready)
