use Rattle.std.proofs.Common.{◌++◌, ◌∙◌, refl, inl}
use Rattle.std.proofs.lemmas.Result.{IfErr-weaker, IfOk-weaker}
use Rattle.ocm_entry.specs.declared.replies.Reply.TheVariants as replies
use Rattle.ocm_history.proofs.Memories.{would-plan}
use Rattle.ocm_store.specs.Acts.{Acts}
use Rattle.ocm_store.specs.Ready.{IsDrafted, IsPrepared}
use Rattle.ocm_store.proofs.Exits.{acts-room}
use Rattle.ocm_store.proofs.Settled.{prepared-acts}
use Rattle.ocm_store.proofs.stores.Store.change.Given.{Over}
use Rattle.ocm_store.proofs.stores.Store.change.Goals as goal

-- what was done to the store
prepared : (g : Over) (c : goal.After-measure g) → IsPrepared g.D.Disk c.args.self.now c.prepare.new.self c.args.ask.now
prepared g c = record {
  goes = c.requires.goes;
  goes_on = c.prepare.ensures.fault;
  same = c.prepare.ensures.same;
  shape = c.prepare.ensures.shape;
  journal = c.prepare.ensures.journal;
  any_moment = c.prepare.ensures.any_moment;
  count = c.prepare.ensures.count;
  spends = c.prepare.ensures.spends;
  changing = λ k h s. would-plan c.args.self.now.history.core.state (h ++ k) c.args.ask.now c.args.planned s.stands.memory.lists c.requires.plans ∙ c.requires.changes;
}

-- the change that was drafted
drafted : (g : Over) (c : goal.After-measure g) → IsDrafted g.D.Disk c.prepare.new.self c.args.ask.now c.args.planned c.in-Ok.draft
drafted g c = record { plans = c.prepare.ensures.plans; place = c.in-Ok.ensures.place; room = c.in-Ok.ensures.room; sizes = c.in-Ok.ensures.length; change = c.in-Ok.ensures.change }

pub returns-in-Ok-clause-replied : goal.returns-in-Ok-clause-replied
returns-in-Ok-clause-replied g c =
    IfErr-weaker c.measure.result _ (λ reply. Acts g.D.Disk c.args.self.now c.prepare.new.self c.args.ask.now reply)
    (λ reply acts. prepared-acts g.D.Disk c.args.self.now c.prepare.new.self c.prepare.new.self c.args.ask.now reply (prepared g c) (acts c.args.ask.now (drafted g c)))
    c.measure.ensures.full

pub returns-in-Ok-clause-prepared : goal.returns-in-Ok-clause-prepared
returns-in-Ok-clause-prepared g c = IfOk-weaker c.measure.result _ (λ change. IsPrepared g.D.Disk c.args.self.now c.prepare.new.self c.args.ask.now) (λ change ready. prepared g c) c.measure.ensures.ready

pub returns-in-Err-clause-replied : goal.returns-in-Err-clause-replied
returns-in-Err-clause-replied g c =
    acts-room g.D.Disk c.args.self.now c.prepare.new.self c.args.ask.now replies.NoMemory refl refl c.requires.goes c.prepare.ensures.fault c.prepare.ensures.same c.prepare.ensures.shape
    c.prepare.ensures.journal c.prepare.ensures.any_moment c.prepare.ensures.count c.prepare.ensures.spends
    (λ k h s. would-plan c.args.self.now.history.core.state (h ++ k) c.args.ask.now c.args.planned s.stands.memory.lists c.requires.plans ∙ c.requires.changes)
    (λ k h s. inl refl)
