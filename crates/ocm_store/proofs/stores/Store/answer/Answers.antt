use Rattle.std.proofs.Common.{◌++◌, ◌∙◌, sym, subst}
use Rattle.std.proofs.lemmas.Result.{IfErr-weaker}
use Rattle.ocm_history.proofs.Memories.{would-plan}
use Rattle.ocm_rules.proofs.Lists.{not_both}
use Rattle.ocm_store.specs.Acts.{Acts}
use Rattle.ocm_store.specs.Ready.{IsRefused}
use Rattle.ocm_store.proofs.Exits.{acts-idle, acts-stopped}
use Rattle.ocm_store.proofs.stores.Store.answer.Goals as goal

pub returns-then-not-changes-clause-replied : goal.returns-then-not-changes-clause-replied
returns-then-not-changes-clause-replied g c =
    subst (λ r. Acts g.D.Disk c.args.self.now c.args.self.now c.args.ask.now r) (sym c.into_reply.ensures)
    (acts-idle g.D.Disk g.met.D.Disk.only_now c.args.self.now c.args.ask.now c.args.planned c.requires.plans (sym c.changes.ensures ∙ c.if-not-changes.true))

pub returns-then-not-changes-clause-refused : goal.returns-then-not-changes-clause-refused
returns-then-not-changes-clause-refused g c = λ k h s changes. absurd (not_both _ changes
    (would-plan c.args.self.now.history.core.state (h ++ k) c.args.ask.now c.args.planned s.stands.memory.lists c.requires.plans ∙ sym c.changes.ensures ∙ c.if-not-changes.true))

pub returns-in-None-clause-refused : goal.returns-in-None-clause-refused
returns-in-None-clause-refused g c = IfErr-weaker c.change.result _ (λ reply. IsRefused g.D.Disk c.args.self.now c.args.ask.now reply) (λ reply failed k h s changes. failed) c.change.ensures.refused

pub returns-in-Some-clause-replied : goal.returns-in-Some-clause-replied
returns-in-Some-clause-replied g c =
    acts-stopped g.D.Disk g.met.D.Disk.only_now c.args.self.now c.args.ask.now c.in-Some.count c.in-Some.is
    (λ k h s. would-plan c.args.self.now.history.core.state (h ++ k) c.args.ask.now c.args.planned s.stands.memory.lists c.requires.plans ∙ sym c.changes.ensures ∙ c.if-not-changes.false)
