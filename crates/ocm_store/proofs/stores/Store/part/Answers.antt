use Rattle.std.proofs.Common.{◌≡◌, ◌∙◌, ap, length, subst, sym}
use Rattle.ocm_entry.specs.declared.asks.Ask.{Ask}
use Rattle.ocm_history.specs.Histories.{HasPlace, SameMemory}
use Rattle.ocm_journal.specs.declared.journal.Journal.{Journal}
use Rattle.ocm_journal.specs.Journals as journals
use Rattle.ocm_plan.specs.Plans.{Plans}
use Rattle.ocm_store.specs.declared.apart.Mark.{Mark}
use Rattle.ocm_store.specs.declared.stores.Store.{Store}
use Rattle.ocm_store.specs.Ready.{IsPrepared, IsReady}
use Rattle.ocm_store.proofs.stores.Store.part.Goals as goal

pub invariant_of-result : goal.invariant_of-result
invariant_of-result g c = record {
  same = ∣ subst (SameMemory c.args.before.value.history) (sym c.into_both-history.ensures.history) c.requires.prepared.same ∣₁;
  ready = ∣ c.into_both-history.ensures.history ∙ sym (ap (λ (s : Store g.row.D.Denot g.D.Disk). s.history) c.of.ensures) ∣₁;
}

pub invariant_of-writing : goal.invariant_of-writing
invariant_of-writing g c =
    let S : Type 0 = Store g.row.D.Denot g.D.Disk in
    let own : c.of-3.result.value.ready.value ≡ c.args.self = ap (λ (m : Mark g.row.D.Denot g.D.Disk). m.ready.value) c.of-3.ensures ∙ c.of.ensures in
    let drafted = c.requires.ready.drafted in
    record {
      plans = ∣ subst (λ (z : S × Ask). Plans z.0.history.core.state z.1 c.args.change.planned) (λ i. (sym own i, sym c.of-2.ensures i)) drafted.plans ∣₁;
      place = ∣ subst (λ (s : S). HasPlace s.history c.args.change.planned) (sym own) drafted.place ∣₁;
      room = λ none. subst (λ (j : Journal g.row.D.Denot g.D.Disk). journals.HasRoom g.D.Disk j (length c.args.change.draft.written)) (sym c.into_both-history.ensures.journal) drafted.room;
      sizes = drafted.sizes;
      stopped = ap (λ (j : Journal g.row.D.Denot g.D.Disk). j.stopped) c.into_both-history.ensures.journal ∙ c.args.self.goes c.requires.prepared.goes_on;
    }

pub returns-clause-is_for : goal.returns-clause-is_for
returns-clause-is_for g c =
    let d = g.D.Disk in
    let ask = c.args.ask.now in
    let S : Type 0 = Store g.row.D.Denot d in
    let own : c.of-3.result.value.ready.value ≡ c.args.self = ap (λ (m : Mark g.row.D.Denot d). m.ready.value) c.of-3.ensures ∙ c.of.ensures in
    let before : c.of-3.result.value.before.value ≡ c.args.before.value = ap (λ (m : Mark g.row.D.Denot d). m.before.value) c.of-3.ensures in
    record {
      prepared = subst (λ (z : S × S). IsPrepared d z.0 z.1 ask) (λ i. (sym before i, sym own i)) c.requires.prepared;
      ready = subst (λ (s : S). IsReady d s ask c.args.change) (sym own) c.requires.ready;
      appended = c.into_both-history.ensures.journal ∙ sym (ap (λ (s : S). s.journal) own);
    }
