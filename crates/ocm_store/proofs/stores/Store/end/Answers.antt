use Rattle.std.proofs.Common.{◌≡◌, ◌∙◌, ap, subst, sym, Option}
use Rattle.std.specs.Prelude.{Result}
use Rattle.ocm_disk.specs.declared.disk.Disk.{Ghosts}
use Rattle.ocm_entry.specs.declared.asks.Ask.{Ask}
use Rattle.ocm_history.specs.declared.histories.History.{History}
use Rattle.ocm_history.specs.Histories.{HasPlace}
use Rattle.ocm_journal.specs.declared.appending.AppendFault.{AppendFault}
use Rattle.ocm_journal.specs.declared.journal.Journal.{Journal}
use Rattle.ocm_plan.specs.Plans.{Plans}
use Rattle.ocm_store.specs.declared.apart.Front.{Front}
use Rattle.ocm_store.specs.declared.apart.Mark.{Mark}
use Rattle.ocm_store.specs.declared.apart.Writing.{Writing}
use Rattle.ocm_store.specs.declared.ready.ReadyChange.{ReadyChange}
use Rattle.ocm_store.specs.Appends.{IsAppendedYet}
use Rattle.ocm_store.specs.Parting.{IsFor, mark_of, mark_of_front}
use Rattle.ocm_store.specs.Ready.{IsReady}
use Rattle.ocm_store.proofs.Props.{has-place, has-plan, same-history}
use Rattle.ocm_store.proofs.Settled.{prepared-acts}
use Rattle.ocm_store.proofs.stores.Store.end.Goals as goal

-- the memory is that for which the change was planned
own : {D : Type 0} (disk : Ghosts D) (front : Front D disk) (writing : Writing D disk) (history : History) → mark_of_front front ≡ mark_of writing → history ≡ front.history
    → (mark_of writing).ready.value.history ≡ history
own {D} disk front writing history mark is =
    ap (λ (m : Mark D disk). m.ready.value.history) (sym mark) ∙ sym (same-history front.history front.mark.ready.value.history front.ready) ∙ sym is

-- its parts are those of the change
parts : {D : Type 0} (disk : Ghosts D) (writing : Writing D disk) (ask : Ask) (journal : Journal D disk) (change : ReadyChange) (written : Option (Result (Unit {0}) AppendFault))
    → journal ≡ writing.journal → change ≡ writing.change → written ≡ writing.written → IsFor writing ask
    → IsReady disk (mark_of writing).ready.value ask change × IsAppendedYet disk (mark_of writing).ready.value.journal journal change.draft.written written
parts {D} disk writing ask journal change written is_journal is_change is_written is_for =
    let ready = (mark_of writing).ready.value in (
      subst (IsReady disk ready ask) (sym is_change) is_for.ready,
      subst (λ (z : Journal D disk × ReadyChange × Option (Result (Unit {0}) AppendFault)). IsAppendedYet disk ready.journal z.0 z.1.draft.written z.2)
          (λ i. (sym is_journal i, sym is_change i, sym is_written i)) is_for.appended,
    )

pub settle-reply-requires-clause-planned : goal.settle-reply-requires-clause-planned
settle-reply-requires-clause-planned g c =
    let writing = c.args.writing in
    let ready = writing.mark.value.ready.value in
    let same = own g.D.Disk c.args.front writing c.into_history-history.result c.requires c.into_history-history.ensures in (
      writing.asked.value,
      subst (λ (z : History × ReadyChange). Plans z.0.core.state writing.asked.value z.1.planned) (λ i. (same i, sym c.into_parts-journal.ensures.change i))
          (has-plan ready.history.core.state writing.asked.value writing.change.planned writing.plans),
    )

pub settle-reply-requires-clause-place : goal.settle-reply-requires-clause-place
settle-reply-requires-clause-place g c =
    let writing = c.args.writing in
    let ready = writing.mark.value.ready.value in
    let same = own g.D.Disk c.args.front writing c.into_history-history.result c.requires c.into_history-history.ensures in
    subst (λ (z : History × ReadyChange). HasPlace z.0 z.1.planned) (λ i. (same i, sym c.into_parts-journal.ensures.change i)) (has-place ready.history writing.change.planned writing.place)

pub returns-clause-changes : goal.returns-clause-changes
returns-clause-changes g c = λ ask is_for. is_for.prepared.changing

pub returns-clause-acts : goal.returns-clause-acts
returns-clause-acts g c = λ ask is_for.
    let d = g.D.Disk in
    let writing = c.args.writing in
    let ready = writing.mark.value.ready.value in
    let same = own d c.args.front writing c.into_history-history.result c.requires c.into_history-history.ensures in
    let came = c.into_parts-journal in
    let its = parts d writing ask came.result.0 came.result.1 came.result.2 came.ensures.journal came.ensures.change came.ensures.written is_for in
    prepared-acts d writing.mark.value.before.value ready _ ask c.settle-reply.result.0 is_for.prepared
    (c.settle-reply.ensures.acts ready ask _ same is_for.prepared.goes_on its.0 (c.append_once-appended.ensures.appended ready.journal its.1))
