-- What a change in three steps is for, and what each step says.
use Rattle.std.specs.Prelude.{⊤, Bool, is_some}
use Rattle.ocm_disk.specs.declared.disk.Disk.{Ghosts}
use Rattle.ocm_entry.specs.declared.asks.Ask.{Ask}
use Rattle.ocm_entry.specs.declared.replies.Reply.{Reply}
use Rattle.ocm_store.specs.declared.apart.Begun.{Begun}
use Rattle.ocm_store.specs.declared.apart.Begun.TheVariants.{Replied, Apart}
use Rattle.ocm_store.specs.declared.apart.Front.{Front}
use Rattle.ocm_store.specs.declared.apart.Mark.{Mark}
use Rattle.ocm_store.specs.declared.apart.Writing.{Writing}
use Rattle.ocm_store.specs.declared.stores.Store.{Store}
use Rattle.ocm_store.specs.Appends.{IsAppendedYet}
use Rattle.ocm_store.specs.Ready.{IsPrepared, IsReady}

-- what tells one change from another
abbrev pub mark_of : {D : Type 0} {disk : Ghosts D} → Writing D disk → Mark D disk
mark_of writing = writing.mark.value

-- that of the change for which the memory waits
abbrev pub mark_of_front : {D : Type 0} {disk : Ghosts D} → Front D disk → Mark D disk
mark_of_front front = front.mark

-- whether the record of a change was appended to the journal, well or badly
abbrev pub was_tried : {D : Type 0} {disk : Ghosts D} → Writing D disk → Bool
was_tried writing = is_some writing.written

-- A change is that of an ask: memory was taken for it since it was begun, it is planned, drafted and fits, and its record was
-- appended to the journal, or not yet.
pub record IsFor {D : Type 0} {disk : Ghosts D} (writing : Writing D disk) (ask : Ask) : Type 0 where
  pub prepared : IsPrepared disk writing.mark.value.before.value writing.mark.value.ready.value ask
  pub ready : IsReady disk writing.mark.value.ready.value ask writing.change
  pub appended : IsAppendedYet disk writing.mark.value.ready.value.journal writing.journal writing.change.draft.written writing.written

-- a fact of the store and the reply, where the ask is answered
abbrev pub IfReplied : {D : Type 0} {disk : Ghosts D} → Begun D disk → (Store D disk → Reply → Type 0) → Type 0
IfReplied (Replied store reply) P = P store reply
IfReplied (Apart front writing) P = ⊤

-- a fact of the two parts, where it is a change
abbrev pub IfApart : {D : Type 0} {disk : Ghosts D} → Begun D disk → (Front D disk → Writing D disk → Type 0) → Type 0
IfApart (Replied store reply) P = ⊤
IfApart (Apart front writing) P = P front writing
