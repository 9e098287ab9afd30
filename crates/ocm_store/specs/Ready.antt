-- A change for which all is ready, and what was done to a store until it was.
use Rattle.std.specs.Prelude.{◌≡◌, ◌≤◌, ℕ, List, ◌∷◌, ◌++◌, length, true, None}
use Rattle.ocm_disk.specs.Disk.{LeavesOnly}
use Rattle.ocm_disk.specs.declared.disk.Disk.{Ghosts}
use Rattle.ocm_entry.specs.declared.asks.Ask.{Ask}
use Rattle.ocm_entry.specs.declared.entries.Entry.{Entry}
use Rattle.ocm_entry.specs.declared.replies.Reply.{Reply}
use Rattle.ocm_history_records.specs.declared.drafts.Draft.{Draft}
use Rattle.ocm_history_records.specs.Kept.{IsBound}
use Rattle.ocm_history.specs.Changes.{FitsInto, IsChange}
use Rattle.ocm_history.specs.Histories.{HasPlace, IsOf, SameMemory}
use Rattle.ocm_journal.specs.Journals as journals
use Rattle.ocm_law_sessions.specs.Sessions.{heard, would_change}
use Rattle.ocm_law_sessions.specs.Written.{asks_size}
use Rattle.ocm_plan.specs.Plans.{Plan, Plans}
use Rattle.ocm_rules.specs.History.{is_failure}
use Rattle.ocm_rules.specs.Lean.{lean}
use Rattle.ocm_store.specs.declared.ready.ReadyChange.{ReadyChange}
use Rattle.ocm_store.specs.declared.stores.Store.{Store}
use Rattle.ocm_store.specs.Acts.{SpendsNone, StandsLegally}
use Rattle.ocm_store.specs.Stores.{area_of, disk_of, fault_of, host_of}

-- a change that is planned for an ask, with all memory for it, and its record
pub record IsDrafted {D : Type 0} (disk : Ghosts D) (store : Store D disk) (ask : Ask) (plan : Plan) (draft : Draft) : Type 0 where
  pub plans : Plans store.history.core.state ask plan
  pub place : HasPlace store.history plan
  pub room : journals.HasRoom disk store.journal (length draft.written)
  pub sizes : (1 ≤ length draft.written) × (length draft.written ≤ 2097152)
  pub change : (g : List Entry) → IsOf store.history g → IsChange store.history g ask plan (journals.form_of store.journal) draft

-- ... that fits into an area, with the most bytes that the records of asks take with it
pub record IsReady {D : Type 0} (disk : Ghosts D) (store : Store D disk) (ask : Ask) (change : ReadyChange) : Type 0 where
  pub drafted : IsDrafted disk store ask change.planned change.draft
  pub fits : (g : List Entry) → IsOf store.history g → FitsInto (area_of store) store.history g ask
  pub bound : (g : List Entry) → IsOf store.history g → IsBound change.size (asks_size (lean (host_of store) (heard (host_of store) g ask ∷ g)))

-- a store with all memory that was taken for an ask, which would change something
pub record IsPrepared {D : Type 0} (disk : Ghosts D) (old new : Store D disk) (ask : Ask) : Type 0 where
  pub goes : fault_of old ≡ None
  pub goes_on : fault_of new ≡ None
  pub same : SameMemory old.history new.history
  pub shape : journals.SameShape old.journal new.journal
  pub journal : disk.tells → (label : List ℕ) (records : List (List ℕ)) → journals.StandsFor disk label records old.journal → journals.StandsFor disk label records new.journal
  pub any_moment : disk.tells → LeavesOnly disk.moment disk.left_since (disk_of old) (disk_of new) (disk.may_leave (disk_of old))
  pub count : disk.count (disk_of new) ≡ disk.count (disk_of old)
  pub spends : SpendsNone disk (disk_of old) (disk_of new)
  pub changing : (k h : List Entry) → StandsLegally disk old k h → would_change (host_of old) (h ++ k) ask ≡ true

-- a reply that refuses the ask, if it would change something
abbrev pub IsRefused : {D : Type 0} (disk : Ghosts D) → Store D disk → Ask → Reply → Type 0
IsRefused disk store ask reply = (k h : List Entry) → StandsLegally disk store k h → would_change (host_of store) (h ++ k) ask ≡ true → is_failure reply ≡ true
