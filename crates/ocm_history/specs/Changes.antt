-- Which changes of the memory of a server are those of an ask, and fit into an area.
use Rattle.std.specs.Prelude.{◌≡◌, ℕ, List, true}
use Rattle.ocm_entry.specs.declared.asks.Ask.{Ask}
use Rattle.ocm_entry.specs.declared.entries.Entry.{Entry}
use Rattle.ocm_entry.specs.declared.replies.Reply.{Reply}
use Rattle.ocm_entry_bytes.specs.Spells.{Fits}
use Rattle.ocm_plan.specs.Plans.{Plan, Plans}
use Rattle.ocm_law_sessions.specs.Sessions.{fits}
use Rattle.ocm_tables.specs.Changes.{is_kept}
use Rattle.ocm_history_records.specs.declared.drafts.Draft.{Draft}
use Rattle.ocm_history_records.specs.Drafts.{IsDraft}
use Rattle.ocm_history.specs.declared.histories.History.{History}
use Rattle.ocm_history.specs.Histories.{IsOf, home_of}

-- this change of a memory is that of an ask after its history, and is drafted so in this form
pub record IsChange (history : History) (g : List Entry) (ask : Ask) (plan : Plan) (form : ℕ) (draft : Draft) : Type 0 where
  pub memory : IsOf history g
  pub plans : Plans history.core.state ask plan
  pub changes : is_kept plan.change ≡ true
  pub spelled : Fits ask
  pub drafted : IsDraft (home_of history) form g ask draft

-- ... and it fits into an area of this size
abbrev pub FitsInto : ℕ → History → List Entry → Ask → Type 0
FitsInto area history g ask = fits (home_of history) area g ask ≡ true

-- an ask with its reply
abbrev pub told : Ask → Reply → Entry
told ask reply = record { ask = ask; reply = reply }
