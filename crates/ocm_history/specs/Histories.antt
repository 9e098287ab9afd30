-- Which history the memory of a server stands for.
use Rattle.std.specs.Prelude.{◌≡◌, ◌<◌, ◌≤◌, ℕ, List, length}
use Rattle.ocm_entry.specs.declared.entries.Entry.{Entry}
use Rattle.ocm_rules.specs.History.{kept}
use Rattle.ocm_rules.specs.Lean.{count, lean}
use Rattle.ocm_tables.specs.Changes.{HasRoom}
use Rattle.ocm_plan.specs.Plans.{Plan}
use Rattle.ocm_core.specs.Standing.{IsAfter, IsNumbered}
use Rattle.ocm_law_sessions.specs.Written.{IsSpelled, asks_size}
use Rattle.ocm_history.specs.declared.histories.History.{History}
use Rattle.ocm_history_records.specs.Kept.{IsBound, kept_records}

-- the host of a server
abbrev pub home_of : History → List ℕ
home_of history = history.core.state.host

-- The memory of a server stands for a history: its lists are those of it, and of each entry that is kept it has the record.
pub record IsOf (history : History) (g : List Entry) : Type 0 where
  pub lists : IsAfter history.core.state g
  pub numbered : IsNumbered history.core g
  pub records : history.records.items ≡ kept_records (kept (home_of history) g)
  pub asks : history.records.asks ≡ count (home_of history) g
  pub size : IsBound history.records.size (asks_size (lean (home_of history) g))
  pub spelled : IsSpelled (kept (home_of history) g)

-- two memories differ in the room alone that was taken
pub record SameMemory (old new : History) : Type 0 where
  pub lists : new.core.state ≡ old.core.state
  pub entries : new.core.entries ≡ old.core.entries
  pub origins : new.core.origins ≡ old.core.origins
  pub records : new.records.items ≡ old.records.items
  pub asks : new.records.asks ≡ old.records.asks
  pub size : new.records.size ≡ old.records.size

-- there is room for what is planned
pub record HasPlace (history : History) (plan : Plan) : Type 0 where
  pub change : HasRoom history.core.room plan.change
  pub messages : length plan.sent ≤ history.core.room.messages
  pub one_more : 0 < history.records.room
  -- so each entry that is kept has a number of its own
  pub few : length history.records.items < 18446744073709551615
