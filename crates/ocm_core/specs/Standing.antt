-- For which histories a server's lists stand, which plans are made for them, and which bodies still stand.
use Rattle.std.specs.Prelude.{◌≡◌, ◌<◌, ℕ, List, length, Option, Some, None}
use Rattle.ocm_entry.specs.declared.asks.Ask.{Ask}
use Rattle.ocm_entry.specs.declared.entries.Entry.{Entry}
use Rattle.ocm_entry.specs.declared.rows.Standing.{Standing}
use Rattle.ocm_entry.specs.declared.rows.Standing.TheVariants.{Collection, File}
use Rattle.ocm_law_origins.specs.Origins.{body_from, origins, origins_after}
use Rattle.ocm_rules.specs.Files.{nodes, nodes_after}
use Rattle.ocm_rules.specs.History.{IsLegal, kept}
use Rattle.ocm_rules.specs.State.{State, Stands}
use Rattle.ocm_tables.specs.Changes.{entries_after, file_act}
use Rattle.ocm_tables.specs.Tables.{ServerLists}
use Rattle.ocm_plan.specs.Plans.{Plan, Plans}

-- the lists are those of a legal history
pub record IsAfter (st : State) (g : List Entry) : Type 0 where
  pub lists : Stands st g
  pub legal : IsLegal st.host g

-- the lists are those of some legal history
abbrev pub IsReached : State → Type 0
IsReached st = (g : List Entry) × IsAfter st g

-- What is kept of the history is counted, and it is known which of it put what stands: where it has fewer than 2^64 - 1 entries,
-- at which the count stands still.
pub record IsCountOf (lists : ServerLists) (g : List Entry) : Type 0 where
  pub count : lists.entries ≡ length (kept lists.state.host g)
  pub places : lists.origins ≡ origins lists.state.host (kept lists.state.host g)

abbrev pub IsNumbered : ServerLists → List Entry → Type 0
IsNumbered lists g = length (kept lists.state.host g) < 18446744073709551615 → IsCountOf lists g

-- a plan is that of an ask, in this state
abbrev pub IsPlanned : State → Plan → Type 0
IsPlanned st plan = (ask : Ask) × Plans st ask plan

-- the bytes of what stands, where it is a file
abbrev pub body_of : Option Standing → Option (List ℕ)
body_of None = None
body_of (Some Collection) = None
body_of (Some (File body)) = Some body

-- the body that the kept entry of this number put, where it still stands after these kept entries. The oldest entry has the number 1.
abbrev pub standing_body : List ℕ → List Entry → ℕ → Option (List ℕ)
standing_body host k number = body_of (body_from (nodes host k) (origins host k) number)

-- the same, told by the lists once a change is made
abbrev pub body_with : ServerLists → Plan → ℕ → Option (List ℕ)
body_with lists plan number =
    let act = file_act plan.change in
    body_of (body_from (nodes_after act lists.state.nodes) (origins_after act (entries_after lists.entries plan.change) lists.origins) number)
