-- What is said of a server that words order.
use Rattle.std.specs.Prelude.{◌≡◌, ◌⊎◌, ℕ, List, Option, Some, None, Ok}
use Rattle.ocm_disk.specs.declared.disk.Disk.{Ghosts}
use Rattle.ocm_serve.specs.Runs.{CouldNotBegin, RanLogged, RanOver}
use Rattle.ocm_serve_options.specs.Plans.{orders_of, plan_with}
use Rattle.ocm_serve_options.specs.declared.plans.Orders.{Orders}
use Rattle.ocm_serve_options.specs.declared.plans.Plan.{Plan}
use Rattle.ocm_serve_system.specs.Keys.{IsKeyOf}
use Rattle.ocm_server_connections.specs.Sides.{Sides}

-- A server ran by a plan, over a disk that is said to hold these bytes when it is opened, with a log where one is named, and ended with this status.
abbrev pub RanBy : {D C K : Type 0} → Ghosts D → (C → Sides) → (K → Option (List ℕ)) → (K → ℕ) → Plan → Option (List ℕ) → List ℕ → ℕ → Type 0
RanBy disk sides taken faults plan None holds status = RanOver disk sides plan holds status
RanBy disk sides taken faults plan (Some path) holds status = RanLogged disk sides taken faults plan holds status

-- A server could not begin, or it ran by the plan of these orders, with the administrator's key that they have, or one that was read.
abbrev pub DoesOrders : {D C K : Type 0} → Ghosts D → (C → Sides) → (K → Option (List ℕ)) → (K → ℕ) → Orders → List ℕ → ℕ → Type 0
DoesOrders disk sides taken faults orders holds status =
    CouldNotBegin status ⊎ ((key : List ℕ) × IsKeyOf orders.admin (Ok key) × RanBy disk sides taken faults (plan_with orders key) orders.log holds status)

-- There was no memory for the words, or their orders were done.
abbrev pub DoesWords : {D C K : Type 0} → Ghosts D → (C → Sides) → (K → Option (List ℕ)) → (K → ℕ) → List (List ℕ) → List ℕ → ℕ → Type 0
DoesWords disk sides taken faults words holds status =
    CouldNotBegin status ⊎ ((orders : Orders) × (orders_of words ≡ Some orders) × DoesOrders disk sides taken faults orders holds status)
