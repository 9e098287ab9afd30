-- What a connection over a line tells.
use Rattle.std.specs.Prelude.{ℕ, List, Some, None}
use Rattle.ocm_base.specs.Outside.{flow}
use Rattle.ocm_server_connections.specs.Sides.{Noted, Sides}

-- a connection that cannot tell what will come: what came on it, what it sent, what it noted of its pages, and its counts of faults
abbrev pub sides_of : List ℕ → List ℕ → List Noted → ℕ → ℕ → Sides
sides_of received sent noted read_faults write_faults =
    record { flow = flow None (Some received); taken = Some sent; noted = Some noted; read_faults = read_faults; write_faults = write_faults }
