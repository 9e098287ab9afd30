-- The statuses of servers.
use Rattle.std.proofs.Common.{◌≡◌, ℕ, arith}
use Rattle.ocm_serve_system.specs.Statuses.{IsStatus}

-- no server ends with the status of a line that could not be written
pub not-unwritten : (n : ℕ) → IsStatus n → n ≡ 4 → ⊥
not-unwritten n status is = grind arith
