use Rattle.std.proofs.Common.{ℕ, suc, ◌+◌, ◌*◌, ◌^◌, ◌<◌, ◌≤◌, arith}
use Rattle.std.proofs.Math.Nat.{mul-le-mul_left, pow-succ'}

-- a search among so many, of which some are left after so many steps
pub record IsPaid (all left spent : ℕ) : Type 0 where
  pub part : 2 ^ spent * left ≤ all
  pub cost : 2 ^ spent ≤ 2 * all + 1

paid-step : (q all left half : ℕ) → q * left ≤ all → 0 < left → 2 * half ≤ left → (2 * q * half ≤ all) × (2 * q ≤ 2 * all + 1)
paid-step q all left half part some less =
    let halved : q * (2 * half) ≤ q * left = mul-le-mul_left q less in
    let one : q * 1 ≤ q * left = mul-le-mul_left q some in
    (omega (arith, halved, part), omega (arith, one, part))

-- a step that leaves at most half
pub paid_more : (all left half spent : ℕ) → IsPaid all left spent → 0 < left → 2 * half ≤ left → IsPaid all half (suc spent)
paid_more all left half spent paid some less =
    let step = paid-step (2 ^ spent) all left half paid.part some less in
    record { part = rw (pow-succ' 2 spent) step.0; cost = rw (pow-succ' 2 spent) step.1 }
