use Rattle.std.proofs.Common.{◌≤◌, ◌^◌, arith}
use Rattle.std.proofs.Math.Nat.{pow-le-pow_right}
use Rattle.ocm_disk.proofs.marks.ones.Goals as goal

pub overflow_sub-result : goal.overflow_sub-result
overflow_sub-result c =
    let low : 2 ^ c.args.low ≤ 2 ^ c.args.high = pow-le-pow_right (omega arith) c.requires.order in
    let high : 2 ^ c.args.high ≤ 2 ^ 8 = pow-le-pow_right (omega arith) c.requires.within in
    omega (arith, low, high)
