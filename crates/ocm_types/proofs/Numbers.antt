use Rattle.std.proofs.Common.{◌≡◌, ℕ, ◌+◌, ◌*◌, ◌/◌, ◌%◌, ◌^◌, ◌<◌, arith}
use Rattle.std.proofs.Math.Nat.{div-div-eq-div-mul}
use Rattle.std.specs.Int.{w128, to_be_bytes}
use Rattle.ocm_types.specs.Draws.{number_of}

-- the lowest byte of what stands above p, and the rest
byte_and_rest : (n p : ℕ) → n / p ≡ n / p % 256 + n / (p * 256) * 256
byte_and_rest n p = omega (arith, div-div-eq-div-mul n p 256)

-- sixteen bytes, each the lowest of what the ones before left
joined : (a b c d e f g h i j k l m n o p : ℕ) (q0 q1 q2 q3 q4 q5 q6 q7 q8 q9 r0 r1 r2 r3 r4 r5 : ℕ)
    → q0 ≡ p + q1 * 256 → q1 ≡ o + q2 * 256 → q2 ≡ n + q3 * 256 → q3 ≡ m + q4 * 256 → q4 ≡ l + q5 * 256 → q5 ≡ k + q6 * 256
    → q6 ≡ j + q7 * 256 → q7 ≡ i + q8 * 256 → q8 ≡ h + q9 * 256 → q9 ≡ g + r0 * 256 → r0 ≡ f + r1 * 256 → r1 ≡ e + r2 * 256
    → r2 ≡ d + r3 * 256 → r3 ≡ c + r4 * 256 → r4 ≡ b + r5 * 256 → r5 ≡ a
    → a * 256 ^ 15 + b * 256 ^ 14 + c * 256 ^ 13 + d * 256 ^ 12 + e * 256 ^ 11 + f * 256 ^ 10 + g * 256 ^ 9 + h * 256 ^ 8
    + i * 256 ^ 7 + j * 256 ^ 6 + k * 256 ^ 5 + l * 256 ^ 4 + m * 256 ^ 3 + n * 256 ^ 2 + o * 256 + p ≡ q0
joined a b c d e f g h i j k l m n o p q0 q1 q2 q3 q4 q5 q6 q7 q8 q9 r0 r1 r2 r3 r4 r5 e0 e1 e2 e3 e4 e5 e6 e7 e8 e9 f0 f1 f2 f3 f4 f5 = omega arith

-- the number of the bytes of a number
pub number_of-to_be_bytes : (n : ℕ) → n < 2 ^ 128 → number_of (to_be_bytes w128 n) ≡ n
number_of-to_be_bytes n fits =
    let lowest : n ≡ n % 256 + n / 256 * 256 = omega arith in
    let highest : n / 256 ^ 15 ≡ n / 256 ^ 15 % 256 = omega arith in
    joined _ _ _ _ _ _ _ _ _ _ _ _ _ _ _ _ n _ _ _ _ _ _ _ _ _ _ _ _ _ _ _ lowest (byte_and_rest n 256) (byte_and_rest n (256 ^ 2)) (byte_and_rest n (256 ^ 3)) (byte_and_rest n (256 ^ 4)) (byte_and_rest n (256 ^ 5)) (byte_and_rest n (256 ^ 6)) (byte_and_rest n (256 ^ 7)) (byte_and_rest n (256 ^ 8)) (byte_and_rest n (256 ^ 9)) (byte_and_rest n (256 ^ 10)) (byte_and_rest n (256 ^ 11)) (byte_and_rest n (256 ^ 12)) (byte_and_rest n (256 ^ 13)) (byte_and_rest n (256 ^ 14)) highest
