-- How many turns are left before a moment: what each seat can still take, if its exchanges last as long as they may.
use Rattle.std.proofs.Common.{◌≡◌, ℕ, suc, ◌+◌, ◌-◌, ◌*◌, ◌/◌, ◌<◌, ◌≤◌, ap, ◌∙◌, arith}
use Rattle.std.proofs.Math.Nat.{add-div_left, div-eq_of_lt, div-mul-le_self, suc-mul, zero-mul, mul-add, mul_comm, mul-le-mul_left}
use Rattle.std.proofs.lemmas.Nat.{le-div}

-- the turns that a seat can still give before a moment e, which is free at d: one at d, and one after each limit
abbrev pub turns : ℕ → ℕ → ℕ → ℕ
turns limit e d = (e + limit - d) / limit

div_more : (m n k : ℕ) → 0 < k → m ≤ n → m / k ≤ n / k
div_more m n k p h = le-div (m / k) n k p (omega (arith, div-mul-le_self m k))

-- one that is free earlier gives no fewer
pub turns_earlier : (limit e c d : ℕ) → 0 < limit → c ≤ d → turns limit e d ≤ turns limit e c
turns_earlier limit e c d p h = div_more (e + limit - d) (e + limit - c) limit p (omega arith)

-- none is left behind the moment
pub turns_none : (limit e d : ℕ) → 0 < limit → e < d → turns limit e d ≡ 0
turns_none limit e d p h = div-eq_of_lt {n = e + limit - d} {m = limit} (omega arith)

-- one turn makes one fewer
pub turns_one : (limit e d : ℕ) → 0 < limit → d ≤ e → turns limit e d ≡ turns limit e (d + limit) + 1
turns_one limit e d p h =
    let a : e + limit - d ≡ limit + (e + limit - (d + limit)) = omega arith in
    ap (λ n. n / limit) a ∙ add-div_left (e + limit - (d + limit)) p

-- a seat that is free within the limit gives so many within so many limits
pub turns_enough : (limit rounds t d : ℕ) → 0 < limit → d ≤ t + limit → rounds ≤ turns limit (t + rounds * limit) d
turns_enough limit rounds t d p h = le-div rounds (t + rounds * limit + limit - d) limit p (omega arith)

-- as one seat more is taken, there is one less for each turn
pub one_more : (seats busy n : ℕ) → busy < seats → (seats - busy) * n ≡ (seats - (busy + 1)) * n + n
one_more seats busy n h =
    let a : seats - busy ≡ suc (seats - (busy + 1)) = omega arith in
    ap (λ m. m * n) a ∙ suc-mul (seats - (busy + 1)) n

pub none_of : (m n k : ℕ) → m ≤ n → (m - n) * k ≡ 0
none_of m n k h = let a : m - n ≡ 0 = omega arith in ap (λ i. i * k) a ∙ zero-mul k

-- seats that give so many turns each, and the others no fewer
pub shares : (rounds s b n : ℕ) → b ≤ s → rounds ≤ n → rounds * s ≤ rounds * b + (s - b) * n
shares rounds s b n h r =
    let a : rounds * s ≡ rounds * b + rounds * (s - b) = ap (λ m. rounds * m) (omega arith) ∙ mul-add rounds b (s - b) in
    omega (arith, a, mul_comm rounds (s - b), mul-le-mul_left {m = rounds} {n = n} (s - b) r)
