-- Places in a stream.
use Rattle.std.specs.Prelude.{ℕ, ◌+◌, ◌-◌, ◌^◌, min}

-- the place so many bytes past another; a place is kept as a u64, which ends at 2^64 - 1
abbrev pub past : ℕ → ℕ → ℕ
past place n = min (place + n) (2 ^ 64 - 1)
