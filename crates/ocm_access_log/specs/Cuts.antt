-- Bytes that are cut at a byte.
use Rattle.std.specs.Prelude.{◌≡◌, ℕ, List, nat_eq, false, All}

-- a byte does not stand in bytes
abbrev pub Lacks : ℕ → List ℕ → Type 0
Lacks separator bytes = All (λ b. nat_eq b separator ≡ false) bytes
