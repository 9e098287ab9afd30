-- What crashes might have left.
use Rattle.std.specs.Prelude.{◌≡◌, ◌≤◌, ◌⊎◌, ℕ, List, [], ◌∷◌, length}
use mathlib.Core.Logic.{inl, inr}
use Rattle.std.proofs.Common.{arith}
use Rattle.ocm_disk.specs.Memory.{ImagesState}

-- a crash leaves the disk as it reads, as at the last sync, or torn
abbrev pub Leaves : ImagesState → List ℕ → Type 0
Leaves images c = (c ≡ images.seen) ⊎ (c ≡ images.synced) ⊎ (c ≡ images.torn)

-- at one of these moments, newest first, the first of which has number t or more, a crash might have left this
abbrev pub LeftSince : List ImagesState → ℕ → List ℕ → Type 0
LeftSince [] t c = ⊥
LeftSince (images ∷ earlier) t c = ((t ≤ length earlier) × Leaves images c) ⊎ LeftSince earlier t c

earlier_than : (past : List ImagesState) (t : ℕ) (c : List ℕ) → LeftSince past t c → length past ≤ t → ⊥
earlier_than [] t c left le = left
earlier_than (images ∷ past) t c (inl here) le = (let e : ⊥ = omega (arith, le, here.0) in e)
earlier_than (images ∷ past) t c (inr there) le = earlier_than past t c there (omega (arith, le))

-- since the newest of them there is no other
pub only_last : (images : ImagesState) (past : List ImagesState) (c : List ℕ) → LeftSince (images ∷ past) (length past) c → Leaves images c
only_last images past c (inl now) = now.1
only_last images past c (inr had) = absurd (earlier_than past (length past) c had (omega arith))
