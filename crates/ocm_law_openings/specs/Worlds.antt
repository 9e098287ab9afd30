-- What a server of a world has gone through.
use Rattle.std.specs.Prelude.{◌≡◌, ℕ, List, [], ◌∷◌}
use Rattle.ocm_law_world.specs.World.{Session}
use Rattle.ocm_law_openings.specs.Openings.{Follow, Period}

-- the last of these sessions is the one that a server has now
abbrev pub IsLast : Session → List Period → Type 0
IsLast s [] = ⊥
IsLast s (p ∷ older) = (p.area ≡ s.area) × (p.base ≡ s.base) × (p.calls ≡ s.calls)

-- the first of these sessions began with an empty file
abbrev pub BeginsEmpty : List Period → Type 0
BeginsEmpty [] = ⊥
BeginsEmpty (p ∷ []) = p.base ≡ []
BeginsEmpty (p ∷ before ∷ older) = BeginsEmpty (before ∷ older)

-- a server went through these sessions, from an empty file to what it has now
pub record IsLife (host : List ℕ) (s : Session) (ps : List Period) : Type 0 where
  pub last : IsLast s ps
  pub follow : Follow host ps
  pub empty : BeginsEmpty ps
