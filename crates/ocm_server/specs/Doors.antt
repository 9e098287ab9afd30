-- Doors.
use Rattle.std.specs.Prelude.{ℕ, ◌<◌, List, ◌∷◌, length, Option, IfSome}
use Rattle.ocm_base.specs.Outside.{raised}
use Rattle.ocm_server_connections.specs.declared.endings.Ended.{Ended}
use Rattle.ocm_server.specs.declared.returned.Back.{Back}

-- a door: the connections that it gave, each as it was given; those that came back, each as it came, with its ending; and
-- how often it said that it is over, counted as a u64. The newest stand first.
pub record Doorway (C : Type 0) : Type 0 where
  pub given : List C
  pub back : List (Back C)
  pub overs : ℕ

module _ {C : Type 0} where
  -- a connection was given
  abbrev pub given : C → Doorway C → Doorway C
  given conn d = record { given = conn ∷ d.given; back = d.back; overs = d.overs }

  -- a connection came back with its ending
  abbrev pub came_back : C → Ended → Doorway C → Doorway C
  came_back conn ended d = record { given = d.given; back = record { conn = conn; ended = ended } ∷ d.back; overs = d.overs }

  -- the door said that it is over
  abbrev pub over : Doorway C → Doorway C
  over d = record { given = d.given; back = d.back; overs = raised d.overs }

  -- more were given than came back, where that is told
  abbrev pub IsOut : Option (Doorway C) → Type 0
  IsOut told = IfSome told (λ d. length d.back < length d.given)

-- a door in memory: what it tells, the connections that it has still to give, the next one first, and all that it was made with, in order
pub record DoorState (C : Type 0) : Type 0 where
  pub door : Doorway C
  pub rest : List C
  pub all : List C
