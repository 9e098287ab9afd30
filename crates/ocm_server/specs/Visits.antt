-- Connections one after another, with a round of delivery after each where the worker's post delivers.
use Rattle.std.specs.Prelude.{◌≡◌, ◌≢◌, ℕ, ◌<◌, ◌≤◌, Bool, true, false, List, [], ◌∷◌, ◌++◌, map, Option, Some, None, option_map}
use Rattle.rand_chacha.specs.ChaCha.{ChaCha}
use Rattle.ocm_base.specs.Outside.{Rose}
use Rattle.ocm_dav.specs.declared.configs.Config.{Config}
use Rattle.ocm_entry.specs.declared.entries.Entry.{Entry}
use Rattle.ocm_pump.specs.declared.exchanges.Exchange.{Exchange}
use Rattle.ocm_turn.specs.Calls.{InOrder}
use Rattle.ocm_turn.specs.Moves.{Moved}
use Rattle.ocm_turn.specs.Passes.{Gate, Known, BelongsTo}
use Rattle.ocm_server_connections.specs.declared.endings.Ended as endings
use Rattle.ocm_server_connections.specs.Sides.{Sides}
use Rattle.ocm_server_connections.specs.Parts.{State, state, Talked}
use Rattle.ocm_server_rounds.specs.declared.pumped.Pumped.{Pumped}
use Rattle.ocm_server_rounds.specs.declared.pumped.RoundEnd.TheVariants.{Spent}
use Rattle.ocm_server_rounds.specs.Rounds.{Hold, hold, Rounded}
use Rattle.ocm_server.specs.Doors.{Doorway, came_back, over}
use Rattle.ocm_server.specs.declared.returned.Back.{Back}
use Rattle.ocm_server.specs.declared.workers.Rounds.{Rounds}
use Rattle.ocm_server.specs.declared.workers.Rounds.TheVariants.{Ended, DoorFault}

-- a connection as it was given, as it came back and with which ending, and what the round of delivery after it came to, where one was made
pub record Visit (C : Type 0) : Type 0 where
  pub given : C
  pub back : C
  pub ended : endings.Ended
  pub pumped : Option Pumped

-- what a worker keeps from one connection to the next: the stream of drawn values, what the clock gave and the exchanges of the post where they are told, and the pass
pub record Desk (Terms : Type 0) : Type 0 where
  pub draw : ChaCha
  pub clock : Option (List ℕ)
  pub exchanges : Option (List Exchange)
  pub pass : Known Terms

abbrev pub desk : {Terms : Type 0} → ChaCha → Option (List ℕ) → Option (List Exchange) → Known Terms → Desk Terms
desk draw clock exchanges pass = record { draw = draw; clock = clock; exchanges = exchanges; pass = pass }

-- with a connection
abbrev pub at : {Terms : Type 0} → Sides → Desk Terms → State Terms
at sides d = state sides d.draw d.clock d.pass

-- what a worker does behind a connection: one round of delivery where its post delivers, which is spent exactly where the turnstile's limit is
-- reached; and no call and no exchange where its post delivers nothing
abbrev pub Behind : {Terms : Type 0} → ℕ → Bool → Option Pumped → Hold Terms → Hold Terms → Type 0
Behind limit delivers (Some pumped) old new =
    (delivers ≡ true) × Rounded old new pumped × (pumped.end ≡ Spent → limit ≤ new.pass.drawn) × (pumped.end ≢ Spent → new.pass.drawn < limit)
Behind limit delivers None old new = (delivers ≡ false) × (new ≡ old)

-- one connection was served, and then a round of delivery made, where the worker's post delivers
pub record Visited {Terms : Type 0} (config : Config) (limit : ℕ) (delivers : Bool) (given back : Sides) (ended : endings.Ended) (pumped : Option Pumped) (old new : Desk Terms) : Type 0 where
  pub middle : Desk Terms
  pub post_waits : middle.exchanges ≡ old.exchanges
  pub talked : Talked config limit (at given old) (at back middle) ended
  pub draw_waits : new.draw ≡ middle.draw
  pub clock_waits : new.clock ≡ middle.clock
  pub behind : Behind limit delivers pumped (hold middle.pass middle.exchanges) (hold new.pass new.exchanges)

-- these visits were made one after another, the newest first
abbrev pub Visits : {C Terms : Type 0} → (C → Sides) → Config → ℕ → Bool → List (Visit C) → Desk Terms → Desk Terms → Type 0
Visits sides config limit delivers [] old new = new ≡ old
Visits {C} {Terms} sides config limit delivers (v ∷ before) old new =
    (middle : Desk Terms) × Visits sides config limit delivers before old middle × Visited config limit delivers (sides v.given) (sides v.back) v.ended v.pumped middle new

-- how visits came back
abbrev pub returned : {C : Type 0} → Visit C → Back C
returned v = record { conn = v.back; ended = v.ended }

-- a door after these visits
abbrev pub visited : {C : Type 0} → List (Visit C) → Doorway C → Doorway C
visited visits d = record { given = map (λ v. v.given) visits ++ d.given; back = map returned visits ++ d.back; overs = d.overs }

-- a connection was served and came back, and a round was made where the post delivers
pub record Comes {C Terms : Type 0} (sides : C → Sides) (config : Config) (limit : ℕ) (delivers : Bool) (conn : C) (told told' : Option (Doorway C)) (old new : Desk Terms) : Type 0 where
  pub back : C
  pub ended : endings.Ended
  pub pumped : Option Pumped
  pub came : told' ≡ option_map (came_back back ended) told
  pub visited : Visited config limit delivers (sides conn) (sides back) ended pumped old new

abbrev pub ends : Rounds → Bool
ends Ended = true
ends DoorFault = false

-- a door that may have come to its end
abbrev pub left : {C : Type 0} → Bool → Doorway C → Doorway C
left true d = over d
left false d = d

-- a door was served by these visits
pub record Serves {C Terms : Type 0} (sides : C → Sides) (config : Config) (limit : ℕ) (delivers : Bool) (told told' : Option (Doorway C)) (ended : Bool) (old new : Desk Terms) : Type 0 where
  pub visits : List (Visit C)
  pub door : told' ≡ option_map (λ d. left ended (visited visits d)) told
  pub served : Visits sides config limit delivers visits old new

-- what contracts see of a worker: what its door tells and its faults, what its post tells, its faults and whether it delivers, its drawn values, what its clock gave, its pass, and how it ended
pub record Work (C Terms : Type 0) : Type 0 where
  pub told : Option (Doorway C)
  pub faults : ℕ
  pub exchanges : Option (List Exchange)
  pub post_faults : ℕ
  pub delivers : Bool
  pub draw : ChaCha
  pub clock : Option (List ℕ)
  pub pass : Option (Known Terms)
  pub end : Rounds

abbrev pub work : {C Terms : Type 0} → Option (Doorway C) → ℕ → Option (List Exchange) → ℕ → Bool → ChaCha → Option (List ℕ) → Option (Known Terms) → Rounds → Work C Terms
work told faults exchanges post_faults delivers draw clock pass end =
    record { told = told; faults = faults; exchanges = exchanges; post_faults = post_faults; delivers = delivers; draw = draw; clock = clock; pass = pass; end = end }

-- there is a pass of this turnstile
abbrev pub Owns : {Terms : Type 0} → Gate → Option (Known Terms) → Type 0
Owns gate (Some pass) = BelongsTo gate pass
Owns gate None = ⊥

-- a worker served its door to its end or its first fault, with its pass, whose calls stand in the order in which they were made
pub record Worked {C Terms : Type 0} (sides : C → Sides) (config : Config) (gate : Gate) (old new : Work C Terms) : Type 0 where
  pub before : Known Terms
  pub after : Known Terms
  pub had : old.pass ≡ Some before
  pub has : new.pass ≡ Some after
  pub own : BelongsTo gate after
  pub moved : (calls : List Entry) × Moved before after calls
  pub serves : Serves sides config gate.limit old.delivers old.told new.told (ends new.end) (desk old.draw old.clock old.exchanges before) (desk new.draw new.clock new.exchanges after)
  pub order : InOrder after.mine
  pub fault : new.end ≡ DoorFault → Rose old.faults new.faults
  pub unfailed : new.end ≡ Ended → new.faults ≡ old.faults
  pub never_falls : old.faults ≤ new.faults
  pub post_never_falls : old.post_faults ≤ new.post_faults
  pub same_kind : new.delivers ≡ old.delivers
