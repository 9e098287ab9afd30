-- The exchanges of a dial, and what it is told of deliveries: histories, the newest first.
use Rattle.std.specs.Prelude.{◌≡◌, ℕ, ◌+◌, Bool, List, [], ◌∷◌, ◌++◌, Option, Some, None, option_map, IfSome, Result, Ok, Err}
use Rattle.ocm_pump.specs.declared.exchanges.Came.{Came}
use Rattle.ocm_pump.specs.declared.exchanges.Exchange.{Exchange}
use Rattle.ocm_pump.specs.declared.exchanges.DialEnd.{DialEnd}
use Rattle.ocm_pump.specs.declared.exchanges.DialEnd.TheVariants.{Failed, NoMemory}

-- an exchange with a host, as a history: the request, and the bytes that came back or the failure
abbrev pub exchanged : List ℕ → List ℕ → Option (List ℕ) → List Exchange
exchanged host request reply = record { host = host; request = request; reply = reply } ∷ []

-- these were added to the exchanges so far, where those are told
abbrev pub Adds : Option (List Exchange) → Option (List Exchange) → List Exchange → Type 0
Adds old new added = new ≡ option_map (λ before. added ++ before) old

-- an exchange that may be missing
pub data IsOneAtMost (host request : List ℕ) (added : List Exchange) : Type 0 where
  missing : added ≡ [] → IsOneAtMost host request added
  there : (reply : Option (List ℕ)) → added ≡ exchanged host request reply → IsOneAtMost host request added

-- what an exchange adds, by how it ended; one that found no memory may be missing
abbrev pub AddsOne : Option (List Exchange) → Option (List Exchange) → List ℕ → List ℕ → Result (List ℕ) DialEnd → Type 0
AddsOne old new host request (Ok reply) = Adds old new (exchanged host request (Some reply))
AddsOne old new host request (Err Failed) = Adds old new (exchanged host request None)
AddsOne old new host request (Err NoMemory) = (added : List Exchange) × Adds old new added × IsOneAtMost host request added

-- one more was told of a delivery to a host, where it is still known what was told
abbrev pub Hears : Option (List Came) → Option (List Came) → List ℕ → Bool → Type 0
Hears old new host settles =
    IfSome new (λ now. option_map (λ before. record { host = host; settles = settles } ∷ before) old ≡ Some now)

-- what a call of several exchanges adds is such a history
abbrev pub AddsSome : Option (List Exchange) → Option (List Exchange) → (List Exchange → Type 0) → Type 0
AddsSome old new IsSuch = (added : List Exchange) × Adds old new added × IsSuch added

-- a count has grown by so many, where it is kept
abbrev pub Counts : Option ℕ → Option ℕ → ℕ → Type 0
Counts old new more = new ≡ option_map (λ before. before + more) old
