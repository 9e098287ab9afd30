-- Laws of a client's calls.
use Rattle.std.specs.Prelude.{◌≡◌, ℕ, List, Result, Err}
use Rattle.ocm_path.specs.Paths.{Segments}
use Rattle.ocm_pump.specs.declared.exchanges.Exchange.{Exchange}
use Rattle.ocm_davclient.specs.declared.faults.ClientFault.{ClientFault}
use Rattle.ocm_davclient.specs.declared.faults.ClientFault.TheVariants.{NoMemory}
use Rattle.ocm_davclient.specs.Client.{Access, Finds, Fetches, Changes}

-- what answers are, of which none is want of memory
abbrev IsKnown : {A : Type 0} → Result A ClientFault → Type 0
IsKnown result = result ≡ Err NoMemory → ⊥

-- what a search answers is fixed by its exchanges, but for want of memory
abbrev pub OneClient : Type 0
OneClient =
    (host secret : List ℕ) (added : List Exchange) (a b : Result Access ClientFault)
    → Finds host secret added a → Finds host secret added b → IsKnown a → IsKnown b → a ≡ b

-- and what a request for a body answers
abbrev pub OneBody : Type 0
OneBody =
    (client : Access) (method : List ℕ) (want : ℕ) (path : Segments) (added : List Exchange) (a b : Result (List ℕ) ClientFault)
    → Fetches client method want path added a → Fetches client method want path added b → IsKnown a → IsKnown b → a ≡ b

-- and one for a change
abbrev pub OneStatus : Type 0
OneStatus =
    (client : Access) (method : List ℕ) (path : Segments) (body : List ℕ) (added : List Exchange) (a b : Result ℕ ClientFault)
    → Changes client method path body added a → Changes client method path body added b → IsKnown a → IsKnown b → a ≡ b
