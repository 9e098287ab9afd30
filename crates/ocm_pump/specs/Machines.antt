-- One delivery as a machine: what it asks for next, and how it goes on by what came back.
use Rattle.std.specs.Prelude.{◌≡◌, ℕ, Bool, true, false, List, [], ◌∷◌, ◌++◌, Option, Some, None, Result, Ok, Err}
use Rattle.ocm_types.specs.declared.letters.Letter.{Letter}
use Rattle.ocm_types.specs.declared.letters.Numbered.{Numbered}
use Rattle.ocm_http.specs.declared.messages.Message.{Message}
use Rattle.ocm_pump.specs.Exchanges.{exchanged, IsOneAtMost}
use Rattle.ocm_pump.specs.Replies.{Reads, Gives}
use Rattle.ocm_pump.specs.Delivery.{first_place, second_place, document_request, site_in, found_at_last, post_request, answer_in, Delivers, is_settled}
use Rattle.ocm_pump.specs.declared.exchanges.Exchange.{Exchange}
use Rattle.ocm_pump.specs.declared.exchanges.DialEnd.{DialEnd}
use Rattle.ocm_pump.specs.declared.exchanges.DialEnd.TheVariants as ends
use Rattle.ocm_pump.specs.declared.sites.Site.{Site}
use Rattle.ocm_pump.specs.declared.deliveries.Answered.{Answered}
use Rattle.ocm_pump.specs.declared.faults.PumpFault.{PumpFault}
use Rattle.ocm_pump.specs.declared.faults.PumpFault.TheVariants.{DialFault, NoMemory}
use Rattle.ocm_pump.specs.declared.stages.Stage.{Stage}
use Rattle.ocm_pump.specs.declared.stages.Stage.TheVariants.{First, Last, Found, Done}

-- a delivery: its message, and how far it is
pub record DeliveryState : Type 0 where
  pub message : Numbered
  pub stage : Stage

-- whether it makes no more exchanges
abbrev pub is_done : Stage → Bool
is_done (Done answer) = true
is_done _ = false

-- whether its next exchange asks for a document
abbrev pub asks_document : Stage → Bool
asks_document First = true
asks_document Last = true
asks_document _ = false

-- whether its answer settles its letter
abbrev pub settles : Letter → Stage → Bool
settles letter (Done answer) = is_settled letter answer
settles letter _ = false

-- whether no reply came of its last exchange
abbrev pub has_failed : Stage → Bool
has_failed (Done (Err DialFault)) = true
has_failed (Done (Err NoMemory)) = true
has_failed _ = false

-- the host and the request of the next exchange; none where the delivery is done
abbrev pub asks_by : Numbered → Stage → Option (List ℕ × List ℕ)
asks_by m First = Some (m.to, document_request m.to first_place)
asks_by m Last = Some (m.to, document_request m.to second_place)
asks_by m (Found site) = Some (site.host, post_request site m.letter)
asks_by m (Done answer) = None

-- a question of that host with that request
abbrev pub asked : List ℕ → List ℕ → Option (List ℕ × List ℕ)
asked host request = Some (host, request)

-- what is read of what came back
abbrev pub Heard : Result (List ℕ) DialEnd → Result Message PumpFault → Type 0
Heard (Ok bytes) sent = Reads bytes sent
Heard (Err ends.Failed) sent = sent ≡ Err DialFault
Heard (Err ends.NoMemory) sent = sent ≡ Err NoMemory

abbrev pub after_first : Result (Option Site) PumpFault → Stage
after_first (Ok (Some site)) = Found site
after_first (Ok None) = Last
after_first (Err fault) = Done (Err fault)

abbrev pub after_last : Result Site PumpFault → Stage
after_last (Ok site) = Found site
after_last (Err fault) = Done (Err fault)

-- how it goes on
abbrev pub Went : Letter → Stage → Result Message PumpFault → Stage → Type 0
Went letter First sent new = (found : Result (Option Site) PumpFault) × Gives found (site_in sent) × (new ≡ after_first found)
Went letter Last sent new = (found : Result (Option Site) PumpFault) × Gives found (site_in sent) × (new ≡ after_last (found_at_last found))
Went letter (Found site) sent new = (answer : Result Answered PumpFault) × Gives answer (answer_in letter sent) × (new ≡ Done answer)
Went letter (Done answer) sent new = new ≡ Done answer

abbrev pub Goes : Letter → Stage → Result (List ℕ) DialEnd → Stage → Type 0
Goes letter old reply new = (sent : Result Message PumpFault) × Heard reply sent × Went letter old sent new

-- the exchange with that host, as a history, that had such an end
abbrev pub IsSuch : List ℕ → List ℕ → Result (List ℕ) DialEnd → List Exchange → Type 0
IsSuch host request (Ok bytes) added = added ≡ exchanged host request (Some bytes)
IsSuch host request (Err ends.Failed) added = added ≡ exchanged host request None
IsSuch host request (Err ends.NoMemory) added = IsOneAtMost host request added

-- what was asked for came, one exchange after another: the exchanges, the newest first, and how far the delivery is
abbrev pub Runs : Numbered → Stage → List (Result (List ℕ) DialEnd) → List Exchange → Stage → Type 0
Runs m old [] added new = (added ≡ []) × (new ≡ old)
Runs m old (reply ∷ replies) added new =
    (mid : Stage) × (host : List ℕ) × (request : List ℕ) × (one : List Exchange) × (rest : List Exchange)
    × (asks_by m old ≡ Some (host, request)) × IsSuch host request reply one × Goes m.letter old reply mid × Runs m mid replies rest new × (added ≡ rest ++ one)

-- there are replies and exchanges by which the machine came to this stage
abbrev pub IsUnderWay : Numbered → Stage → Type 0
IsUnderWay m stage = (replies : List (Result (List ℕ) DialEnd)) × (added : List Exchange) × Runs m First replies added stage

-- A delivery that is done made exactly the exchanges of a delivery, and its answer is one of them.
abbrev pub MachineDelivers : Type 0
MachineDelivers =
    (m : Numbered) (replies : List (Result (List ℕ) DialEnd)) (added : List Exchange) (answer : Result Answered PumpFault)
    → Runs m First replies added (Done answer) → Delivers m added answer

-- Each delivery is made by some run of the machine.
abbrev pub DeliveriesAreRuns : Type 0
DeliveriesAreRuns =
    (m : Numbered) (added : List Exchange) (answer : Result Answered PumpFault)
    → Delivers m added answer → (replies : List (Result (List ℕ) DialEnd)) × Runs m First replies added (Done answer)
