-- The parts of a call put together.
use Rattle.std.proofs.Common.{◌≡◌, ℕ, List, [], Option, Result, subst}
use Rattle.ocm_http.specs.declared.messages.Message.{Message}
use Rattle.ocm_path.specs.Paths.{Segments}
use Rattle.ocm_pump.specs.Exchanges.{AddsSome}
use Rattle.ocm_pump.specs.Replies.{Sends}
use Rattle.ocm_pump.specs.declared.exchanges.Exchange.{Exchange}
use Rattle.ocm_pump.specs.declared.faults.PumpFault.{PumpFault}
use Rattle.ocm_davclient.specs.Client.{Access, request, Asks}

-- the request was sent
pub asked : (old new : Option (List Exchange)) (client inside : Access) (method : List ℕ) (path : Segments) (body bytes : List ℕ) (sent : Result Message PumpFault)
    → inside ≡ client → bytes ≡ request client method path body → AddsSome old new (λ added. Sends inside.site.host bytes added sent)
    → AddsSome old new (λ added. Asks client method path body added sent)
asked old new client inside method path body bytes sent same e made =
    let at_client : Sends client.site.host bytes made.0 sent = subst (λ (a : Access). Sends a.site.host bytes made.0 sent) same made.2 in
    (made.0, made.1, subst (λ (q : List ℕ). Sends client.site.host q made.0 sent) e at_client)

-- without a body
pub asked_bodyless : (old new : Option (List Exchange)) (client : Access) (method : List ℕ) (path : Segments) (body : List ℕ) (sent : Result Message PumpFault)
    → body ≡ [] → AddsSome old new (λ added. Asks client method path body added sent)
    → AddsSome old new (λ added. Asks client method path [] added sent)
asked_bodyless old new client method path body sent none made =
    subst (λ (b : List ℕ). AddsSome old new (λ added. Asks client method path b added sent)) none made
