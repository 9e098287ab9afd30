-- A client of one server's files over WebDAV (RFC 4918): what it sends, and what it answers by what comes back.
use Rattle.std.specs.Prelude.{◌≡◌, ℕ, ◌==◌, if◌then◌else◌, List, [], ◌++◌, codes, Option, Some, None, Result, Ok, Err}
use Rattle.ocm_http_heads.specs.declared.fields.Head.{Head}
use Rattle.ocm_http_heads.specs.declared.fields.Head.TheVariants.{Request, Reply}
use Rattle.ocm_http.specs.Written.{written_request}
use Rattle.ocm_http.specs.declared.messages.Message.{Message}
use Rattle.ocm_path.specs.Paths.{Segments, path_escaped}
use Rattle.ocm_pump.specs.Delivery.{Discovers}
use Rattle.ocm_rules.specs.Settlements.{is_success}
use Rattle.ocm_pump.specs.Replies.{Sends}
use Rattle.ocm_pump.specs.declared.exchanges.Exchange.{Exchange}
use Rattle.ocm_pump.specs.declared.faults.PumpFault.{PumpFault}
use Rattle.ocm_pump.specs.declared.faults.PumpFault.TheVariants as pumps
use Rattle.ocm_pump.specs.declared.sites.Site.{Site}
use Rattle.ocm_davclient.specs.declared.faults.ClientFault.{ClientFault}
use Rattle.ocm_davclient.specs.declared.faults.ClientFault.TheVariants.{DialFault, NoDiscovery, BadReply, Status, NoMemory}

-- what a client has: where the server gives files, and the secret that it shows
pub record Access : Type 0 where
  pub site : Site
  pub secret : List ℕ

-- why there was no reply
abbrev pub fault_of : PumpFault → ClientFault
fault_of pumps.DialFault = DialFault
fault_of pumps.NoDiscovery = NoDiscovery
fault_of (pumps.BadReply place) = BadReply place
fault_of pumps.NoMemory = NoMemory

-- ---- the search

-- the client of the site that was found
abbrev pub client_in : Result Site PumpFault → List ℕ → Result Access ClientFault
client_in (Ok site) secret = Ok (record { site = site; secret = secret })
client_in (Err fault) secret = Err (fault_of fault)

-- a host is searched for its document, and a client of the site that this names will show the secret
abbrev pub Finds : List ℕ → List ℕ → List Exchange → Result Access ClientFault → Type 0
Finds host secret added result =
    (found : Result Site PumpFault) × Discovers host added found × (result ≡ client_in found secret)

-- ---- what is sent

-- where a path stands on the server: its escaped text, behind the path of WebDAV
abbrev pub target : Access → Segments → List ℕ
target client path = client.site.webdav ++ path_escaped path

-- the request of a method at a path, with the secret as credentials
unfoldable pub request : Access → List ℕ → Segments → List ℕ → List ℕ
request client method path body = written_request client.site.host method (target client path) (Some client.secret) body

-- it is sent once, to the site's host
abbrev pub Asks : Access → List ℕ → Segments → List ℕ → List Exchange → Result Message PumpFault → Type 0
Asks client method path body added sent = Sends client.site.host (request client method path body) added sent

-- ---- what is answered

-- the status of a reply
abbrev pub status_of : Head → Option ℕ
status_of (Reply status fields) = Some status
status_of (Request method target closing fields) = None

-- a body under the status that is wanted; each reply has a status
abbrev pub body_if : ℕ → Option ℕ → List ℕ → Result (List ℕ) ClientFault
body_if want None body = Err (BadReply 0)
body_if want (Some status) body = if status == want then Ok body else Err (Status status)

-- a status of success
abbrev pub success_if : Option ℕ → Result ℕ ClientFault
success_if None = Err (BadReply 0)
success_if (Some status) = if is_success status then Ok status else Err (Status status)

-- the body by what came back
abbrev pub body_in : ℕ → Result Message PumpFault → Result (List ℕ) ClientFault
body_in want (Ok message) = body_if want (status_of message.head) message.body
body_in want (Err fault) = Err (fault_of fault)

-- the status of success by what came back
abbrev pub success_in : Result Message PumpFault → Result ℕ ClientFault
success_in (Ok message) = success_if (status_of message.head)
success_in (Err fault) = Err (fault_of fault)

-- ---- the calls: one request, and an answer by what came back alone

-- what asks for a body
abbrev pub Fetches : Access → List ℕ → ℕ → Segments → List Exchange → Result (List ℕ) ClientFault → Type 0
Fetches client method want path added result =
    (sent : Result Message PumpFault) × Asks client method path [] added sent × (result ≡ body_in want sent)

-- what asks for a change
abbrev pub Changes : Access → List ℕ → Segments → List ℕ → List Exchange → Result ℕ ClientFault → Type 0
Changes client method path body added result =
    (sent : Result Message PumpFault) × Asks client method path body added sent × (result ≡ success_in sent)

-- the bytes of a file (RFC 9110 section 9.3.1)
abbrev pub Gets : Access → Segments → List Exchange → Result (List ℕ) ClientFault → Type 0
Gets client path added result = Fetches client (codes "GET") 200 path added result

-- the multistatus of a collection and what stands in it (RFC 4918 section 9.1)
abbrev pub Lists : Access → Segments → List Exchange → Result (List ℕ) ClientFault → Type 0
Lists client path added result = Fetches client (codes "PROPFIND") 207 path added result

-- a file with these bytes (RFC 4918 section 9.7)
abbrev pub Puts : Access → Segments → List ℕ → List Exchange → Result ℕ ClientFault → Type 0
Puts client path body added result = Changes client (codes "PUT") path body added result

-- what stands there no more (RFC 4918 section 9.6)
abbrev pub Deletes : Access → Segments → List Exchange → Result ℕ ClientFault → Type 0
Deletes client path added result = Changes client (codes "DELETE") path [] added result

-- a collection (RFC 4918 section 9.3)
abbrev pub MakesCollection : Access → Segments → List Exchange → Result ℕ ClientFault → Type 0
MakesCollection client path added result = Changes client (codes "MKCOL") path [] added result
