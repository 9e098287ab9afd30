-- The script of a drill: its opening events, and those that are drawn.
use Rattle.std.specs.Prelude.{ℕ, ◌+◌, zero, suc, List, [], ◌∷◌, ◌++◌, map, nat_eq, None, if◌then◌else◌}
use Rattle.std.specs.List.{flat_map}
use Rattle.ocm_disk.specs.declared.crashes.Crash.TheVariants as crashes
use Rattle.ocm_entry.specs.declared.asks.Cmd.{Cmd}
use Rattle.ocm_entry.specs.declared.asks.Cmd.TheVariants.{Share, Unshare, Limit, Accept, Reshare}
use Rattle.ocm_entry.specs.declared.asks.Method.TheVariants.{Get, Mkcol}
use Rattle.ocm_script.specs.declared.events.Body.TheVariants.{Fill}
use Rattle.ocm_script.specs.declared.events.Event.{Event}
use Rattle.ocm_script.specs.declared.events.Event.TheVariants.{Node, User, Local, Dav, Put, Pump, Crash}
use Rattle.ocm_drill.specs.declared.openings.Opening.{Opening}
use Rattle.ocm_drill.specs.declared.openings.Opening.TheVariants.{Servers, Users, Collections, Files}
use Rattle.ocm_drill.specs.Draws.{Drawn, ◌>>=◌, give, pick}
use Rattle.ocm_drill.specs.Federation.{collection, drawn_bytes, file, four, host, key, key_bytes, name, other, perms, secret, shared_file}

-- the hosts of the servers
abbrev pub drill_hosts : List (List ℕ)
drill_hosts = map host four

-- the events that a script opens with, one of each kind at each server
unfoldable pub opened : Opening → ℕ → Event
opened Servers i = Node (host i)
opened Users i = User (host i) (name i) (key_bytes i)
opened Collections i = Dav (host i) (key i) Mkcol collection
opened Files i = Put (host i) (key i) file (Fill 97 16)

abbrev pub opening : List Event
opening = flat_map (λ kind. map (opened kind) four) (Servers ∷ Users ∷ Collections ∷ Files ∷ [])

-- a command of the user at i
abbrev pub commanded : ℕ → Cmd → Event
commanded i cmd = Local (host i) (key i) cmd

-- event j at the server i, with what it draws further
unfoldable pub shared : ℕ → ℕ → Drawn Event
shared j i = do
  which ← pick 3
  bits ← pick 7
  give (commanded i (Share collection (other i which) (perms (bits + 1)) (drawn_bytes j)))

abbrev pub pumped : ℕ → ℕ → Event
pumped j i = Pump (host i) (drawn_bytes j)

unfoldable pub accepted : ℕ → Drawn Event
accepted i = do
  n ← pick 16
  give (commanded i (Accept (n + 1)))

unfoldable pub reshared : ℕ → Drawn Event
reshared i = do
  n ← pick 16
  which ← pick 3
  give (commanded i (Reshare (n + 1) (other i which) None))

unfoldable pub unshared : ℕ → Drawn Event
unshared i = do
  n ← pick 16
  give (commanded i (Unshare (n + 1)))

unfoldable pub got : ℕ → ℕ → Drawn Event
got events i = do
  k ← pick events
  give (Dav (host i) (secret (k + 1)) Get shared_file)

unfoldable pub limited : ℕ → Drawn Event
limited i = do
  n ← pick 16
  bits ← pick 7
  give (commanded i (Limit (n + 1) (perms (bits + 1))))

abbrev pub crashed : ℕ → Event
crashed i = Crash (host i) crashes.New

-- event j of so many at the server i, by its kind from 0 to 7
unfoldable pub of_kind : ℕ → ℕ → ℕ → ℕ → Drawn Event
of_kind events j i kind =
    if nat_eq kind 0 then shared j i
    else if nat_eq kind 1 then give (pumped j i)
    else if nat_eq kind 2 then accepted i
    else if nat_eq kind 3 then reshared i
    else if nat_eq kind 4 then unshared i
    else if nat_eq kind 5 then got events i
    else if nat_eq kind 6 then limited i
    else give (crashed i)

-- event j of so many
unfoldable pub event_of : ℕ → ℕ → Drawn Event
event_of events j = do
  kind ← pick 8
  i ← pick 4
  of_kind events j i kind

-- the first j drawn events of so many
unfoldable pub drawn_events : ℕ → ℕ → Drawn (List Event)
drawn_events events zero = give []
drawn_events events (suc j) = do
  before ← drawn_events events j
  event ← event_of events (suc j)
  give (before ++ event ∷ [])

-- the script of a number with so many drawn events
abbrev pub made_script : ℕ → ℕ → List Event
made_script number events = opening ++ (drawn_events events events number).0
