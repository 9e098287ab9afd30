-- The bytes of a file that a script puts, and the hosts and paths of a script's events.
use Rattle.std.specs.Prelude.{ℕ, List, replicate, Bool, true, ◌&&◌, Option, Some, None}
use Rattle.ocm_entry.specs.Proper.{is_short}
use Rattle.ocm_entry.specs.declared.asks.Cmd.TheVariants as commands
use Rattle.ocm_script.specs.declared.events.Body.{Body}
use Rattle.ocm_script.specs.declared.events.Body.TheVariants.{Given, Fill}
use Rattle.ocm_script.specs.declared.events.Event.{Event}
use Rattle.ocm_script.specs.declared.events.Event.TheVariants.{Quiet, Node, User, Local, Dav, Put, Carry, Clock, Offer, Notice, Raw, Deliver, Pump, Fuse, Crash}

-- the bytes that a body stands for
abbrev pub bytes_of : Body → List ℕ
bytes_of (Given bytes) = bytes
bytes_of (Fill byte count) = replicate count byte

-- the host of the server that an event is about
abbrev pub host_of : Event → Option (List ℕ)
host_of Quiet = None
host_of (Node host) = Some host
host_of (User host name fresh) = Some host
host_of (Local host key cmd) = Some host
host_of (Dav host secret method path) = Some host
host_of (Put host secret path body) = Some host
host_of (Carry host secret from to moving overwrite) = Some host
host_of (Clock host clock) = Some host
host_of (Offer host offer) = Some host
host_of (Notice host fresh notice) = Some host
host_of (Raw host fresh bytes) = Some host
host_of (Deliver host number fresh lost) = Some host
host_of (Pump host fresh) = Some host
host_of (Fuse host calls) = Some host
host_of (Crash host left) = Some host

-- the host of the server that an event makes, if it makes one
abbrev pub node_of : Event → Option (List ℕ)
node_of (Node host) = Some host
node_of _ = None

-- each path of an event has a text of at most 1,024 bytes
abbrev pub has_short_paths : Event → Bool
has_short_paths (Local host key (commands.Share path with perms fresh)) = is_short path
has_short_paths (Dav host secret method path) = is_short path
has_short_paths (Put host secret path body) = is_short path
has_short_paths (Carry host secret from to moving overwrite) = is_short from && is_short to
has_short_paths _ = true
