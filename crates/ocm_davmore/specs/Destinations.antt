-- The Destination of a COPY or a MOVE (RFC 4918 section 10.3): which path of our server it names.
use Rattle.std.specs.Prelude.{◌≡◌, ◌≢◌, ℕ, ◌≤◌, length, Bool, true, false, ◌&&◌, ◌||◌, ◌==◌, if◌then◌else◌, List, [], ◌∷◌, ◌++◌, codes, decimal, bytes_eq, Option, Some, None, option_and_then, Result, Ok, Err}
use Rattle.std.specs.Option.{option_map_or}
use Rattle.std.specs.Str.{is_utf8}
use Rattle.url.specs.Parser.{Parsed, parse_url}
use Rattle.url.specs.Parts.{Parts, nonempty_host}
use Rattle.url.specs.Host.{host_text}
use Rattle.ocm_limits.specs.Limits.{most_asked_path_bytes}
use Rattle.ocm_types.specs.declared.address_faults.AddressFault.{AddressFault}
use Rattle.ocm_types.specs.Hosts.{after_front, cut_at_first, host_of}
use Rattle.ocm_path.specs.declared.faults.PathFault.{PathFault}
use Rattle.ocm_path.specs.declared.faults.PathFault.TheVariants as path_faults
use Rattle.ocm_path.specs.Paths.{Segments, path_text, path_of}
use Rattle.ocm_davmore.specs.declared.faults.DestinationFault.{DestinationFault}
use Rattle.ocm_davmore.specs.declared.faults.DestinationFault.TheVariants.{OtherServer, BadPath, NoMemory}

-- whether a text is a path, and not an address: it begins with `/`
abbrev pub begins_with_slash : List ℕ → Bool
begins_with_slash [] = false
begins_with_slash (b ∷ bytes) = b == 47

-- a path without its query: what stands before the first `?`
abbrev pub before_query : List ℕ → List ℕ
before_query text = (cut_at_first 63 text).0

-- a host and, where an address has one, its port
abbrev pub authority : List ℕ → Option ℕ → List ℕ
authority name None = name
authority name (Some port) = name ++ codes ":" ++ decimal port

-- whether what was read is our host
abbrev pub is_host_read : List ℕ → Result (List ℕ) AddressFault → Bool
is_host_read ours (Ok host) = bytes_eq host ours
is_host_read ours (Err fault) = false

-- whether a host and a port are ours, as a host is read
abbrev pub names_host : List ℕ → List ℕ → Option ℕ → Bool
names_host ours name port = is_host_read ours (host_of (authority name port))

-- whether a scheme is `http` or `https`
abbrev pub is_web : List ℕ → Bool
is_web scheme = bytes_eq scheme (codes "http") || bytes_eq scheme (codes "https")

-- whether an address, as `url` reads it, is one of `http` or `https` with our host
abbrev pub is_ours : List ℕ → Parts → Bool
is_ours ours url =
    is_web url.scheme
    && option_map_or (λ host. names_host ours (host_text host) url.port) (nonempty_host url) false

-- whether an address, as `url` reads it, is one of ours; what is no address is not
abbrev pub is_own_read : List ℕ → Parsed Parts → Bool
is_own_read ours (Ok url) = is_ours ours url
is_own_read ours (Err fault) = false

-- whether the value of an `Origin` (RFC 6454 section 7) is ours: an address of `http` or `https` with our host
abbrev pub is_own_origin : List ℕ → List ℕ → Bool
is_own_origin ours value = if is_utf8 value then is_own_read ours (parse_url None value) else false

-- what may follow `/dav`: nothing, or what begins with `/`
abbrev pub is_rest : List ℕ → Bool
is_rest [] = true
is_rest (b ∷ bytes) = b == 47

-- what follows `/dav`, where a path is `/dav` or begins with `/dav/`
abbrev pub below_dav : List ℕ → Option (List ℕ)
below_dav path =
    option_and_then (λ rest. if is_rest rest then Some rest else None) (after_front (codes "/dav") path)

-- a path that was read, or its fault as the destination's
abbrev pub path_read : Result Segments PathFault → Result Segments DestinationFault
path_read (Ok path) = Ok path
path_read (Err fault) = Err (BadPath fault)

-- what is read of what follows `/dav`
abbrev pub rest_destination : Option (List ℕ) → Result Segments DestinationFault
rest_destination None = Err OtherServer
rest_destination (Some rest) = path_read (path_of rest)

-- what a path of this server names
abbrev pub path_destination : List ℕ → Result Segments DestinationFault
path_destination path = rest_destination (below_dav path)

-- what an address names, as `url` reads it: its path, where it is ours
abbrev pub address_destination : List ℕ → Parsed Parts → Result Segments DestinationFault
address_destination ours (Ok url) =
    if is_ours ours url then path_destination url.path else Err OtherServer
address_destination ours (Err fault) = Err OtherServer

-- what a text names: a path, which has no query, or an address
abbrev pub text_destination : List ℕ → List ℕ → Result Segments DestinationFault
text_destination ours text =
    if begins_with_slash text then path_destination (before_query text)
    else address_destination ours (parse_url None text)

-- why a value that is not UTF-8 names no path: below our `/dav/` its path is no text, and anything else is another server's
abbrev pub fault_without_text : List ℕ → DestinationFault
fault_without_text value = option_map_or (λ _. BadPath path_faults.NotText) (after_front (codes "/dav/") value) OtherServer

-- the path below our `/dav` that the value of a destination names, or why it names none
abbrev pub destination_of : List ℕ → List ℕ → Result Segments DestinationFault
destination_of ours value = if is_utf8 value then text_destination ours value else Err (fault_without_text value)

-- what was answered is what a reading gives, with no path of more than 1,024 bytes; want of memory may come at
-- any value
abbrev pub Gives : Result Segments DestinationFault → Result Segments DestinationFault → Type 0
Gives (Ok path) read = (read ≡ Ok path) × (length (path_text path) ≤ most_asked_path_bytes)
Gives (Err OtherServer) read = read ≡ Err OtherServer
Gives (Err (BadPath fault)) read = (fault ≢ path_faults.NoMemory) × (read ≡ Err (BadPath fault))
Gives (Err NoMemory) read = Unit {0}
