-- The options of `serve`, and what they order.
use Rattle.std.specs.Prelude.{◌≡◌, ℕ, Bool, true, false, ◌&&◌, not, nat_le, List, [], ◌∷◌, Option, Some, None, option_and_then, option_map, Result, Ok, Err, String, string_bytes, codes, bytes_eq, map, if◌then◌else◌}
use Rattle.std.specs.Option.{option_map_or}
use Rattle.std.specs.Result.{result_ok}
use Rattle.std.specs.declared.alloc.Global.{Global}
use Rattle.clap.specs.declared.builder.action.ArgAction.TheVariants.{Set, SetTrue}
use Rattle.clap.specs.Words.{App, Rule, Row, Text, Kinds, new_app, new_rule, with_rule, matches_of, fault_of, first_of}
use Rattle.clap.specs.Simple.{on_top}
use Rattle.ocm_texts.specs.Decimal.{decimal_of}
use Rattle.ocm_limits.specs.Limits.{most_workers}
use Rattle.ocm_types.specs.Hosts.{host_of}
use Rattle.ocm_types.specs.Texts.{secret_of}
use Rattle.ocm_serve_options.specs.declared.plans.Plan.{Plan}
use Rattle.ocm_serve_options.specs.declared.plans.Orders.{Orders}
use Rattle.ocm_serve_options.specs.declared.plans.AdminKey.{AdminKey}
use Rattle.ocm_serve_options.specs.declared.plans.AdminKey.TheVariants.{Key, File}
use Rattle.ocm_serve_options.specs.declared.plans.Peers.{Peers}
use Rattle.ocm_serve_options.specs.declared.plans.Peers.TheVariants.{Public, Private}
use Rattle.ocm_serve_options.specs.declared.plans.PlanFault.{PlanFault}
use Rattle.ocm_serve_options.specs.declared.plans.PlanFault.TheVariants.{Usage, NoMemory}
use Rattle.ocm_serve_options.specs.declared.options.Numbers.{Numbers}
use Rattle.ocm_serve_options.specs.declared.options.Choices.{Choices}
use Rattle.ocm_serve_options.specs.declared.options.Names.{Names}
use Rattle.ocm_serve_options.specs.declared.options.Places.{Places}

-- an option of one value
abbrev pub option : Text → Rule
option name = record (new_rule name) { long = Some name; action = Some Set }

abbrev pub needed : Text → Rule
needed name = record (option name) { required = true }

abbrev pub optional : Text → Text → Rule
optional name value = record (option name) { defaults = value ∷ [] }

-- an option without a value
abbrev pub flag : Text → Rule
flag name = record (new_rule name) { long = Some name; action = Some SetTrue }

-- the command with the first six of its options
abbrev pub first_six : App
first_six = with_rule (with_rule (with_rule (with_rule (with_rule (with_rule (on_top (λ s. record s { disable_help_flag = true }) (new_app (codes "serve")))
    (needed (codes "host"))) (needed (codes "disk"))) (option (codes "admin"))) (option (codes "admin-file")))
    (optional (codes "listen") (codes "127.0.0.1:8080"))) (optional (codes "workers") (codes "4"))

-- the command: eleven options, ten of one value each and a flag, and nothing else
abbrev pub serve : App
serve = with_rule (with_rule (with_rule (with_rule (with_rule first_six
    (optional (codes "key-file") (codes "/dev/urandom"))) (optional (codes "connections") (codes "0"))) (option (codes "log"))) (flag (codes "existing")))
    (optional (codes "peers") (codes "public"))

abbrev pub texts : List (String Global) → List Text
texts = map string_bytes

-- the words behind a command ask for its options
abbrev pub asks_help : List Text → Bool
asks_help (word ∷ []) = bytes_eq word (codes "--help")
asks_help _ = false

-- the first word asks for a server, and what follows does not ask for its options alone
abbrev pub asks_serve : List Text → Bool
asks_serve [] = false
asks_serve (word ∷ words) = bytes_eq word (codes "serve") && not (asks_help words)

abbrev pub is_none : Kinds → Bool
is_none [] = true
is_none (kind ∷ kinds) = false

infixl 10 ◌>>=◌
abbrev pub ◌>>=◌ : {A B : Type 0} → Option A → (A → Option B) → Option B
o >>= f = option_and_then f o

-- a number of workers: 1 to 64
abbrev pub workers_of : ℕ → Option ℕ
workers_of n = if nat_le 1 n && nat_le n most_workers then Some n else None

-- the number that an option is
abbrev pub number_at : Text → List Row → Option ℕ
number_at name rows = first_of name rows >>= decimal_of

-- whether a flag is there: its value is then `true`, and else `false`
abbrev pub flag_at : Text → List Row → Bool
flag_at name rows = option_map_or (λ text. bytes_eq text (codes "true")) (first_of name rows) false

-- the workers, and the connections of each
unfoldable pub numbers_at : List Row → Option Numbers
numbers_at rows = do
  number ← number_at (codes "workers") rows
  workers ← workers_of number
  connections ← number_at (codes "connections") rows
  Some (record { workers = workers; connections = connections })

-- a host's text as it is read
abbrev pub read_host : List ℕ → Option (List ℕ)
read_host text = result_ok (host_of text)

-- a key's text as it is read
abbrev pub read_admin : List ℕ → Option AdminKey
read_admin text = option_map Key (secret_of text)

-- the host
abbrev pub host_at : List Row → Option (List ℕ)
host_at rows = first_of (codes "host") rows >>= read_host

-- the key of the administrator by the values of `--admin` and `--admin-file`: exactly one of the two is there
abbrev pub admin_by : Option (List ℕ) → Option (List ℕ) → Option AdminKey
admin_by (Some text) None = read_admin text
admin_by None (Some path) = Some (File path)
admin_by (Some text) (Some path) = None
admin_by None None = None

-- the key of the administrator, or the file that holds it
abbrev pub admin_at : List Row → Option AdminKey
admin_at rows = admin_by (first_of (codes "admin") rows) (first_of (codes "admin-file") rows)

-- who the server is
unfoldable pub names_at : List Row → Option Names
names_at rows = do
  host ← host_at rows
  admin ← admin_at rows
  Some (record { host = host; admin = admin })

-- what is taken as it is
unfoldable pub places_at : List Row → Option Places
places_at rows = do
  disk ← first_of (codes "disk") rows
  listen ← first_of (codes "listen") rows
  key_file ← first_of (codes "key-file") rows
  Some (record { disk = disk; listen = listen; key_file = key_file; log = first_of (codes "log") rows })

-- which servers messages are delivered to, by the word for them
abbrev pub peers_of : List ℕ → Option Peers
peers_of word = if bytes_eq word (codes "public") then Some Public else if bytes_eq word (codes "private") then Some Private else None

-- which servers messages are delivered to
abbrev pub peers_at : List Row → Option Peers
peers_at rows = first_of (codes "peers") rows >>= peers_of

-- what is one of two
unfoldable pub choices_at : List Row → Option Choices
choices_at rows = do
  peers ← peers_at rows
  Some (record { existing = flag_at (codes "existing") rows; peers = peers })

-- the orders by the values of the options
unfoldable pub orders_by : List Row → Option Orders
orders_by rows = do
  numbers ← numbers_at rows
  choices ← choices_at rows
  names ← names_at rows
  places ← places_at rows
  Some (record { host = names.host; disk = places.disk; admin = names.admin; listen = places.listen; workers = numbers.workers; key_file = places.key_file; connections = numbers.connections; log = places.log; existing = choices.existing; peers = choices.peers })

-- the orders by the words
unfoldable pub orders_of : List Text → Option Orders
orders_of words = if asks_serve words && is_none (fault_of serve words) then orders_by (matches_of serve words) else None

-- the plan of orders, with the administrator's key
abbrev pub plan_with : Orders → List ℕ → Plan
plan_with orders admin = record { host = orders.host; disk = orders.disk; admin = admin; listen = orders.listen; workers = orders.workers; key_file = orders.key_file; connections = orders.connections; existing = orders.existing; peers = orders.peers }

-- what reading gave: a value, or none exactly at Usage; want of memory is free
abbrev pub Reads : {A : Type 0} → Result A PlanFault → Option A → Type 0
Reads (Ok value) read = read ≡ Some value
Reads (Err Usage) read = read ≡ None
Reads (Err NoMemory) read = Unit {0}
