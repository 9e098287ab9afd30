use Rattle.std.specs.Prelude.{◌≡◌, ℕ, ◌≤◌, ◌⊎◌, Bool, true, false, List, [], ◌∷◌, Option, Some, codes, if◌then◌else◌}
use Rattle.ocm_base.specs.Outside.{Appends}
use Rattle.ocm_texts.specs.Decimal.{decimal_of}
use Rattle.ocm_limits.specs.Limits.{most_audited_bytes, most_json_bytes, most_logcheck_bytes, most_script_bytes}
use Rattle.ocm_types.specs.Hosts.{canonical_host_of}
use Rattle.ocm_commands_files.specs.declared.words.Command.{Command}
use Rattle.ocm_commands_files.specs.declared.words.Command.TheVariants as commands
use Rattle.ocm_commands_files.specs.declared.words.Kind.{Kind}
use Rattle.ocm_commands_files.specs.declared.words.Kind.TheVariants as kinds

-- the word of each kind of record
abbrev pub kind_word : Kind → List ℕ
kind_word kinds.Discovery = codes "discovery"
kind_word kinds.Offer = codes "offer"
kind_word kinds.Notice = codes "notice"
kind_word kinds.Error = codes "error"

-- the words of a trace: the host in its canonical text
abbrev pub AreTrace : List ℕ → List (List ℕ) → Type 0
AreTrace host (word ∷ text ∷ []) = (word ≡ codes "trace") × (canonical_host_of text ≡ Some host)
AreTrace host _ = ⊥

-- the most events of a drill
abbrev pub most_events : ℕ
most_events = 90000

-- the words of a drill: its number, below 2^64, and how many events it has
abbrev pub AreDrill : ℕ → ℕ → List (List ℕ) → Type 0
AreDrill number events (word ∷ first ∷ second ∷ []) =
    (word ≡ codes "drill") × (decimal_of first ≡ Some number) × (decimal_of second ≡ Some events) × (events ≤ most_events)
AreDrill number events _ = ⊥

-- these are words of the command, behind the program's name
abbrev pub AreOf : Command → List (List ℕ) → Type 0
AreOf commands.Replay words = words ≡ codes "replay" ∷ []
AreOf commands.Audit words = words ≡ codes "audit" ∷ []
AreOf (commands.Check kind) words = words ≡ codes "check" ∷ kind_word kind ∷ []
AreOf commands.Logcheck words = words ≡ codes "logcheck" ∷ []
AreOf commands.Compact words = words ≡ codes "compact" ∷ []
AreOf (commands.Trace host) words = AreTrace host words
AreOf (commands.Drill number events) words = AreDrill number events words
AreOf commands.Help words = (words ≡ codes "help" ∷ []) ⊎ (words ≡ codes "--help" ∷ [])
AreOf commands.ServeHelp words = words ≡ codes "serve" ∷ codes "--help" ∷ []
AreOf commands.DavHelp words = words ≡ codes "dav" ∷ codes "--help" ∷ []
AreOf commands.Version words = (words ≡ codes "version" ∷ []) ⊎ (words ≡ codes "--version" ∷ [])

-- these are words of no command
abbrev pub AreOther : List (List ℕ) → Type 0
AreOther words = (command : Command) → AreOf command words → ⊥

-- the word `trace` and one more, which may be no host
abbrev pub BeginTrace : List (List ℕ) → Type 0
BeginTrace words = (text : List ℕ) × (words ≡ codes "trace" ∷ text ∷ [])

-- a drill has no more events than it may
abbrev pub IsSmall : Command → Type 0
IsSmall (commands.Drill number events) = events ≤ most_events
IsSmall _ = Unit {0}

-- whether the command reads the source
abbrev pub reads : Command → Bool
reads (commands.Drill number events) = false
reads commands.Help = false
reads commands.ServeHelp = false
reads commands.DavHelp = false
reads commands.Version = false
reads _ = true

-- the input of a command: what the source has left, and no bytes where the command does not read
abbrev pub input_of : Command → Option (List ℕ) → Option (List ℕ)
input_of command left = if reads command then left else Some []

-- these bytes came from the source as the input of a command, where it tells what it gave; no bytes where the command does not read
abbrev pub HasCome : Command → Option (List ℕ) → Option (List ℕ) → List ℕ → Type 0
HasCome command old new bytes = (reads command ≡ true → Appends old new bytes) × (reads command ≡ false → bytes ≡ [])

-- the most bytes that a command takes
abbrev pub most_bytes : Command → ℕ
most_bytes commands.Replay = most_script_bytes
most_bytes (commands.Trace host) = most_script_bytes
most_bytes commands.Audit = most_audited_bytes
most_bytes commands.Logcheck = most_logcheck_bytes
most_bytes commands.Compact = most_audited_bytes
most_bytes (commands.Check kind) = most_json_bytes
most_bytes _ = 0
