-- The words of `ocmd dav`, behind the program's name.
use Rattle.std.specs.Prelude.{◌≡◌, ℕ, List, [], ◌∷◌, ◌++◌, codes, Some, Ok}
use Rattle.ocm_types.specs.Hosts.{host_of}
use Rattle.ocm_types.specs.Texts.{secret_of}
use Rattle.ocm_path.specs.Paths.{Segments, path_of}
use Rattle.ocm_commands_dav.specs.declared.tasks.Task.{Task}
use Rattle.ocm_commands_dav.specs.declared.tasks.WordsFault.{WordsFault}
use Rattle.ocm_commands_dav.specs.declared.tasks.WordsFault.TheVariants as faults
use Rattle.ocm_commands_dav.specs.declared.verbs.Verb.{Verb}
use Rattle.ocm_commands_dav.specs.declared.verbs.Verb.TheVariants as verbs

-- the line that tells the commands
abbrev pub usage_line : List ℕ
usage_line = codes "usage: ocmd replay|audit|check KIND|drill NUMBER EVENTS|serve OPTIONS|dav VERB HOST SECRET PATH" ++ 10 ∷ []

-- the word of each verb
abbrev pub verb_word : Verb → List ℕ
verb_word verbs.Get = codes "get"
verb_word verbs.Put = codes "put"
verb_word verbs.Delete = codes "delete"
verb_word verbs.MakeCollection = codes "mkcol"
verb_word verbs.List = codes "list"

-- the texts of a verb, a host, a secret and a path spell those of a task
abbrev pub Spells : List ℕ → List ℕ → List ℕ → List ℕ → Task → Type 0
Spells verb host secret path task =
    (verb ≡ verb_word task.verb) × (host_of host ≡ Ok task.host) × (secret_of secret ≡ Some task.secret) × (path_of path ≡ Ok task.path)

-- the fault lies in the words
abbrev pub IsUsage : WordsFault → Type 0
IsUsage faults.NoMemory = ⊥
IsUsage _ = Unit {0}

-- the fault is that of one of these texts, which is no verb, host, secret or path
abbrev pub IsCause : WordsFault → List ℕ → List ℕ → List ℕ → List ℕ → Type 0
IsCause faults.Verb verb host secret path = (v : Verb) → verb ≡ verb_word v → ⊥
IsCause faults.Host verb host secret path = (h : List ℕ) → host_of host ≡ Ok h → ⊥
IsCause faults.Secret verb host secret path = (s : List ℕ) → secret_of secret ≡ Some s → ⊥
IsCause faults.Path verb host secret path = (p : Segments) → path_of path ≡ Ok p → ⊥
IsCause _ verb host secret path = ⊥

-- the words ask for a task
abbrev pub Asks : List (List ℕ) → Task → Type 0
Asks words task =
    (verb : List ℕ) × (host : List ℕ) × (secret : List ℕ) × (path : List ℕ)
    × (words ≡ codes "dav" ∷ verb ∷ host ∷ secret ∷ path ∷ []) × Spells verb host secret path task

-- the words ask for no task
abbrev pub IsOther : List (List ℕ) → Type 0
IsOther words = (task : Task) → Asks words task → ⊥
