-- What is read, and what is asked of whom.
use Rattle.std.specs.Prelude.{◌≡◌, ℕ, ◌≤◌, List, [], ◌++◌, length, Option, IfSome, Result, Ok, Err}
use Rattle.ocm_limits.specs.Limits.{most_body_bytes}
use Rattle.ocm_path.specs.Paths.{Segments}
use Rattle.ocm_pump.specs.Exchanges.{AddsSome}
use Rattle.ocm_pump.specs.declared.exchanges.Exchange.{Exchange}
use Rattle.ocm_davclient.specs.Client.{Access, Finds, Gets, Lists, Puts, Deletes, MakesCollection}
use Rattle.ocm_davclient.specs.declared.faults.ClientFault.{ClientFault}
use Rattle.ocm_commands_dav.specs.Words.{Asks}
use Rattle.ocm_commands_dav.specs.declared.tasks.Task.{Task}
use Rattle.ocm_commands_dav.specs.declared.verbs.Verb.{Verb}
use Rattle.ocm_commands_dav.specs.declared.verbs.Verb.TheVariants as verbs

-- ---- what is read

-- the body is the whole of what a source had left, where it tells that, and nothing is left now
abbrev pub IsWhole : Option (List ℕ) → Option (List ℕ) → List ℕ → Type 0
IsWhole old new body = IfSome old (λ bytes. body ≡ bytes) × IfSome new (λ rest. rest ≡ []) × (length body ≤ most_body_bytes)

-- nothing was read, and the body is empty
abbrev pub IsUnread : Option (List ℕ) → Option (List ℕ) → List ℕ → Type 0
IsUnread old new body = (new ≡ old) × (body ≡ [])

-- the body that a verb sends, by what a source had left and has left
abbrev pub Reads : Verb → Option (List ℕ) → Option (List ℕ) → List ℕ → Type 0
Reads verbs.Put old new body = IsWhole old new body
Reads verbs.Get old new body = IsUnread old new body
Reads verbs.Delete old new body = IsUnread old new body
Reads verbs.MakeCollection old new body = IsUnread old new body
Reads verbs.List old new body = IsUnread old new body

-- ---- what is asked

-- nothing is told of a change that was made
abbrev pub without_status : Result ℕ ClientFault → Result (List ℕ) ClientFault
without_status (Ok status) = Ok []
without_status (Err fault) = Err fault

-- a change was asked for, and this is told of it
abbrev pub Told : (Result ℕ ClientFault → Type 0) → Result (List ℕ) ClientFault → Type 0
Told Answers answer = (changed : Result ℕ ClientFault) × Answers changed × (answer ≡ without_status changed)

-- the one call of a verb
abbrev pub Calls : Access → Verb → Segments → List ℕ → List Exchange → Result (List ℕ) ClientFault → Type 0
Calls client verbs.Get path body added answer = Gets client path added answer
Calls client verbs.List path body added answer = Lists client path added answer
Calls client verbs.Put path body added answer = Told (λ changed. Puts client path body added changed) answer
Calls client verbs.Delete path body added answer = Told (λ changed. Deletes client path added changed) answer
Calls client verbs.MakeCollection path body added answer = Told (λ changed. MakesCollection client path added changed) answer

-- the search for the server and, where that found it, the one call
pub data Works (task : Task) (body : List ℕ) (added : List Exchange) (answer : Result (List ℕ) ClientFault) : Type 0 where
  unfound : (fault : ClientFault) → Finds task.host task.secret added (Err fault) → answer ≡ Err fault → Works task body added answer
  called : (before after : List Exchange) (client : Access)
      → Finds task.host task.secret before (Ok client) → Calls client task.verb task.path body after answer
      → added ≡ after ++ before → Works task body added answer

-- ---- both

-- a task is done: the body is read, by what a source had left and has left, and then the search and the call are added to
-- the exchanges
abbrev pub Does : Task → Option (List ℕ) → Option (List ℕ) → Option (List Exchange) → Option (List Exchange) → Result (List ℕ) ClientFault → Type 0
Does task left rest old new answer =
    (body : List ℕ) × Reads task.verb left rest body × AddsSome old new (λ added. Works task body added answer)

-- the task that the words ask for is done
abbrev pub DoesAsked : List (List ℕ) → Option (List ℕ) → Option (List ℕ) → Option (List Exchange) → Option (List Exchange) → Result (List ℕ) ClientFault → Type 0
DoesAsked words left rest old new answer = (task : Task) × Asks words task × Does task left rest old new answer

-- the words ask to put a file
abbrev pub AsksPut : List (List ℕ) → Type 0
AsksPut words = (task : Task) × Asks words task × (task.verb ≡ verbs.Put)
