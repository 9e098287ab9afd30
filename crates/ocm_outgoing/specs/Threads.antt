use Rattle.std.specs.Prelude.{◌≡◌, ◌≢◌, ℕ, ◌<◌, ◌≤◌, List, length, map as list_map, nat_eq, Bool, true, false, not, ◌&&◌, cond, count_by, Option, Some, None, option_map, filter_map}
use Rattle.std.specs.Option.{option_map_or}
use Rattle.std.specs.List.Sorted.{IsNonDecreasing}
use Rattle.std.specs.HashMap as map
use Rattle.std.specs.HashMap.{HashMap}
use Rattle.std.specs.declared.hash.FoldHasher.{FoldHasher}
use Rattle.std.specs.declared.hash.BuildHasherDefault.{BuildHasherDefault}
use Rattle.ocm_limits.specs.Limits.{most_messages}
use Rattle.ocm_types.specs.declared.letters.Numbered.{Numbered}
use Rattle.ocm_rules.specs.declared.rows.SentRow.{SentRow}
use Rattle.ocm_rules.specs.declared.rows.Subject.{Subject}
use Rattle.ocm_rules.specs.contracts.rows.SubjectPartialEq.TheImpl.{ghosts}
use Rattle.ocm_rules.specs.Numbers.{at_number}
use Rattle.ocm_rules.specs.State.{changed_at}
use Rattle.ocm_rules.specs.Settlements.{same_subject}
use Rattle.ocm_rules.specs.Messages.{change_count}
use Rattle.ocm_outgoing.specs.declared.rows.Sent.{Sent}
use Rattle.ocm_outgoing.specs.declared.rows.Thread.{Thread}
use Rattle.ocm_outgoing.specs.Lists.{messages}

-- an index from what messages are about to their threads
abbrev pub Threads : Type 0
Threads = HashMap Subject Thread (BuildHasherDefault FoldHasher)

-- whether an index takes two things as the same
abbrev pub same_key : Subject → Subject → Bool
same_key = ghosts.eq

-- what an index has for one thing
abbrev pub thread_of : Threads → Subject → Option Thread
thread_of threads s = map.get same_key threads s

-- a row as contracts see it
abbrev pub row_of : Sent → SentRow
row_of row = record { message = record { subject = row.subject; to = row.numbered.to; letter = row.numbered.letter }; settled = row.settled }

-- the rows as contracts see them
abbrev pub rows_of : List Sent → List SentRow
rows_of rows = list_map row_of rows

-- whether the message of a number is about this
abbrev pub about : List Sent → Subject → ℕ → Bool
about rows s k = option_map_or (λ (row : Sent). same_subject row.subject s) (at_number rows k) false

-- whether the message of a number is about this and not settled
abbrev pub waiting : List Sent → Subject → ℕ → Bool
waiting rows s k = option_map_or (λ (row : Sent). same_subject row.subject s && not row.settled) (at_number rows k) false

-- the number that the row of a number has for the next about the same
abbrev pub next_of : List Sent → ℕ → ℕ
next_of rows k = option_map_or (λ (row : Sent). row.next) (at_number rows k) 0

-- the next number after i is j: 0 where i is the last, else the next about the same
pub record IsLink (about : ℕ → Bool) (last i j : ℕ) : Type 0 where
  pub stops : j ≡ 0 → i ≡ last
  pub after : j ≢ 0 → i < j
  pub same : j ≢ 0 → about j ≡ true
  pub between : j ≢ 0 → (k : ℕ) → i < k → k < j → about k ≡ false

-- the links of a thread lead from its first through all that are about the same to its last
pub record IsChain (about : ℕ → Bool) (next : ℕ → ℕ) (t : Thread) : Type 0 where
  pub last : about t.last ≡ true
  pub after : (k : ℕ) → t.last < k → about k ≡ false
  pub links : (i : ℕ) → t.first ≤ i → about i ≡ true → IsLink about t.last i (next i)

-- a number is that of the first message that waits
pub record IsFirst (waiting : ℕ → Bool) (first : ℕ) : Type 0 where
  pub waits : waiting first ≡ true
  pub before : (k : ℕ) → k < first → waiting k ≡ false

-- what an index says of one thing: nothing where no message about it waits, else its thread
abbrev pub ThreadIs : (ℕ → Bool) → (ℕ → Bool) → (ℕ → ℕ) → Option Thread → Type 0
ThreadIs about waiting next None = (k : ℕ) → waiting k ≡ false
ThreadIs about waiting next (Some t) = IsChain about next t × IsFirst waiting t.first

-- where a walk along a thread has come: to a number before which none waits, or past all
pub record IsReached (about waiting : ℕ → Bool) (first j : ℕ) : Type 0 where
  pub past : j ≡ 0 → (k : ℕ) → waiting k ≡ false
  pub beyond : j ≢ 0 → first ≤ j
  pub same : j ≢ 0 → about j ≡ true
  pub before : j ≢ 0 → (k : ℕ) → k < j → waiting k ≡ false

-- a walk along the thread of one thing
pub record IsWalk (rows : List Sent) (s : Subject) (t : Thread) (j : ℕ) : Type 0 where
  pub chain : IsChain (about rows s) (next_of rows) t
  pub reached : IsReached (about rows s) (waiting rows s) t.first j

-- the rows have their numbers
abbrev pub HaveNumbers : List Sent → Type 0
HaveNumbers rows = (i : ℕ) → option_map_or (λ (row : Sent). nat_eq row.numbered.number i) (at_number rows i) true ≡ true

-- how often a number is in a list
abbrev pub times : ℕ → List ℕ → ℕ
times k xs = count_by (nat_eq k) xs

-- whether a thread begins at this number
abbrev pub begins_at : Option Thread → ℕ → Bool
begins_at thread number = option_map_or (λ (t : Thread). nat_eq t.first number) thread false

-- whether the thread of what the message of a number is about begins at it
abbrev pub begins : List Sent → (Subject → Option Thread) → ℕ → Bool
begins rows found k = option_map_or (λ (row : Sent). begins_at (found row.subject) k) (at_number rows k) false

-- these numbers are those that pass, each once, in order
pub record AreFronts (flag : ℕ → Bool) (fronts : List ℕ) : Type 0 where
  pub once : (k : ℕ) → times k fronts ≡ cond (flag k) 1 0
  pub rising : IsNonDecreasing fronts

-- what an outbox keeps: at most 1,048,576 numbered rows, how many of them tell changed permissions, the threads of what waits, and the numbers at which these begin
pub record IsOutbox (rows : List Sent) (threads : Threads) (fronts : List ℕ) (changes : ℕ) : Type 0 where
  pub few : length rows ≤ most_messages
  pub numbers : HaveNumbers rows
  pub counted : changes ≡ change_count (messages (rows_of rows))
  pub threaded : (s : Subject) → ThreadIs (about rows s) (waiting rows s) (next_of rows) (thread_of threads s)
  pub begun : AreFronts (begins rows (thread_of threads)) fronts

-- a row whose message is settled now
abbrev pub marked : Sent → Sent
marked row = record row { settled = true }

-- a row with another number of the next about the same
abbrev pub linked : ℕ → Sent → Sent
linked next row = record row { next = next }

-- the rows with a new last one linked to the thread that it goes on, if there is one
abbrev pub with_link : Option Thread → ℕ → List Sent → List Sent
with_link None number rows = rows
with_link (Some t) number rows = changed_at t.last (linked number) rows

-- the first of a thread, or else this number
abbrev pub first_or : ℕ → Option Thread → ℕ
first_or number older = option_map_or (λ (t : Thread). t.first) older number

-- a thread that begins later, or none where nothing of it waits
abbrev pub moved : Option ℕ → Option Thread → Option Thread
moved None t = None
moved (Some first) t = option_map (λ (t : Thread). record { first = first; last = t.last }) t

-- what a walk finds: the first that waits, or nothing where none does
abbrev pub IsFound : (ℕ → Bool) → ℕ → Option ℕ → Type 0
IsFound waiting first None = (k : ℕ) → waiting k ≡ false
IsFound waiting first (Some j) = IsFirst waiting j × (first ≤ j)

-- the messages of these numbers
abbrev pub at_numbers : List Sent → List ℕ → List Numbered
at_numbers rows ns = filter_map (λ n. option_map (λ (row : Sent). row.numbered) (at_number rows n)) ns
