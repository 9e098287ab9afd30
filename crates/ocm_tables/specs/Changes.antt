use Rattle.std.specs.Prelude.{◌≡◌, ◌<◌, ◌≤◌, ℕ, ◌+◌, List, [], ◌∷◌, ◌++◌, length, map, not, ◌&&◌, if◌then◌else◌, nat_eq, Bool, true, false, Option, Some, None, min, IfSome, IsSome, IsSomeAnd, IsTrue, All}
use Rattle.std.specs.List.{list_any}
use Rattle.ocm_limits.specs.Limits.{most_messages, most_records, most_requests, most_restrictions, most_shares, most_users}
use Rattle.ocm_types.specs.declared.phases.Phase.TheVariants.{Removed}
use Rattle.ocm_types.specs.declared.phases.RequestPhase.TheVariants.{Undone}
use Rattle.ocm_entry.specs.Proper.{is_short}
use Rattle.ocm_entry.specs.declared.rows.User.{User}
use Rattle.ocm_entry.specs.declared.rows.Share.{Share}
use Rattle.ocm_entry.specs.declared.rows.Request.{Request}
use Rattle.ocm_rules.specs.declared.rows.Message.{Message}
use Rattle.ocm_rules.specs.declared.rows.ShareRow.{ShareRow}
use Rattle.ocm_rules.specs.declared.rows.ReceivedRow.{ReceivedRow}
use Rattle.ocm_rules.specs.declared.rows.SentRow.{SentRow}
use Rattle.ocm_rules.specs.declared.rows.Told.{Told}
use Rattle.ocm_rules.specs.Numbers.{at_number}
use Rattle.ocm_rules.specs.Shares.{is_used}
use Rattle.ocm_rules.specs.Files.{Act, Carried, Gone, Placed, copies, limit_of, limit_of_carry, nodes_after, with_node}
use Rattle.ocm_rules.specs.Offers.{is_given_up, is_of}
use Rattle.ocm_rules.specs.State.{State, changed_at, map_numbered, new_received_row, new_sent_row, new_share_row, node_at, view_in}
use Rattle.ocm_tables.specs.Tables.{Rooms}
use Rattle.ocm_tables.specs.declared.changes.TableChange.{TableChange}
use Rattle.ocm_tables.specs.declared.changes.TableChange.TheVariants as changes
use Rattle.ocm_tables.specs.declared.changes.Outcome.{Outcome}
use Rattle.ocm_tables.specs.declared.changes.Outcome.TheVariants as outcomes

-- what an answer does besides settling its message
abbrev pub with_outcome : State → Outcome → State
with_outcome st outcomes.Nothing = st
with_outcome st (outcomes.SetPhase number phase) = record st { received = changed_at number (λ (row : ReceivedRow). record row { phase = phase }) st.received }
with_outcome st (outcomes.SetState request state) = record st { requests = changed_at request (λ (row : Request). record row { state = state }) st.requests }

-- what was told, where those of these numbers were told this
abbrev pub told_all : List ℕ → Told → List Told → List Told
told_all numbers told others = map_numbered (λ n old. if list_any (nat_eq n) numbers then told else old) 1 others

-- the rows of the received offers, where the guests of those with these numbers were told this
abbrev pub told_to : List ℕ → Told → List ReceivedRow → List ReceivedRow
told_to numbers told rows = map_numbered (λ n (row : ReceivedRow). if list_any (nat_eq n) numbers then record row { told = told } else row) 1 rows

-- the lists once a change is made, its messages aside
abbrev pub acted : State → TableChange → State
acted st changes.Nothing = st
acted st (changes.Advance clock) = record st { moment = clock }
acted st (changes.AddUser user) = record st { users = st.users ++ user ∷ [] }
acted st (changes.Put node) = record st { nodes = with_node st.nodes node }
acted st (changes.Remove place) = record st { nodes = nodes_after (Some (Gone place)) st.nodes }
acted st (changes.Carry carry) = record st { nodes = nodes_after (Some (Carried carry.from carry.to carry.moving)) st.nodes }
acted st (changes.AddShare share) = record st { shares = st.shares ++ new_share_row share ∷ [] }
acted st (changes.Close id) = record st { shares = changed_at id (λ (row : ShareRow). record row { closed = true }) st.shares }
acted st (changes.Limit id perms) = record st { shares = changed_at id (λ (row : ShareRow). record row { perms = perms }) st.shares; limits = st.limits + 1 }
acted st (changes.Expire id until) = record st { shares = changed_at id (λ (row : ShareRow). record row { end = Some until }) st.shares }
acted st (changes.Receive offer) = record st { received = st.received ++ new_received_row offer ∷ [] }
acted st (changes.SetPhase number phase) = record st { received = changed_at number (λ (row : ReceivedRow). record row { phase = phase }) st.received }
acted st (changes.AddRequest request) = record st { requests = st.requests ++ request ∷ [] }
acted st (changes.TakeBack request) = record st { requests = changed_at request (λ (row : Request). record row { state = Undone }) st.requests }
acted st (changes.GiveUp mark) =
    record st { received = map (λ (row : ReceivedRow). if is_of mark.id mark.secret row.offer && not (is_given_up row.phase) then record row { phase = Removed } else row) st.received }
acted st (changes.Tell numbers serial perms) = record st { received = told_to numbers (record { serial = serial; perms = perms }) st.received }
acted st (changes.Settle number outcome) = with_outcome (record st { sent = changed_at number (λ (row : SentRow). record row { settled = true }) st.sent }) outcome

-- these messages behind those that were sent
abbrev pub with_sent : State → List Message → State
with_sent st messages = record st { sent = st.sent ++ map new_sent_row messages }

-- the lists once a change is made and its messages are sent
abbrev pub changed : State → TableChange → List Message → State
changed st change messages = with_sent (acted st change) messages

-- whether a change changes something
abbrev pub is_kept : TableChange → Bool
is_kept changes.Nothing = false
is_kept change = true

-- what a change does to files
abbrev pub file_act : TableChange → Option Act
file_act (changes.Put node) = Some (Placed node.place node.standing)
file_act (changes.Remove place) = Some (Gone place)
file_act (changes.Carry carry) = Some (Carried carry.from carry.to carry.moving)
file_act change = None

-- how many changes there were once one is made; the count stands still at the largest number
abbrev pub entries_after : ℕ → TableChange → ℕ
entries_after entries change = if is_kept change then min (entries + 1) 18446744073709551615 else entries

-- ---- what a change has to keep to

-- there is a share, a received offer, a request, a message of this number
abbrev pub IsShare : State → ℕ → Type 0
IsShare st id = IsSome (at_number st.shares id)

abbrev pub IsRecord : State → ℕ → Type 0
IsRecord st number = IsSome (at_number st.received number)

abbrev pub IsRequest : State → ℕ → Type 0
IsRequest st request = IsSome (at_number st.requests request)

abbrev pub IsMessage : State → ℕ → Type 0
IsMessage st number = IsSome (at_number st.sent number)

-- a new user keeps to the rules: not too many, another key
pub record FitsUser (st : State) (user : User) : Type 0 where
  pub few : length st.users < most_users
  pub key : is_used st.users (view_in st).shares user.key ≡ false

-- a new share keeps to the rules: not too many, another secret, a parent and an owner that are there, a root that was asked for
pub record FitsShare (st : State) (share : Share) : Type 0 where
  pub few : length st.shares < most_shares
  pub secret : is_used st.users (view_in st).shares share.secret ≡ false
  pub parent : IfSome share.parent (λ parent. IsShare st parent)
  pub owner : IsSome (at_number st.users share.owner)
  pub root : IsTrue (is_short share.root)

-- a new request keeps to the rules: not too many, about a record that is there
pub record FitsRequest (st : State) (request : Request) : Type 0 where
  pub few : length st.requests < most_requests
  pub record_ : IsRecord st request.received

-- what an answer does is about what is there
abbrev pub FitsOutcome : State → Outcome → Type 0
FitsOutcome st outcomes.Nothing = Unit {0}
FitsOutcome st (outcomes.SetPhase number phase) = IsRecord st number
FitsOutcome st (outcomes.SetState request state) = IsRequest st request

-- a change keeps to the rules
abbrev pub Fits : State → TableChange → Type 0
Fits st changes.Nothing = Unit {0}
Fits st (changes.Advance clock) = st.moment ≤ clock
Fits st (changes.AddUser user) = FitsUser st user
Fits st (changes.Put node) = limit_of st.nodes node ≡ None
Fits st (changes.Remove place) = Unit {0}
Fits st (changes.Carry carry) =
    (carry.nodes ≡ copies carry.from carry.to st.nodes) × IsSomeAnd (node_at st.nodes carry.from) (λ standing. limit_of_carry st.nodes carry.from carry.to carry.moving standing ≡ None)
Fits st (changes.AddShare share) = FitsShare st share
Fits st (changes.Close id) = IsShare st id
Fits st (changes.Limit id perms) = IsShare st id × (st.limits < most_restrictions)
Fits st (changes.Expire id until) = IsShare st id
Fits st (changes.Receive offer) = length st.received < most_records
Fits st (changes.SetPhase number phase) = IsRecord st number
Fits st (changes.AddRequest request) = FitsRequest st request
Fits st (changes.TakeBack request) = IsRequest st request
Fits st (changes.GiveUp mark) = Unit {0}
Fits st (changes.Tell numbers serial perms) = All (λ number. IsRecord st number) numbers
Fits st (changes.Settle number outcome) = IsMessage st number × FitsOutcome st outcome

-- there are numbers left for so many more messages
abbrev pub HasNumbers : State → List Message → Type 0
HasNumbers st messages = length st.sent + length messages ≤ most_messages

-- ---- room

-- there is room for a change
abbrev pub HasRoom : Rooms → TableChange → Type 0
HasRoom room (changes.AddUser user) = 0 < room.users
HasRoom room (changes.Put node) = 0 < room.files
HasRoom room (changes.Carry carry) = length carry.nodes ≤ room.files
HasRoom room (changes.AddShare share) = 0 < room.shares
HasRoom room (changes.Receive offer) = (0 < room.records) × (0 < room.told)
HasRoom room (changes.AddRequest request) = 0 < room.records
HasRoom room change = Unit {0}
