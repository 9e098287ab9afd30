use Rattle.std.specs.Prelude.{◌≡◌, ℕ, ◌+◌, List, [], ◌∷◌, ◌++◌, map, nat_eq, nat_le, Bool, true, false, not, ◌&&◌, ◌||◌, if◌then◌else◌, Option, Some, None, is_some, unwrap_or, option_map, ⊤}
use Rattle.std.specs.Option.{option_or, option_map_or}
use Rattle.ocm_types.specs.declared.letters.Letter.{Letter}
use Rattle.ocm_types.specs.declared.letters.Notice.TheVariants as notices
use Rattle.ocm_types.specs.declared.letters.Offer.{Offer}
use Rattle.ocm_types.specs.declared.phases.Phase.{Phase}
use Rattle.ocm_types.specs.declared.phases.Phase.TheVariants as phases
use Rattle.ocm_types.specs.declared.phases.RequestPhase.{RequestPhase}
use Rattle.ocm_types.specs.declared.phases.RequestPhase.TheVariants as states
use Rattle.ocm_entry.specs.declared.asks.Ask.{Ask}
use Rattle.ocm_entry.specs.declared.asks.Ask.TheVariants as asks
use Rattle.ocm_entry.specs.declared.asks.Cmd.TheVariants as commands
use Rattle.ocm_entry.specs.declared.replies.Reply.{Reply}
use Rattle.ocm_entry.specs.declared.entries.Entry.{Entry}
use Rattle.ocm_entry.specs.declared.rows.User.{User}
use Rattle.ocm_entry.specs.declared.rows.Share.{Share}
use Rattle.ocm_entry.specs.declared.rows.Request.{Request}
use Rattle.ocm_entry.specs.declared.rows.Place.{Place}
use Rattle.ocm_entry.specs.declared.rows.Standing.{Standing}
use Rattle.ocm_entry.specs.declared.rows.Node.{Node}
use Rattle.ocm_rules.specs.declared.rows.Message.{Message}
use Rattle.ocm_rules.specs.declared.rows.Subject.{Subject}
use Rattle.ocm_rules.specs.declared.rows.Subject.TheVariants as subjects
use Rattle.ocm_rules.specs.declared.rows.ShareRow.{ShareRow}
use Rattle.ocm_rules.specs.declared.rows.ReceivedRow.{ReceivedRow}
use Rattle.ocm_rules.specs.declared.rows.SentRow.{SentRow}
use Rattle.ocm_rules.specs.Numbers.{added, at_number, is_number}
use Rattle.ocm_rules.specs.Users.{user_by}
use Rattle.ocm_rules.specs.Shares.{no_rights, clock_of, closed_by, end_by, limit_by, share_by}
use Rattle.ocm_rules.specs.Holders.{root_among}
use Rattle.ocm_rules.specs.Files.{act_by, nodes_after, same_place, with_roots}
use Rattle.ocm_rules.specs.Settlements.{settled_by, is_success, wants_id, is_acceptance, same_subject}
use Rattle.ocm_rules.specs.Offers.{offer_by, is_of, is_given_up, told_by, later, told_first}
use Rattle.ocm_rules.specs.Requests.{Reshare, request_by, answered_state}
use Rattle.ocm_rules.specs.Views.{View, is_limit, effective_in}
use Rattle.ocm_rules.specs.Messages.{sends}
use Rattle.ocm_rules.specs.History.{kept, changes_in}

-- each item as a function of its number and itself, where the first has this number
abbrev pub map_numbered : {X Y : Type 0} → (ℕ → X → Y) → ℕ → List X → List Y
map_numbered f n [] = []
map_numbered f n (x ∷ xs) = f n x ∷ map_numbered f (n + 1) xs

-- the items with the one of this number changed
abbrev pub changed_at : {X : Type 0} → ℕ → (X → X) → List X → List X
changed_at i change xs = map_numbered (λ j x. if nat_eq i j then change x else x) 1 xs

-- what a server remembers of its history, in lists of rows that are numbered from 1
pub record State : Type 0 where
  pub host : List ℕ
  pub moment : ℕ
  pub users : List User
  pub shares : List ShareRow
  pub limits : ℕ
  pub nodes : List Node
  pub received : List ReceivedRow
  pub requests : List Request
  pub sent : List SentRow

-- a host's lists before its first entry
abbrev pub empty_of : List ℕ → State
empty_of host = record { host = host; moment = 0; users = []; shares = []; limits = 0; nodes = []; received = []; requests = []; sent = [] }

-- ---- what is read of the lists

-- whether a share's row goes on at this moment
abbrev pub row_goes_on : ℕ → ShareRow → Bool
row_goes_on moment row = not row.closed && not (option_map_or (λ end. nat_le end moment) row.end false)

-- what stands at a place, among these nodes
abbrev pub node_at : List Node → Place → Option Standing
node_at [] place = None
node_at (node ∷ nodes) place = if same_place node.place place then Some node.standing else node_at nodes place

-- each place stands once among these nodes
abbrev pub EachOnce : List Node → Type 0
EachOnce [] = ⊤
EachOnce (node ∷ nodes) = (node_at nodes node.place ≡ None) × EachOnce nodes

-- a request without its state
abbrev pub asked_in : Request → Reshare
asked_in row = record { received = row.received; with = row.with; perms = row.perms }

-- all that is read of a history, by the lists: look-ups in rows
abbrev pub view_in : State → View
view_in st = record {
  host = st.host;
  moment = st.moment;
  users = st.users;
  shares = map (λ (row : ShareRow). row.share) st.shares;
  goes_on = λ i. option_map_or (row_goes_on st.moment) (at_number st.shares i) true;
  perms = λ i. option_map_or (λ (row : ShareRow). row.perms) (at_number st.shares i) no_rights;
  limits = st.limits;
  stands = with_roots (node_at st.nodes);
  nodes = st.nodes;
  offers = map (λ (row : ReceivedRow). row.offer) st.received;
  phase = λ n. option_map_or (λ (row : ReceivedRow). row.phase) (at_number st.received n) phases.Pending;
  told = λ n. option_map_or (λ (row : ReceivedRow). row.told) (at_number st.received n) (record { serial = 0; perms = no_rights });
  requests = map asked_in st.requests;
  state = λ r. option_map_or (λ (row : Request). row.state) (at_number st.requests r) states.Asked;
  messages = map (λ (row : SentRow). row.message) st.sent;
  is_settled = λ m. option_map_or (λ (row : SentRow). row.settled) (at_number st.sent m) false;
}

-- ---- one kept entry more

-- the row of the share of this number after an ask
abbrev pub share_row_after : Ask → ℕ → ShareRow → ShareRow
share_row_after ask i row = record {
  share = row.share;
  perms = unwrap_or (limit_by i ask) row.perms;
  closed = is_number i (closed_by ask) || row.closed;
  end = option_or (end_by i ask) row.end;
}

-- the row of a new share
abbrev pub new_share_row : Share → ShareRow
new_share_row share = record { share = share; perms = share.granted; closed = false; end = None }

-- whether a message of this number is such a letter about this
abbrev pub is_about : (Letter → Bool) → Subject → Message → Bool
is_about is_letter subject m = is_letter m.letter && same_subject m.subject subject

-- whether a record of this phase waits for the answer to its acceptance
abbrev pub is_accepting : Phase → Bool
is_accepting phases.Accepting = true
is_accepting _ = false

-- whether a request of this state waits for its answer
abbrev pub is_asked : RequestPhase → Bool
is_asked states.Asked = true
is_asked _ = false

-- a phase, and a state, after an answer of this status
abbrev pub answered_phase : ℕ → Phase → Phase
answered_phase status phase = if is_accepting phase then (if is_success status then phases.Confirmed else phases.Refused) else phase

abbrev pub answered_request : ℕ → Option (List ℕ) → RequestPhase → RequestPhase
answered_request status id state = if is_asked state then answered_state status id else state

-- the phase of the record of this number after an ask, where these messages were sent
abbrev pub phase_after : List Message → Ask → ℕ → Offer → Phase → Phase
phase_after messages (asks.Local key (commands.Accept number)) n offer phase = if nat_eq number n then phases.Accepting else phase
phase_after messages (asks.Local key (commands.Decline number)) n offer phase = if nat_eq number n then phases.Declined else phase
phase_after messages (asks.Notice (notices.Unshared id secret) fresh) n offer phase = if is_of id secret offer && not (is_given_up phase) then phases.Removed else phase
phase_after messages (asks.Settle number status id) n offer phase =
    if option_map_or (is_about is_acceptance (subjects.Received n)) (at_number messages number) false && is_accepting phase
    then (if is_success status then phases.Confirmed else phases.Refused) else phase
phase_after messages _ n offer phase = phase

-- the row of the record of this number after an ask, where these messages were sent
abbrev pub received_row_after : List Message → Ask → ℕ → ReceivedRow → ReceivedRow
received_row_after messages ask n row = record {
  offer = row.offer;
  phase = phase_after messages ask n row.offer row.phase;
  told = option_map_or (λ new. later new row.told) (told_by row.offer ask) row.told;
}

-- the row of a new record
abbrev pub new_received_row : Offer → ReceivedRow
new_received_row offer = record { offer = offer; phase = phases.Pending; told = told_first offer }

-- the state of the request of this number after an ask, where these messages were sent
abbrev pub state_after : List Message → Ask → ℕ → RequestPhase → RequestPhase
state_after messages (asks.Local key (commands.Undo request)) r state = if nat_eq request r then states.Undone else state
state_after messages (asks.Settle number status id) r state =
    if option_map_or (is_about wants_id (subjects.Request r)) (at_number messages number) false && is_asked state
    then answered_state status id else state
state_after messages _ r state = state

-- the row of the request of this number after an ask, where these messages were sent
abbrev pub request_row_after : List Message → Ask → ℕ → Request → Request
request_row_after messages ask r row = record { received = row.received; with = row.with; perms = row.perms; state = state_after messages ask r row.state }

-- the row of a new request
abbrev pub new_request_row : Reshare → Request
new_request_row request = record { received = request.received; with = request.with; perms = request.perms; state = states.Asked }

-- the row of the message of this number after an ask
abbrev pub sent_row_after : Ask → ℕ → SentRow → SentRow
sent_row_after ask m row = record { message = row.message; settled = is_some (settled_by m ask) || row.settled }

-- the row of a new message
abbrev pub new_sent_row : Message → SentRow
new_sent_row message = record { message = message; settled = false }

-- the lists with one more kept entry, where this is read of them before
abbrev pub step_by : View → State → Ask → Reply → State
step_by v st ask reply = record {
  host = st.host;
  moment = unwrap_or (clock_of ask) st.moment;
  users = added st.users (user_by ask reply);
  shares = added (map_numbered (share_row_after ask) 1 st.shares) (option_map new_share_row (share_by v.host v.users v.shares (effective_in v) ask));
  limits = if is_limit ask then st.limits + 1 else st.limits;
  nodes = nodes_after (act_by (root_among v.users v.shares) ask) st.nodes;
  received = added (map_numbered (received_row_after v.messages ask) 1 st.received) (option_map new_received_row (offer_by ask));
  requests = added (map_numbered (request_row_after v.messages ask) 1 st.requests) (option_map new_request_row (request_by ask));
  sent = map_numbered (sent_row_after ask) 1 st.sent ++ map new_sent_row (sends v ask);
}

-- the lists with one more kept entry
abbrev pub step : State → Ask → Reply → State
step st ask reply = step_by (view_in st) st ask reply

-- the lists of a host after these kept entries
abbrev pub state_of : List ℕ → List Entry → State
state_of host [] = empty_of host
state_of host (e ∷ before) = step (state_of host before) e.ask e.reply

-- the lists after an ask that was answered so
abbrev pub after : State → Ask → Reply → State
after st ask reply = if changes_in (view_in st) ask reply then step st ask reply else st

-- whether an ask does something to the shares that are there, to the records, to the requests, to the messages
abbrev pub touches_shares : Ask → Bool
touches_shares (asks.Local key (commands.Unshare id)) = true
touches_shares (asks.Local key (commands.Limit id perms)) = true
touches_shares (asks.Local key (commands.Expire id until)) = true
touches_shares (asks.Notice (notices.Declined id secret) fresh) = true
touches_shares (asks.Notice (notices.ReshareUndo id secret) fresh) = true
touches_shares _ = false

abbrev pub touches_records : Ask → Bool
touches_records (asks.Local key (commands.Accept number)) = true
touches_records (asks.Local key (commands.Decline number)) = true
touches_records (asks.Notice (notices.Unshared id secret) fresh) = true
touches_records (asks.Notice (notices.Changed id secret serial perms) fresh) = true
touches_records (asks.Settle number status id) = true
touches_records _ = false

abbrev pub touches_requests : Ask → Bool
touches_requests (asks.Local key (commands.Undo request)) = true
touches_requests (asks.Settle number status id) = true
touches_requests _ = false

abbrev pub touches_messages : Ask → Bool
touches_messages (asks.Settle number status id) = true
touches_messages _ = false

-- the lists are those of what is kept of the history
abbrev pub Stands : State → List Entry → Type 0
Stands st g = st ≡ state_of st.host (kept st.host g)
