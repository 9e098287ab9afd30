-- Messages about requests are at most those that are counted for the requests: one for each, and two once it was taken back.
use Rattle.std.proofs.Common.{◌≡◌, ℕ, ◌+◌, ◌≤◌, List, ◌∷◌, length, Bool, true, false, ◌&&◌, refl, ap, ◌∙◌, arith}
use Rattle.std.specs.Prelude.{Option, Some, None, nat_eq, if◌then◌else◌, is_some, option_map, option_to_list}
use Rattle.std.specs.Option.{option_map_or}
use Rattle.ocm_types.specs.declared.phases.RequestPhase.{RequestPhase}
use Rattle.ocm_types.specs.declared.phases.RequestPhase.TheVariants as states
use Rattle.ocm_entry.specs.declared.asks.Ask.{Ask}
use Rattle.ocm_entry.specs.declared.asks.Ask.TheVariants as asks
use Rattle.ocm_entry.specs.declared.asks.Cmd.TheVariants as commands
use Rattle.ocm_entry.specs.declared.entries.Entry.{Entry}
use Rattle.ocm_entry.specs.declared.rows.Request.{Request}
use Rattle.ocm_rules.specs.declared.rows.Message.{Message}
use Rattle.ocm_rules.specs.declared.rows.Subject.TheVariants as subjects
use Rattle.ocm_rules.specs.Numbers.{added, at_number}
use Rattle.ocm_rules.specs.Users.{user_of_key}
use Rattle.ocm_rules.specs.Settlements.{wants_id}
use Rattle.ocm_rules.specs.Requests.{Reshare, answered_state, child_of, request_by, requests}
use Rattle.ocm_rules.specs.Views.{View, request_of_user}
use Rattle.ocm_rules.specs.Messages.{reshare_request, state, undo, view_of}
use Rattle.ocm_rules.specs.Answers.{local_reply, reply_in}
use Rattle.ocm_rules.specs.History.{IsAnswered, changes_in}
use Rattle.ocm_rules.specs.State.{map_numbered, is_about, is_asked, new_request_row, request_row_after}
use Rattle.ocm_rules.proofs.Away.{changed-answered}
use Rattle.ocm_rules.proofs.RequestRows.{request_row, request_rows, request_rows-step}
use Rattle.ocm_law_counts.specs.Counts.{about_requests, request_messages}
use Rattle.ocm_law_counts.proofs.Rows.{counted, counted-added, counted-grows, counted-sent, total-rows}
use Rattle.ocm_law_counts.proofs.Sending.{at-most-one, request_sends}
use Rattle.ocm_law_counts.proofs.Records.{phase-met, same-number}

-- ---- states

pub request-most : (s : RequestPhase) → request_messages s ≤ 2
request-most states.Undone = omega arith
request-most _ = omega arith

request-least : (s : RequestPhase) → 1 ≤ request_messages s
request-least states.Undone = omega arith
request-least _ = omega arith

granted-one : (s : RequestPhase) → is_some (child_of s) ≡ true → request_messages s ≡ 1
granted-one (states.Granted child) h = refl
granted-one _ h = absurd (cc)

granted-met : (v : View) (key : List ℕ) (r : ℕ) (user : Option ℕ) → changes_in v (asks.Local key (commands.Undo r)) (local_reply v user (commands.Undo r)) ≡ true → is_some (child_of (v.state r)) ≡ true
granted-met v key r None h = absurd (cc)
granted-met v key r (Some user) h = phase-met v key (commands.Undo r) (request_of_user v user r) (is_some (child_of (v.state r))) h

-- ---- rows

-- what is counted for a row
abbrev row_messages : Request → ℕ
row_messages row = request_messages row.state

undone-more : (b : Bool) (s : RequestPhase) → request_messages s ≤ request_messages (if b then states.Undone else s)
undone-more true s = let most = request-most s in omega arith
undone-more false s = omega arith

-- a state that an answer sets is no less than the one before
answered-more : (b : Bool) (to s : RequestPhase) → request_messages s ≤ request_messages (if b && is_asked s then to else s)
answered-more false to s = omega arith
answered-more true to states.Asked = request-least to
answered-more true to _ = omega arith

-- no row counts less after an entry
row-grows : (messages : List Message) (ask : Ask) (r : ℕ) (row : Request) → row_messages row ≤ row_messages (request_row_after messages ask r row)
row-grows messages (asks.Local key (commands.Undo request)) r row = undone-more (nat_eq request r) row.state
row-grows messages (asks.Settle number status id) r row =
    answered-more (option_map_or (is_about wants_id (subjects.Request r)) (at_number messages number) false) (answered_state status id) row.state
row-grows messages _ r row = omega arith

-- these are the rows of what is read
abbrev ReadIn : View → (ℕ → Reshare → Request) → Type 0
ReadIn v row = (r : ℕ) (request : Reshare) → at_number v.requests r ≡ Some request → (row r request).state ≡ v.state r

abbrev rows_before : View → (ℕ → Reshare → Request) → List Request
rows_before v row = map_numbered row 1 v.requests

abbrev rows_after : View → (ℕ → Reshare → Request) → Ask → List Request
rows_after v row ask = map_numbered (request_row_after v.messages ask) 1 (rows_before v row)

-- what a new row counts
abbrev new_messages : Ask → ℕ
new_messages ask = option_map_or row_messages (option_map new_request_row (request_by ask)) 0

at-most-undo : (o : Option Message) → length (option_to_list o) ≤ 1
at-most-undo None = omega arith
at-most-undo (Some m) = omega arith

-- the rows count more by what an entry sends about them, a new one among them
rows-grow : (v : View) (row : ℕ → Reshare → Request) → ReadIn v row → (ask : Ask) → changes_in v ask (reply_in v ask) ≡ true
    → counted row_messages (rows_before v row) + length (request_sends v ask) ≤ counted row_messages (rows_after v row ask) + new_messages ask
rows-grow v row read (asks.Local key (commands.Reshare number with perms)) changed =
    let ask : Ask = asks.Local key (commands.Reshare number with perms) in
    let more = counted-grows row_messages row (request_row_after v.messages ask) v.requests (λ r request there. row-grows v.messages ask r (row r request)) in
    let sent = at-most-one (reshare_request (length v.requests + 1) with perms) (at_number v.offers number) in
    omega arith
rows-grow v row read (asks.Local key (commands.Undo number)) changed =
    let ask : Ask = asks.Local key (commands.Undo number) in
    let more = counted-sent row_messages row (request_row_after v.messages ask) v.requests (λ r request there. row-grows v.messages ask r (row r request)) number (length (request_sends v ask))
    (at-most-undo (undo v number))
    (λ none. rw none refl)
    (λ request there.
    let one = granted-one (v.state number) (granted-met v key number (user_of_key v.users key) changed) in
    rw (same-number number, read number request there) (omega arith)) in
    omega arith
rows-grow v row read ask changed =
    let more = counted-grows row_messages row (request_row_after v.messages ask) v.requests (λ r request there. row-grows v.messages ask r (row r request)) in omega arith

-- ---- histories

-- what is counted for requests is what their rows count
requests-rows : (host : List ℕ) (g : List Entry) → about_requests host g ≡ counted row_messages (request_rows host g)
requests-rows host g = total-rows (λ r. request_messages (state host g r)) row_messages (request_row host g) (requests g) (λ r request there. refl)

-- what is counted for requests is more by what an entry sends about them
pub requests-step : (host : List ℕ) (e : Entry) (before : List Entry) → IsAnswered host (e ∷ before)
    → about_requests host before + length (request_sends (view_of host before) e.ask) ≤ about_requests host (e ∷ before)
requests-step host e before answered =
    let v : View = view_of host before in
    let rows = rows_after v (request_row host before) e.ask in
    let old = requests-rows host before in
    let new : about_requests host (e ∷ before) ≡ counted row_messages (added rows (option_map new_request_row (request_by e.ask))) = requests-rows host (e ∷ before) ∙ ap (counted row_messages) (request_rows-step host e before answered) in
    let behind = counted-added row_messages rows (option_map new_request_row (request_by e.ask)) in
    let more = rows-grow v (request_row host before) (λ r request there. refl) e.ask (changed-answered host before e answered.0 answered.1) in
    omega arith
