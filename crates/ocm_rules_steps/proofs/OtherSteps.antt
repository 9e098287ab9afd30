use Rattle.std.proofs.Common.{◌≡◌, ℕ, List, [], ◌∷◌, ◌++◌, true, false, Option, Some, refl, ◌∙◌}
use Rattle.ocm_types.specs.declared.letters.Letter.{Letter}
use Rattle.ocm_types.specs.declared.letters.Letter.TheVariants as letters
use Rattle.ocm_types.specs.declared.letters.Notice.TheVariants as notices
use Rattle.ocm_types.specs.declared.letters.Offer.{Offer}
use Rattle.ocm_entry.specs.declared.asks.Ask.{Ask}
use Rattle.ocm_entry.specs.declared.asks.Ask.TheVariants as asks
use Rattle.ocm_entry.specs.declared.replies.Reply.{Reply}
use Rattle.ocm_entry.specs.declared.replies.Reply.TheVariants.{Key}
use Rattle.ocm_entry.specs.declared.rows.User.{User}
use Rattle.ocm_entry.specs.declared.rows.Request.{Request}
use Rattle.ocm_rules.specs.declared.rows.Message.{Message}
use Rattle.ocm_rules.specs.declared.rows.ReceivedRow.{ReceivedRow}
use Rattle.ocm_rules.specs.declared.rows.SentRow.{SentRow}
use Rattle.ocm_rules.specs.declared.rows.Subject.TheVariants as subjects
use Rattle.ocm_rules.specs.Numbers.{at_number}
use Rattle.ocm_rules.specs.Settlements.{is_acceptance, wants_id}
use Rattle.ocm_rules.specs.State.{State, answered_phase, answered_request, changed_at, is_about, map_numbered, new_received_row, received_row_after, request_row_after, step, view_in}
use Rattle.ocm_rules.proofs.Steps.{map_numbered-same, other-shares, settle-step, settle_record-step, settle_no_record-step, settle_request-step, settle_no_request-step}
use Rattle.ocm_rules_steps.proofs.Rows.{step-rows, step-added, none-sent}

pub tick-step : (st : State) (clock : ℕ) (reply : Reply) → (let r : State = record st { moment = clock } in step st (asks.Tick clock) reply ≡ r)
tick-step st clock reply = step-added st (asks.Tick clock) reply refl refl refl refl ∙ none-sent (let r : State = record st { moment = clock } in r)

pub user-step : (st : State) (name fresh key : List ℕ) → (let user : User = record { name = name; key = key } in let r : State = record st { users = st.users ++ user ∷ [] } in step st (asks.AddUser name fresh) (Key key) ≡ r)
user-step st name fresh key =
    let user : User = record { name = name; key = key } in
    step-added st (asks.AddUser name fresh) (Key key) refl refl refl refl ∙ none-sent (let r : State = record st { users = st.users ++ user ∷ [] } in r)

pub offer-step : (st : State) (offer : Offer) (reply : Reply) → (let r : State = record st { received = st.received ++ new_received_row offer ∷ [] } in step st (asks.Offer offer) reply ≡ r)
offer-step st offer reply = step-added st (asks.Offer offer) reply refl refl refl refl ∙ none-sent (let r : State = record st { received = st.received ++ new_received_row offer ∷ [] } in r)

-- an acceptance wants no id
no_id : (letter : Letter) → is_acceptance letter ≡ true → wants_id letter ≡ false
no_id (letters.Offer offer) e = refl
no_id (letters.Notice (notices.Accepted id secret owner with perms)) e = refl
no_id (letters.Notice (notices.Declined id secret)) e = refl
no_id (letters.Notice (notices.Unshared id secret)) e = refl
no_id (letters.Notice (notices.ReshareRequest id secret with sender_id perms)) e = absurd (cc)
no_id (letters.Notice (notices.ReshareUndo id secret)) e = refl
no_id (letters.Notice (notices.Changed id secret serial perms)) e = refl

-- what wants an id is no acceptance
no_acceptance : (letter : Letter) → wants_id letter ≡ true → is_acceptance letter ≡ false
no_acceptance (letters.Offer offer) e = refl
no_acceptance (letters.Notice (notices.Accepted id secret owner with perms)) e = absurd (cc)
no_acceptance (letters.Notice (notices.Declined id secret)) e = refl
no_acceptance (letters.Notice (notices.Unshared id secret)) e = refl
no_acceptance (letters.Notice (notices.ReshareRequest id secret with sender_id perms)) e = refl
no_acceptance (letters.Notice (notices.ReshareUndo id secret)) e = refl
no_acceptance (letters.Notice (notices.Changed id secret serial perms)) e = refl

pub settle-acceptance : (st : State) (number status : ℕ) (id : Option (List ℕ)) (reply : Reply) (m : Message) (n : ℕ)
    → at_number (view_in st).messages number ≡ Some m → is_acceptance m.letter ≡ true → m.subject ≡ subjects.Received n
    → (let r : State = record st { received = changed_at n (λ (row : ReceivedRow). record row { phase = answered_phase status row.phase }) st.received; sent = changed_at number (λ (row : SentRow). record row { settled = true }) st.sent } in
    step st (asks.Settle number status id) reply ≡ r)
settle-acceptance st number status id reply m n there letter subject =
    let ask : Ask = asks.Settle number status id in
    let messages = (view_in st).messages in
    let after : State = record st { received = changed_at n (λ (row : ReceivedRow). record row { phase = answered_phase status row.phase }) st.received; sent = changed_at number (λ (row : SentRow). record row { settled = true }) st.sent } in
    step-rows st ask reply st.shares after.received st.requests after.sent (other-shares ask st.shares refl)
    (settle_record-step messages number status id m n st.received there letter subject)
    (settle_no_request-step messages number status id m st.requests there (no_id m.letter letter)) (settle-step number status id st.sent)
    ∙ none-sent after

pub settle-request : (st : State) (number status : ℕ) (id : Option (List ℕ)) (reply : Reply) (m : Message) (r : ℕ)
    → at_number (view_in st).messages number ≡ Some m → wants_id m.letter ≡ true → m.subject ≡ subjects.Request r
    → (let a : State = record st { requests = changed_at r (λ (row : Request). record row { state = answered_request status id row.state }) st.requests; sent = changed_at number (λ (row : SentRow). record row { settled = true }) st.sent } in
    step st (asks.Settle number status id) reply ≡ a)
settle-request st number status id reply m r there letter subject =
    let ask : Ask = asks.Settle number status id in
    let messages = (view_in st).messages in
    let after : State = record st { requests = changed_at r (λ (row : Request). record row { state = answered_request status id row.state }) st.requests; sent = changed_at number (λ (row : SentRow). record row { settled = true }) st.sent } in
    step-rows st ask reply st.shares st.received after.requests after.sent (other-shares ask st.shares refl)
    (settle_no_record-step messages number status id m st.received there (no_acceptance m.letter letter))
    (settle_request-step messages number status id m r st.requests there letter subject) (settle-step number status id st.sent)
    ∙ none-sent after

pub settle-other : (st : State) (number status : ℕ) (id : Option (List ℕ)) (reply : Reply) (m : Message)
    → at_number (view_in st).messages number ≡ Some m
    → ((n : ℕ) → is_about is_acceptance (subjects.Received n) m ≡ false) → ((r : ℕ) → is_about wants_id (subjects.Request r) m ≡ false)
    → (let a : State = record st { sent = changed_at number (λ (row : SentRow). record row { settled = true }) st.sent } in step st (asks.Settle number status id) reply ≡ a)
settle-other st number status id reply m there no_record no_request =
    let ask : Ask = asks.Settle number status id in
    let messages = (view_in st).messages in
    let after : State = record st { sent = changed_at number (λ (row : SentRow). record row { settled = true }) st.sent } in
    let received : map_numbered (received_row_after messages ask) 1 st.received ≡ st.received = map_numbered-same (received_row_after messages ask) 1 st.received (λ j row. let none = no_record j in rw (there, none) refl) in
    let requests : map_numbered (request_row_after messages ask) 1 st.requests ≡ st.requests = map_numbered-same (request_row_after messages ask) 1 st.requests (λ j row. let none = no_request j in rw (there, none) refl) in
    step-rows st ask reply st.shares st.received st.requests after.sent (other-shares ask st.shares refl) received requests (settle-step number status id st.sent)
    ∙ none-sent after
