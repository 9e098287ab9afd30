use Rattle.std.proofs.Common.{◌≡◌, ℕ, List, [], Bool, true, false, ◌&&◌, Option, Some, None, refl, sym, ap, ◌∙◌, if◌then◌else◌, option_map}
use Rattle.std.specs.Prelude.{IsSome, IsSomeAnd, IfSome}
use Rattle.std.specs.Option.{option_map_or}
use Rattle.ocm_types.specs.declared.letters.Letter.{Letter}
use Rattle.ocm_types.specs.declared.letters.Numbered.{Numbered}
use Rattle.ocm_types.specs.declared.phases.Phase.{Phase}
use Rattle.ocm_types.specs.declared.phases.Phase.TheVariants as phases
use Rattle.ocm_types.specs.declared.phases.RequestPhase.{RequestPhase}
use Rattle.ocm_entry.specs.declared.asks.Ask.TheVariants as asks
use Rattle.ocm_entry.specs.declared.replies.Reply.{Reply}
use Rattle.ocm_entry.specs.declared.replies.Reply.TheVariants.{Done, Left}
use Rattle.ocm_entry.specs.declared.rows.Request.{Request}
use Rattle.ocm_rules.specs.declared.rows.Message.{Message}
use Rattle.ocm_rules.specs.declared.rows.ReceivedRow.{ReceivedRow}
use Rattle.ocm_rules.specs.declared.rows.SentRow.{SentRow}
use Rattle.ocm_rules.specs.declared.rows.Subject.{Subject}
use Rattle.ocm_rules.specs.declared.rows.Subject.TheVariants as subjects
use Rattle.ocm_rules.specs.Numbers.{at_number}
use Rattle.ocm_rules.specs.Messages.{as_sent}
use Rattle.ocm_rules.specs.Requests.{answered_state}
use Rattle.ocm_rules.specs.Settlements.{is_acceptance, is_success, settles, wants_id}
use Rattle.ocm_rules.specs.Answers.{settle_reply}
use Rattle.ocm_rules.specs.State.{State, answered_phase, answered_request, changed_at, is_accepting, is_asked, step, view_in}
use Rattle.ocm_tables.specs.declared.changes.TableChange.TheVariants as changes
use Rattle.ocm_tables.specs.declared.changes.Outcome.{Outcome}
use Rattle.ocm_tables.specs.Changes.{IsMessage, acted, changed, with_outcome}
use Rattle.ocm_tables.specs.Tables.{record_in}
use Rattle.ocm_incoming.specs.declared.rows.Record.{Record}
use Rattle.ocm_rules_steps.proofs.Rows.{none-sent}
use Rattle.ocm_rules_steps.proofs.OtherSteps.{settle-other}
use Rattle.ocm_plan_peers.specs.Settled.{settled_in}
use Rattle.ocm_plan_peers.proofs.ListRows.{changed_at-alike, changed_at-none, row-part}

-- ---- what becomes of a record

-- the rows where the record of this number was answered so
abbrev answered_rows : State → ℕ → ℕ → List ReceivedRow
answered_rows st number status = changed_at number (λ (row : ReceivedRow). record row { phase = answered_phase status row.phase }) st.received

same-phase : (row : ReceivedRow) (status : ℕ) (b : Bool) → b ≡ false → (let r : ReceivedRow = record row { phase = if b then (if is_success status then phases.Confirmed else phases.Refused) else row.phase } in r) ≡ row
same-phase row status true e = absurd (cc)
same-phase row status false e = refl

-- a record that does not wait stays as it is
pub phase-stays : (st : State) (number status : ℕ) (sent : List SentRow) → ((row : ReceivedRow) → at_number st.received number ≡ Some row → is_accepting row.phase ≡ false)
    → (let r : State = record st { sent = sent } in let s : State = record st { received = answered_rows st number status; sent = sent } in r ≡ s)
phase-stays st number status sent waits =
    ap (λ (rows : List ReceivedRow). let r : State = record st { received = rows; sent = sent } in r)
    (sym (changed_at-none number _ st.received (λ row there. same-phase row status (is_accepting row.phase) (waits row there))))

new-phase : (row : ReceivedRow) (status : ℕ) (phase : Phase) (b : Bool) → b ≡ true → phase ≡ (if is_success status then phases.Confirmed else phases.Refused)
    → (let r : ReceivedRow = record row { phase = phase } in let s : ReceivedRow = record row { phase = if b then (if is_success status then phases.Confirmed else phases.Refused) else row.phase } in r ≡ s)
new-phase row status phase true e same = ap (λ (p : Phase). let r : ReceivedRow = record row { phase = p } in r) same
new-phase row status phase false e same = absurd (cc)

-- a record that waits has another phase
pub phase-changes : (st : State) (number status : ℕ) (phase : Phase) (sent : List SentRow) → ((row : ReceivedRow) → at_number st.received number ≡ Some row → is_accepting row.phase ≡ true)
    → phase ≡ (if is_success status then phases.Confirmed else phases.Refused)
    → (let r : State = record st { received = changed_at number (λ (row : ReceivedRow). record row { phase = phase }) st.received; sent = sent } in
    let s : State = record st { received = answered_rows st number status; sent = sent } in r ≡ s)
phase-changes st number status phase sent waits same =
    ap (λ (rows : List ReceivedRow). let r : State = record st { received = rows; sent = sent } in r)
    (changed_at-alike number _ _ st.received (λ row there. new-phase row status phase (is_accepting row.phase) (waits row there) same))

-- the phase of a record is that of its row
pub record-phase : (o : Option ReceivedRow) (found : Record) (row : ReceivedRow) → Some found ≡ option_map record_in o → o ≡ Some row → row.phase ≡ found.phase
record-phase None found row e there = absurd (cc)
record-phase (Some other) found row e there =
    let of_record : Option Record → Phase = λ x. option_map_or (λ (r : Record). r.phase) x phases.Pending in
    let of_row : Option ReceivedRow → Phase = λ x. option_map_or (λ (r : ReceivedRow). r.phase) x phases.Pending in
    sym (ap of_row there) ∙ sym (ap of_record e)

-- where there is no record none waits
pub no-record : (o : Option ReceivedRow) (row : ReceivedRow) → None ≡ option_map record_in o → o ≡ Some row → ⊥
no-record None row e there = cc
no-record (Some other) row e there = cc

-- and where there is one there is its row
pub record-there : (o : Option ReceivedRow) (found : Record) → Some found ≡ option_map record_in o → IsSome o
record-there None found e = absurd (cc)
record-there (Some other) found e = refl

-- ---- what becomes of a request

-- the rows where the request of this number was answered so
abbrev answered_requests : State → ℕ → ℕ → Option (List ℕ) → List Request
answered_requests st request status id = changed_at request (λ (row : Request). record row { state = answered_request status id row.state }) st.requests

same-state : (row : Request) (status : ℕ) (id : Option (List ℕ)) (b : Bool) → b ≡ false → (let r : Request = record row { state = if b then answered_state status id else row.state } in r) ≡ row
same-state row status id true e = absurd (cc)
same-state row status id false e = refl

-- a request that does not wait stays as it is
pub state-stays : (st : State) (request status : ℕ) (id : Option (List ℕ)) (sent : List SentRow) → ((row : Request) → at_number st.requests request ≡ Some row → is_asked row.state ≡ false)
    → (let r : State = record st { sent = sent } in let s : State = record st { requests = answered_requests st request status id; sent = sent } in r ≡ s)
state-stays st request status id sent waits =
    ap (λ (rows : List Request). let r : State = record st { requests = rows; sent = sent } in r)
    (sym (changed_at-none request _ st.requests (λ row there. same-state row status id (is_asked row.state) (waits row there))))

new-state : (row : Request) (status : ℕ) (id : Option (List ℕ)) (state : RequestPhase) (b : Bool) → b ≡ true → state ≡ answered_state status id
    → (let r : Request = record row { state = state } in let s : Request = record row { state = if b then answered_state status id else row.state } in r ≡ s)
new-state row status id state true e same = ap (λ (p : RequestPhase). let r : Request = record row { state = p } in r) same
new-state row status id state false e same = absurd (cc)

-- a request that waits has another state
pub state-changes : (st : State) (request status : ℕ) (id : Option (List ℕ)) (state : RequestPhase) (sent : List SentRow) → ((row : Request) → at_number st.requests request ≡ Some row → is_asked row.state ≡ true)
    → state ≡ answered_state status id
    → (let r : State = record st { requests = changed_at request (λ (row : Request). record row { state = state }) st.requests; sent = sent } in
    let s : State = record st { requests = answered_requests st request status id; sent = sent } in r ≡ s)
state-changes st request status id state sent waits same =
    ap (λ (rows : List Request). let r : State = record st { requests = rows; sent = sent } in r)
    (changed_at-alike request _ _ st.requests (λ row there. new-state row status id state (is_asked row.state) (waits row there) same))

-- two rows at one number are one row
pub one-row : {X : Type 0} (o : Option X) (x y : X) → Some x ≡ o → o ≡ Some y → x ≡ y
one-row None x y e f = absurd (cc)
one-row (Some z) x y e f = let first : x ≡ z = cc in let second : z ≡ y = cc in first ∙ second

-- ---- the message

-- the message of this subject and this letter
pub message-about : (o : Option Message) (letter : Letter) (subject : Subject) → IsSomeAnd o (λ (m : Message). m.letter ≡ letter) → Some subject ≡ option_map (λ (m : Message). m.subject) o
    → (m : Message) × (o ≡ Some m) × (m.letter ≡ letter) × (m.subject ≡ subject)
message-about None letter subject h e = absurd (cc)
message-about (Some m) letter subject h e = let same : m.subject ≡ subject = cc in (m, refl, h, same)

pub no-subject : (o : Option Message) (letter : Letter) → IsSomeAnd o (λ (m : Message). m.letter ≡ letter) → None ≡ option_map (λ (m : Message). m.subject) o → ⊥
no-subject None letter h e = h
no-subject (Some m) letter h e = cc

-- the message of a number, and its letter
pub message-letter : (n : ℕ) (o : Option Message) (sent : Numbered) → Some sent ≡ option_map (λ (m : Message). as_sent (n, m)) o → IsSomeAnd o (λ (m : Message). m.letter ≡ sent.letter)
message-letter n None sent e = absurd (cc)
message-letter n (Some m) sent e =
    let of_message : Option Numbered → Letter = λ x. option_map_or (λ (s : Numbered). s.letter) x m.letter in
    sym (ap of_message e)

pub message-there : (n : ℕ) (o : Option Message) (sent : Numbered) → Some sent ≡ option_map (λ (m : Message). as_sent (n, m)) o → IsSome o
message-there n None sent e = absurd (cc)
message-there n (Some m) sent e = refl

pub message-row : (st : State) (number : ℕ) → IsSome (at_number (view_in st).messages number) → IsMessage st number
message-row st number h = part-there (at_number st.sent number) (rw (← row-part (λ (row : SentRow). row.message) st.sent number) h)
  where
    part-there : (o : Option SentRow) → IsSome (option_map (λ (row : SentRow). row.message) o) → IsSome o
    part-there None e = absurd (cc)
    part-there (Some row) e = refl

-- ---- the reply

pub reply-settled : (o : Option Message) (b : Bool) (status : ℕ) (id : Option (List ℕ)) → IsSome o → b ≡ true → Done ≡ settle_reply o b status id
reply-settled None b status id h e = absurd (cc)
reply-settled (Some m) b status id h e = rw e refl

pub reply-left : (o : Option Message) (b c : Bool) (status : ℕ) (id : Option (List ℕ)) → IsSome o → IfSome o (λ (m : Message). c ≡ settles m.letter status id) → b ≡ false → c ≡ false → Left ≡ settle_reply o b status id
reply-left None b c status id h k e f = absurd (cc)
reply-left (Some m) b c status id h k e f = let no : settles m.letter status id ≡ false = sym k ∙ f in rw (e, no) refl

pub reply-done : (o : Option Message) (b c : Bool) (status : ℕ) (id : Option (List ℕ)) → IsSome o → IfSome o (λ (m : Message). c ≡ settles m.letter status id) → b ≡ false → c ≡ true → Done ≡ settle_reply o b status id
reply-done None b c status id h k e f = absurd (cc)
reply-done (Some m) b c status id h k e f = let yes : settles m.letter status id ≡ true = sym k ∙ f in rw (e, yes) refl

-- ---- the change

and-none : (b : Bool) → (b && false) ≡ false
and-none true = refl
and-none false = refl

-- the answer to a message that is no acceptance does nothing more to a record
pub settled-record : (st : State) (number status : ℕ) (id : Option (List ℕ)) (reply : Reply) (m : Message) (n : ℕ) → at_number (view_in st).messages number ≡ Some m → is_acceptance m.letter ≡ false → m.subject ≡ subjects.Received n
    → settled_in st number ≡ step st (asks.Settle number status id) reply
settled-record st number status id reply m n there letter subject = sym (settle-other st number status id reply m there (λ k. rw letter refl) (λ r. rw subject (and-none (wants_id m.letter))))

-- nor one that wants no id to a request
pub settled-request : (st : State) (number status : ℕ) (id : Option (List ℕ)) (reply : Reply) (m : Message) (r : ℕ) → at_number (view_in st).messages number ≡ Some m → wants_id m.letter ≡ false → m.subject ≡ subjects.Request r
    → settled_in st number ≡ step st (asks.Settle number status id) reply
settled-request st number status id reply m r there letter subject = sym (settle-other st number status id reply m there (λ n. rw subject (and-none (is_acceptance m.letter))) (λ k. rw letter refl))

-- nor one about a share
pub settled-share : (st : State) (number status : ℕ) (id : Option (List ℕ)) (reply : Reply) (m : Message) (i : ℕ) → at_number (view_in st).messages number ≡ Some m → m.subject ≡ subjects.Share i
    → settled_in st number ≡ step st (asks.Settle number status id) reply
settled-share st number status id reply m i there subject = sym (settle-other st number status id reply m there (λ n. rw subject (and-none (is_acceptance m.letter))) (λ r. rw subject (and-none (wants_id m.letter))))

pub settle-makes : (st : State) (number status : ℕ) (id : Option (List ℕ)) (outcome : Outcome) → with_outcome (settled_in st number) outcome ≡ step st (asks.Settle number status id) Done
    → changed st (changes.Settle number outcome) [] ≡ step st (asks.Settle number status id) Done
settle-makes st number status id outcome e = none-sent (acted st (changes.Settle number outcome)) ∙ e

-- where there is no row none waits
pub no-row : {X : Type 0} (o : Option X) (x : X) → None ≡ o → o ≡ Some x → ⊥
no-row None x e there = cc
no-row (Some y) x e there = cc
