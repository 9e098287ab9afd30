use Rattle.std.proofs.Common.{◌≡◌, ℕ, zero, suc, ◌+◌, ◌<◌, List, [], ◌∷◌, Bool, true, false, ◌&&◌, ◌||◌, refl, ap, ◌∙◌, arith, eqb-true, eq-eqb}
use Rattle.std.specs.Prelude.{Option, Some, None, slice_get, slice_set, unwrap_or, is_some, nat_eq, if◌then◌else◌}
use Rattle.std.specs.Option.{option_or}
use Rattle.std.proofs.lemmas.Cmp.{nat_eq_equiv}
use Rattle.ocm_types.specs.declared.letters.Notice.TheVariants as notices
use Rattle.ocm_types.specs.declared.phases.Phase.{Phase}
use Rattle.ocm_types.specs.declared.phases.Phase.TheVariants as phases
use Rattle.ocm_types.specs.declared.phases.RequestPhase.{RequestPhase}
use Rattle.ocm_types.specs.declared.phases.RequestPhase.TheVariants as states
use Rattle.ocm_types.specs.declared.rights.Rights.{Rights}
use Rattle.ocm_entry.specs.declared.asks.Ask.{Ask}
use Rattle.ocm_entry.specs.declared.asks.Ask.TheVariants as asks
use Rattle.ocm_entry.specs.declared.asks.Cmd.TheVariants as commands
use Rattle.ocm_entry.specs.declared.rows.Request.{Request}
use Rattle.ocm_rules.specs.declared.rows.Message.{Message}
use Rattle.ocm_rules.specs.declared.rows.Subject.TheVariants.{Received}
use Rattle.ocm_rules.specs.declared.rows.Subject.TheVariants as subjects
use Rattle.ocm_rules.specs.declared.rows.ShareRow.{ShareRow}
use Rattle.ocm_rules.specs.declared.rows.ReceivedRow.{ReceivedRow}
use Rattle.ocm_rules.specs.declared.rows.SentRow.{SentRow}
use Rattle.ocm_rules.specs.Numbers.{at_number, is_number}
use Rattle.ocm_rules.specs.Shares.{named}
use Rattle.ocm_rules.specs.Settlements.{Settlement, is_acceptance, is_success, wants_id}
use Rattle.ocm_rules.specs.Requests.{answered_state}
use Rattle.ocm_rules.specs.State.{map_numbered, changed_at, is_accepting, is_asked, answered_phase, answered_request, share_row_after, received_row_after, request_row_after, sent_row_after, touches_shares, touches_records, touches_requests, touches_messages}
use Rattle.ocm_rules.proofs.Numbering.{map_numbered-alike}
use Rattle.ocm_rules.proofs.Searches.{some-same}

-- items that stay as they are
pub map_numbered-same : {X : Type 0} (f : ℕ → X → X) (n : ℕ) (xs : List X) → ((j : ℕ) (x : X) → f j x ≡ x) → map_numbered f n xs ≡ xs
map_numbered-same f n [] h = refl
map_numbered-same f n (x ∷ xs) h = let first = h n x in let rest = map_numbered-same f (n + 1) xs h in rw (first, rest) refl

-- ---- one item is set

changed-none : {X : Type 0} (i : ℕ) (change : X → X) (n : ℕ) (xs : List X) → i < n → map_numbered (λ j x. if nat_eq i j then change x else x) n xs ≡ xs
changed-none i change n [] h = refl
changed-none i change n (x ∷ xs) h =
    let other : nat_eq i n ≡ false = not_same in
    let rest = changed-none i change (n + 1) xs (omega (arith, h)) in
    rw (other, rest) refl
  where
    not_same : nat_eq i n ≡ false
    not_same = by_test (nat_eq i n) refl
      where
        by_test : (b : Bool) → nat_eq i n ≡ b → b ≡ false
        by_test true e = absurd (let same = eqb-true i n e in omega (arith, same, h))
        by_test false e = refl

changed-from : {X : Type 0} (i : ℕ) (change : X → X) (n : ℕ) (xs : List X) (x : X) → slice_get xs i ≡ Some x → map_numbered (λ j y. if nat_eq (n + i) j then change y else y) n xs ≡ slice_set xs i (change x)
changed-from i change n [] x h = absurd (cc)
changed-from zero change n (y ∷ xs) x h =
    let here : nat_eq (n + 0) n ≡ true = eq-eqb (n + 0) n (omega arith) in
    let rest = changed-none (n + 0) change (n + 1) xs (omega arith) in
    let same : y ≡ x = some-same y x h in
    rw (here, rest, same) refl
changed-from (suc i) change n (y ∷ xs) x h =
    let next : n + suc i ≡ n + 1 + i = omega arith in
    let other : nat_eq (n + 1 + i) n ≡ false = not_same in
    let rest = changed-from i change (n + 1) xs x h in
    ap (λ k. map_numbered (λ j z. if nat_eq k j then change z else z) n (y ∷ xs)) next ∙ rw (other, rest) refl
  where
    not_same : nat_eq (n + 1 + i) n ≡ false
    not_same = by_test (nat_eq (n + 1 + i) n) refl
      where
        by_test : (b : Bool) → nat_eq (n + 1 + i) n ≡ b → b ≡ false
        by_test true e = absurd (let same = eqb-true (n + 1 + i) n e in omega (arith, same))
        by_test false e = refl

-- the item of a number changed is that item set
pub changed_at-set : {X : Type 0} (i : ℕ) (change : X → X) (xs : List X) (x : X) → slice_get xs i ≡ Some x → changed_at (i + 1) change xs ≡ slice_set xs i (change x)
changed_at-set i change xs x h =
    let e : i + 1 ≡ 1 + i = omega arith in
    ap (λ k. map_numbered (λ j y. if nat_eq k j then change y else y) 1 xs) e ∙ changed-from i change 1 xs x h

-- ---- shares

pub limit-step : (key : List ℕ) (id : ℕ) (perms : Rights) (rows : List ShareRow) → map_numbered (share_row_after (asks.Local key (commands.Limit id perms))) 1 rows ≡ changed_at id (λ (row : ShareRow). record row { perms = perms }) rows
limit-step key id perms rows = map_numbered-alike _ _ 1 rows (λ j row. by_test row (nat_eq id j))
  where
    by_test : (row : ShareRow) (b : Bool) → (let r : ShareRow = record { share = row.share; perms = unwrap_or (if b then Some perms else None) row.perms; closed = row.closed; end = row.end } in r) ≡ (if b then record row { perms = perms } else row)
    by_test row true = refl
    by_test row false = refl

pub expire-step : (key : List ℕ) (id until : ℕ) (rows : List ShareRow) → map_numbered (share_row_after (asks.Local key (commands.Expire id until))) 1 rows ≡ changed_at id (λ (row : ShareRow). record row { end = Some until }) rows
expire-step key id until rows = map_numbered-alike _ _ 1 rows (λ j row. by_test row (nat_eq id j))
  where
    by_test : (row : ShareRow) (b : Bool) → (let r : ShareRow = record { share = row.share; perms = row.perms; closed = row.closed; end = option_or (if b then Some until else None) row.end } in r) ≡ (if b then record row { end = Some until } else row)
    by_test row true = refl
    by_test row false = refl

close-row : (id j : ℕ) (row : ShareRow) → (let r : ShareRow = record { share = row.share; perms = row.perms; closed = nat_eq j id || row.closed; end = row.end } in r) ≡ (if nat_eq id j then record row { closed = true } else row)
close-row id j row = rw (nat_eq_equiv.symm j id) (by_test (nat_eq id j))
  where
    by_test : (b : Bool) → (let r : ShareRow = record { share = row.share; perms = row.perms; closed = b || row.closed; end = row.end } in r) ≡ (if b then record row { closed = true } else row)
    by_test true = refl
    by_test false = refl

pub unshare-step : (key : List ℕ) (id : ℕ) (rows : List ShareRow) → map_numbered (share_row_after (asks.Local key (commands.Unshare id))) 1 rows ≡ changed_at id (λ (row : ShareRow). record row { closed = true }) rows
unshare-step key id rows = map_numbered-alike _ _ 1 rows (λ j row. close-row id j row)

named-row : (number : Option ℕ) (id : ℕ) → number ≡ Some id → (j : ℕ) (row : ShareRow)
    → (let r : ShareRow = record { share = row.share; perms = row.perms; closed = is_number j number || row.closed; end = row.end } in r) ≡ (if nat_eq id j then record row { closed = true } else row)
named-row number id h j row = rw h (close-row id j row)

pub decline-step : (text secret fresh : List ℕ) (id : ℕ) (rows : List ShareRow) → named text ≡ Some id
    → map_numbered (share_row_after (asks.Notice (notices.Declined text secret) fresh)) 1 rows ≡ changed_at id (λ (row : ShareRow). record row { closed = true }) rows
decline-step text secret fresh id rows h = map_numbered-alike _ _ 1 rows (named-row (named text) id h)

pub undo_notice-step : (text secret fresh : List ℕ) (id : ℕ) (rows : List ShareRow) → named text ≡ Some id
    → map_numbered (share_row_after (asks.Notice (notices.ReshareUndo text secret) fresh)) 1 rows ≡ changed_at id (λ (row : ShareRow). record row { closed = true }) rows
undo_notice-step text secret fresh id rows h = map_numbered-alike _ _ 1 rows (named-row (named text) id h)

other-share : (ask : Ask) → touches_shares ask ≡ false → (j : ℕ) (row : ShareRow) → share_row_after ask j row ≡ row
other-share (asks.Local key (commands.Unshare id)) h j row = absurd (cc)
other-share (asks.Local key (commands.Limit id perms)) h j row = absurd (cc)
other-share (asks.Local key (commands.Expire id until)) h j row = absurd (cc)
other-share (asks.Notice (notices.Declined id secret) fresh) h j row = absurd (cc)
other-share (asks.Notice (notices.ReshareUndo id secret) fresh) h j row = absurd (cc)
other-share _ h j row = refl

pub other-shares : (ask : Ask) (rows : List ShareRow) → touches_shares ask ≡ false → map_numbered (share_row_after ask) 1 rows ≡ rows
other-shares ask rows h = map_numbered-same (share_row_after ask) 1 rows (other-share ask h)

-- ---- records

phase-row : (row : ReceivedRow) (b : Bool) (phase : Phase) → (let r : ReceivedRow = record { offer = row.offer; phase = if b then phase else row.phase; told = row.told } in r) ≡ (if b then record row { phase = phase } else row)
phase-row row true phase = refl
phase-row row false phase = refl

pub accept-step : (messages : List Message) (key : List ℕ) (number : ℕ) (rows : List ReceivedRow) → map_numbered (received_row_after messages (asks.Local key (commands.Accept number))) 1 rows ≡ changed_at number (λ (row : ReceivedRow). record row { phase = phases.Accepting }) rows
accept-step messages key number rows = map_numbered-alike _ _ 1 rows (λ n row. phase-row row (nat_eq number n) phases.Accepting)

pub decline_record-step : (messages : List Message) (key : List ℕ) (number : ℕ) (rows : List ReceivedRow) → map_numbered (received_row_after messages (asks.Local key (commands.Decline number))) 1 rows ≡ changed_at number (λ (row : ReceivedRow). record row { phase = phases.Declined }) rows
decline_record-step messages key number rows = map_numbered-alike _ _ 1 rows (λ n row. phase-row row (nat_eq number n) phases.Declined)

other-record : (messages : List Message) (ask : Ask) → touches_records ask ≡ false → (n : ℕ) (row : ReceivedRow) → received_row_after messages ask n row ≡ row
other-record messages (asks.Local key (commands.Accept number)) h n row = absurd (cc)
other-record messages (asks.Local key (commands.Decline number)) h n row = absurd (cc)
other-record messages (asks.Notice (notices.Unshared id secret) fresh) h n row = absurd (cc)
other-record messages (asks.Notice (notices.Changed id secret serial perms) fresh) h n row = absurd (cc)
other-record messages (asks.Settle number status id) h n row = absurd (cc)
other-record messages _ h n row = refl

pub other-records : (messages : List Message) (ask : Ask) (rows : List ReceivedRow) → touches_records ask ≡ false → map_numbered (received_row_after messages ask) 1 rows ≡ rows
other-records messages ask rows h = map_numbered-same (received_row_after messages ask) 1 rows (other-record messages ask h)

-- ---- requests and messages

undo-row : (row : Request) (b : Bool) → (let r : Request = record { received = row.received; with = row.with; perms = row.perms; state = if b then states.Undone else row.state } in r) ≡ (if b then record row { state = states.Undone } else row)
undo-row row true = refl
undo-row row false = refl

pub undo-step : (messages : List Message) (key : List ℕ) (request : ℕ) (rows : List Request) → map_numbered (request_row_after messages (asks.Local key (commands.Undo request))) 1 rows ≡ changed_at request (λ (row : Request). record row { state = states.Undone }) rows
undo-step messages key request rows = map_numbered-alike _ _ 1 rows (λ r row. undo-row row (nat_eq request r))

other-request : (messages : List Message) (ask : Ask) → touches_requests ask ≡ false → (r : ℕ) (row : Request) → request_row_after messages ask r row ≡ row
other-request messages (asks.Local key (commands.Undo request)) h r row = absurd (cc)
other-request messages (asks.Settle number status id) h r row = absurd (cc)
other-request messages _ h r row = refl

pub other-requests : (messages : List Message) (ask : Ask) (rows : List Request) → touches_requests ask ≡ false → map_numbered (request_row_after messages ask) 1 rows ≡ rows
other-requests messages ask rows h = map_numbered-same (request_row_after messages ask) 1 rows (other-request messages ask h)

settle-row : (row : SentRow) (b : Bool) (status : ℕ) (id : Option (List ℕ)) → (let r : SentRow = record { message = row.message; settled = is_some (if b then (let s : Option Settlement = Some (record { status = status; id = id }) in s) else None) || row.settled } in r) ≡ (if b then record row { settled = true } else row)
settle-row row true status id = refl
settle-row row false status id = refl

pub settle-step : (number status : ℕ) (id : Option (List ℕ)) (rows : List SentRow) → map_numbered (sent_row_after (asks.Settle number status id)) 1 rows ≡ changed_at number (λ (row : SentRow). record row { settled = true }) rows
settle-step number status id rows = map_numbered-alike _ _ 1 rows (λ m row. settle-row row (nat_eq number m) status id)

other-message : (ask : Ask) → touches_messages ask ≡ false → (m : ℕ) (row : SentRow) → sent_row_after ask m row ≡ row
other-message (asks.Settle number status id) h m row = absurd (cc)
other-message _ h m row = refl

pub other-messages : (ask : Ask) (rows : List SentRow) → touches_messages ask ≡ false → map_numbered (sent_row_after ask) 1 rows ≡ rows
other-messages ask rows h = map_numbered-same (sent_row_after ask) 1 rows (other-message ask h)

-- ---- answers to acceptances and to requests

answered-row : (row : ReceivedRow) (b c : Bool) (phase : Phase) → (let r : ReceivedRow = record { offer = row.offer; phase = if b && c then phase else row.phase; told = row.told } in r) ≡ (if b then record row { phase = if c then phase else row.phase } else row)
answered-row row true c phase = refl
answered-row row false c phase = refl

pub settle_record-step : (messages : List Message) (number status : ℕ) (id : Option (List ℕ)) (m : Message) (n : ℕ) (rows : List ReceivedRow)
    → at_number messages number ≡ Some m → is_acceptance m.letter ≡ true → m.subject ≡ Received n
    → map_numbered (received_row_after messages (asks.Settle number status id)) 1 rows ≡ changed_at n (λ (row : ReceivedRow). record row { phase = answered_phase status row.phase }) rows
settle_record-step messages number status id m n rows there letter subject =
    map_numbered-alike _ _ 1 rows (λ j row. rw (there, letter, subject) (answered-row row (nat_eq n j) (is_accepting row.phase) (if is_success status then phases.Confirmed else phases.Refused)))

pub settle_no_record-step : (messages : List Message) (number status : ℕ) (id : Option (List ℕ)) (m : Message) (rows : List ReceivedRow)
    → at_number messages number ≡ Some m → is_acceptance m.letter ≡ false
    → map_numbered (received_row_after messages (asks.Settle number status id)) 1 rows ≡ rows
settle_no_record-step messages number status id m rows there letter = map_numbered-same _ 1 rows (λ j row. rw (there, letter) refl)

answered_request-row : (row : Request) (b c : Bool) (state : RequestPhase) → (let r : Request = record { received = row.received; with = row.with; perms = row.perms; state = if b && c then state else row.state } in r) ≡ (if b then record row { state = if c then state else row.state } else row)
answered_request-row row true c state = refl
answered_request-row row false c state = refl

pub settle_request-step : (messages : List Message) (number status : ℕ) (id : Option (List ℕ)) (m : Message) (r : ℕ) (rows : List Request)
    → at_number messages number ≡ Some m → wants_id m.letter ≡ true → m.subject ≡ subjects.Request r
    → map_numbered (request_row_after messages (asks.Settle number status id)) 1 rows ≡ changed_at r (λ (row : Request). record row { state = answered_request status id row.state }) rows
settle_request-step messages number status id m r rows there letter subject =
    map_numbered-alike _ _ 1 rows (λ j row. rw (there, letter, subject) (answered_request-row row (nat_eq r j) (is_asked row.state) (answered_state status id)))

pub settle_no_request-step : (messages : List Message) (number status : ℕ) (id : Option (List ℕ)) (m : Message) (rows : List Request)
    → at_number messages number ≡ Some m → wants_id m.letter ≡ false
    → map_numbered (request_row_after messages (asks.Settle number status id)) 1 rows ≡ rows
settle_no_request-step messages number status id m rows there letter = map_numbered-same _ 1 rows (λ j row. rw (there, letter) refl)
