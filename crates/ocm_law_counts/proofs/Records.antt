-- Messages about received offers are at most those that are counted for the offers: none while one is pending, one once it was accepted, two once it was given up.
use Rattle.std.proofs.Common.{◌≡◌, ℕ, ◌+◌, ◌≤◌, List, ◌∷◌, length, Bool, true, false, ◌&&◌, not, refl, ap, subst, ◌∙◌, arith, eqb-true, eq-eqb}
use Rattle.std.specs.Prelude.{Option, Some, None, nat_eq, if◌then◌else◌, option_map}
use Rattle.std.specs.Option.{option_map_or}
use Rattle.ocm_types.specs.declared.letters.Notice.TheVariants as notices
use Rattle.ocm_types.specs.declared.letters.Offer.{Offer}
use Rattle.ocm_types.specs.declared.phases.Phase.{Phase}
use Rattle.ocm_types.specs.declared.phases.Phase.TheVariants as phases
use Rattle.ocm_entry.specs.declared.asks.Ask.{Ask}
use Rattle.ocm_entry.specs.declared.asks.Ask.TheVariants as asks
use Rattle.ocm_entry.specs.declared.asks.Cmd.{Cmd}
use Rattle.ocm_entry.specs.declared.asks.Cmd.TheVariants as commands
use Rattle.ocm_entry.specs.declared.entries.Entry.{Entry}
use Rattle.ocm_rules.specs.declared.rows.ReceivedRow.{ReceivedRow}
use Rattle.ocm_rules.specs.declared.rows.Subject.TheVariants.{Received}
use Rattle.ocm_rules.specs.Numbers.{added, at_number}
use Rattle.ocm_rules.specs.Users.{user_of_key}
use Rattle.ocm_rules.specs.Settlements.{is_acceptance, is_success}
use Rattle.ocm_rules.specs.Offers.{offers, offer_by, is_declinable, is_given_up, is_of, is_pending}
use Rattle.ocm_rules.specs.Views.{View, record_of_user}
use Rattle.ocm_rules.specs.Messages.{acceptance, phase, refusal, view_of}
use Rattle.ocm_rules.specs.Answers.{local_reply, phase_reply, reply_in}
use Rattle.ocm_rules.specs.History.{IsAnswered, changes_in}
use Rattle.ocm_rules.specs.State.{map_numbered, is_about, is_accepting, new_received_row, received_row_after}
use Rattle.ocm_rules.proofs.Away.{changed-answered}
use Rattle.ocm_rules.proofs.Naming.{pending_where_accepted}
use Rattle.ocm_rules.proofs.ReceivedRows.{received_row, received_rows, received_rows-step}
use Rattle.ocm_law_counts.specs.Counts.{about_records, record_messages}
use Rattle.ocm_law_counts.proofs.Rows.{counted, counted-added, counted-grows, counted-sent, total-rows}
use Rattle.ocm_law_counts.proofs.Sending.{at-most-one, record_sends}

-- ---- phases

pub record-most : (p : Phase) → record_messages p ≤ 2
record-most phases.Pending = omega arith
record-most phases.Declined = omega arith
record-most phases.Removed = omega arith
record-most _ = omega arith

pending-none : (p : Phase) → is_pending p ≡ true → record_messages p ≡ 0
pending-none phases.Pending h = refl
pending-none _ h = absurd (cc)

declinable-one : (p : Phase) → is_declinable p ≡ true → record_messages p ≤ 1
declinable-one phases.Pending h = omega arith
declinable-one phases.Accepting h = omega arith
declinable-one phases.Confirmed h = omega arith
declinable-one _ h = absurd (cc)

-- a command about what is there, that changes something, finds it in the phase for it
pub phase-met : {X : Type 0} (v : View) (key : List ℕ) (cmd : Cmd) (o : Option X) (in_phase : Bool) → changes_in v (asks.Local key cmd) (phase_reply o in_phase) ≡ true → in_phase ≡ true
phase-met v key cmd None in_phase h = absurd (cc)
phase-met v key cmd (Some x) true h = refl
phase-met v key cmd (Some x) false h = absurd (cc)

declinable-met : (v : View) (key : List ℕ) (n : ℕ) (user : Option ℕ) → changes_in v (asks.Local key (commands.Decline n)) (local_reply v user (commands.Decline n)) ≡ true → is_declinable (v.phase n) ≡ true
declinable-met v key n None h = absurd (cc)
declinable-met v key n (Some user) h = phase-met v key (commands.Decline n) (record_of_user v user n) (is_declinable (v.phase n)) h

-- ---- rows

-- what is counted for a row
abbrev row_messages : ReceivedRow → ℕ
row_messages row = record_messages row.phase

-- a phase that an answer sets is no less than the one before
answered-more : (b c : Bool) (p : Phase) → record_messages p ≤ record_messages (if b && is_accepting p then (if c then phases.Confirmed else phases.Refused) else p)
answered-more false c p = omega arith
answered-more true true phases.Accepting = omega arith
answered-more true false phases.Accepting = omega arith
answered-more true c _ = omega arith

given_up-more : (b : Bool) (to p : Phase) → record_messages to ≡ 2 → record_messages p ≤ record_messages (if b then to else p)
given_up-more true to p two = let most = record-most p in omega arith
given_up-more false to p two = omega arith

accepted-more : (b : Bool) (p : Phase) → (b ≡ true → record_messages p ≡ 0) → record_messages p ≤ record_messages (if b then phases.Accepting else p)
accepted-more true p h = let none = h refl in omega arith
accepted-more false p h = omega arith

-- these are the rows of what is read
abbrev ReadIn : View → (ℕ → Offer → ReceivedRow) → Type 0
ReadIn v row = (n : ℕ) (offer : Offer) → at_number v.offers n ≡ Some offer → (row n offer).phase ≡ v.phase n

-- no row counts less after an entry
row-grows : (v : View) (row : ℕ → Offer → ReceivedRow) → ReadIn v row → (ask : Ask) → changes_in v ask (reply_in v ask) ≡ true
    → (n : ℕ) (offer : Offer) → at_number v.offers n ≡ Some offer → row_messages (row n offer) ≤ row_messages (received_row_after v.messages ask n (row n offer))
row-grows v row read (asks.Local key (commands.Accept number)) changed n offer there =
    accepted-more (nat_eq number n) (row n offer).phase
    (λ is. let same : number ≡ n = eqb-true number n is in
    let met : is_pending (v.phase n) ≡ true = subst (λ j. is_pending (v.phase j) ≡ true) same (pending_where_accepted v key number (user_of_key v.users key) changed) in
    ap record_messages (read n offer there) ∙ pending-none (v.phase n) met)
row-grows v row read (asks.Local key (commands.Decline number)) changed n offer there = given_up-more (nat_eq number n) phases.Declined (row n offer).phase refl
row-grows v row read (asks.Notice (notices.Unshared id secret) fresh) changed n offer there =
    given_up-more (is_of id secret (row n offer).offer && not (is_given_up (row n offer).phase)) phases.Removed (row n offer).phase refl
row-grows v row read (asks.Settle number status id) changed n offer there =
    answered-more (option_map_or (is_about is_acceptance (Received n)) (at_number v.messages number) false) (is_success status) (row n offer).phase
row-grows v row read _ changed n offer there = omega arith

-- what the rows count, before and after an ask
abbrev rows_before : View → (ℕ → Offer → ReceivedRow) → List ReceivedRow
rows_before v row = map_numbered row 1 v.offers

abbrev rows_after : View → (ℕ → Offer → ReceivedRow) → Ask → List ReceivedRow
rows_after v row ask = map_numbered (received_row_after v.messages ask) 1 (rows_before v row)

pub same-number : (n : ℕ) → nat_eq n n ≡ true
same-number n = eq-eqb n n refl

-- the rows count more by what an entry sends about them
rows-grow : (v : View) (row : ℕ → Offer → ReceivedRow) → ReadIn v row → (ask : Ask) → changes_in v ask (reply_in v ask) ≡ true
    → counted row_messages (rows_before v row) + length (record_sends v ask) ≤ counted row_messages (rows_after v row ask)
rows-grow v row read (asks.Local key (commands.Accept number)) changed =
    let ask : Ask = asks.Local key (commands.Accept number) in
    counted-sent row_messages row (received_row_after v.messages ask) v.offers (row-grows v row read ask changed) number (length (record_sends v ask))
    (at-most-one (acceptance number) (at_number v.offers number))
    (λ none. rw none refl)
    (λ offer there.
    let nothing = pending-none (v.phase number) (pending_where_accepted v key number (user_of_key v.users key) changed) in
    rw (same-number number, read number offer there) (omega arith))
rows-grow v row read (asks.Local key (commands.Decline number)) changed =
    let ask : Ask = asks.Local key (commands.Decline number) in
    counted-sent row_messages row (received_row_after v.messages ask) v.offers (row-grows v row read ask changed) number (length (record_sends v ask))
    (at-most-one (refusal number) (at_number v.offers number))
    (λ none. rw none refl)
    (λ offer there.
    let one = declinable-one (v.phase number) (declinable-met v key number (user_of_key v.users key) changed) in
    rw (same-number number, read number offer there) (omega arith))
rows-grow v row read ask changed = let more = counted-grows row_messages row (received_row_after v.messages ask) v.offers (row-grows v row read ask changed) in omega arith

-- ---- histories

-- what is counted for received offers is what their rows count
records-rows : (host : List ℕ) (g : List Entry) → about_records host g ≡ counted row_messages (received_rows host g)
records-rows host g = total-rows (λ n. record_messages (phase host g n)) row_messages (received_row host g) (offers g) (λ n offer there. rw there refl)

-- what is counted for received offers is more by what an entry sends about them
pub records-step : (host : List ℕ) (e : Entry) (before : List Entry) → IsAnswered host (e ∷ before)
    → about_records host before + length (record_sends (view_of host before) e.ask) ≤ about_records host (e ∷ before)
records-step host e before answered =
    let v : View = view_of host before in
    let rows = rows_after v (received_row host before) e.ask in
    let old = records-rows host before in
    let new : about_records host (e ∷ before) ≡ counted row_messages (added rows (option_map new_received_row (offer_by e.ask))) = records-rows host (e ∷ before) ∙ ap (counted row_messages) (received_rows-step host e before answered) in
    let behind = counted-added row_messages rows (option_map new_received_row (offer_by e.ask)) in
    let more = rows-grow v (received_row host before) (λ n offer there. rw there refl) e.ask (changed-answered host before e answered.0 answered.1) in
    omega arith
