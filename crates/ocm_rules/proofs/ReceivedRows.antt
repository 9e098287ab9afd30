use Rattle.std.proofs.Common.{◌≡◌, ℕ, zero, suc, ◌+◌, ◌≤◌, List, [], ◌∷◌, ◌++◌, length, Bool, true, false, ◌&&◌, ◌||◌, not, refl, sym, ap, subst, ◌∙◌, arith, eqb-true, eq-eqb, le-leb, leb-true}
use Rattle.std.specs.Prelude.{Option, Some, None, nat_eq, nat_le, if◌then◌else◌, option_map, filter_map}
use Rattle.std.specs.List.{list_any, cons_option}
use Rattle.std.specs.Option.{option_map_or}
use Rattle.std.proofs.lemmas.List.Folds.{list_any-append}
use Rattle.ocm_types.specs.declared.letters.Notice.TheVariants as notices
use Rattle.ocm_types.specs.declared.letters.Offer.{Offer}
use Rattle.ocm_types.specs.declared.phases.Phase.TheVariants as phases
use Rattle.ocm_entry.specs.declared.asks.Ask.{Ask}
use Rattle.ocm_entry.specs.declared.asks.Ask.TheVariants as asks
use Rattle.ocm_entry.specs.declared.asks.Cmd.TheVariants as commands
use Rattle.ocm_entry.specs.declared.entries.Entry.{Entry}
use Rattle.ocm_rules.specs.declared.rows.Message.{Message}
use Rattle.ocm_rules.specs.declared.rows.ReceivedRow.{ReceivedRow}
use Rattle.ocm_rules.specs.declared.rows.Subject.TheVariants.{Received}
use Rattle.ocm_rules.specs.declared.rows.Told.{Told}
use Rattle.ocm_rules.specs.Numbers.{added, at_number, number_of}
use Rattle.ocm_rules.specs.Users.{user_of_key}
use Rattle.ocm_rules.specs.Settlements.{Settlement, outcome, is_success, is_acceptance, settlement, settled_by}
use Rattle.ocm_rules.specs.Offers.{offers, offer_by, is_of, is_removed, since_offer, declines, accepts, unshares, is_declined, is_accepted, accepted_phase, phase_from, phase_among, is_pending, is_given_up, told_by, later, greatest, told_first}
use Rattle.ocm_rules.specs.Views.{View}
use Rattle.ocm_rules.specs.Messages.{sends, out, view_of, acceptance}
use Rattle.ocm_rules.specs.Answers.{reply_in}
use Rattle.ocm_rules.specs.History.{changes_in, IsAnswered}
use Rattle.ocm_rules.specs.State.{map_numbered, is_accepting, phase_after, received_row_after, new_received_row}
use Rattle.ocm_rules.proofs.Lists.{not_both}
use Rattle.ocm_rules.proofs.Numbering.{map_numbered-added, map_numbered-twice, at_number-beyond, at_number-before-added}
use Rattle.ocm_rules.proofs.Searches.{or-false, number_of-absent, number_of-next, Unique, unique-more, unique-next, map_numbered-there, at_number-within}
use Rattle.ocm_rules.proofs.Naming.{unnamed_record, unnamed_message, accept-nothing, pending_where_accepted, unsettled_before}
use Rattle.ocm_rules.proofs.Away.{changed-answered}
use Rattle.ocm_rules.proofs.Letters.{accepts_record, no_acceptance}
use Rattle.ocm_rules.proofs.Outcomes.{outcome_of, is_kind, settled_outcome, kind-first, kind-there, outcome-step}
use Rattle.ocm_rules.proofs.SentRows.{unsettled, settled-none}

-- ---- records that are not there

pub untouched_record : (host : List ℕ) (g : List Entry) → IsAnswered host g → (n : ℕ) → at_number (offers g) n ≡ None → (is_declined g n ≡ false) × (is_accepted g n ≡ false)
untouched_record host [] h n none = (refl, refl)
untouched_record host (e ∷ before) h n none =
    let fresh = at_number-before-added (offers before) (offer_by e.ask) n none in
    let older = untouched_record host before h.2 n fresh in
    let this = unnamed_record (view_of host before) e.ask (changed-answered host before e h.0 h.1) n fresh in
    (rw (this.0, older.0) refl, rw (this.1, older.1) refl)

-- ---- acceptances

-- what a pending record was not
pub pending-means : (d r : Bool) (o : Option Settlement) (a : Bool) → is_pending (phase_from d r o a) ≡ true → (d ≡ false) × (r ≡ false) × (o ≡ None) × (a ≡ false)
pending-means true r o a h = absurd (cc)
pending-means false true o a h = absurd (cc)
pending-means false false (Some s) a h = by_status (is_success s.status) h
  where
    by_status : (b : Bool) → is_pending (if b then phases.Confirmed else phases.Refused) ≡ true → (false ≡ false) × (false ≡ false) × ((let x : Option Settlement = Some s in x) ≡ None) × (a ≡ false)
    by_status true k = absurd (cc)
    by_status false k = absurd (cc)
pending-means false false None true h = absurd (cc)
pending-means false false None false h = (refl, refl, refl, refl)

-- an entry that accepts a record finds it pending, and sends the acceptance alone
accepting-entry : (v : View) (ask : Ask) (n : ℕ) → changes_in v ask (reply_in v ask) ≡ true → accepts n ask ≡ true
    → (is_pending (v.phase n) ≡ true) × ((offer : Offer) × (sends v ask ≡ acceptance n offer ∷ []))
accepting-entry v (asks.Local key (commands.Accept number)) n h k =
    let e : number ≡ n = eqb-true number n k in
    (subst (λ j. is_pending (v.phase j) ≡ true) e (pending_where_accepted v key number (user_of_key v.users key) h), by_offer (at_number v.offers number) refl e)
  where
    by_offer : (o : Option Offer) → at_number v.offers number ≡ o → number ≡ n → (offer : Offer) × (sends v (asks.Local key (commands.Accept number)) ≡ acceptance n offer ∷ [])
    by_offer None g e = absurd (not_both _ h (accept-nothing v key number (user_of_key v.users key) g))
    by_offer (Some offer) g e = (offer, rw g (ap (λ j. acceptance j offer ∷ []) e))
accepting-entry v (asks.Local key (commands.Share path with perms fresh)) n h k = absurd (cc)
accepting-entry v (asks.Local key (commands.Unshare id)) n h k = absurd (cc)
accepting-entry v (asks.Local key (commands.Limit id perms)) n h k = absurd (cc)
accepting-entry v (asks.Local key (commands.Decline number)) n h k = absurd (cc)
accepting-entry v (asks.Local key (commands.Reshare number with perms)) n h k = absurd (cc)
accepting-entry v (asks.Local key (commands.Undo request)) n h k = absurd (cc)
accepting-entry v (asks.Local key commands.List) n h k = absurd (cc)
accepting-entry v (asks.Local key (commands.Expire id until)) n h k = absurd (cc)
accepting-entry v (asks.AddUser name fresh) n h k = absurd (cc)
accepting-entry v (asks.Offer offer) n h k = absurd (cc)
accepting-entry v (asks.Notice notice fresh) n h k = absurd (cc)
accepting-entry v (asks.Dav secret method path body) n h k = absurd (cc)
accepting-entry v asks.Due n h k = absurd (cc)
accepting-entry v (asks.Settle number status id) n h k = absurd (cc)
accepting-entry v (asks.Tick clock) n h k = absurd (cc)
accepting-entry v (asks.Carry secret from to moving overwrite) n h k = absurd (cc)

-- what a pending record was not, by the history
pub pending-before : (host : List ℕ) (g : List Entry) (n : ℕ) → is_pending (phase_among (out host g) g n) ≡ true → is_accepted g n ≡ false
pending-before host g n h = (pending-means (is_declined g n) (is_removed g n) (outcome (out host g) g is_acceptance (Received n)) (is_accepted g n) h).3

nothing_there : {X : Type 0} (j : ℕ) (x : X) → at_number [] j ≡ Some x → ⊥
nothing_there zero x h = cc
nothing_there (suc j) x h = cc

same_self : (n : ℕ) → nat_eq n n ≡ true
same_self n = eq-eqb n n refl

-- a record was accepted exactly where its acceptance was sent, and that is the only one
pub accepted-sent : (host : List ℕ) (g : List Entry) → IsAnswered host g → (n : ℕ) → (is_accepted g n ≡ list_any (accepts_record n) (out host g)) × Unique (accepts_record n) (out host g)
accepted-sent host [] h n = (refl, λ j x e k. absurd (nothing_there j x e))
accepted-sent host (e ∷ before) h n = by_test (accepted-sent host before h.2 n) (accepts n e.ask) refl
  where
    messages : List Message
    messages = out host before

    by_test : (is_accepted before n ≡ list_any (accepts_record n) (out host before)) × Unique (accepts_record n) (out host before)
        → (b : Bool) → accepts n e.ask ≡ b → ((accepts n e.ask || is_accepted before n) ≡ list_any (accepts_record n) (out host before ++ sends (view_of host before) e.ask)) × Unique (accepts_record n) (out host before ++ sends (view_of host before) e.ask)
    by_test older true k =
        let entry = accepting-entry (view_of host before) e.ask n (changed-answered host before e h.0 h.1) k in
        let absent : list_any (accepts_record n) (out host before) ≡ false = sym older.0 ∙ pending-before host before n entry.0 in (
          rw (k, entry.1.1, list_any-append (accepts_record n) (out host before) (acceptance n entry.1.0 ∷ []), absent, same_self n) refl,
          rw entry.1.1 (unique-next (accepts_record n) (out host before) (acceptance n entry.1.0) absent (same_self n)),
        )
    by_test older false k =
        let none = no_acceptance (view_of host before) e.ask n k in (
          rw (k, list_any-append (accepts_record n) (out host before) (sends (view_of host before) e.ask), none) (older.0 ∙ sym (or-false _)),
          unique-more (accepts_record n) (out host before) (sends (view_of host before) e.ask) older.1 none,
        )

-- ---- the phase of a record, one entry on

-- a record that was removed, given up
removed-given_up : (o : Option Settlement) (a : Bool) → is_given_up (accepted_phase o a) ≡ false
removed-given_up (Some s) a = by_status (is_success s.status)
  where
    by_status : (b : Bool) → is_given_up (if b then phases.Confirmed else phases.Refused) ≡ false
    by_status true = refl
    by_status false = refl
removed-given_up None true = refl
removed-given_up None false = refl

unshared-phase : (of d r : Bool) (o : Option Settlement) (a : Bool) → phase_from d (of || r) o a ≡ (if of && not (is_given_up (phase_from d r o a)) then phases.Removed else phase_from d r o a)
unshared-phase false d r o a = refl
unshared-phase true true r o a = refl
unshared-phase true false true o a = refl
unshared-phase true false false o a = rw (removed-given_up o a) refl

-- where an answer came to a record that waited for it, and where it came too late
answered-phase : (d r : Bool) (s : Settlement) → phase_from d r (Some s) true ≡ (if is_accepting (phase_from d r None true) then (if is_success s.status then phases.Confirmed else phases.Refused) else phase_from d r None true)
answered-phase true r s = refl
answered-phase false true s = refl
answered-phase false false s = refl

phase_step : (messages : List Message) (ask : Ask) (n : ℕ) (offer : Offer) (d r a : Bool) (o p : Option Settlement)
    → (accepts n ask ≡ true → (d ≡ false) × (r ≡ false) × (p ≡ None))
    → (accepts n ask ≡ false → p ≡ settled_outcome (accepts_record n) messages ask o)
    → ((number status : ℕ) (id : Option (List ℕ)) → ask ≡ asks.Settle number status id → is_kind (accepts_record n) messages number ≡ true → (o ≡ None) × (a ≡ true))
    → phase_from (declines n ask || d) (unshares offer ask || r) p (accepts n ask || a) ≡ phase_after messages ask n offer (phase_from d r o a)
phase_step messages (asks.Local key (commands.Accept number)) n offer d r a o p at_accept same at_settle = by_test (nat_eq number n) refl
  where
    by_test : (b : Bool) → nat_eq number n ≡ b → phase_from d r p (nat_eq number n || a) ≡ (if nat_eq number n then phases.Accepting else phase_from d r o a)
    by_test true h = let known = at_accept h in rw (h, known.0, known.1, known.2) refl
    by_test false h = rw (h, same h) refl
phase_step messages (asks.Local key (commands.Decline number)) n offer d r a o p at_accept same at_settle = rw (same refl) (by_test (nat_eq number n))
  where
    by_test : (b : Bool) → phase_from (b || d) r o a ≡ (if b then phases.Declined else phase_from d r o a)
    by_test true = refl
    by_test false = refl
phase_step messages (asks.Notice (notices.Unshared id secret) fresh) n offer d r a o p at_accept same at_settle = rw (same refl) (unshared-phase (is_of id secret offer) d r o a)
phase_step messages (asks.Settle number status id) n offer d r a o p at_accept same at_settle = rw (same refl) (by_test (is_kind (accepts_record n) messages number) refl)
  where
    by_test : (b : Bool) → is_kind (accepts_record n) messages number ≡ b
        → phase_from d r (if b then Some (record { status = status; id = id }) else o) a ≡ (if b && is_accepting (phase_from d r o a) then (if is_success status then phases.Confirmed else phases.Refused) else phase_from d r o a)
    by_test true h = let known = at_settle number status id refl h in rw (known.0, known.1) (answered-phase d r (record { status = status; id = id }))
    by_test false h = refl
phase_step messages _ n offer d r a o p at_accept same at_settle = rw (same refl) refl

-- ---- the rows

-- what is read of a record, as a row
abbrev pub received_row : List ℕ → List Entry → ℕ → Offer → ReceivedRow
received_row host g n offer = record {
  offer = offer;
  phase = phase_from (is_declined g n) (list_any (λ (e : Entry). unshares offer e.ask) (since_offer n g)) (outcome_of (accepts_record n) g (out host g)) (is_accepted g n);
  told = greatest (told_first offer) (filter_map (λ (e : Entry). told_by offer e.ask) (since_offer n g));
}

abbrev pub received_rows : List ℕ → List Entry → List ReceivedRow
received_rows host g = map_numbered (received_row host g) 1 (offers g)

greatest-more : (start : Told) (o : Option Told) (older : List Told) → greatest start (cons_option o older) ≡ option_map_or (λ new. later new (greatest start older)) o (greatest start older)
greatest-more start None older = refl
greatest-more start (Some new) older = refl

-- the entries since an offer that is there
since-one : (n : ℕ) (e : Entry) (before : List Entry) → n ≤ length (offers before) → since_offer n (e ∷ before) ≡ e ∷ since_offer n before
since-one n e before h = rw (le-leb n (length (offers before)) h) refl

-- where an answer came to the acceptance of a record, none had come before, and the record was accepted
at_answer : (host : List ℕ) (e : Entry) (before : List Entry) → IsAnswered host (e ∷ before) → (n number status : ℕ) (id : Option (List ℕ))
    → e.ask ≡ asks.Settle number status id → is_kind (accepts_record n) (out host before) number ≡ true → (outcome_of (accepts_record n) before (out host before) ≡ None) × (is_accepted before n ≡ true)
at_answer host e before h n number status id is k =
    let sent = accepted-sent host before h.2 n in
    let first = kind-first (accepts_record n) (out host before) number sent.1 k in
    let changed = subst (λ ask. changes_in (view_of host before) ask (reply_in (view_of host before) ask) ≡ true) is (changed-answered host before e h.0 h.1) in
    let open_still : settlement before number ≡ None = settled-none before number (unsettled_before (view_of host before) number status id changed) in
    (rw first open_still, sent.0 ∙ kind-there (accepts_record n) (out host before) number k)

-- where a record is accepted, it was neither declined nor removed, and its acceptance is not settled
at_acceptance : (host : List ℕ) (e : Entry) (before : List Entry) → IsAnswered host (e ∷ before) → (n : ℕ) (offer : Offer) → at_number (offers before) n ≡ Some offer → accepts n e.ask ≡ true
    → (is_declined before n ≡ false) × (list_any (λ (x : Entry). unshares offer x.ask) (since_offer n before) ≡ false) × (outcome_of (accepts_record n) (e ∷ before) (out host (e ∷ before)) ≡ None)
at_acceptance host e before h n offer there k =
    let v = view_of host before in
    let messages = out host before in
    let changed = changed-answered host before e h.0 h.1 in
    let entry = accepting-entry v e.ask n changed k in
    let was = pending-means (is_declined before n) (is_removed before n) (outcome messages before is_acceptance (Received n)) (is_accepted before n) entry.0 in
    let removed : list_any (λ (x : Entry). unshares offer x.ask) (since_offer n before) ≡ false = rw there at was.1 in
    let absent : list_any (accepts_record n) messages ≡ false = sym (accepted-sent host before h.2 n).0 ∙ was.3 in
    let beyond : at_number messages (length messages + 1) ≡ None = at_number-beyond messages (length messages + 1) (omega arith) in
    let this : settled_by (length messages + 1) e.ask ≡ None = unnamed_message v e.ask changed (length messages + 1) beyond in
    let older : settlement before (length messages + 1) ≡ None = unsettled host before h.2 (length messages + 1) beyond in
    (was.0, removed, rw (entry.1.1, number_of-next (accepts_record n) messages (acceptance n entry.1.0) absent (same_self n), this, older) refl)

-- the row of a record that is there, one entry on
received_row-step : (host : List ℕ) (e : Entry) (before : List Entry) → IsAnswered host (e ∷ before) → (n : ℕ) (offer : Offer) → at_number (offers before) n ≡ Some offer
    → received_row host (e ∷ before) n offer ≡ received_row_after (out host before) e.ask n (received_row host before n offer)
received_row-step host e before h n offer there =
    let since = since-one n e before (at_number-within (offers before) n offer there) in
    let sent = accepted-sent host before h.2 n in
    let step = phase_step (out host before) e.ask n offer (is_declined before n) (list_any (λ (x : Entry). unshares offer x.ask) (since_offer n before)) (is_accepted before n)
    (outcome_of (accepts_record n) before (out host before)) (outcome_of (accepts_record n) (e ∷ before) (out host (e ∷ before)))
    (at_acceptance host e before h n offer there)
    (λ k. outcome-step (accepts_record n) e.ask e.reply before (out host before) (sends (view_of host before) e.ask) sent.1 (no_acceptance (view_of host before) e.ask n k))
    (at_answer host e before h n) in
    rw (since, greatest-more (told_first offer) (told_by offer e.ask) (filter_map (λ (x : Entry). told_by offer x.ask) (since_offer n before)), step) refl

-- no entry came since an offer that is not there
since-none : (n : ℕ) (g : List Entry) → nat_le n (length (offers g)) ≡ false → (e : Entry) → since_offer n (e ∷ g) ≡ []
since-none n g h e = rw h refl

not_within : (xs : List Offer) → nat_le (length xs + 1) (length xs) ≡ false
not_within xs = by_test (nat_le (length xs + 1) (length xs)) refl
  where
    by_test : (b : Bool) → nat_le (length xs + 1) (length xs) ≡ b → b ≡ false
    by_test true h = absurd (let low = leb-true (length xs + 1) (length xs) h in omega (arith, low))
    by_test false h = refl

-- the row of a record that is new
fresh_received : (host : List ℕ) (e : Entry) (before : List Entry) → IsAnswered host (e ∷ before) → (offer : Offer) → received_row host (e ∷ before) (length (offers before) + 1) offer ≡ new_received_row offer
fresh_received host e before h offer =
    let n = length (offers before) + 1 in
    let beyond : at_number (offers before) n ≡ None = at_number-beyond (offers before) n (omega arith) in
    let this = unnamed_record (view_of host before) e.ask (changed-answered host before e h.0 h.1) n beyond in
    let older = untouched_record host before h.2 n beyond in
    let declined : is_declined (e ∷ before) n ≡ false = rw (this.0, older.0) refl in
    let accepted : is_accepted (e ∷ before) n ≡ false = rw (this.1, older.1) refl in
    let absent : list_any (accepts_record n) (out host (e ∷ before)) ≡ false = sym (accepted-sent host (e ∷ before) h n).0 ∙ accepted in
    row_of n declined accepted (number_of-absent (accepts_record n) (out host (e ∷ before)) absent) (since-none n before (not_within (offers before)) e)
  where
    row_of : (n : ℕ) → is_declined (e ∷ before) n ≡ false → is_accepted (e ∷ before) n ≡ false → number_of (accepts_record n) (out host (e ∷ before)) ≡ None → since_offer n (e ∷ before) ≡ []
        → received_row host (e ∷ before) n offer ≡ new_received_row offer
    row_of n a b c d = rw (a, b, c, d) refl

-- the rows of the records, one kept entry on
pub received_rows-step : (host : List ℕ) (e : Entry) (before : List Entry) → IsAnswered host (e ∷ before)
    → received_rows host (e ∷ before) ≡ added (map_numbered (received_row_after (out host before) e.ask) 1 (received_rows host before)) (option_map new_received_row (offer_by e.ask))
received_rows-step host e before h =
    let os = offers before in
    map_numbered-added (received_row host (e ∷ before)) os (offer_by e.ask)
    ∙ ap (λ rows. added rows (option_map (received_row host (e ∷ before) (length os + 1)) (offer_by e.ask)))
    (map_numbered-there (received_row host (e ∷ before)) (λ n offer. received_row_after (out host before) e.ask n (received_row host before n offer)) os (received_row-step host e before h)
    ∙ sym (map_numbered-twice (received_row_after (out host before) e.ask) (received_row host before) 1 os))
    ∙ ap (λ f. added (map_numbered (received_row_after (out host before) e.ask) 1 (received_rows host before)) (option_map f (offer_by e.ask))) (λ i offer. fresh_received host e before h offer i)
