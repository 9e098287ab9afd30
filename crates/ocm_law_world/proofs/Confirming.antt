-- Which entry confirms a record, and what its guest was told.
use Rattle.std.proofs.Common.{◌≡◌, ℕ, ◌≤◌, List, [], ◌∷◌, Bool, true, false, ◌&&◌, refl, sym, ap, subst, ◌∙◌, arith, le_trans}
use Rattle.std.specs.Prelude.{Option, Some, None, ◌⊎◌, not, nat_eq, nat_lt, if◌then◌else◌, option_map}
use Rattle.std.specs.Option.{option_map_or}
use Rattle.std.proofs.lemmas.Bool.{ltb-true}
use mathlib.Core.Logic.{inl, inr}
use Rattle.ocm_types.specs.declared.letters.Notice.TheVariants as notices
use Rattle.ocm_types.specs.declared.letters.Offer.{Offer}
use Rattle.ocm_types.specs.declared.phases.Phase.{Phase}
use Rattle.ocm_types.specs.declared.phases.Phase.TheVariants as phases
use Rattle.ocm_entry.specs.declared.asks.Ask.{Ask}
use Rattle.ocm_entry.specs.declared.asks.Ask.TheVariants as asks
use Rattle.ocm_entry.specs.declared.asks.Cmd.TheVariants as commands
use Rattle.ocm_entry.specs.declared.entries.Entry.{Entry}
use Rattle.ocm_rules.specs.declared.rows.Message.{Message}
use Rattle.ocm_rules.specs.declared.rows.ReceivedRow.{ReceivedRow}
use Rattle.ocm_rules.specs.declared.rows.Told.{Told}
use Rattle.ocm_rules.specs.Numbers.{added, at_number}
use Rattle.ocm_rules.specs.Settlements.{is_success}
use Rattle.ocm_rules.specs.Offers.{offers, offer_by, is_of, is_confirmed, is_given_up, phase_among, told, told_by, later}
use Rattle.ocm_rules.specs.Views.{View}
use Rattle.ocm_rules.specs.Messages.{out, view_of}
use Rattle.ocm_rules.specs.History.{IsAnswered}
use Rattle.ocm_rules.specs.State.{map_numbered, is_accepting, phase_after, received_row_after, new_received_row}
use Rattle.ocm_rules.proofs.Lists.{not_both, both_pass}
use Rattle.ocm_rules.proofs.Searches.{some-same}
use Rattle.ocm_rules.proofs.Numbering.{at_number-map_numbered, not_none}
use Rattle.ocm_rules.proofs.Letters.{accepts_record}
use Rattle.ocm_rules.proofs.ReceivedRows.{received_row, received_rows, received_rows-step}
use Rattle.ocm_law_world.proofs.Owners.{at_number-added}
use Rattle.ocm_law_world.proofs.Growth.{Lasts, lasts}
use Rattle.ocm_law_world.proofs.Accepting.{at_number-either, at_number-only, made-of}

-- ---- the phase after an ask

-- an ask that confirms the record of this number, where these messages were sent: it settles the record's acceptance with yes
abbrev pub Confirms : List Message → Ask → ℕ → Type 0
Confirms messages ask n =
    (number : ℕ) × (status : ℕ) × (id : Option (List ℕ)) × (message : Message)
    × (ask ≡ asks.Settle number status id) × (at_number messages number ≡ Some message) × (accepts_record n message ≡ true) × (is_success status ≡ true)

other_phase : (b : Bool) (other phase : Phase) → is_confirmed other ≡ false → is_confirmed (if b then other else phase) ≡ true → is_confirmed phase ≡ true
other_phase true other phase none h = absurd (not_both _ h none)
other_phase false other phase none h = h

settled-message : (messages : List Message) (number n : ℕ) → option_map_or (accepts_record n) (at_number messages number) false ≡ true → (message : Message) × (at_number messages number ≡ Some message) × (accepts_record n message ≡ true)
settled-message messages number n h = by_message (at_number messages number) refl h
  where
    by_message : (o : Option Message) → at_number messages number ≡ o → option_map_or (accepts_record n) o false ≡ true → (message : Message) × (at_number messages number ≡ Some message) × (accepts_record n message ≡ true)
    by_message None e k = absurd (cc)
    by_message (Some message) e k = (message, e, k)

-- a record is confirmed after an ask where it was before, or the ask confirms it
confirmed-after : (messages : List Message) (ask : Ask) (n : ℕ) (offer : Offer) (phase : Phase) → is_confirmed (phase_after messages ask n offer phase) ≡ true → (is_confirmed phase ≡ true) ⊎ Confirms messages ask n
confirmed-after messages (asks.Local key (commands.Accept number)) n offer phase h = inl (other_phase (nat_eq number n) phases.Accepting phase refl h)
confirmed-after messages (asks.Local key (commands.Decline number)) n offer phase h = inl (other_phase (nat_eq number n) phases.Declined phase refl h)
confirmed-after messages (asks.Notice (notices.Unshared id secret) fresh) n offer phase h = inl (other_phase (is_of id secret offer && not (is_given_up phase)) phases.Removed phase refl h)
confirmed-after messages (asks.Settle number status id) n offer phase h =
    by_test (option_map_or (accepts_record n) (at_number messages number) false && is_accepting phase) refl (is_success status) refl h
  where
    by_test : (b : Bool) → (option_map_or (accepts_record n) (at_number messages number) false && is_accepting phase) ≡ b → (c : Bool) → is_success status ≡ c
        → is_confirmed (if b then (if c then phases.Confirmed else phases.Refused) else phase) ≡ true → (is_confirmed phase ≡ true) ⊎ Confirms messages (asks.Settle number status id) n
    by_test true e true f g =
        let both = both_pass (option_map_or (accepts_record n) (at_number messages number) false) (is_accepting phase) e in
        let message = settled-message messages number n both.0 in
        inr (number, status, id, message.0, refl, message.1, message.2, f)
    by_test true e false f g = absurd (cc)
    by_test false e c f g = inl g
confirmed-after messages _ n offer phase h = inl h

-- ---- rows

either-added : {X : Type 0} (xs : List X) (o : Option X) (i : ℕ) (x : X) → at_number (added xs o) i ≡ Some x → (at_number xs i ≡ Some x) ⊎ (o ≡ Some x)
either-added xs None i x h = inl h
either-added xs (Some y) i x h = turned (at_number-either xs (y ∷ []) i x h)
  where
    turned : (at_number xs i ≡ Some x) ⊎ ((j : ℕ) × (at_number (y ∷ []) j ≡ Some x)) → (at_number xs i ≡ Some x) ⊎ (Some y ≡ Some x)
    turned (inl e) = inl e
    turned (inr (j, e)) = inr (at_number-only (Some y) j x e)

row-at : (host : List ℕ) (g : List Entry) (n : ℕ) (offer : Offer) → at_number (offers g) n ≡ Some offer → at_number (received_rows host g) n ≡ Some (received_row host g n offer)
row-at host g n offer is = at_number-map_numbered (received_row host g) (offers g) n ∙ ap (λ o. option_map (received_row host g n) o) is

phase-row : (host : List ℕ) (g : List Entry) (n : ℕ) (offer : Offer) → at_number (offers g) n ≡ Some offer → phase_among (out host g) g n ≡ (received_row host g n offer).phase
phase-row host g n offer is = rw is refl

told-row : (host : List ℕ) (g : List Entry) (n : ℕ) (offer : Offer) → at_number (offers g) n ≡ Some offer → told g n ≡ (received_row host g n offer).told
told-row host g n offer is = rw is refl

-- the row of a record that was there, one entry on
pub row-on : (host : List ℕ) (e : Entry) (before : List Entry) (n : ℕ) (offer : Offer) → IsAnswered host (e ∷ before) → at_number (offers before) n ≡ Some offer
    → received_row host (e ∷ before) n offer ≡ received_row_after (out host before) e.ask n (received_row host before n offer)
row-on host e before n offer answered is =
    let on : ℕ → ReceivedRow → ReceivedRow = received_row_after (out host before) e.ask in
    let rows = received_rows host before in
    let old : at_number (map_numbered on 1 rows) n ≡ Some (on n (received_row host before n offer)) = at_number-map_numbered on rows n ∙ ap (λ o. option_map (on n) o) (row-at host before n offer is) in
    some-same _ _
    (sym (row-at host (e ∷ before) n offer (at_number-added (offers before) (offer_by e.ask) n offer is))
    ∙ ap (λ l. at_number l n) (received_rows-step host e before answered)
    ∙ at_number-added (map_numbered on 1 rows) (option_map new_received_row (offer_by e.ask)) n _ old)

-- a record that is confirmed was there, and was confirmed before or is confirmed by the entry
pub confirmed-by : (host : List ℕ) (e : Entry) (before : List Entry) (n : ℕ) (offer : Offer) → IsAnswered host (e ∷ before) → at_number (offers (e ∷ before)) n ≡ Some offer
    → is_confirmed (phase_among (out host (e ∷ before)) (e ∷ before) n) ≡ true
    → (at_number (offers before) n ≡ Some offer) × ((is_confirmed (phase_among (out host before) before n) ≡ true) ⊎ Confirms (out host before) e.ask n)
confirmed-by host e before n offer answered is confirmed =
    by_record (at_number (offers before) n) refl
  where
    on : ℕ → ReceivedRow → ReceivedRow
    on n row = received_row_after (out host before) e.ask n row

    Goal : Type 0
    Goal = (at_number (offers before) n ≡ Some offer) × ((is_confirmed (phase_among (out host before) before n) ≡ true) ⊎ Confirms (out host before) e.ask n)

    there : at_number (offers before) n ≡ Some offer → Goal
    there old =
        let P : Phase → Type 0 = λ phase. is_confirmed phase ≡ true in
        let now = subst P (phase-row host (e ∷ before) n offer is ∙ ap (λ (row : ReceivedRow). row.phase) (row-on host e before n offer answered old)) confirmed in
        let before_that = phase-row host before n offer old in
        (old, subst (λ phase. (is_confirmed phase ≡ true) ⊎ Confirms (out host before) e.ask n) (sym before_that) (confirmed-after (out host before) e.ask n offer (received_row host before n offer).phase now))

    fresh : at_number (offers before) n ≡ None → (o : Option ReceivedRow) → option_map new_received_row (offer_by e.ask) ≡ o → at_number (added (map_numbered on 1 (received_rows host before)) o) n ≡ Some (received_row host (e ∷ before) n offer) → Goal
    fresh none o made at = by_either (either-added (map_numbered on 1 (received_rows host before)) o n _ at)
      where
        absent : at_number (map_numbered on 1 (received_rows host before)) n ≡ None
        absent =
            at_number-map_numbered on (received_rows host before) n
            ∙ ap (λ o. option_map (on n) o) (at_number-map_numbered (received_row host before) (offers before) n ∙ ap (λ o. option_map (received_row host before n) o) none)

        by_either : (at_number (map_numbered on 1 (received_rows host before)) n ≡ Some (received_row host (e ∷ before) n offer)) ⊎ (o ≡ Some (received_row host (e ∷ before) n offer)) → Goal
        by_either (inl old) = absurd (not_none _ _ old absent)
        by_either (inr new) =
            let one = made-of new_received_row (offer_by e.ask) _ (made ∙ new) in
            let P : Phase → Type 0 = λ phase. is_confirmed phase ≡ true in
            let pending = subst P (phase-row host (e ∷ before) n offer is ∙ ap (λ (row : ReceivedRow). row.phase) one.2) confirmed in
            absurd (cc)

    by_record : (o : Option Offer) → at_number (offers before) n ≡ o → Goal
    by_record None none =
        fresh none (option_map new_received_row (offer_by e.ask)) refl (ap (λ l. at_number l n) (sym (received_rows-step host e before answered)) ∙ row-at host (e ∷ before) n offer is)
    by_record (Some other) old =
        let same : other ≡ offer = some-same other offer (sym (at_number-added (offers before) (offer_by e.ask) n other old) ∙ is) in
        there (old ∙ ap (λ o. Some o) same)

-- ---- what a guest was told

later-more : (new old : Told) → old.serial ≤ (later new old).serial
later-more new old = by_test (nat_lt old.serial new.serial) refl
  where
    by_test : (b : Bool) → nat_lt old.serial new.serial ≡ b → old.serial ≤ (let t : Told = (if b then new else old) in t).serial
    by_test true h = let less = ltb-true old.serial new.serial h in omega arith
    by_test false h = omega arith

told-more : (o : Option Told) (old : Told) → old.serial ≤ (option_map_or (λ new. later new old) o old).serial
told-more None old = omega arith
told-more (Some new) old = later-more new old

-- a record keeps its number, and its guest was told no lower serial
abbrev pub HasTold : ℕ → Offer → ℕ → View → Type 0
HasTold n offer serial v = (at_number v.offers n ≡ Some offer) × (serial ≤ (v.told n).serial)

pub told-lasts : (n : ℕ) (offer : Offer) (serial : ℕ) → Lasts (HasTold n offer serial)
told-lasts n offer serial = lasts (HasTold n offer serial) step
  where
    step : (host : List ℕ) (e : Entry) (before : List Entry) → IsAnswered host (e ∷ before) → HasTold n offer serial (view_of host before) → HasTold n offer serial (view_of host (e ∷ before))
    step host e before answered (is, low) =
        let now = at_number-added (offers before) (offer_by e.ask) n offer is in
        let same : told (e ∷ before) n ≡ option_map_or (λ new. later new (received_row host before n offer).told) (told_by offer e.ask) (received_row host before n offer).told =
        told-row host (e ∷ before) n offer now ∙ ap (λ (row : ReceivedRow). row.told) (row-on host e before n offer answered is) in
        let more = told-more (told_by offer e.ask) (received_row host before n offer).told in
        let old = told-row host before n offer is in
        let P : ℕ → Type 0 = λ k. serial ≤ k in
        let Q : ℕ → Type 0 = λ k. serial ≤ k in
        (now, subst P (sym (ap (λ (t : Told). t.serial) same)) (le_trans (subst Q (ap (λ (t : Told). t.serial) old) low) more))
