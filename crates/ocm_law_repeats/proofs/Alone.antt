use Rattle.std.proofs.Common.{◌≡◌, ℕ, List, ◌∷◌, Bool, true, false, refl, sym, ap, ◌∙◌, arith}
use Rattle.std.specs.Prelude.{Option, Some, None, nat_lt, ◌&&◌, ◌||◌, not, if◌then◌else◌}
use Rattle.std.specs.List.{list_any, cons_option}
use Rattle.std.specs.Option.{option_map_or}
use mathlib.Core.Path.{fun_ext}
use Rattle.std.proofs.lemmas.Bool.{ltb-true, ltb-false}
use Rattle.std.proofs.lemmas.List.{append-nil}
use Rattle.ocm_types.specs.declared.letters.Offer.{Offer}
use Rattle.ocm_types.specs.declared.phases.Phase.{Phase}
use Rattle.ocm_types.specs.declared.phases.Phase.TheVariants as phases
use Rattle.ocm_types.specs.declared.rights.Rights.{Rights}
use Rattle.ocm_entry.specs.declared.replies.Reply.{Reply}
use Rattle.ocm_entry.specs.declared.entries.Entry.{Entry}
use Rattle.ocm_rules.specs.declared.rows.Message.{Message}
use Rattle.ocm_rules.specs.declared.rows.Subject.TheVariants.{Received}
use Rattle.ocm_rules.specs.declared.rows.Told.{Told}
use Rattle.ocm_rules.specs.Numbers.{at_number, numbers}
use Rattle.ocm_rules.specs.Shares.{no_rights}
use Rattle.ocm_rules.specs.Settlements.{Settlement, is_acceptance, outcome}
use Rattle.ocm_rules.specs.Offers.{offers, is_of, is_declined, is_removed, is_accepted, phase_from, phase_among, since_offer, told_by, told_first, greatest, told, later}
use Rattle.ocm_rules.specs.Views.{View, view_with}
use Rattle.ocm_rules.specs.Messages.{view_of, out}
use Rattle.ocm_rules.specs.History.{kept, changes, IsLegal}
use Rattle.ocm_law_repeats.specs.Repeats.{received_before, is_removable, is_behind, entry_of, with_removed, with_told}
use Rattle.ocm_law_repeats.proofs.Tests.{not_both}
use Rattle.ocm_law_repeats.proofs.Records.{at_number-within, none-numbered}
use Rattle.ocm_law_repeats.proofs.Removed.{ending, removed-now, not_removed-later, gone-old, unshared-changes}
use Rattle.ocm_law_repeats.proofs.Told.{change, told_in, told-was, told-now, told-old, changed-changes}

-- a test of later records that none of the records passes passes nowhere
nowhere : (late : ℕ → Bool) (rest : ℕ → Bool) (id secret : List ℕ) (os : List Offer) → list_any (λ n. (late n && option_map_or (is_of id secret) (at_number os n) false) && rest n) (numbers os) ≡ false → (n : ℕ) → ((late n && option_map_or (is_of id secret) (at_number os n) false) && rest n) ≡ false
nowhere late rest id secret os none n = by_offer (at_number os n) refl
  where
    off : (b : Bool) → ((b && false) && rest n) ≡ false
    off true = refl
    off false = refl

    by_offer : (o : Option Offer) → at_number os n ≡ o → ((late n && option_map_or (is_of id secret) (at_number os n) false) && rest n) ≡ false
    by_offer None is = rw is (off (late n))
    by_offer (Some offer) is = none-numbered (λ n. (late n && option_map_or (is_of id secret) (at_number os n) false) && rest n) os n offer none is

-- what an entry that changes nothing but phases and what was told does to all that is read
same_view : (host : List ℕ) (k : List Entry) (phase : ℕ → Phase) (heard : ℕ → Told) (v : View) → v ≡ record (view_of host k) { phase = v.phase; told = v.told } → ((n : ℕ) → v.phase n ≡ phase n) → ((n : ℕ) → v.told n ≡ heard n) → v ≡ record (view_of host k) { phase = phase; told = heard }
same_view host k phase heard v same phases tolds =
    let p : v.phase ≡ phase = fun_ext phases in
    let q : v.told ≡ heard = fun_ext tolds in
    same ∙ (λ i. record (view_of host k) { phase = p i; told = q i })

-- ---- an Unshared

-- the phase of a record, by whether it was received later and by whether it has this id and secret
by_tests : (late fits declined removed : Bool) (settled : Option Settlement) (accepted : Bool) → (fits ≡ true → late ≡ true → removed ≡ false) → (fits ≡ true → late ≡ false → (declined || removed) ≡ true)
    → phase_from declined (fits || removed) settled accepted ≡ (if (late && fits) && not declined then phases.Removed else phase_from declined removed settled accepted)
by_tests true true true removed settled accepted later older = refl
by_tests true true false removed settled accepted later older = refl
by_tests false true true removed settled accepted later older = refl
by_tests false true false true settled accepted later older = refl
by_tests false true false false settled accepted later older = absurd (not_both true refl (sym (older refl refl)))
by_tests true false declined removed settled accepted later older = refl
by_tests false false declined removed settled accepted later older = refl

-- the phases after an Unshared that was kept
ended-phase : (host : List ℕ) (g : List Entry) (id secret fresh : List ℕ) (reply : Reply) → IsLegal host g → (n : ℕ)
    → phase_among (out host (kept host g)) (record { ask = ending id secret fresh; reply = reply } ∷ kept host g) n ≡ (if is_removable host g id secret fresh n then phases.Removed else phase_among (out host (kept host g)) (kept host g) n)
ended-phase host g id secret fresh reply legal n = by_offer (at_number (offers k) n) refl
  where
    k : List Entry
    k = kept host g

    e : Entry
    e = record { ask = ending id secret fresh; reply = reply }

    settled : Option Settlement
    settled = outcome (out host k) k is_acceptance (Received n)

    late : Bool
    late = nat_lt (received_before host (ending id secret fresh) g) n

    by_offer : (o : Option Offer) → at_number (offers k) n ≡ o → phase_among (out host k) (e ∷ k) n ≡ (if is_removable host g id secret fresh n then phases.Removed else phase_among (out host k) k n)
    by_offer None is = rw is (by_tests late false (is_declined k n) false settled (is_accepted k n) (λ fits h. absurd (cc)) (λ fits h. absurd (cc)))
    by_offer (Some offer) is =
        let within = at_number-within (offers k) n offer is in
        let removed : is_removed (e ∷ k) n ≡ (is_of id secret offer || is_removed k n) = removed-now e k n offer is within.1 in
        let tests = by_tests late (is_of id secret offer) (is_declined k n) (is_removed k n) settled (is_accepted k n)
        (λ fits h. not_removed-later host id secret fresh g n offer (ltb-true (received_before host (ending id secret fresh) g) n h) is fits)
        (λ fits h. let within = ltb-false (received_before host (ending id secret fresh) g) n h in gone-old host id secret fresh g legal n (omega arith) offer is fits) in
        let fit : is_of id secret offer ≡ option_map_or (is_of id secret) (at_number (offers k) n) false = rw is refl in
        ap (λ r. phase_from (is_declined k n) r settled (is_accepted k n)) removed ∙ tests ∙ ap (λ f. if (late && f) && not (is_declined k n) then phases.Removed else phase_among (out host k) k n) fit

-- an Unshared tells nothing of permissions
ended-told : (k : List Entry) (id secret fresh : List ℕ) (reply : Reply) (n : ℕ) → told (record { ask = ending id secret fresh; reply = reply } ∷ k) n ≡ told k n
ended-told k id secret fresh reply n = by_offer (at_number (offers k) n) refl
  where
    e : Entry
    e = record { ask = ending id secret fresh; reply = reply }

    by_offer : (o : Option Offer) → at_number (offers k) n ≡ o → told (e ∷ k) n ≡ told k n
    by_offer None is = rw is refl
    by_offer (Some offer) is =
        let within = at_number-within (offers k) n offer is in
        told-now e k n offer is within.1 ∙ sym (told-was k n offer is)

-- a kept Unshared does nothing else to what is read
ended-view : (host : List ℕ) (k : List Entry) (id secret fresh : List ℕ) (reply : Reply)
    → view_with host (record { ask = ending id secret fresh; reply = reply } ∷ k) (out host k) ≡ record (view_of host k) { phase = phase_among (out host k) (record { ask = ending id secret fresh; reply = reply } ∷ k); told = told (record { ask = ending id secret fresh; reply = reply } ∷ k) }
ended-view host k id secret fresh reply = refl

-- what is read after an Unshared: what was read before, but that the records that came later are removed
pub unshared-alone : (host : List ℕ) (g : List Entry) (id secret fresh : List ℕ) → IsLegal host g → view_of host (kept host (entry_of host g (ending id secret fresh) ∷ g)) ≡ with_removed (view_of host (kept host g)) (is_removable host g id secret fresh)
unshared-alone host g id secret fresh legal = by_change (changes host k e) refl
  where
    k : List Entry
    k = kept host g

    e : Entry
    e = entry_of host g (ending id secret fresh)

    after : ℕ → Phase
    after n = if is_removable host g id secret fresh n then phases.Removed else phase_among (out host k) k n

    late : ℕ → Bool
    late n = nat_lt (received_before host (ending id secret fresh) g) n

    by_change : (b : Bool) → changes host k e ≡ b → view_of host (if b then e ∷ k else k) ≡ with_removed (view_of host k) (is_removable host g id secret fresh)
    by_change true changed =
        ap (view_with host (e ∷ k)) (append-nil (out host k))
        ∙ same_view host k after (told k) (view_with host (e ∷ k) (out host k)) (ended-view host k id secret fresh e.reply) (ended-phase host g id secret fresh e.reply legal) (ended-told k id secret fresh e.reply)
    by_change false changed =
        let none = nowhere late (λ n. not (is_declined k n)) id secret (offers k) (sym (unshared-changes host g id secret fresh legal) ∙ changed) in
        let each : (n : ℕ) → phase_among (out host k) k n ≡ after n = λ n. rw (none n) refl in
        let p : phase_among (out host k) k ≡ after = fun_ext each in
        λ i. record (view_of host k) { phase = p i }

-- ---- a Changed

-- a Changed leaves the phases as they are
changed-phase : (messages : List Message) (k : List Entry) (id secret : List ℕ) (serial : ℕ) (perms : Rights) (fresh : List ℕ) (reply : Reply) (n : ℕ) → phase_among messages (record { ask = change id secret serial perms fresh; reply = reply } ∷ k) n ≡ phase_among messages k n
changed-phase messages k id secret serial perms fresh reply n = ap (λ r. phase_from (is_declined k n) r (outcome messages k is_acceptance (Received n)) (is_accepted k n)) (by_offer (at_number (offers k) n) refl)
  where
    e : Entry
    e = record { ask = change id secret serial perms fresh; reply = reply }

    by_offer : (o : Option Offer) → at_number (offers k) n ≡ o → is_removed (e ∷ k) n ≡ is_removed k n
    by_offer None is = rw is refl
    by_offer (Some offer) is = let within = at_number-within (offers k) n offer is in removed-now e k n offer is within.1

-- what a record is told, by whether it was received later, whether it has this id and secret, and whether it was told a lower serial
by_serial : (late fits : Bool) (new old : Told) → (fits ≡ true → late ≡ false → nat_lt old.serial new.serial ≡ false)
    → (if fits then later new old else old) ≡ (if (late && fits) && nat_lt old.serial new.serial then new else old)
by_serial true true new old older = refl
by_serial true false new old older = refl
by_serial false true new old older = rw (older refl refl) refl
by_serial false false new old older = refl

unheard : (late low : Bool) (new old : Told) → old ≡ (if (late && false) && low then new else old)
unheard true low new old = refl
unheard false low new old = refl

-- what is told after a Changed that was kept
heard-told : (host : List ℕ) (g : List Entry) (id secret : List ℕ) (serial : ℕ) (perms : Rights) (fresh : List ℕ) (reply : Reply) → IsLegal host g → (n : ℕ)
    → told (record { ask = change id secret serial perms fresh; reply = reply } ∷ kept host g) n ≡ (if is_behind host g id secret serial perms fresh n then record { serial = serial; perms = perms } else told (kept host g) n)
heard-told host g id secret serial perms fresh reply legal n = by_offer (at_number (offers k) n) refl
  where
    k : List Entry
    k = kept host g

    e : Entry
    e = record { ask = change id secret serial perms fresh; reply = reply }

    new : Told
    new = record { serial = serial; perms = perms }

    late : Bool
    late = nat_lt (received_before host (change id secret serial perms fresh) g) n

    low : Bool
    low = nat_lt (told k n).serial serial

    by_fit : (offer : Offer) → (b : Bool) → is_of id secret offer ≡ b → greatest (told_first offer) (cons_option (told_by offer (change id secret serial perms fresh)) (told_in offer (since_offer n k))) ≡ (if b then later new (greatest (told_first offer) (told_in offer (since_offer n k))) else greatest (told_first offer) (told_in offer (since_offer n k)))
    by_fit offer true fits = rw fits refl
    by_fit offer false fits = rw fits refl

    by_offer : (o : Option Offer) → at_number (offers k) n ≡ o → told (e ∷ k) n ≡ (if is_behind host g id secret serial perms fresh n then new else told k n)
    by_offer None is = rw is (unheard late (nat_lt 0 serial) new (record { serial = 0; perms = no_rights }))
    by_offer (Some offer) is =
        let within = at_number-within (offers k) n offer is in
        let fit : is_of id secret offer ≡ option_map_or (is_of id secret) (at_number (offers k) n) false = rw is refl in
        let was : greatest (told_first offer) (told_in offer (since_offer n k)) ≡ told k n = sym (told-was k n offer is) in
        told-now e k n offer is within.1
        ∙ by_fit offer (is_of id secret offer) refl
        ∙ ap (λ old. if is_of id secret offer then later new old else old) was
        ∙ by_serial late (is_of id secret offer) new (told k n) (λ fits h. let within = ltb-false (received_before host (change id secret serial perms fresh) g) n h in told-old host id secret serial perms fresh g legal n (omega arith) offer is fits)
        ∙ ap (λ f. if (late && f) && low then new else told k n) fit

-- a kept Changed does nothing else to what is read
heard-view : (host : List ℕ) (k : List Entry) (id secret : List ℕ) (serial : ℕ) (perms : Rights) (fresh : List ℕ) (reply : Reply)
    → view_with host (record { ask = change id secret serial perms fresh; reply = reply } ∷ k) (out host k) ≡ record (view_of host k) { phase = phase_among (out host k) (record { ask = change id secret serial perms fresh; reply = reply } ∷ k); told = told (record { ask = change id secret serial perms fresh; reply = reply } ∷ k) }
heard-view host k id secret serial perms fresh reply = refl

-- what is read after a Changed: what was read before, but that the guests of the records that came later were told this
pub changed-alone : (host : List ℕ) (g : List Entry) (id secret : List ℕ) (serial : ℕ) (perms : Rights) (fresh : List ℕ) → IsLegal host g
    → view_of host (kept host (entry_of host g (change id secret serial perms fresh) ∷ g)) ≡ with_told (view_of host (kept host g)) (is_behind host g id secret serial perms fresh) (record { serial = serial; perms = perms })
changed-alone host g id secret serial perms fresh legal = by_change (changes host k e) refl
  where
    k : List Entry
    k = kept host g

    e : Entry
    e = entry_of host g (change id secret serial perms fresh)

    new : Told
    new = record { serial = serial; perms = perms }

    heard : ℕ → Told
    heard n = if is_behind host g id secret serial perms fresh n then new else told k n

    late : ℕ → Bool
    late n = nat_lt (received_before host (change id secret serial perms fresh) g) n

    by_change : (b : Bool) → changes host k e ≡ b → view_of host (if b then e ∷ k else k) ≡ with_told (view_of host k) (is_behind host g id secret serial perms fresh) new
    by_change true changed =
        ap (view_with host (e ∷ k)) (append-nil (out host k))
        ∙ same_view host k (phase_among (out host k) k) heard (view_with host (e ∷ k) (out host k)) (heard-view host k id secret serial perms fresh e.reply) (changed-phase (out host k) k id secret serial perms fresh e.reply) (heard-told host g id secret serial perms fresh e.reply legal)
    by_change false changed =
        let none = nowhere late (λ n. nat_lt (told k n).serial serial) id secret (offers k) (sym (changed-changes host g id secret serial perms fresh legal) ∙ changed) in
        let each : (n : ℕ) → told k n ≡ heard n = λ n. rw (none n) refl in
        let p : told k ≡ heard = fun_ext each in
        λ i. record (view_of host k) { told = p i }
