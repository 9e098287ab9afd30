use Rattle.std.proofs.Common.{◌≡◌, ℕ, zero, suc, ◌+◌, ◌<◌, ◌≤◌, List, [], ◌∷◌, length, Bool, true, false, refl, sym, ◌∙◌, subst, arith}
use Rattle.std.specs.Prelude.{Option, Some, None, nat_lt, nat_le, ◌&&◌, ◌||◌, not, if◌then◌else◌, is_some, slice_get}
use Rattle.std.specs.List.{list_any}
use Rattle.std.specs.Option.{option_map_or}
use Rattle.std.proofs.lemmas.Bool.{le-leb, leb-true, ltb-true, ltb-false, or_parts, or_right}
use Rattle.ocm_types.specs.declared.letters.Offer.{Offer}
use Rattle.ocm_types.specs.declared.letters.Notice.TheVariants as notices
use Rattle.ocm_types.specs.declared.phases.Phase.TheVariants as phases
use Rattle.ocm_entry.specs.declared.asks.Ask.{Ask}
use Rattle.ocm_entry.specs.declared.asks.Ask.TheVariants as asks
use Rattle.ocm_entry.specs.declared.replies.Reply.{Reply}
use Rattle.ocm_entry.specs.declared.replies.Reply.TheVariants as replies
use Rattle.ocm_entry.specs.declared.entries.Entry.{Entry}
use Rattle.ocm_rules.specs.Numbers.{same_text, at_number, numbers, number_from}
use Rattle.ocm_rules.specs.declared.rows.Message.{Message}
use Rattle.ocm_rules.specs.declared.rows.Subject.TheVariants.{Received}
use Rattle.ocm_rules.specs.Settlements.{Settlement, is_success, is_acceptance, outcome}
use Rattle.ocm_rules.specs.Offers.{offers, offer_by, since_offer, is_of, unshares, declines, is_declined, is_removed, is_accepted, phase_from, phase_among, is_given_up}
use Rattle.ocm_rules.specs.Views.{View}
use Rattle.ocm_rules.specs.Messages.{view_of, out}
use Rattle.ocm_rules.specs.Answers.{noticed_if, is_received}
use Rattle.ocm_rules.specs.History.{kept, changes, changes_in, is_held, answer_kept, IsLegal}
use Rattle.ocm_law_repeats.specs.Repeats.{answers_equal, was_taken, received_before, same_ask, is_removable, would_change}
use Rattle.ocm_law_repeats.proofs.Tests.{both, not_both, so}
use Rattle.ocm_law_repeats.proofs.Same.{text-equal, text-same, same_ask-notice}
use Rattle.ocm_law_repeats.proofs.Closed.{noticed-taken}
use Rattle.ocm_law_repeats.proofs.Records.{at_number-within, at_number-added, none-numbered, some-alike, none-passes, of_old}

-- ---- tests

or_more : (a b c d : Bool) → (b || d) ≡ true → ((a || b) || (c || d)) ≡ true
or_more true b c d h = refl
or_more false true c d h = refl
or_more false false true d h = refl
or_more false false false d h = h

none-in : {X : Type 0} (p : X → Bool) (xs : List X) (i : ℕ) → list_any p xs ≡ false → option_map_or p (slice_get xs i) false ≡ false
none-in p [] i h = refl
none-in p (x ∷ xs) zero h = (or_parts (p x) (list_any p xs) h).0
none-in p (x ∷ xs) (suc i) h = none-in p xs i (or_parts (p x) (list_any p xs) h).1

-- what no item of a list passes, the one of a number does not
pub none-at : {X : Type 0} (p : X → Bool) (xs : List X) (n : ℕ) → list_any p xs ≡ false → option_map_or p (at_number xs n) false ≡ false
none-at p xs zero h = refl
none-at p xs (suc n) h = none-in p xs n h

found-step : (b : Bool) (n : ℕ) (o : Option ℕ) (any : Bool) → is_some o ≡ any → is_some (if b then Some n else o) ≡ (b || any)
found-step true n o any e = refl
found-step false n o any e = e

-- one has a number exactly where one passes
pub number_from-found : {X : Type 0} (p : X → Bool) (n : ℕ) (xs : List X) → is_some (number_from p n xs) ≡ list_any p xs
number_from-found p n [] = refl
number_from-found p n (x ∷ xs) = found-step (p x) n (number_from p (n + 1) xs) (list_any p xs) (number_from-found p (n + 1) xs)

-- ---- records that are gone

-- a record is given up where it was declined or removed
pub given_up-gone : (declined removed : Bool) (settled : Option Settlement) (accepted : Bool) → is_given_up (phase_from declined removed settled accepted) ≡ (declined || removed)
given_up-gone true removed settled accepted = refl
given_up-gone false true settled accepted = refl
given_up-gone false false (Some s) accepted = by_status (is_success s.status)
  where
    by_status : (b : Bool) → is_given_up (if b then phases.Confirmed else phases.Refused) ≡ false
    by_status true = refl
    by_status false = refl
given_up-gone false false None true = refl
given_up-gone false false None false = refl

abbrev unshared_in : Offer → List Entry → Bool
unshared_in offer g = list_any (λ (e : Entry). unshares offer e.ask) g

removed-was : (k : List Entry) (n : ℕ) (offer : Offer) → at_number (offers k) n ≡ Some offer → is_removed k n ≡ unshared_in offer (since_offer n k)
removed-was k n offer is = rw is refl

-- whether a record is removed after one more entry
pub removed-now : (e : Entry) (k : List Entry) (n : ℕ) (offer : Offer) → at_number (offers k) n ≡ Some offer → n ≤ length (offers k) → is_removed (e ∷ k) n ≡ (unshares offer e.ask || is_removed k n)
removed-now e k n offer is within =
    rw (at_number-added (offers k) (offer_by e.ask) n within, is, le-leb n (length (offers k)) within) refl

-- a record that is received with an entry is not removed by it
removed-new : (e : Entry) (k : List Entry) (n : ℕ) → nat_le n (length (offers k)) ≡ false → is_removed (e ∷ k) n ≡ false
removed-new e k n late = by_offer (at_number (offers (e ∷ k)) n)
  where
    by_offer : (o : Option Offer) → option_map_or (λ offer. unshared_in offer (since_offer n (e ∷ k))) o false ≡ false
    by_offer None = refl
    by_offer (Some offer) = rw late refl

-- ---- an Unshared

-- that an offer is shared no more
abbrev pub ending : List ℕ → List ℕ → List ℕ → Ask
ending id secret fresh = asks.Notice (notices.Unshared id secret) fresh

-- whether a record was declined or removed
abbrev is_gone : List Entry → ℕ → Bool
is_gone k n = is_declined k n || is_removed k n

phase-gone : (messages : List Message) (k : List Entry) (n : ℕ) → is_given_up (phase_among messages k n) ≡ is_gone k n
phase-gone messages k n = given_up-gone (is_declined k n) (is_removed k n) (outcome messages k is_acceptance (Received n)) (is_accepted k n)

-- a record with this id and secret was declined or removed
abbrev IsGone : List ℕ → List ℕ → List Entry → ℕ → Type 0
IsGone id secret k n = (offer : Offer) → at_number (offers k) n ≡ Some offer → is_of id secret offer ≡ true → is_gone k n ≡ true

gone-begins : (host id secret fresh : List ℕ) (reply : Reply) (k : List Entry) → was_taken reply ≡ true → reply ≡ answer_kept host k (ending id secret fresh) → (b : Bool) → changes_in (view_of host k) (ending id secret fresh) reply ≡ b → (n : ℕ) → n ≤ length (offers k) → IsGone id secret (if b then record { ask = ending id secret fresh; reply = reply } ∷ k else k) n
gone-begins host id secret fresh reply k taken given true changed n within offer is fits =
    let e : Entry = record { ask = ending id secret fresh; reply = reply } in
    let now : is_removed (e ∷ k) n ≡ true = removed-now e k n offer is within ∙ rw fits refl in
    rw now (or_right (is_declined k n) true refl)
gone-begins host id secret fresh reply k taken given false changed n within offer is fits =
    let v = view_of host k in
    let noticed = (noticed-taken (is_received v id secret) reply taken given).1 in
    let P : Reply → Type 0 = λ r. changes_in v (ending id secret fresh) r ≡ false in
    let held : is_held v id secret ≡ false = subst P noticed changed in
    let none = none-numbered (λ m. option_map_or (is_of id secret) (at_number v.offers m) false && not (is_given_up (v.phase m))) (offers k) n offer held is in
    let Q : Option Offer → Type 0 = λ o. (option_map_or (is_of id secret) o false && not (is_given_up (v.phase n))) ≡ false in
    let R : Bool → Type 0 = λ b. (b && not (is_given_up (v.phase n))) ≡ false in
    let given_up : is_given_up (v.phase n) ≡ true = so (is_given_up (v.phase n)) (subst R fits (subst Q is none)) in
    sym (phase-gone v.messages k n) ∙ given_up

gone-after : (host id secret fresh : List ℕ) (e : Entry) (k : List Entry) → same_ask e.ask (ending id secret fresh) ≡ true → was_taken e.reply ≡ true → e.reply ≡ answer_kept host k e.ask → (b : Bool) → changes host k e ≡ b → (n : ℕ) → n ≤ length (offers k) → IsGone id secret (if b then e ∷ k else k) n
gone-after host id secret fresh e k same taken given b changed n within =
    let r = same_ask-notice e.ask (notices.Unshared id secret) fresh same in
    let P : Ask → Type 0 = λ a. IsGone id secret (if b then record { ask = a; reply = e.reply } ∷ k else k) n in
    let G : Ask → Type 0 = λ a. e.reply ≡ answer_kept host k a in
    let H : Ask → Type 0 = λ a. changes_in (view_of host k) a e.reply ≡ b in
    subst P (sym r.1) (gone-begins host id secret r.0 e.reply k taken (subst G r.1 given) b (subst H r.1 changed) n within)

-- a record of this number was there before one more entry
pub record-before : (e : Entry) (k : List Entry) (n : ℕ) (offer : Offer) → n ≤ length (offers k) → at_number (offers (e ∷ k)) n ≡ Some offer → at_number (offers k) n ≡ Some offer
record-before e k n offer within is = sym (at_number-added (offers k) (offer_by e.ask) n within) ∙ is

gone-stays : (id secret : List ℕ) (e : Entry) (k : List Entry) (n : ℕ) → n ≤ length (offers k) → IsGone id secret k n → IsGone id secret (e ∷ k) n
gone-stays id secret e k n within old offer is fits =
    let was = record-before e k n offer within is in
    rw (removed-now e k n offer was within) (or_more (declines n e.ask) (is_declined k n) (unshares offer e.ask) (is_removed k n) (old offer was fits))

-- each record with this id and secret that was received before the last equal Unshared is gone
pub gone-old : (host id secret fresh : List ℕ) (g : List Entry) → IsLegal host g → (n : ℕ) → n ≤ received_before host (ending id secret fresh) g → IsGone id secret (kept host g) n
gone-old host id secret fresh g legal n within =
    of_old host (ending id secret fresh) (IsGone id secret) (λ offer is fits. absurd (cc)) (gone-after host id secret fresh) (λ e k changed n within old. gone-stays id secret e k n within old) g legal n within

-- a kept Unshared of a record with this id and secret is equal to this one, and was taken
unshares-equal : (v : View) (id secret fresh : List ℕ) (offer : Offer) (ask : Ask) (reply : Reply) → is_of id secret offer ≡ true → changes_in v ask reply ≡ true → answers_equal was_taken (ending id secret fresh) (record { ask = ask; reply = reply }) ≡ false → unshares offer ask ≡ false
unshares-equal v id secret fresh offer (asks.Notice (notices.Unshared other_id other_secret) other_fresh) replies.Noticed fits changed other = by_test (is_of other_id other_secret offer) refl
  where
    by_test : (b : Bool) → is_of other_id other_secret offer ≡ b → b ≡ false
    by_test false h = refl
    by_test true h =
        let a = both (same_text offer.id id) (same_text offer.secret secret) fits in
        let b = both (same_text offer.id other_id) (same_text offer.secret other_secret) h in
        let e : other_id ≡ id = sym (text-equal offer.id other_id b.0) ∙ text-equal offer.id id a.0 in
        let f : other_secret ≡ secret = sym (text-equal offer.secret other_secret b.1) ∙ text-equal offer.secret secret a.1 in
        let same : (same_text other_id id && same_text other_secret secret) ≡ true = rw (e, f, text-same id, text-same secret) refl in
        let P : Bool → Type 0 = λ s. (s && true) ≡ false in
        absurd (not_both true refl (subst P same other))
unshares-equal v id secret fresh offer (asks.Notice (notices.Unshared other_id other_secret) other_fresh) _ fits changed other = absurd (cc)
unshares-equal v id secret fresh offer (asks.Notice _ other_fresh) reply fits changed other = refl
unshares-equal v id secret fresh offer _ reply fits changed other = refl

-- a record with this id and secret that was received after the last equal Unshared is not removed
pub not_removed-later : (host id secret fresh : List ℕ) (g : List Entry) (n : ℕ) (offer : Offer) → received_before host (ending id secret fresh) g < n → at_number (offers (kept host g)) n ≡ Some offer → is_of id secret offer ≡ true → is_removed (kept host g) n ≡ false
not_removed-later host id secret fresh [] n offer late is fits = let w = at_number-within [] n offer is in let low = w.0 in let high = w.1 in absurd (omega arith)
not_removed-later host id secret fresh (e ∷ before) n offer late is fits = by_change (changes host k e) refl is (not_removed-later host id secret fresh before n offer)
  where
    k : List Entry
    k = kept host before

    Older : Type 0
    Older = received_before host (ending id secret fresh) before < n → at_number (offers k) n ≡ Some offer → is_of id secret offer ≡ true → is_removed k n ≡ false

    by_answer : (b : Bool) → answers_equal was_taken (ending id secret fresh) e ≡ b → (if b then length (offers k) else received_before host (ending id secret fresh) before) < n → n ≤ length (offers k) → (received_before host (ending id secret fresh) before < n) × (answers_equal was_taken (ending id secret fresh) e ≡ false)
    by_answer true found h within = absurd (omega arith)
    by_answer false other h within = (h, other)

    by_age : (b : Bool) → nat_le n (length (offers k)) ≡ b → changes host k e ≡ true → at_number (offers (e ∷ k)) n ≡ Some offer → Older → is_removed (e ∷ k) n ≡ false
    by_age false new changed is older = removed-new e k n new
    by_age true old changed is older =
        let within = leb-true n (length (offers k)) old in
        let was = record-before e k n offer within is in
        let r = by_answer (answers_equal was_taken (ending id secret fresh) e) refl late within in
        removed-now e k n offer was within ∙ rw (unshares-equal (view_of host k) id secret fresh offer e.ask e.reply fits changed r.1) (older r.0 was fits)

    by_change : (b : Bool) → changes host k e ≡ b → at_number (offers (if b then e ∷ k else k)) n ≡ Some offer → Older → is_removed (if b then e ∷ k else k) n ≡ false
    by_change true changed is older = by_age (nat_le n (length (offers k))) refl changed is older
    by_change false changed is older =
        let w = at_number-within (offers k) n offer is in
        let r = by_answer (answers_equal was_taken (ending id secret fresh) e) refl late w.1 in
        older r.0 is fits

-- ---- what an Unshared would change

later-gone : (late declined removed : Bool) → (late ≡ true → removed ≡ false) → (late ≡ false → (declined || removed) ≡ true) → not (declined || removed) ≡ ((late && true) && not declined)
later-gone true declined true later older = absurd (not_both true refl (later refl))
later-gone true true false later older = refl
later-gone true false false later older = refl
later-gone false declined removed later older = rw (older refl) refl

none_there : (late gone declined : Bool) → (false && not gone) ≡ ((late && false) && not declined)
none_there true gone declined = refl
none_there false gone declined = refl

-- a record is held exactly where the Unshared would remove it
held-removable : (host : List ℕ) (g : List Entry) (id secret fresh : List ℕ) → IsLegal host g → (n : ℕ)
    → (option_map_or (is_of id secret) (at_number (offers (kept host g)) n) false && not (is_given_up (phase_among (out host (kept host g)) (kept host g) n))) ≡ is_removable host g id secret fresh n
held-removable host g id secret fresh legal n = rw (phase-gone (out host k) k n) (by_offer (at_number (offers k) n) refl)
  where
    k : List Entry
    k = kept host g

    late : Bool
    late = nat_lt (received_before host (ending id secret fresh) g) n

    by_fit : (offer : Offer) → at_number (offers k) n ≡ Some offer → (b : Bool) → is_of id secret offer ≡ b → (b && not (is_gone k n)) ≡ ((late && b) && not (is_declined k n))
    by_fit offer is false fits = none_there late (is_gone k n) (is_declined k n)
    by_fit offer is true fits =
        later-gone late (is_declined k n) (is_removed k n)
        (λ h. not_removed-later host id secret fresh g n offer (ltb-true (received_before host (ending id secret fresh) g) n h) is fits)
        (λ h. let within = ltb-false (received_before host (ending id secret fresh) g) n h in gone-old host id secret fresh g legal n (omega arith) offer is fits)

    by_offer : (o : Option Offer) → at_number (offers k) n ≡ o → (option_map_or (is_of id secret) o false && not (is_gone k n)) ≡ ((late && option_map_or (is_of id secret) o false) && not (is_declined k n))
    by_offer None is = none_there late (is_gone k n) (is_declined k n)
    by_offer (Some offer) is = by_fit offer is (is_of id secret offer) refl

-- no record is removable where none has this id and secret
removable-none : (host : List ℕ) (g : List Entry) (id secret fresh : List ℕ) → is_received (view_of host (kept host g)) id secret ≡ false → (n : ℕ) → is_removable host g id secret fresh n ≡ false
removable-none host g id secret fresh none n =
    let any : list_any (is_of id secret) (offers (kept host g)) ≡ false = sym (number_from-found (is_of id secret) 1 (offers (kept host g))) ∙ none in
    rw (none-at (is_of id secret) (offers (kept host g)) n any) (sym (none_there (nat_lt (received_before host (ending id secret fresh) g) n) false (is_declined (kept host g) n)))

-- an Unshared would change something exactly where it would remove a record
pub unshared-changes : (host : List ℕ) (g : List Entry) (id secret fresh : List ℕ) → IsLegal host g → would_change host g (ending id secret fresh) ≡ list_any (is_removable host g id secret fresh) (numbers (offers (kept host g)))
unshared-changes host g id secret fresh legal = by_received (is_received v id secret) refl
  where
    v : View
    v = view_of host (kept host g)

    by_received : (b : Bool) → is_received v id secret ≡ b → changes_in v (ending id secret fresh) (noticed_if b) ≡ list_any (is_removable host g id secret fresh) (numbers (offers (kept host g)))
    by_received true is = some-alike (λ m. option_map_or (is_of id secret) (at_number v.offers m) false && not (is_given_up (v.phase m))) (is_removable host g id secret fresh) (held-removable host g id secret fresh legal) (numbers (offers (kept host g)))
    by_received false is = sym (none-passes (is_removable host g id secret fresh) (removable-none host g id secret fresh is) (numbers (offers (kept host g))))
