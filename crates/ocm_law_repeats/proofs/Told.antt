use Rattle.std.proofs.Common.{◌≡◌, ℕ, ◌≤◌, List, ◌∷◌, length, Bool, true, false, refl, sym, ◌∙◌, subst, arith}
use Rattle.std.specs.Prelude.{Option, Some, None, nat_lt, ◌&&◌, if◌then◌else◌, filter_map}
use Rattle.std.specs.List.{list_any, cons_option}
use Rattle.std.specs.Option.{option_map_or}
use Rattle.std.proofs.lemmas.Bool.{le-leb, le-ltb, ltb-true, ltb-false}
use Rattle.ocm_types.specs.declared.letters.Offer.{Offer}
use Rattle.ocm_types.specs.declared.letters.Notice.TheVariants as notices
use Rattle.ocm_types.specs.declared.rights.Rights.{Rights}
use Rattle.ocm_entry.specs.declared.asks.Ask.{Ask}
use Rattle.ocm_entry.specs.declared.asks.Ask.TheVariants as asks
use Rattle.ocm_entry.specs.declared.replies.Reply.{Reply}
use Rattle.ocm_entry.specs.declared.entries.Entry.{Entry}
use Rattle.ocm_rules.specs.declared.rows.Told.{Told}
use Rattle.ocm_rules.specs.Numbers.{at_number, numbers}
use Rattle.ocm_rules.specs.Offers.{offers, offer_by, since_offer, is_of, told_by, later, greatest, told_first, told}
use Rattle.ocm_rules.specs.Views.{View}
use Rattle.ocm_rules.specs.Messages.{view_of}
use Rattle.ocm_rules.specs.Answers.{noticed_if, is_received}
use Rattle.ocm_rules.specs.History.{kept, changes, changes_in, is_news, answer_kept, IsLegal}
use Rattle.ocm_law_repeats.specs.Repeats.{was_taken, received_before, same_ask, is_behind, would_change}
use Rattle.ocm_law_repeats.proofs.Same.{same_ask-notice}
use Rattle.ocm_law_repeats.proofs.Closed.{noticed-taken}
use Rattle.ocm_law_repeats.proofs.Records.{at_number-added, none-numbered, some-alike, none-passes, of_old}
use Rattle.ocm_law_repeats.proofs.Removed.{none-at, number_from-found, record-before}

-- ---- serials

-- a serial does not fall
later-old : (new old : Told) → old.serial ≤ (later new old).serial
later-old new old = by_test (nat_lt old.serial new.serial) refl
  where
    by_test : (b : Bool) → nat_lt old.serial new.serial ≡ b → old.serial ≤ (if b then new else old).serial
    by_test true h = let l = ltb-true old.serial new.serial h in omega arith
    by_test false h = omega arith

-- what is told is told
later-new : (new old : Told) → new.serial ≤ (later new old).serial
later-new new old = by_test (nat_lt old.serial new.serial) refl
  where
    by_test : (b : Bool) → nat_lt old.serial new.serial ≡ b → new.serial ≤ (if b then new else old).serial
    by_test true h = omega arith
    by_test false h = let l = ltb-false old.serial new.serial h in omega arith

-- what was told with these entries since the offer
abbrev pub told_in : Offer → List Entry → List Told
told_in offer g = filter_map (λ (e : Entry). told_by offer e.ask) g

pub told-was : (k : List Entry) (n : ℕ) (offer : Offer) → at_number (offers k) n ≡ Some offer → told k n ≡ greatest (told_first offer) (told_in offer (since_offer n k))
told-was k n offer is = rw is refl

pub told-now : (e : Entry) (k : List Entry) (n : ℕ) (offer : Offer) → at_number (offers k) n ≡ Some offer → n ≤ length (offers k) → told (e ∷ k) n ≡ greatest (told_first offer) (cons_option (told_by offer e.ask) (told_in offer (since_offer n k)))
told-now e k n offer is within = rw (at_number-added (offers k) (offer_by e.ask) n within, is, le-leb n (length (offers k)) within) refl

greatest-old : (start : Told) (new : Option Told) (older : List Told) → (greatest start older).serial ≤ (greatest start (cons_option new older)).serial
greatest-old start None older = omega arith
greatest-old start (Some new) older = later-old new (greatest start older)

-- the serial that a record is told does not fall
told-grows : (e : Entry) (k : List Entry) (n : ℕ) (offer : Offer) → at_number (offers k) n ≡ Some offer → n ≤ length (offers k) → (told k n).serial ≤ (told (e ∷ k) n).serial
told-grows e k n offer is within = rw (told-now e k n offer is within, told-was k n offer is) (greatest-old (told_first offer) (told_by offer e.ask) (told_in offer (since_offer n k)))

-- ---- a Changed

-- that an offer has other permissions
abbrev pub change : List ℕ → List ℕ → ℕ → Rights → List ℕ → Ask
change id secret serial perms fresh = asks.Notice (notices.Changed id secret serial perms) fresh

-- a record with this id and secret was told this serial or a higher one
abbrev IsTold : List ℕ → List ℕ → ℕ → List Entry → ℕ → Type 0
IsTold id secret serial k n = (offer : Offer) → at_number (offers k) n ≡ Some offer → is_of id secret offer ≡ true → nat_lt (told k n).serial serial ≡ false

told-begins : (host id secret : List ℕ) (serial : ℕ) (perms : Rights) (fresh : List ℕ) (reply : Reply) (k : List Entry) → was_taken reply ≡ true → reply ≡ answer_kept host k (change id secret serial perms fresh) → (b : Bool) → changes_in (view_of host k) (change id secret serial perms fresh) reply ≡ b → (n : ℕ) → n ≤ length (offers k) → IsTold id secret serial (if b then record { ask = change id secret serial perms fresh; reply = reply } ∷ k else k) n
told-begins host id secret serial perms fresh reply k taken given true changed n within offer is fits =
    let e : Entry = record { ask = change id secret serial perms fresh; reply = reply } in
    let new : Told = record { serial = serial; perms = perms } in
    let older : Told = greatest (told_first offer) (told_in offer (since_offer n k)) in
    let says : told_by offer (change id secret serial perms fresh) ≡ Some new = rw fits refl in
    let now : told (e ∷ k) n ≡ later new older = told-now e k n offer is within ∙ rw says refl in
    rw now (le-ltb (later new older).serial serial (later-new new older))
told-begins host id secret serial perms fresh reply k taken given false changed n within offer is fits =
    let v = view_of host k in
    let noticed = (noticed-taken (is_received v id secret) reply taken given).1 in
    let P : Reply → Type 0 = λ r. changes_in v (change id secret serial perms fresh) r ≡ false in
    let news : is_news v id secret serial ≡ false = subst P noticed changed in
    let none = none-numbered (λ m. option_map_or (is_of id secret) (at_number v.offers m) false && nat_lt (v.told m).serial serial) (offers k) n offer news is in
    let Q : Option Offer → Type 0 = λ o. (option_map_or (is_of id secret) o false && nat_lt (v.told n).serial serial) ≡ false in
    let R : Bool → Type 0 = λ b. (b && nat_lt (v.told n).serial serial) ≡ false in
    subst R fits (subst Q is none)

told-after : (host id secret : List ℕ) (serial : ℕ) (perms : Rights) (fresh : List ℕ) (e : Entry) (k : List Entry) → same_ask e.ask (change id secret serial perms fresh) ≡ true → was_taken e.reply ≡ true → e.reply ≡ answer_kept host k e.ask → (b : Bool) → changes host k e ≡ b → (n : ℕ) → n ≤ length (offers k) → IsTold id secret serial (if b then e ∷ k else k) n
told-after host id secret serial perms fresh e k same taken given b changed n within =
    let r = same_ask-notice e.ask (notices.Changed id secret serial perms) fresh same in
    let P : Ask → Type 0 = λ a. IsTold id secret serial (if b then record { ask = a; reply = e.reply } ∷ k else k) n in
    let G : Ask → Type 0 = λ a. e.reply ≡ answer_kept host k a in
    let H : Ask → Type 0 = λ a. changes_in (view_of host k) a e.reply ≡ b in
    subst P (sym r.1) (told-begins host id secret serial perms r.0 e.reply k taken (subst G r.1 given) b (subst H r.1 changed) n within)

told-stays : (id secret : List ℕ) (serial : ℕ) (e : Entry) (k : List Entry) (n : ℕ) → n ≤ length (offers k) → IsTold id secret serial k n → IsTold id secret serial (e ∷ k) n
told-stays id secret serial e k n within old offer is fits =
    let was = record-before e k n offer within is in
    let before = ltb-false (told k n).serial serial (old offer was fits) in
    let grown = told-grows e k n offer was within in
    le-ltb (told (e ∷ k) n).serial serial (omega arith)

-- each record with this id and secret that was received before the last equal Changed was told its serial or a higher one
pub told-old : (host id secret : List ℕ) (serial : ℕ) (perms : Rights) (fresh : List ℕ) (g : List Entry) → IsLegal host g → (n : ℕ) → n ≤ received_before host (change id secret serial perms fresh) g → IsTold id secret serial (kept host g) n
told-old host id secret serial perms fresh g legal n within =
    of_old host (change id secret serial perms fresh) (IsTold id secret serial) (λ offer is fits. absurd (cc)) (told-after host id secret serial perms fresh) (λ e k changed n within old. told-stays id secret serial e k n within old) g legal n within

-- ---- what a Changed would change

later-told : (late low : Bool) → (late ≡ false → low ≡ false) → low ≡ ((late && true) && low)
later-told true low older = refl
later-told false low older = older refl

none_there : (late low : Bool) → (false && low) ≡ ((late && false) && low)
none_there true low = refl
none_there false low = refl

-- the Changed is news to a record exactly where that is behind
news-behind : (host : List ℕ) (g : List Entry) (id secret : List ℕ) (serial : ℕ) (perms : Rights) (fresh : List ℕ) → IsLegal host g → (n : ℕ)
    → (option_map_or (is_of id secret) (at_number (offers (kept host g)) n) false && nat_lt (told (kept host g) n).serial serial) ≡ is_behind host g id secret serial perms fresh n
news-behind host g id secret serial perms fresh legal n = by_offer (at_number (offers k) n) refl
  where
    k : List Entry
    k = kept host g

    late : Bool
    late = nat_lt (received_before host (change id secret serial perms fresh) g) n

    low : Bool
    low = nat_lt (told k n).serial serial

    by_fit : (offer : Offer) → at_number (offers k) n ≡ Some offer → (b : Bool) → is_of id secret offer ≡ b → (b && low) ≡ ((late && b) && low)
    by_fit offer is false fits = none_there late low
    by_fit offer is true fits =
        later-told late low
        (λ h. let within = ltb-false (received_before host (change id secret serial perms fresh) g) n h in told-old host id secret serial perms fresh g legal n (omega arith) offer is fits)

    by_offer : (o : Option Offer) → at_number (offers k) n ≡ o → (option_map_or (is_of id secret) o false && low) ≡ ((late && option_map_or (is_of id secret) o false) && low)
    by_offer None is = none_there late low
    by_offer (Some offer) is = by_fit offer is (is_of id secret offer) refl

-- no record is behind where none has this id and secret
behind-none : (host : List ℕ) (g : List Entry) (id secret : List ℕ) (serial : ℕ) (perms : Rights) (fresh : List ℕ) → is_received (view_of host (kept host g)) id secret ≡ false → (n : ℕ) → is_behind host g id secret serial perms fresh n ≡ false
behind-none host g id secret serial perms fresh none n =
    let any : list_any (is_of id secret) (offers (kept host g)) ≡ false = sym (number_from-found (is_of id secret) 1 (offers (kept host g))) ∙ none in
    rw (none-at (is_of id secret) (offers (kept host g)) n any) (sym (none_there (nat_lt (received_before host (change id secret serial perms fresh) g) n) (nat_lt (told (kept host g) n).serial serial)))

-- a Changed would change something exactly where a record is behind
pub changed-changes : (host : List ℕ) (g : List Entry) (id secret : List ℕ) (serial : ℕ) (perms : Rights) (fresh : List ℕ) → IsLegal host g → would_change host g (change id secret serial perms fresh) ≡ list_any (is_behind host g id secret serial perms fresh) (numbers (offers (kept host g)))
changed-changes host g id secret serial perms fresh legal = by_received (is_received v id secret) refl
  where
    v : View
    v = view_of host (kept host g)

    by_received : (b : Bool) → is_received v id secret ≡ b → changes_in v (change id secret serial perms fresh) (noticed_if b) ≡ list_any (is_behind host g id secret serial perms fresh) (numbers (offers (kept host g)))
    by_received true is = some-alike (λ m. option_map_or (is_of id secret) (at_number v.offers m) false && nat_lt (v.told m).serial serial) (is_behind host g id secret serial perms fresh) (news-behind host g id secret serial perms fresh legal) (numbers (offers (kept host g)))
    by_received false is = sym (none-passes (is_behind host g id secret serial perms fresh) (behind-none host g id secret serial perms fresh is) (numbers (offers (kept host g))))
