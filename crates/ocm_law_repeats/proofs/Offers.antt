use Rattle.std.proofs.Common.{◌≡◌, ℕ, ◌+◌, List, [], ◌∷◌, Bool, true, false, refl, sym, ◌∙◌, subst}
use Rattle.std.specs.Prelude.{Option, Some, None, nat_lt, length, ◌||◌, not, if◌then◌else◌, is_some}
use Rattle.std.specs.Option.{option_or}
use Rattle.std.proofs.lemmas.Bool.{eq-eqb, or_left, or_right}
use Rattle.std.proofs.lemmas.List.Folds.{list_any-append}
use Rattle.ocm_types.specs.declared.phases.Which.TheVariants as limits
use Rattle.ocm_types.specs.declared.letters.Offer.{Offer}
use Rattle.ocm_entry.specs.declared.asks.Ask.{Ask}
use Rattle.ocm_entry.specs.declared.asks.Ask.TheVariants as asks
use Rattle.ocm_entry.specs.declared.replies.Reply.{Reply}
use Rattle.ocm_entry.specs.declared.replies.Reply.TheVariants as replies
use Rattle.ocm_entry.specs.declared.refusals.Why.{Why}
use Rattle.ocm_entry.specs.declared.refusals.Why.TheVariants.{NotOurHost, UnknownUser, OwnHost, Limit}
use Rattle.ocm_entry.specs.declared.refusals.AddressField.TheVariants as fields
use Rattle.ocm_entry.specs.declared.entries.Entry.{Entry}
use Rattle.ocm_rules.specs.declared.rows.Message.{Message}
use Rattle.ocm_rules.specs.Numbers.{added, at_number, same_text}
use Rattle.ocm_rules.specs.Equal.{same_offer}
use Rattle.ocm_rules.specs.Users.{is_taken}
use Rattle.ocm_rules.specs.Settlements.{is_settled, settled_by, settlement, settles}
use Rattle.ocm_rules.specs.Offers.{offers, offer_by, is_known}
use Rattle.ocm_rules.specs.Views.{View}
use Rattle.ocm_rules.specs.Messages.{view_of}
use Rattle.ocm_rules.specs.Answers.{offer_reply, settle_reply, refused, limited, pending_count}
use Rattle.ocm_rules.specs.History.{kept, changes, changes_in, answer_kept, IsLegal}
use Rattle.ocm_law_repeats.specs.Repeats.{is_repeat, same_ask, was_taken, would_change}
use Rattle.ocm_law_repeats.proofs.Tests.{so}
use Rattle.ocm_law_repeats.proofs.Same.{offer-same, same_ask-offer, same_ask-settle}
use Rattle.ocm_law_repeats.proofs.Once.{once}

-- ---- offers

-- an offer that is taken changes nothing only where an equal one is known
abbrev Known : View → Offer → Reply → Type 0
Known v offer reply = was_taken reply ≡ true → changes_in v (asks.Offer offer) reply ≡ false → is_known v.offers offer ≡ true

refused-Known : (v : View) (offer : Offer) (why : Why) → Known v offer (refused why)
refused-Known v offer why h k = absurd (cc)

recipient-Known : (v : View) (offer : Offer) (user : List ℕ) → Known v offer (replies.Recipient user)
recipient-Known v offer user h k = so (is_known v.offers offer) k

-- an offer that nothing is wrong with
new-Known : (v : View) (offer : Offer) (known pending records : Bool) → Known v offer (if known then replies.Recipient offer.with.user else (if pending then limited limits.Pending else (if records then limited limits.Records else replies.Recipient offer.with.user)))
new-Known v offer true pending records = recipient-Known v offer offer.with.user
new-Known v offer false true records = refused-Known v offer (Limit limits.Pending)
new-Known v offer false false true = refused-Known v offer (Limit limits.Records)
new-Known v offer false false false = recipient-Known v offer offer.with.user

any-Known : (v : View) (offer : Offer) (host user owner : Bool) (reply : Reply) → Known v offer reply → Known v offer (if host then refused NotOurHost else (if user then refused UnknownUser else (if owner then refused (OwnHost fields.Owner) else reply)))
any-Known v offer true user owner reply h = refused-Known v offer NotOurHost
any-Known v offer false true owner reply h = refused-Known v offer UnknownUser
any-Known v offer false false true reply h = refused-Known v offer (OwnHost fields.Owner)
any-Known v offer false false false reply h = h

offer_reply-Known : (v : View) (offer : Offer) → Known v offer (offer_reply v offer)
offer_reply-Known v offer =
    any-Known v offer (not (same_text offer.with.host v.host)) (not (is_taken v.users offer.with.user)) (same_text offer.owner.host v.host) _
    (new-Known v offer (is_known v.offers offer) (nat_lt 256 (pending_count v offer.with.user + 1)) (nat_lt 65536 (length v.offers + 1)))

-- an offer that was taken is known from then on
known-begins : (host : List ℕ) (offer : Offer) (e : Entry) (k : List Entry) → same_ask e.ask (asks.Offer offer) ≡ true → was_taken e.reply ≡ true → e.reply ≡ answer_kept host k e.ask → (b : Bool) → changes host k e ≡ b → is_known (offers (if b then e ∷ k else k)) offer ≡ true
known-begins host offer e k same taken given true h =
    let P : Ask → Type 0 = λ ask. is_known (added (offers k) (offer_by ask)) offer ≡ true in
    let one : (same_offer offer offer || false) ≡ true = rw (offer-same offer) refl in
    let now : P (asks.Offer offer) = list_any-append (same_offer offer) (offers k) (offer ∷ []) ∙ or_right (is_known (offers k) offer) _ one in
    subst P (sym (same_ask-offer e.ask offer same)) now
known-begins host offer e k same taken given false h =
    let P : Ask → Reply → Type 0 = λ ask reply. changes_in (view_of host k) ask reply ≡ false in
    let asked = same_ask-offer e.ask offer same in
    let reply : e.reply ≡ offer_reply (view_of host k) offer = subst (λ ask. e.reply ≡ answer_kept host k ask) asked given in
    let unchanged : P (asks.Offer offer) e.reply = subst (λ ask. P ask e.reply) asked h in
    let Q : Reply → Type 0 = λ r. was_taken r ≡ true in
    offer_reply-Known (view_of host k) offer (subst Q reply taken) (subst (P (asks.Offer offer)) reply unchanged)

known-added : (os : List Offer) (new : Option Offer) (offer : Offer) → is_known os offer ≡ true → is_known (added os new) offer ≡ true
known-added os None offer h = h
known-added os (Some o) offer h = list_any-append (same_offer offer) os (o ∷ []) ∙ or_left (is_known os offer) _ h

-- a known offer changes nothing
known-changes : (v : View) (offer : Offer) (reply : Reply) → is_known v.offers offer ≡ true → changes_in v (asks.Offer offer) reply ≡ false
known-changes v offer (replies.Recipient user) h = rw h refl
known-changes v offer _ h = refl

pub offer-once : (host : List ℕ) (g : List Entry) (offer : Offer) → IsLegal host g → is_repeat g (asks.Offer offer) ≡ true → would_change host g (asks.Offer offer) ≡ false
offer-once host g offer legal repeated =
    let known = once host (asks.Offer offer) (λ k. is_known (offers k) offer ≡ true) (known-begins host offer) (λ e k given changed h. known-added (offers k) (offer_by e.ask) offer h) g legal repeated in
    known-changes (view_of host (kept host g)) offer _ known

-- ---- settlements

-- a settlement that is taken and changes nothing is of a message that is settled already
settle_reply-settled : (v : View) (number status : ℕ) (id : Option (List ℕ)) (message : Option Message) (settled : Bool) → v.is_settled number ≡ settled → was_taken (settle_reply message settled status id) ≡ true → changes_in v (asks.Settle number status id) (settle_reply message settled status id) ≡ false → v.is_settled number ≡ true
settle_reply-settled v number status id None settled is h k = absurd (cc)
settle_reply-settled v number status id (Some message) true is h k = is
settle_reply-settled v number status id (Some message) false is h k = by_test (settles message.letter status id) h k
  where
    by_test : (b : Bool) → was_taken (if b then replies.Done else replies.Left) ≡ true → changes_in v (asks.Settle number status id) (if b then replies.Done else replies.Left) ≡ false → v.is_settled number ≡ true
    by_test true h k = so (v.is_settled number) k
    by_test false h k = absurd (cc)

settled-or : {X : Type 0} (new old : Option X) → is_some old ≡ true → is_some (option_or new old) ≡ true
settled-or None old h = h
settled-or (Some x) old h = refl

settled-begins : (host : List ℕ) (number status : ℕ) (id : Option (List ℕ)) (e : Entry) (k : List Entry) → same_ask e.ask (asks.Settle number status id) ≡ true → was_taken e.reply ≡ true → e.reply ≡ answer_kept host k e.ask → (b : Bool) → changes host k e ≡ b → is_settled (if b then e ∷ k else k) number ≡ true
settled-begins host number status id e k same taken given true h =
    let P : Ask → Type 0 = λ ask. is_some (option_or (settled_by number ask) (settlement k number)) ≡ true in
    let now : P (asks.Settle number status id) = rw (eq-eqb number number refl) refl in
    subst P (sym (same_ask-settle e.ask number status id same)) now
settled-begins host number status id e k same taken given false h =
    let v = view_of host k in
    let P : Ask → Reply → Type 0 = λ ask reply. changes_in v ask reply ≡ false in
    let asked = same_ask-settle e.ask number status id same in
    let reply : e.reply ≡ settle_reply (at_number v.messages number) (v.is_settled number) status id = subst (λ ask. e.reply ≡ answer_kept host k ask) asked given in
    let unchanged : P (asks.Settle number status id) e.reply = subst (λ ask. P ask e.reply) asked h in
    let Q : Reply → Type 0 = λ r. was_taken r ≡ true in
    settle_reply-settled v number status id (at_number v.messages number) (v.is_settled number) refl (subst Q reply taken) (subst (P (asks.Settle number status id)) reply unchanged)

settled-changes : (v : View) (number status : ℕ) (id : Option (List ℕ)) (reply : Reply) → v.is_settled number ≡ true → changes_in v (asks.Settle number status id) reply ≡ false
settled-changes v number status id replies.Done h = rw h refl
settled-changes v number status id _ h = refl

-- a message of which one answer was taken takes no other, whatever that says
pub settled-once : (host : List ℕ) (g : List Entry) (number status other_status : ℕ) (id other_id : Option (List ℕ)) → IsLegal host g → is_repeat g (asks.Settle number status id) ≡ true → would_change host g (asks.Settle number other_status other_id) ≡ false
settled-once host g number status other_status id other_id legal repeated =
    let settled = once host (asks.Settle number status id) (λ k. is_settled k number ≡ true) (settled-begins host number status id) (λ e k given changed h. settled-or (settled_by number e.ask) (settlement k number) h) g legal repeated in
    settled-changes (view_of host (kept host g)) number other_status other_id _ settled
