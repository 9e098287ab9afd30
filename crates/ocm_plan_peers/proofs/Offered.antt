use Rattle.std.proofs.Common.{◌≡◌, ℕ, ◌+◌, ◌<◌, List, [], length, nat_lt, Bool, true, false, Option, Some, None, refl, sym, ap, ◌∙◌, if◌then◌else◌}
use Rattle.std.proofs.lemmas.List.{length-map}
use Rattle.ocm_types.specs.declared.letters.Offer.{Offer}
use Rattle.ocm_types.specs.declared.phases.Which.{Which}
use Rattle.ocm_types.specs.declared.phases.Which.TheVariants as limits
use Rattle.ocm_entry.specs.declared.asks.Ask.TheVariants as asks
use Rattle.ocm_entry.specs.declared.replies.Reply.{Reply}
use Rattle.ocm_entry.specs.declared.replies.Reply.TheVariants as replies
use Rattle.ocm_rules.specs.declared.rows.ReceivedRow.{ReceivedRow}
use Rattle.ocm_rules.specs.Answers.{limited, new_offer_reply, pending_count, unless_limited}
use Rattle.ocm_rules.specs.Offers.{is_known}
use Rattle.ocm_rules.specs.State.{State, step, view_in}
use Rattle.ocm_rules.specs.Views.{View}
use Rattle.ocm_tables.specs.declared.changes.TableChange.TheVariants as changes
use Rattle.ocm_tables.specs.Changes.{changed}
use Rattle.ocm_rules_steps.proofs.OtherSteps.{offer-step}
use Rattle.ocm_plan.proofs.Planning.{none-sent, not_full}
use Rattle.ocm_plan_peers.specs.OfferLimits.{limit_of_offer}

-- the reply to an offer that was received before
pub known-reply : (v : View) (offer : Offer) → is_known v.offers offer ≡ true → new_offer_reply v offer ≡ replies.Recipient offer.with.user
known-reply v offer e = rw e refl

by_limits : (pending records : Bool) (reply : Reply)
    → (if pending then limited limits.Pending else (if records then limited limits.Records else reply)) ≡ unless_limited (if pending then Some limits.Pending else (if records then Some limits.Records else None)) reply
by_limits true records reply = refl
by_limits false true reply = refl
by_limits false false reply = refl

-- the reply to an offer that was not received before
pub record-reply : (v : View) (offer : Offer) → is_known v.offers offer ≡ false → new_offer_reply v offer ≡ unless_limited (limit_of_offer v offer.with.user) (replies.Recipient offer.with.user)
record-reply v offer e = rw e (by_limits (nat_lt 256 (pending_count v offer.with.user + 1)) (nat_lt 65536 (length v.offers + 1)) (replies.Recipient offer.with.user))

no_limit : (pending records : Bool) → (if pending then Some limits.Pending else (if records then Some limits.Records else None)) ≡ None → records ≡ false
no_limit true records e = absurd (cc)
no_limit false true e = absurd (cc)
no_limit false false e = refl

-- where no limit would be passed there are fewer received offers than the most
pub few-records : (st : State) (name : List ℕ) → limit_of_offer (view_in st) name ≡ None → length st.received < 65536
few-records st name e =
    let few : nat_lt 65536 (length (view_in st).offers + 1) ≡ false = no_limit (nat_lt 256 (pending_count (view_in st) name + 1)) (nat_lt 65536 (length (view_in st).offers + 1)) e in
    let same : length (view_in st).offers ≡ length st.received = length-map st.received (λ (row : ReceivedRow). row.offer) in
    not_full 65536 (length st.received) (ap (λ n. nat_lt 65536 (n + 1)) (sym same) ∙ few)

-- the reply where a limit is passed, or none
pub limit-reply : (v : View) (offer : Offer) (limit : Option Which) → is_known v.offers offer ≡ false → limit_of_offer v offer.with.user ≡ limit → new_offer_reply v offer ≡ unless_limited limit (replies.Recipient offer.with.user)
limit-reply v offer limit new e = record-reply v offer new ∙ ap (λ (found : Option Which). unless_limited found (replies.Recipient offer.with.user)) e

-- one more received offer is what the offer makes
pub received-makes : (st : State) (offer received : Offer) (reply : Reply) → received ≡ offer → changed st (changes.Receive received) [] ≡ step st (asks.Offer offer) reply
received-makes st offer received reply e = rw e (none-sent _ ∙ sym (offer-step st offer reply))
