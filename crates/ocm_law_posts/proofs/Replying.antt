-- What a session allows as the reply to a letter may answer it.
use Rattle.std.proofs.Common.{◌≡◌, inl, inr, ℕ, Bool, true, false, cond, List, ◌++◌, Option, Some, None, refl, sym, subst}
use Rattle.std.specs.Option.{option_map_or}
use Rattle.std.specs.Prelude.{◌+◌, ◌&&◌, ◌||◌, not, nat_lt, length, is_some}
use Rattle.ocm_types.specs.declared.addresses.Address.{Address}
use Rattle.ocm_types.specs.declared.letters.Letter.{Letter}
use Rattle.ocm_types.specs.declared.letters.Letter.TheVariants as letters
use Rattle.ocm_types.specs.declared.letters.Notice.{Notice}
use Rattle.ocm_types.specs.declared.letters.Notice.TheVariants as notices
use Rattle.ocm_types.specs.declared.letters.Offer.{Offer}
use Rattle.ocm_types.specs.declared.rights.Rights.{Rights}
use Rattle.ocm_types.specs.declared.phases.Which.TheVariants as limits
use Rattle.ocm_types.specs.Rights.{is_within}
use Rattle.ocm_entry.specs.declared.refusals.AddressField.TheVariants as fields
use Rattle.ocm_entry.specs.declared.refusals.Why.{Why}
use Rattle.ocm_entry.specs.declared.refusals.Why.TheVariants.{NotPermitted, ShareClosed, Collision, Limit, SenderIdReused, NotOurHost, UnknownUser, OwnHost}
use Rattle.ocm_entry.specs.declared.replies.Reply.{Reply}
use Rattle.ocm_entry.specs.declared.replies.Reply.TheVariants as replies
use Rattle.ocm_entry.specs.declared.rows.Share.{Share}
use Rattle.ocm_rules.specs.Views.{View, is_live_in, effective_in}
use Rattle.ocm_rules.specs.Messages.{view_of}
use Rattle.ocm_rules.specs.Answers.{pending_count, fails, may_share, share_with, is_received, is_child_of, child_for, new_offer_reply, offer_reply, accepted_reply, noticed_if, repeated_reply, first_reply, request_reply, notice_reply, reply_in}
use Rattle.ocm_law_sessions.specs.Sessions.{would_change, fault_in, fits, IsDoneOrFault, IsChangeReply, IsToldReply}
use Rattle.ocm_rules.specs.History.{answer, kept}
use Rattle.ocm_rules.specs.Numbers.{at_number, same_text}
use Rattle.ocm_rules.specs.Equal.{same_address, same_asked}
use Rattle.ocm_rules.specs.Users.{is_taken}
use Rattle.ocm_rules.specs.Shares.{address_of, is_used}
use Rattle.ocm_rules.specs.Offers.{is_known}
use Rattle.ocm_texts.specs.Hex.{hex}
use Rattle.ocm_entry.specs.Deliveries.{letter_ask}
use Rattle.ocm_law_posts.specs.Answers.{may_answer, RepliesAnswer}

-- it may answer this letter
record May (letter : Letter) (reply : Reply) : Type 0 where
  pub is : may_answer letter reply ≡ true

either : (letter : Letter) (b : Bool) (x y : Reply) → May letter x → May letter y → May letter (cond b x y)
either letter true x y h k = h
either letter false x y h k = k

refused-may : (letter : Letter) (why : Why) → May letter (replies.Refused why)
refused-may letter why = record { is = refl }

-- refused for one reason, else another
unless-may : (letter : Letter) (b : Bool) (why : Why) (other : Reply) → May letter other → May letter (cond b (replies.Refused why) other)
unless-may letter b why other h = either letter b (replies.Refused why) other (refused-may letter why) h

-- ---- offers

recipient-may : (o : Offer) → May (letters.Offer o) (replies.Recipient o.with.user)
recipient-may o = record { is = refl }

new_offer-may : (v : View) (o : Offer) → May (letters.Offer o) (new_offer_reply v o)
new_offer-may v o =
    let taken : Reply = replies.Recipient o.with.user in
    let few : Reply = cond (nat_lt 65536 (length v.offers + 1)) (replies.Refused (Limit limits.Records)) taken in
    let some : Reply = cond (nat_lt 256 (pending_count v o.with.user + 1)) (replies.Refused (Limit limits.Pending)) few in
    either (letters.Offer o) (is_known v.offers o) taken some (recipient-may o)
    (unless-may (letters.Offer o) (nat_lt 256 (pending_count v o.with.user + 1)) (Limit limits.Pending) few
    (unless-may (letters.Offer o) (nat_lt 65536 (length v.offers + 1)) (Limit limits.Records) taken (recipient-may o)))

offer-may : (v : View) (o : Offer) → May (letters.Offer o) (offer_reply v o)
offer-may v o =
    let new : Reply = new_offer_reply v o in
    let theirs : Reply = cond (same_text o.owner.host v.host) (replies.Refused (OwnHost fields.Owner)) new in
    let known : Reply = cond (not (is_taken v.users o.with.user)) (replies.Refused UnknownUser) theirs in
    unless-may (letters.Offer o) (not (same_text o.with.host v.host)) NotOurHost known
    (unless-may (letters.Offer o) (not (is_taken v.users o.with.user)) UnknownUser theirs
    (unless-may (letters.Offer o) (same_text o.owner.host v.host) (OwnHost fields.Owner) new (new_offer-may v o)))

-- ---- notifications

noticed-may : (letter : Letter) (there : Bool) → May letter replies.Noticed → May letter (noticed_if there)
noticed-may letter true h = h
noticed-may letter false h = record { is = refl }

accepted-may : (letter : Letter) (v : View) (found : Option (ℕ × Share)) (owner with : Option Address) (perms : Option Rights) → May letter replies.Noticed → May letter (accepted_reply v found owner with perms)
accepted-may letter v None owner with perms h = record { is = refl }
accepted-may letter v (Some (i, share)) owner with perms h =
    let wrong = fails (same_address (address_of v.host v.users share.owner)) owner || fails (same_address share.with) with || fails (λ p. is_within p share.granted) perms in
    unless-may letter (not (is_live_in v i)) ShareClosed (cond wrong (replies.Refused NotPermitted) replies.Noticed) (unless-may letter wrong NotPermitted replies.Noticed h)

repeated-may : (letter : Letter) (n : ℕ) (row : Option Share) (with : Address) (asked : Option Rights) → May letter (replies.Child n) → May letter (repeated_reply n row with asked)
repeated-may letter n None with asked h = record { is = refl }
repeated-may letter n (Some child) with asked h =
    either letter (same_address child.with with && same_asked child.asked asked) (replies.Child n) (replies.Refused SenderIdReused) h (refused-may letter SenderIdReused)

first-may : (letter : Letter) (v : View) (parent : ℕ) (with : Address) (asked : Option Rights) (secret : List ℕ) → ((n : ℕ) → May letter (replies.Child n)) → May letter (first_reply v parent with asked secret)
first-may letter v parent with asked secret h =
    let made : Reply = replies.Child (length v.shares + 1) in
    let fresh : Reply = cond (is_used v.users v.shares secret) (replies.Refused Collision) made in
    let few : Reply = cond (nat_lt 65536 (length v.shares + 1)) (replies.Refused (Limit limits.Shares)) fresh in
    let other : Reply = cond (same_text with.host v.host) (replies.Refused (OwnHost fields.ShareWith)) few in
    let shared : Reply = cond (not (may_share (effective_in v parent) asked)) (replies.Refused NotPermitted) other in
    unless-may letter (not (is_live_in v parent)) ShareClosed shared
    (unless-may letter (not (may_share (effective_in v parent) asked)) NotPermitted other
    (unless-may letter (same_text with.host v.host) (OwnHost fields.ShareWith) few
    (unless-may letter (nat_lt 65536 (length v.shares + 1)) (Limit limits.Shares) fresh
    (unless-may letter (is_used v.users v.shares secret) Collision made (h (length v.shares + 1))))))

-- one or the other
found-may : {X : Type 0} (letter : Letter) (f : X → Reply) (o : Option X) (other : Reply) → ((x : X) → May letter (f x)) → May letter other → May letter (option_map_or f o other)
found-may letter f None other h k = k
found-may letter f (Some x) other h k = h x

request-may : (letter : Letter) (v : View) (found : Option (ℕ × Share)) (with : Address) (sender_id : List ℕ) (asked : Option Rights) (secret : List ℕ) → ((n : ℕ) → May letter (replies.Child n))
    → May letter (request_reply v found with sender_id asked secret)
request-may letter v None with sender_id asked secret h = record { is = refl }
request-may letter v (Some (parent, share)) with sender_id asked secret h =
    found-may letter (λ n. repeated_reply n (at_number v.shares n) with asked) (child_for v parent sender_id) (first_reply v parent with asked secret) (λ n. repeated-may letter n (at_number v.shares n) with asked (h n))
    (first-may letter v parent with asked secret h)

notice-may : (v : View) (n : Notice) (fresh : List ℕ) → May (letters.Notice n) (notice_reply v n fresh)
notice-may v (notices.Accepted id secret owner with perms) fresh = accepted-may (letters.Notice (notices.Accepted id secret owner with perms)) v (share_with v id secret) owner with perms (record { is = refl })
notice-may v (notices.Declined id secret) fresh = noticed-may (letters.Notice (notices.Declined id secret)) (is_some (share_with v id secret)) (record { is = refl })
notice-may v (notices.Unshared id secret) fresh = noticed-may (letters.Notice (notices.Unshared id secret)) (is_received v id secret) (record { is = refl })
notice-may v (notices.ReshareRequest id secret with sender_id asked) fresh =
    request-may (letters.Notice (notices.ReshareRequest id secret with sender_id asked)) v (share_with v id secret) with sender_id asked (hex fresh) (λ n. record { is = refl })
notice-may v (notices.ReshareUndo id secret) fresh = noticed-may (letters.Notice (notices.ReshareUndo id secret)) (is_child_of v id secret) (record { is = refl })
notice-may v (notices.Changed id secret serial perms) fresh = noticed-may (letters.Notice (notices.Changed id secret serial perms)) (is_received v id secret) (record { is = refl })

answered-may : (v : View) (letter : Letter) (fresh : List ℕ) → May letter (reply_in v (letter_ask letter fresh))
answered-may v (letters.Offer o) fresh = offer-may v o
answered-may v (letters.Notice n) fresh = notice-may v n fresh

-- ---- what is told

done-may : (letter : Letter) (answered reply : Reply) → May letter answered → IsDoneOrFault answered reply → May letter reply
done-may letter answered reply h (inl done) = subst (May letter) (sym done) h
done-may letter answered reply h (inr fault) = subst (May letter) (sym fault.1) (record { is = refl })

change-may : (letter : Letter) (fault : Option ℕ) (room : Bool) (answered reply : Reply) → May letter answered → IsChangeReply fault room answered reply → May letter reply
change-may letter (Some count) room answered reply h is = subst (May letter) (sym is) (record { is = refl })
change-may letter None true answered reply h is = done-may letter answered reply h is
change-may letter None false answered reply h is = subst (May letter) (sym is) (record { is = refl })

told-may : (letter : Letter) (changes : Bool) (fault : Option ℕ) (room : Bool) (answered reply : Reply) → May letter answered → IsToldReply changes fault room answered reply → May letter reply
told-may letter true fault room answered reply h is = change-may letter fault room answered reply h is
told-may letter false fault room answered reply h is = subst (May letter) (sym is) h

pub replies-answer : RepliesAnswer
replies-answer host area base calls letter fresh reply (inl wanting) = (subst (May letter) (sym wanting) (record { is = refl })).is
replies-answer host area base calls letter fresh reply (inr told) =
    (told-may letter (would_change host (calls ++ base) (letter_ask letter fresh)) (fault_in calls) (fits host area (calls ++ base) (letter_ask letter fresh)) (answer host (calls ++ base) (letter_ask letter fresh)) reply (answered-may (view_of host (kept host (calls ++ base))) letter fresh) told).is
