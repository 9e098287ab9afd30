-- No answer that the rules give tells that the server could not do it.
use Rattle.std.proofs.Common.{◌≡◌, ℕ, ◌+◌, List, [], length, Bool, true, false, refl, Option, Some, None}
use Rattle.std.specs.Prelude.{if◌then◌else◌, ◌&&◌, ◌||◌, not, nat_lt, is_some}
use Rattle.std.specs.Option.{option_map_or}
use Rattle.ocm_texts.specs.Hex.{hex}
use Rattle.ocm_path.specs.Paths.{Segments, is_root}
use Rattle.ocm_types.specs.declared.addresses.Address.{Address}
use Rattle.ocm_types.specs.declared.letters.Notice.{Notice}
use Rattle.ocm_types.specs.declared.letters.Notice.TheVariants as notices
use Rattle.ocm_types.specs.declared.letters.Offer.{Offer}
use Rattle.ocm_types.specs.declared.phases.Phase.{Phase}
use Rattle.ocm_types.specs.declared.phases.Which.{Which}
use Rattle.ocm_types.specs.declared.phases.Which.TheVariants as limits
use Rattle.ocm_types.specs.declared.rights.Rights.{Rights}
use Rattle.ocm_types.specs.Rights.{is_within}
use Rattle.ocm_entry.specs.declared.asks.Ask.{Ask}
use Rattle.ocm_entry.specs.declared.asks.Ask.TheVariants as asks
use Rattle.ocm_entry.specs.declared.asks.Cmd.{Cmd}
use Rattle.ocm_entry.specs.declared.asks.Cmd.TheVariants as commands
use Rattle.ocm_entry.specs.declared.asks.Method.{Method}
use Rattle.ocm_entry.specs.declared.asks.Method.TheVariants as methods
use Rattle.ocm_entry.specs.declared.listings.DavItem.{DavItem}
use Rattle.ocm_entry.specs.declared.refusals.AddressField.TheVariants as fields
use Rattle.ocm_entry.specs.declared.refusals.Why.{Why}
use Rattle.ocm_entry.specs.declared.refusals.Why.TheVariants as whys
use Rattle.ocm_entry.specs.declared.replies.Reply.{Reply}
use Rattle.ocm_entry.specs.declared.replies.Reply.TheVariants as replies
use Rattle.ocm_entry.specs.declared.rows.Grant.{Grant}
use Rattle.ocm_entry.specs.declared.rows.Place.{Place}
use Rattle.ocm_entry.specs.declared.rows.Share.{Share}
use Rattle.ocm_entry.specs.declared.rows.Standing.{Standing}
use Rattle.ocm_entry.specs.declared.rows.Standing.TheVariants.{Collection, File}
use Rattle.ocm_rules.specs.declared.rows.Message.{Message}
use Rattle.ocm_rules.specs.Equal.{same_address, same_asked}
use Rattle.ocm_rules.specs.Numbers.{same_text, at_number}
use Rattle.ocm_rules.specs.Users.{user_of_key, is_taken}
use Rattle.ocm_rules.specs.Shares.{address_of, is_used}
use Rattle.ocm_rules.specs.Holders.{permits, permits_carry}
use Rattle.ocm_rules.specs.Files.{below, parent_of, overlap, limit_of, limit_of_carry}
use Rattle.ocm_rules.specs.Settlements.{settles}
use Rattle.ocm_rules.specs.Offers.{is_known, is_pending, is_confirmed, is_declinable}
use Rattle.ocm_rules.specs.Requests.{child_of}
use Rattle.ocm_rules.specs.Views.{View, is_live_in, effective_in, grant_in, told_by_limit, share_of_owner, record_of_user, request_of_user}
use Rattle.ocm_rules.specs.History.{is_failure}
use Rattle.ocm_rules.specs.Answers.{refused, is_collection, get_reply, put_done, unless_limited, put_reply, mkcol_reply, delete_reply, items_in, list_reply, has_bytes, method_reply, dav_reply, carried_reply, carries_root, carry_reply, add_user_reply, share_reply, end_reply, is_full_of_changes, limit_reply, phase_reply, may_share, reshare_reply, local_reply, pending_count, new_offer_reply, offer_reply, share_with, fails, accepted_reply, noticed_if, is_child_of, child_for, repeated_reply, first_reply, request_reply, is_received, notice_reply, settle_reply, reply_in}

-- a reply is an answer: it does not tell that the server could not do it
record IsAnswer (reply : Reply) : Type 0 where
  pub is : is_failure reply ≡ false

by_test : (b : Bool) {x y : Reply} → IsAnswer x → IsAnswer y → IsAnswer (if b then x else y)
by_test true hx hy = hx
by_test false hx hy = hy

refused_is : (why : Why) → IsAnswer (refused why)
refused_is why = record { is = refl }

number_is : (n : ℕ) → IsAnswer (replies.Number n)
number_is n = record { is = refl }

child_is : (n : ℕ) → IsAnswer (replies.Child n)
child_is n = record { is = refl }

key_is : (key : List ℕ) → IsAnswer (replies.Key key)
key_is key = record { is = refl }

recipient_is : (user : List ℕ) → IsAnswer (replies.Recipient user)
recipient_is user = record { is = refl }

done_is : IsAnswer replies.Done
done_is = record { is = refl }

left_is : IsAnswer replies.Left
left_is = record { is = refl }

noticed_is : IsAnswer replies.Noticed
noticed_is = record { is = refl }

created_is : IsAnswer replies.Created
created_is = record { is = refl }

-- ---- files

unlimited : (limit : Option Which) {reply : Reply} → IsAnswer reply → IsAnswer (unless_limited limit reply)
unlimited None h = h
unlimited (Some which) h = refused_is (whys.Limit which)

get-answer : (here : Option Standing) → IsAnswer (get_reply here)
get-answer None = refused_is whys.NotFound
get-answer (Some Collection) = refused_is whys.NotAllowed
get-answer (Some (File body)) = record { is = refl }

put_done-answer : (here : Option Standing) → IsAnswer (put_done here)
put_done-answer None = created_is
put_done-answer (Some standing) = record { is = refl }

put-answer : (here at_parent : Option Standing) (limit : Option Which) → IsAnswer (put_reply here at_parent limit)
put-answer here at_parent limit =
    by_test (is_collection here) (refused_is whys.NotAllowed)
    (by_test (not (is_collection at_parent)) (refused_is whys.ParentMissing)
    (unlimited limit (put_done-answer here)))

mkcol-answer : (here at_parent : Option Standing) (has_body : Bool) (limit : Option Which) → IsAnswer (mkcol_reply here at_parent has_body limit)
mkcol-answer here at_parent has_body limit =
    by_test (is_some here) (refused_is whys.NotAllowed)
    (by_test (not (is_collection at_parent)) (refused_is whys.ParentMissing)
    (by_test has_body (refused_is whys.BodyRefused)
    (unlimited limit created_is)))

delete-answer : (here : Option Standing) → IsAnswer (delete_reply here)
delete-answer None = refused_is whys.NotFound
delete-answer (Some standing) = record { is = refl }

list-answer : (inside : List DavItem) (path : Segments) (here : Option Standing) → IsAnswer (list_reply inside path here)
list-answer inside path None = refused_is whys.NotFound
list-answer inside path (Some standing) = record { is = refl }

method-answer : (v : View) (method : Method) (place : Place) (path : Segments) (body : List ℕ) → IsAnswer (method_reply v method place path body)
method-answer v methods.Get place path body = get-answer (v.stands place)
method-answer v methods.Head place path body = get-answer (v.stands place)
method-answer v methods.List0 place path body = list-answer [] path (v.stands place)
method-answer v methods.List1 place path body = list-answer (items_in v.nodes place path) path (v.stands place)
method-answer v methods.Put place path body =
    put-answer (v.stands place) (v.stands (parent_of place)) (limit_of v.nodes (record { place = place; standing = File body }))
method-answer v methods.Mkcol place path body =
    mkcol-answer (v.stands place) (v.stands (parent_of place)) (has_bytes body) (limit_of v.nodes (record { place = place; standing = Collection }))
method-answer v methods.Delete place path body = by_test (is_root path) (refused_is whys.RootStays) (delete-answer (v.stands place))

dav-answer : (v : View) (o : Option Grant) (method : Method) (path : Segments) (body : List ℕ) → IsAnswer (dav_reply v o method path body)
dav-answer v None method path body = refused_is whys.Unauthorized
dav-answer v (Some grant) method path body =
    by_test (permits grant.rights method) (method-answer v method (below grant.root path) path body) (refused_is whys.NotPermitted)

carried-answer : (v : View) (from to : Place) (moving overwrite : Bool) (here : Option Standing) → IsAnswer (carried_reply v from to moving overwrite here)
carried-answer v from to moving overwrite None = refused_is whys.NotFound
carried-answer v from to moving overwrite (Some standing) =
    by_test (overlap from to) (refused_is whys.SamePlace)
    (by_test (not (is_collection (v.stands (parent_of to)))) (refused_is whys.ParentMissing)
    (by_test (is_some (v.stands to) && not overwrite) (refused_is whys.Occupied)
    (unlimited (limit_of_carry v.nodes from to moving standing) (put_done-answer (v.stands to)))))

carry-answer : (v : View) (o : Option Grant) (from to : Segments) (moving overwrite : Bool) → IsAnswer (carry_reply v o from to moving overwrite)
carry-answer v None from to moving overwrite = refused_is whys.Unauthorized
carry-answer v (Some grant) from to moving overwrite =
    by_test (not (permits_carry grant.rights moving)) (refused_is whys.NotPermitted)
    (by_test (carries_root from to moving) (refused_is whys.RootStays)
    (carried-answer v (below grant.root from) (below grant.root to) moving overwrite (v.stands (below grant.root from))))

-- ---- users and their commands

add_user-answer : (taken : Bool) (count : ℕ) (used : Bool) (key : List ℕ) → IsAnswer (add_user_reply taken count used key)
add_user-answer taken count used key =
    by_test taken (refused_is whys.UserExists)
    (by_test (nat_lt 4096 (count + 1)) (refused_is (whys.Limit limits.Users))
    (by_test used (refused_is whys.Collision) (key_is key)))

share-answer : (own_host : Bool) (here : Option Standing) (count : ℕ) (used : Bool) → IsAnswer (share_reply own_host here count used)
share-answer own_host here count used =
    by_test own_host (refused_is (whys.OwnHost fields.ShareWith))
    (by_test (not (is_some here)) (refused_is whys.NotFound)
    (by_test (nat_lt 65536 (count + 1)) (refused_is (whys.Limit limits.Shares))
    (by_test used (refused_is whys.Collision) (number_is (count + 1)))))

end-answer : (o : Option Share) (live : Bool) → IsAnswer (end_reply o live)
end-answer None live = refused_is whys.NotFound
end-answer (Some share) live = by_test live done_is (refused_is whys.WrongPhase)

limit-answer : (o : Option Share) (live : Bool) (perms : Rights) (full : Bool) → IsAnswer (limit_reply o live perms full)
limit-answer None live perms full = refused_is whys.NotFound
limit-answer (Some share) live perms full =
    by_test (not live) (refused_is whys.WrongPhase)
    (by_test (not (is_within perms share.granted)) (refused_is whys.NotPermitted)
    (by_test full (refused_is (whys.Limit limits.Changes)) done_is))

phase-answer : {X : Type 0} (o : Option X) (in_phase : Bool) → IsAnswer (phase_reply o in_phase)
phase-answer None in_phase = refused_is whys.NotFound
phase-answer (Some x) in_phase = by_test in_phase done_is (refused_is whys.WrongPhase)

reshare-answer : (o : Option Offer) (phase : Phase) (rights : Rights) (asked : Option Rights) (count : ℕ) → IsAnswer (reshare_reply o phase rights asked count)
reshare-answer None phase rights asked count = refused_is whys.NotFound
reshare-answer (Some offer) phase rights asked count =
    by_test (not (is_confirmed phase)) (refused_is whys.WrongPhase)
    (by_test (not (may_share rights asked)) (refused_is whys.NotPermitted)
    (by_test (nat_lt 65536 (count + 1)) (refused_is (whys.Limit limits.Requests)) (number_is (count + 1))))

local-answer : (v : View) (o : Option ℕ) (cmd : Cmd) → IsAnswer (local_reply v o cmd)
local-answer v None cmd = refused_is whys.Unauthorized
local-answer v (Some user) (commands.Share path with perms fresh) =
    share-answer (same_text with.host v.host) (v.stands (record { user = user; path = path })) (length v.shares) (is_used v.users v.shares (hex fresh))
local-answer v (Some user) (commands.Unshare id) = end-answer (share_of_owner v user id) (is_live_in v id)
local-answer v (Some user) (commands.Limit id perms) =
    limit-answer (share_of_owner v user id) (is_live_in v id) perms (is_full_of_changes v (length (told_by_limit v id perms)))
local-answer v (Some user) (commands.Expire id until) = end-answer (share_of_owner v user id) (is_live_in v id)
local-answer v (Some user) (commands.Accept number) = phase-answer (record_of_user v user number) (is_pending (v.phase number))
local-answer v (Some user) (commands.Decline number) = phase-answer (record_of_user v user number) (is_declinable (v.phase number))
local-answer v (Some user) (commands.Reshare number with asked) =
    reshare-answer (record_of_user v user number) (v.phase number) (v.told number).perms asked (length v.requests)
local-answer v (Some user) (commands.Undo r) = phase-answer (request_of_user v user r) (is_some (child_of (v.state r)))
local-answer v (Some user) commands.List = record { is = refl }

-- ---- what other servers say

new_offer-answer : (v : View) (offer : Offer) → IsAnswer (new_offer_reply v offer)
new_offer-answer v offer =
    by_test (is_known v.offers offer) (recipient_is offer.with.user)
    (by_test (nat_lt 256 (pending_count v offer.with.user + 1)) (refused_is (whys.Limit limits.Pending))
    (by_test (nat_lt 65536 (length v.offers + 1)) (refused_is (whys.Limit limits.Records)) (recipient_is offer.with.user)))

offer-answer : (v : View) (offer : Offer) → IsAnswer (offer_reply v offer)
offer-answer v offer =
    by_test (not (same_text offer.with.host v.host)) (refused_is whys.NotOurHost)
    (by_test (not (is_taken v.users offer.with.user)) (refused_is whys.UnknownUser)
    (by_test (same_text offer.owner.host v.host) (refused_is (whys.OwnHost fields.Owner)) (new_offer-answer v offer)))

accepted-answer : (v : View) (o : Option (ℕ × Share)) (owner with : Option Address) (perms : Option Rights) → IsAnswer (accepted_reply v o owner with perms)
accepted-answer v None owner with perms = refused_is whys.UnknownShare
accepted-answer v (Some (i, share)) owner with perms =
    by_test (not (is_live_in v i)) (refused_is whys.ShareClosed)
    (by_test (fails (same_address (address_of v.host v.users share.owner)) owner || fails (same_address share.with) with || fails (λ p. is_within p share.granted) perms)
    (refused_is whys.NotPermitted) noticed_is)

noticed-answer : (there : Bool) → IsAnswer (noticed_if there)
noticed-answer there = by_test there noticed_is (refused_is whys.UnknownShare)

repeated-answer : (n : ℕ) (o : Option Share) (with : Address) (asked : Option Rights) → IsAnswer (repeated_reply n o with asked)
repeated-answer n None with asked = refused_is whys.SenderIdReused
repeated-answer n (Some child) with asked = by_test (same_address child.with with && same_asked child.asked asked) (child_is n) (refused_is whys.SenderIdReused)

first-answer : (v : View) (parent : ℕ) (with : Address) (asked : Option Rights) (secret : List ℕ) → IsAnswer (first_reply v parent with asked secret)
first-answer v parent with asked secret =
    by_test (not (is_live_in v parent)) (refused_is whys.ShareClosed)
    (by_test (not (may_share (effective_in v parent) asked)) (refused_is whys.NotPermitted)
    (by_test (same_text with.host v.host) (refused_is (whys.OwnHost fields.ShareWith))
    (by_test (nat_lt 65536 (length v.shares + 1)) (refused_is (whys.Limit limits.Shares))
    (by_test (is_used v.users v.shares secret) (refused_is whys.Collision) (child_is (length v.shares + 1))))))

request-answer : (v : View) (o : Option (ℕ × Share)) (with : Address) (sender_id : List ℕ) (asked : Option Rights) (secret : List ℕ) → IsAnswer (request_reply v o with sender_id asked secret)
request-answer v None with sender_id asked secret = refused_is whys.UnknownShare
request-answer v (Some (parent, share)) with sender_id asked secret = by_child (child_for v parent sender_id)
  where
    by_child : (o : Option ℕ) → IsAnswer (option_map_or (λ n. repeated_reply n (at_number v.shares n) with asked) o (first_reply v parent with asked secret))
    by_child None = first-answer v parent with asked secret
    by_child (Some n) = repeated-answer n (at_number v.shares n) with asked

notice-answer : (v : View) (notice : Notice) (fresh : List ℕ) → IsAnswer (notice_reply v notice fresh)
notice-answer v (notices.Accepted id secret owner with perms) fresh = accepted-answer v (share_with v id secret) owner with perms
notice-answer v (notices.Declined id secret) fresh = noticed-answer (is_some (share_with v id secret))
notice-answer v (notices.ReshareRequest id secret with sender_id asked) fresh = request-answer v (share_with v id secret) with sender_id asked (hex fresh)
notice-answer v (notices.ReshareUndo id secret) fresh = noticed-answer (is_child_of v id secret)
notice-answer v (notices.Unshared id secret) fresh = noticed-answer (is_received v id secret)
notice-answer v (notices.Changed id secret serial perms) fresh = noticed-answer (is_received v id secret)

settle-answer : (o : Option Message) (settled : Bool) (status : ℕ) (id : Option (List ℕ)) → IsAnswer (settle_reply o settled status id)
settle-answer None settled status id = refused_is whys.NotFound
settle-answer (Some message) settled status id = by_test settled done_is (by_test (settles message.letter status id) done_is left_is)

-- ---- all asks

all-answer : (v : View) (ask : Ask) → IsAnswer (reply_in v ask)
all-answer v (asks.AddUser name fresh) = add_user-answer (is_taken v.users name) (length v.users) (is_used v.users v.shares (hex fresh)) (hex fresh)
all-answer v (asks.Local key cmd) = local-answer v (user_of_key v.users key) cmd
all-answer v (asks.Offer offer) = offer-answer v offer
all-answer v (asks.Notice notice fresh) = notice-answer v notice fresh
all-answer v (asks.Dav secret method path body) = dav-answer v (grant_in v secret) method path body
all-answer v asks.Due = record { is = refl }
all-answer v (asks.Settle number status id) = settle-answer (at_number v.messages number) (v.is_settled number) status id
all-answer v (asks.Tick clock) = done_is
all-answer v (asks.Carry secret from to moving overwrite) = carry-answer v (grant_in v secret) from to moving overwrite

-- no answer is a failure
pub answers-given : (v : View) (ask : Ask) → is_failure (reply_in v ask) ≡ false
answers-given v ask = (all-answer v ask).is
