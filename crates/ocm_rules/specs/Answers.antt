use Rattle.std.specs.Prelude.{ℕ, ◌+◌, List, [], ◌∷◌, ◌++◌, length, map, filter_map, count_by, nat_eq, nat_lt, Bool, true, false, not, ◌&&◌, ◌||◌, if◌then◌else◌, Option, Some, None, is_some, option_map, option_and_then}
use Rattle.std.specs.Option.{option_map_or}
use Rattle.ocm_texts.specs.Hex.{hex}
use Rattle.ocm_limits.specs.Limits.{most_changes, most_pending, most_records, most_requests, most_restrictions, most_shares, most_users}
use Rattle.ocm_path.specs.Paths.{Segments, is_root}
use Rattle.ocm_types.specs.declared.addresses.Address.{Address}
use Rattle.ocm_types.specs.declared.letters.Offer.{Offer}
use Rattle.ocm_types.specs.declared.letters.Notice.{Notice}
use Rattle.ocm_types.specs.declared.letters.Notice.TheVariants.{Accepted, Declined, Unshared, ReshareRequest, ReshareUndo, Changed}
use Rattle.ocm_types.specs.declared.phases.Phase.{Phase}
use Rattle.ocm_types.specs.declared.phases.Which.{Which}
use Rattle.ocm_types.specs.declared.phases.Which.TheVariants as limits
use Rattle.ocm_types.specs.declared.rights.Rights.{Rights}
use Rattle.ocm_types.specs.Rights.{is_within}
use Rattle.ocm_entry.specs.declared.asks.Ask.{Ask}
use Rattle.ocm_entry.specs.declared.asks.Ask.TheVariants as asks
use Rattle.ocm_entry.specs.declared.asks.Cmd.{Cmd}
use Rattle.ocm_entry.specs.declared.asks.Cmd.TheVariants as commands
use Rattle.ocm_entry.specs.declared.asks.Method.{Method}
use Rattle.ocm_entry.specs.declared.asks.Method.TheVariants.{Get, Head, Put, Delete, Mkcol, List0, List1}
use Rattle.ocm_entry.specs.declared.listings.DavItem.{DavItem}
use Rattle.ocm_entry.specs.declared.listings.Line.{Line}
use Rattle.ocm_entry.specs.declared.listings.Line.TheVariants as lines
use Rattle.ocm_entry.specs.declared.replies.Reply.{Reply}
use Rattle.ocm_entry.specs.declared.replies.Reply.TheVariants as replies
use Rattle.ocm_entry.specs.declared.refusals.Why.{Why}
use Rattle.ocm_entry.specs.declared.refusals.Why.TheVariants.{Unauthorized, NotPermitted, RootStays, UnknownShare, ShareClosed, NotFound, NotAllowed, ParentMissing, WrongPhase, UserExists, Collision, BodyRefused, Limit, SenderIdReused, NotOurHost, UnknownUser, OwnHost, SamePlace, Occupied}
use Rattle.ocm_entry.specs.declared.refusals.AddressField.TheVariants as fields
use Rattle.ocm_entry.specs.declared.rows.Share.{Share}
use Rattle.ocm_entry.specs.declared.rows.Place.{Place}
use Rattle.ocm_entry.specs.declared.rows.Standing.{Standing}
use Rattle.ocm_entry.specs.declared.rows.Standing.TheVariants.{Collection, File}
use Rattle.ocm_entry.specs.declared.rows.Node.{Node}
use Rattle.ocm_entry.specs.declared.rows.Grant.{Grant}
use Rattle.ocm_rules.specs.declared.rows.Message.{Message}
use Rattle.ocm_rules.specs.Numbers.{same_text, at_number, number_of, numbers}
use Rattle.ocm_rules.specs.Equal.{same_address, same_asked}
use Rattle.ocm_rules.specs.Users.{user_of_key, is_taken}
use Rattle.ocm_rules.specs.Shares.{named, address_of, is_used, has_secret}
use Rattle.ocm_rules.specs.Holders.{permits, permits_carry}
use Rattle.ocm_rules.specs.Files.{below, parent_of, overlap, rest_below, children, limit_of, limit_of_carry}
use Rattle.ocm_rules.specs.Settlements.{settles}
use Rattle.ocm_rules.specs.Offers.{is_known, is_of, is_pending, is_confirmed, is_declinable}
use Rattle.ocm_rules.specs.Requests.{Reshare, child_of}
use Rattle.ocm_rules.specs.Views.{View, is_live_in, effective_in, grant_in, told_by_limit, share_of_owner, record_of_user, request_of_user}
use Rattle.ocm_rules.specs.Messages.{due_among, change_count}

-- refused for this reason
abbrev pub refused : Why → Reply
refused why = replies.Refused why

-- refused since this limit would be passed
abbrev pub limited : Which → Reply
limited which = refused (Limit which)

-- refused where a limit would be passed, else this
abbrev pub unless_limited : Option Which → Reply → Reply
unless_limited limit reply = option_map_or limited limit reply

-- ---- files

-- whether what stands is a collection
abbrev pub is_collection : Option Standing → Bool
is_collection (Some Collection) = true
is_collection _ = false

-- GET and HEAD (RFC 9110 sections 9.3.1 and 9.3.2) where this stands
abbrev pub get_reply : Option Standing → Reply
get_reply None = refused NotFound
get_reply (Some Collection) = refused NotAllowed
get_reply (Some (File body)) = replies.File body

-- what was put, or carried, where this stood: it is new, or stands in the place of what stood
abbrev pub put_done : Option Standing → Reply
put_done None = replies.Created
put_done (Some standing) = replies.Replaced

-- PUT (RFC 4918 section 9.7) where this stands at the place and that at its parent, and this is the first limit that would be passed
abbrev pub put_reply : Option Standing → Option Standing → Option Which → Reply
put_reply here at_parent limit =
    if is_collection here then refused NotAllowed
    else (if not (is_collection at_parent) then refused ParentMissing
    else unless_limited limit (put_done here))

-- MKCOL (RFC 4918 section 9.3), also by whether there is a body
abbrev pub mkcol_reply : Option Standing → Option Standing → Bool → Option Which → Reply
mkcol_reply here at_parent has_body limit =
    if is_some here then refused NotAllowed
    else (if not (is_collection at_parent) then refused ParentMissing
    else (if has_body then refused BodyRefused
    else unless_limited limit replies.Created))

-- DELETE (RFC 4918 section 9.6)
abbrev pub delete_reply : Option Standing → Reply
delete_reply None = refused NotFound
delete_reply (Some standing) = replies.Removed

-- the bytes of a file; a collection has none
abbrev pub item_size : Standing → Option ℕ
item_size Collection = None
item_size (File body) = Some (length body)

-- what stands at a path, as PROPFIND tells it
abbrev pub item : Segments → Standing → DavItem
item path standing = record { path = path; size = item_size standing }

-- what lies in the collection at this place, which has this path below the holder's root
abbrev pub items_in : List Node → Place → Segments → List DavItem
items_in nodes place path = map (λ (n : Node). item (path ++ rest_below place n.place) n.standing) (children nodes place)

-- PROPFIND (RFC 4918 section 9.1): of depth 0 the item itself, of depth 1 also what lies in it
abbrev pub list_reply : List DavItem → Segments → Option Standing → Reply
list_reply inside path None = refused NotFound
list_reply inside path (Some standing) = replies.Items (item path standing ∷ inside)

-- whether there are bytes
abbrev pub has_bytes : List ℕ → Bool
has_bytes [] = false
has_bytes (b ∷ bytes) = true

-- a method at a place, which has this path below the holder's root
abbrev pub method_reply : View → Method → Place → Segments → List ℕ → Reply
method_reply v Get place path body = get_reply (v.stands place)
method_reply v Head place path body = get_reply (v.stands place)
method_reply v List0 place path body = list_reply [] path (v.stands place)
method_reply v List1 place path body = list_reply (items_in v.nodes place path) path (v.stands place)
method_reply v Put place path body =
    put_reply (v.stands place) (v.stands (parent_of place)) (limit_of v.nodes (record { place = place; standing = File body }))
method_reply v Mkcol place path body =
    mkcol_reply (v.stands place) (v.stands (parent_of place)) (has_bytes body) (limit_of v.nodes (record { place = place; standing = Collection }))
method_reply v Delete place path body = if is_root path then refused RootStays else delete_reply (v.stands place)

-- a request for files by one who may do this
abbrev pub dav_reply : View → Option Grant → Method → Segments → List ℕ → Reply
dav_reply v None method path body = refused Unauthorized
dav_reply v (Some grant) method path body =
    if permits grant.rights method then method_reply v method (below grant.root path) path body else refused NotPermitted

-- a copy or move of what stands at the first place to the second
abbrev pub carried_reply : View → Place → Place → Bool → Bool → Option Standing → Reply
carried_reply v from to moving overwrite None = refused NotFound
carried_reply v from to moving overwrite (Some standing) =
    if overlap from to then refused SamePlace
    else (if not (is_collection (v.stands (parent_of to))) then refused ParentMissing
    else (if is_some (v.stands to) && not overwrite then refused Occupied
    else unless_limited (limit_of_carry v.nodes from to moving standing) (put_done (v.stands to))))

-- whether a copy or move would end at a holder's `/`, or take it away
abbrev pub carries_root : Segments → Segments → Bool → Bool
carries_root from to moving = is_root to || (moving && is_root from)

-- COPY or MOVE (RFC 4918 sections 9.8 and 9.9) by one who may do this
abbrev pub carry_reply : View → Option Grant → Segments → Segments → Bool → Bool → Reply
carry_reply v None from to moving overwrite = refused Unauthorized
carry_reply v (Some grant) from to moving overwrite =
    if not (permits_carry grant.rights moving) then refused NotPermitted
    else (if carries_root from to moving then refused RootStays
    else carried_reply v (below grant.root from) (below grant.root to) moving overwrite (v.stands (below grant.root from)))

-- ---- users and their commands

-- a new user: whether the name is taken, how many users there are, whether the key is used, the key
abbrev pub add_user_reply : Bool → ℕ → Bool → List ℕ → Reply
add_user_reply taken count used key =
    if taken then refused UserExists
    else (if nat_lt most_users (count + 1) then limited limits.Users
    else (if used then refused Collision else replies.Key key))

-- a new share: whether the guest is of this host, what stands at the path, how many shares there are, whether the secret is used
abbrev pub share_reply : Bool → Option Standing → ℕ → Bool → Reply
share_reply own_host standing count used =
    if own_host then refused (OwnHost fields.ShareWith)
    else (if not (is_some standing) then refused NotFound
    else (if nat_lt most_shares (count + 1) then limited limits.Shares
    else (if used then refused Collision else replies.Number (count + 1))))

-- the end of a share, at once or at a moment: the user's share, and whether it is live
abbrev pub end_reply : Option Share → Bool → Reply
end_reply None live = refused NotFound
end_reply (Some share) live = if live then replies.Done else refused WrongPhase

-- whether so many more messages that tell changed permissions, or one more limit, would pass a limit
abbrev pub is_full_of_changes : View → ℕ → Bool
is_full_of_changes v more = nat_lt most_changes (change_count v.messages + more) || nat_lt most_restrictions (v.limits + 1)

-- other permissions for a share: the user's share, whether it is live, the permissions, whether a limit would be passed
abbrev pub limit_reply : Option Share → Bool → Rights → Bool → Reply
limit_reply None live perms full = refused NotFound
limit_reply (Some share) live perms full =
    if not live then refused WrongPhase
    else (if not (is_within perms share.granted) then refused NotPermitted
    else (if full then limited limits.Changes else replies.Done))

-- a command about a user's record or request, where it is there, by whether it is in the phase for it
abbrev pub phase_reply : {X : Type 0} → Option X → Bool → Reply
phase_reply None in_phase = refused NotFound
phase_reply (Some x) in_phase = if in_phase then replies.Done else refused WrongPhase

-- whether permissions hold the right to share and those that are asked for, if any
abbrev pub may_share : Rights → Option Rights → Bool
may_share rights asked = rights.share && option_map_or (λ perms. is_within perms rights) asked true

-- a request to share further: the user's record, its phase, what its guest was told of the permissions, what is asked for, how many requests there are
abbrev pub reshare_reply : Option Offer → Phase → Rights → Option Rights → ℕ → Reply
reshare_reply None phase rights asked count = refused NotFound
reshare_reply (Some offer) phase rights asked count =
    if not (is_confirmed phase) then refused WrongPhase
    else (if not (may_share rights asked) then refused NotPermitted
    else (if nat_lt most_requests (count + 1) then limited limits.Requests else replies.Number (count + 1)))

-- ---- what a user lists

-- the line of the share of this number
abbrev pub share_line : View → ℕ → Share → Line
share_line v id share = lines.Share id share.root share.with (v.perms id) (is_live_in v id)

-- the line of the record of this number, with the permissions that its guest was told last
abbrev pub record_line : View → ℕ → Offer → Line
record_line v n offer = lines.Received n (record offer { perms = (v.told n).perms }) (v.phase n)

-- the line of the request of this number
abbrev pub request_line : View → ℕ → Reshare → Line
request_line v r request = lines.Request r request.received request.with request.perms (v.state r)

-- the lines of those that belong to the user, ascending
abbrev pub lines_of : {X : Type 0} → (ℕ → Option X) → (ℕ → X → Line) → List ℕ → List Line
lines_of of_user line ids = filter_map (λ id. option_map (line id) (of_user id)) ids

-- all lines of a user: the own shares, then the records, then the requests
abbrev pub listing : View → ℕ → List Line
listing v user =
    lines_of (share_of_owner v user) (share_line v) (numbers v.shares)
    ++ lines_of (record_of_user v user) (record_line v) (numbers v.offers)
    ++ lines_of (request_of_user v user) (request_line v) (numbers v.requests)

-- a command by the user of this number, if the key is one
abbrev pub local_reply : View → Option ℕ → Cmd → Reply
local_reply v None cmd = refused Unauthorized
local_reply v (Some user) (commands.Share path with perms fresh) =
    share_reply (same_text with.host v.host) (v.stands (record { user = user; path = path })) (length v.shares) (is_used v.users v.shares (hex fresh))
local_reply v (Some user) (commands.Unshare id) = end_reply (share_of_owner v user id) (is_live_in v id)
local_reply v (Some user) (commands.Limit id perms) =
    limit_reply (share_of_owner v user id) (is_live_in v id) perms (is_full_of_changes v (length (told_by_limit v id perms)))
local_reply v (Some user) (commands.Expire id until) = end_reply (share_of_owner v user id) (is_live_in v id)
local_reply v (Some user) (commands.Accept number) = phase_reply (record_of_user v user number) (is_pending (v.phase number))
local_reply v (Some user) (commands.Decline number) = phase_reply (record_of_user v user number) (is_declinable (v.phase number))
local_reply v (Some user) (commands.Reshare number with asked) =
    reshare_reply (record_of_user v user number) (v.phase number) (v.told number).perms asked (length v.requests)
local_reply v (Some user) (commands.Undo r) = phase_reply (request_of_user v user r) (is_some (child_of (v.state r)))
local_reply v (Some user) commands.List = replies.Listing (listing v user)

-- ---- what other servers say

-- how many of the received offers for a user of this name are undecided
abbrev pub pending_count : View → List ℕ → ℕ
pending_count v name = count_by (λ n. is_pending (v.phase n) && option_map_or (λ (offer : Offer). same_text offer.with.user name) (at_number v.offers n) false) (numbers v.offers)

-- an offer that nothing is wrong with: an equal one may have been received before, or a limit be passed
abbrev pub new_offer_reply : View → Offer → Reply
new_offer_reply v offer =
    if is_known v.offers offer then replies.Recipient offer.with.user
    else (if nat_lt most_pending (pending_count v offer.with.user + 1) then limited limits.Pending
    else (if nat_lt most_records (length v.offers + 1) then limited limits.Records
    else replies.Recipient offer.with.user))

-- an offer (OCM API 1.1, `/shares`)
abbrev pub offer_reply : View → Offer → Reply
offer_reply v offer =
    if not (same_text offer.with.host v.host) then refused NotOurHost
    else (if not (is_taken v.users offer.with.user) then refused UnknownUser
    else (if same_text offer.owner.host v.host then refused (OwnHost fields.Owner)
    else new_offer_reply v offer))

-- the number and the row of a share
abbrev pub numbered_share : View → ℕ → Option (ℕ × Share)
numbered_share v i = option_map (λ share. (i, share)) (at_number v.shares i)

-- the share that this id names, where this is its secret
abbrev pub share_with : View → List ℕ → List ℕ → Option (ℕ × Share)
share_with v id secret =
    option_and_then (λ (found : ℕ × Share). if has_secret secret found.1 then Some found else None) (option_and_then (numbered_share v) (named id))

-- whether a value that may be present is, and fails a test
abbrev pub fails : {X : Type 0} → (X → Bool) → Option X → Bool
fails test o = option_map_or (λ x. not (test x)) o false

-- that a guest took a share: how it understood the offer must be within what was offered
abbrev pub accepted_reply : View → Option (ℕ × Share) → Option Address → Option Address → Option Rights → Reply
accepted_reply v None owner with perms = refused UnknownShare
accepted_reply v (Some (i, share)) owner with perms =
    if not (is_live_in v i) then refused ShareClosed
    else (if fails (same_address (address_of v.host v.users share.owner)) owner || fails (same_address share.with) with || fails (λ p. is_within p share.granted) perms
    then refused NotPermitted else replies.Noticed)

-- a notice that is taken where there is what it speaks of
abbrev pub noticed_if : Bool → Reply
noticed_if there = if there then replies.Noticed else refused UnknownShare

-- the parent of the share of this number
abbrev pub parent_row : View → Share → Option Share
parent_row v share = option_and_then (at_number v.shares) share.parent

-- whether the share that this id names has a parent with this secret
abbrev pub is_child_of : View → List ℕ → List ℕ → Bool
is_child_of v id secret =
    option_map_or (has_secret secret) (option_and_then (parent_row v) (option_and_then (at_number v.shares) (named id))) false

-- whether a share was made below the one of this number for the request with this `senderId`
abbrev pub is_for_request : ℕ → List ℕ → Share → Bool
is_for_request parent sender_id share = option_map_or (nat_eq parent) share.parent false && option_map_or (same_text sender_id) share.sender_id false

-- the number of the child that was made for a request
abbrev pub child_for : View → ℕ → List ℕ → Option ℕ
child_for v parent sender_id = number_of (is_for_request parent sender_id) v.shares

-- a request that was made before, where this child was made for it
abbrev pub repeated_reply : ℕ → Option Share → Address → Option Rights → Reply
repeated_reply n None with asked = refused SenderIdReused
repeated_reply n (Some child) with asked =
    if same_address child.with with && same_asked child.asked asked then replies.Child n else refused SenderIdReused

-- a request that is made for the first time, by the guest of the share of this number
abbrev pub first_reply : View → ℕ → Address → Option Rights → List ℕ → Reply
first_reply v parent with asked secret =
    if not (is_live_in v parent) then refused ShareClosed
    else (if not (may_share (effective_in v parent) asked) then refused NotPermitted
    else (if same_text with.host v.host then refused (OwnHost fields.ShareWith)
    else (if nat_lt most_shares (length v.shares + 1) then limited limits.Shares
    else (if is_used v.users v.shares secret then refused Collision
    else replies.Child (length v.shares + 1)))))

-- a request to share further, at the owner's server: the parent, the child that was made for an equal request
abbrev pub request_reply : View → Option (ℕ × Share) → Address → List ℕ → Option Rights → List ℕ → Reply
request_reply v None with sender_id asked secret = refused UnknownShare
request_reply v (Some (parent, share)) with sender_id asked secret =
    option_map_or (λ n. repeated_reply n (at_number v.shares n) with asked) (child_for v parent sender_id) (first_reply v parent with asked secret)

-- whether a received offer has this id and this secret
abbrev pub is_received : View → List ℕ → List ℕ → Bool
is_received v id secret = is_some (number_of (is_of id secret) v.offers)

-- a notice (OCM API 1.1, `/notifications`), with the drawn bytes
abbrev pub notice_reply : View → Notice → List ℕ → Reply
notice_reply v (Accepted id secret owner with perms) fresh = accepted_reply v (share_with v id secret) owner with perms
notice_reply v (Declined id secret) fresh = noticed_if (is_some (share_with v id secret))
notice_reply v (ReshareRequest id secret with sender_id asked) fresh = request_reply v (share_with v id secret) with sender_id asked (hex fresh)
notice_reply v (ReshareUndo id secret) fresh = noticed_if (is_child_of v id secret)
notice_reply v (Unshared id secret) fresh = noticed_if (is_received v id secret)
notice_reply v (Changed id secret serial perms) fresh = noticed_if (is_received v id secret)

-- ---- messages that were answered

-- what another server answered to a message: the message, whether it is settled, the status and the id
abbrev pub settle_reply : Option Message → Bool → ℕ → Option (List ℕ) → Reply
settle_reply None settled status id = refused NotFound
settle_reply (Some message) settled status id =
    if settled then replies.Done else (if settles message.letter status id then replies.Done else replies.Left)

-- ---- all asks

-- the reply to an ask, by what is read of the history
abbrev pub reply_in : View → Ask → Reply
reply_in v (asks.AddUser name fresh) = add_user_reply (is_taken v.users name) (length v.users) (is_used v.users v.shares (hex fresh)) (hex fresh)
reply_in v (asks.Local key cmd) = local_reply v (user_of_key v.users key) cmd
reply_in v (asks.Offer offer) = offer_reply v offer
reply_in v (asks.Notice notice fresh) = notice_reply v notice fresh
reply_in v (asks.Dav secret method path body) = dav_reply v (grant_in v secret) method path body
reply_in v asks.Due = replies.Due (due_among v.is_settled v.messages)
reply_in v (asks.Settle number status id) = settle_reply (at_number v.messages number) (v.is_settled number) status id
reply_in v (asks.Tick clock) = replies.Done
reply_in v (asks.Carry secret from to moving overwrite) = carry_reply v (grant_in v secret) from to moving overwrite
