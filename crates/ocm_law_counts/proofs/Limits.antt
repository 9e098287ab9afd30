-- A server has at most 65,536 shares, received offers and requests each, and told changed permissions in at most 655,360 messages.
use Rattle.std.proofs.Common.{◌≡◌, ℕ, ◌+◌, ◌≤◌, List, [], ◌∷◌, length, Bool, true, false, not, refl, ap, ◌∙◌, cond, arith}
use Rattle.std.specs.Prelude.{Option, Some, None, nat_lt, if◌then◌else◌, is_some, option_map}
use Rattle.std.specs.Option.{option_map_or}
use Rattle.std.proofs.lemmas.Bool.{le-ltb, ltb-false}
use Rattle.std.proofs.lemmas.List.{length-append}
use Rattle.std.proofs.lemmas.List.Sums.{sum_by-append}
use Rattle.ocm_texts.specs.Hex.{hex}
use Rattle.ocm_types.specs.declared.addresses.Address.{Address}
use Rattle.ocm_types.specs.declared.letters.Notice.TheVariants as notices
use Rattle.ocm_types.specs.declared.letters.Offer.{Offer}
use Rattle.ocm_types.specs.declared.phases.Phase.{Phase}
use Rattle.ocm_types.specs.declared.phases.Which.TheVariants as limits
use Rattle.ocm_types.specs.declared.rights.Rights.{Rights}
use Rattle.ocm_types.specs.Rights.{is_within}
use Rattle.ocm_entry.specs.declared.asks.Ask.{Ask}
use Rattle.ocm_entry.specs.declared.asks.Ask.TheVariants as asks
use Rattle.ocm_entry.specs.declared.asks.Cmd.{Cmd}
use Rattle.ocm_entry.specs.declared.asks.Cmd.TheVariants as commands
use Rattle.ocm_entry.specs.declared.entries.Entry.{Entry}
use Rattle.ocm_entry.specs.declared.refusals.Why.{Why}
use Rattle.ocm_entry.specs.declared.refusals.Why.TheVariants.{SenderIdReused}
use Rattle.ocm_entry.specs.declared.replies.Reply.{Reply}
use Rattle.ocm_entry.specs.declared.replies.Reply.TheVariants.{Child, Recipient}
use Rattle.ocm_entry.specs.declared.rows.Share.{Share}
use Rattle.ocm_entry.specs.declared.rows.Standing.{Standing}
use Rattle.ocm_rules.specs.declared.rows.Message.{Message}
use Rattle.ocm_rules.specs.Numbers.{added, at_number, same_text}
use Rattle.ocm_rules.specs.Users.{is_taken, user_of_key}
use Rattle.ocm_rules.specs.Shares.{effective_among, made, perms_among, share_by}
use Rattle.ocm_rules.specs.Offers.{is_confirmed, is_known, offer_by, offers}
use Rattle.ocm_rules.specs.Requests.{request_by, requests}
use Rattle.ocm_rules.specs.Views.{View, effective_in, effective_with, is_live_in, record_of_user, share_of_owner, told_by_limit}
use Rattle.ocm_rules.specs.Messages.{change_count, changed, is_change, out, sends, view_of}
use Rattle.ocm_rules.specs.Answers.{child_for, first_reply, is_full_of_changes, limit_reply, limited, local_reply, may_share, offer_reply, pending_count, refused, repeated_reply, reply_in, request_reply, reshare_reply, share_reply, share_with}
use Rattle.ocm_rules.specs.History.{IsAnswered, changes_in}
use Rattle.ocm_rules.proofs.Lists.{not_both, number_of-within}
use Rattle.ocm_rules.proofs.Searches.{neither}
use Rattle.ocm_rules.proofs.Away.{changed-answered}
use Rattle.ocm_law_counts.proofs.Sending.{change_sends, changes-parted}
use Rattle.ocm_law_counts.proofs.Shares.{length-filter_map}

-- what is not refused was not refused for the first reason
let-through : (f : Reply → Bool) (b : Bool) (why : Why) (reply : Reply) → f (refused why) ≡ false → f (if b then refused why else reply) ≡ true → (b ≡ false) × (f reply ≡ true)
let-through f true why reply none h = absurd (not_both _ h none)
let-through f false why reply none h = (refl, h)

-- where there is room for one more, there are few enough with one more
room-added : {X : Type 0} (xs : List X) (o : Option X) → nat_lt 65536 (length xs + 1) ≡ false → length (added xs o) ≤ 65536
room-added xs None room = let low = ltb-false 65536 (length xs + 1) room in omega arith
room-added xs (Some x) room = let low = ltb-false 65536 (length xs + 1) room in let long = length-append xs (x ∷ []) in omega arith

-- ---- shares

-- a share that is made by a command has room
own-room : (v : View) (key : List ℕ) (path : List (List ℕ)) (with : Address) (perms : Rights) (fresh : List ℕ) (own : Bool) (standing : Option Standing) (count : ℕ) (used : Bool)
    → changes_in v (asks.Local key (commands.Share path with perms fresh)) (share_reply own standing count used) ≡ true → nat_lt 65536 (count + 1) ≡ false
own-room v key path with perms fresh own standing count used h =
    let f : Reply → Bool = changes_in v (asks.Local key (commands.Share path with perms fresh)) in
    let other = let-through f own _ _ refl h in
    let there = let-through f (not (is_some standing)) _ _ refl other.1 in
    (let-through f (nat_lt 65536 (count + 1)) _ _ refl there.1).0

command-room : (v : View) (key : List ℕ) (path : List (List ℕ)) (with : Address) (perms : Rights) (fresh : List ℕ) (user : Option ℕ)
    → changes_in v (asks.Local key (commands.Share path with perms fresh)) (local_reply v user (commands.Share path with perms fresh)) ≡ true → nat_lt 65536 (length v.shares + 1) ≡ false
command-room v key path with perms fresh None h = absurd (cc)
command-room v key path with perms fresh (Some user) h = own-room v key path with perms fresh _ _ _ _ h

-- a request that was made before changes nothing
repeated-same : (v : View) (id secret sender_id fresh : List ℕ) (with : Address) (asked : Option Rights) (n : ℕ) (child : Option Share) → n ≤ length v.shares
    → changes_in v (asks.Notice (notices.ReshareRequest id secret with sender_id asked) fresh) (repeated_reply n child with asked) ≡ false
repeated-same v id secret sender_id fresh with asked n None within = refl
repeated-same v id secret sender_id fresh with asked n (Some child) within = by_test _
  where
    by_test : (b : Bool) → changes_in v (asks.Notice (notices.ReshareRequest id secret with sender_id asked) fresh) (if b then Child n else refused SenderIdReused) ≡ false
    by_test true = le-ltb (length v.shares) n within
    by_test false = refl

-- a share that is made for a request has room
child-room : (v : View) (id secret sender_id fresh drawn : List ℕ) (with : Address) (asked : Option Rights) (found : Option (ℕ × Share))
    → changes_in v (asks.Notice (notices.ReshareRequest id secret with sender_id asked) fresh) (request_reply v found with sender_id asked drawn) ≡ true → nat_lt 65536 (length v.shares + 1) ≡ false
child-room v id secret sender_id fresh drawn with asked None h = absurd (cc)
child-room v id secret sender_id fresh drawn with asked (Some (parent, share)) h = by_child (child_for v parent sender_id) refl h
  where
    f : Reply → Bool
    f = changes_in v (asks.Notice (notices.ReshareRequest id secret with sender_id asked) fresh)

    by_child : (o : Option ℕ) → child_for v parent sender_id ≡ o → f (option_map_or (λ n. repeated_reply n (at_number v.shares n) with asked) o (first_reply v parent with asked drawn)) ≡ true → nat_lt 65536 (length v.shares + 1) ≡ false
    by_child None e k =
        let live = let-through f (not (is_live_in v parent)) _ _ refl k in
        let may = let-through f (not (may_share (effective_in v parent) asked)) _ _ refl live.1 in
        let other = let-through f (same_text with.host v.host) _ _ refl may.1 in
        (let-through f (nat_lt 65536 (length v.shares + 1)) _ _ refl other.1).0
    by_child (Some n) e k = absurd (not_both _ k (repeated-same v id secret sender_id fresh with asked n (at_number v.shares n) (number_of-within _ v.shares n e)))

shares-few : (v : View) (rights : ℕ → Rights) (ask : Ask) → changes_in v ask (reply_in v ask) ≡ true → length v.shares ≤ 65536 → length (added v.shares (share_by v.host v.users v.shares rights ask)) ≤ 65536
shares-few v rights (asks.Local key (commands.Share path with perms fresh)) h low = room-added v.shares _ (command-room v key path with perms fresh (user_of_key v.users key) h)
shares-few v rights (asks.Notice (notices.ReshareRequest id secret with sender_id asked) fresh) h low = room-added v.shares _ (child-room v id secret sender_id fresh (hex fresh) with asked (share_with v id secret) h)
shares-few v rights _ h low = low

-- there are at most 65,536 shares
pub made-few : (host : List ℕ) (g : List Entry) → IsAnswered host g → length (made host g) ≤ 65536
made-few host [] answered = omega arith
made-few host (e ∷ before) answered =
    shares-few (view_of host before) (effective_among (made host before) (perms_among (made host before) before)) e.ask (changed-answered host before e answered.0 answered.1) (made-few host before answered.2)

-- ---- received offers

-- an offer that is new has room
offer-room : (v : View) (offer : Offer) → changes_in v (asks.Offer offer) (offer_reply v offer) ≡ true → nat_lt 65536 (length v.offers + 1) ≡ false
offer-room v offer h =
    let ours = let-through f (not (same_text offer.with.host v.host)) _ _ refl h in
    let user = let-through f (not (is_taken v.users offer.with.user)) _ _ refl ours.1 in
    let other = let-through f (same_text offer.owner.host v.host) _ _ refl user.1 in
    by_known (is_known v.offers offer) refl other.1
  where
    f : Reply → Bool
    f = changes_in v (asks.Offer offer)

    others : Reply
    others = if nat_lt 256 (pending_count v offer.with.user + 1) then limited limits.Pending else (if nat_lt 65536 (length v.offers + 1) then limited limits.Records else Recipient offer.with.user)

    by_known : (b : Bool) → is_known v.offers offer ≡ b → f (if b then Recipient offer.with.user else others) ≡ true → nat_lt 65536 (length v.offers + 1) ≡ false
    by_known true e k = absurd (not_both _ k (rw e refl))
    by_known false e k =
        let undecided = let-through f (nat_lt 256 (pending_count v offer.with.user + 1)) _ _ refl k in
        (let-through f (nat_lt 65536 (length v.offers + 1)) _ _ refl undecided.1).0

records-few : (v : View) (ask : Ask) → changes_in v ask (reply_in v ask) ≡ true → length v.offers ≤ 65536 → length (added v.offers (offer_by ask)) ≤ 65536
records-few v (asks.Offer offer) h low = room-added v.offers (Some offer) (offer-room v offer h)
records-few v _ h low = low

-- there are at most 65,536 received offers
pub offers-few : (host : List ℕ) (g : List Entry) → IsAnswered host g → length (offers g) ≤ 65536
offers-few host [] answered = omega arith
offers-few host (e ∷ before) answered = records-few (view_of host before) e.ask (changed-answered host before e answered.0 answered.1) (offers-few host before answered.2)

-- ---- requests

reshare-met : (v : View) (key : List ℕ) (cmd : Cmd) (o : Option Offer) (phase : Phase) (rights : Rights) (asked : Option Rights) (count : ℕ)
    → changes_in v (asks.Local key cmd) (reshare_reply o phase rights asked count) ≡ true → nat_lt 65536 (count + 1) ≡ false
reshare-met v key cmd None phase rights asked count h = absurd (cc)
reshare-met v key cmd (Some offer) phase rights asked count h =
    let f : Reply → Bool = changes_in v (asks.Local key cmd) in
    let confirmed = let-through f (not (is_confirmed phase)) _ _ refl h in
    let may = let-through f (not (may_share rights asked)) _ _ refl confirmed.1 in
    (let-through f (nat_lt 65536 (count + 1)) _ _ refl may.1).0

-- a request that is made has room
reshare-room : (v : View) (key : List ℕ) (number : ℕ) (with : Address) (asked : Option Rights) (user : Option ℕ)
    → changes_in v (asks.Local key (commands.Reshare number with asked)) (local_reply v user (commands.Reshare number with asked)) ≡ true → nat_lt 65536 (length v.requests + 1) ≡ false
reshare-room v key number with asked None h = absurd (cc)
reshare-room v key number with asked (Some user) h = reshare-met v key (commands.Reshare number with asked) (record_of_user v user number) (v.phase number) (v.told number).perms asked (length v.requests) h

asked-few : (v : View) (ask : Ask) → changes_in v ask (reply_in v ask) ≡ true → length v.requests ≤ 65536 → length (added v.requests (request_by ask)) ≤ 65536
asked-few v (asks.Local key (commands.Reshare number with asked)) h low = room-added v.requests (request_by (asks.Local key (commands.Reshare number with asked))) (reshare-room v key number with asked (user_of_key v.users key) h)
asked-few v _ h low = low

-- there are at most 65,536 requests
pub requests-few : (host : List ℕ) (g : List Entry) → IsAnswered host g → length (requests g) ≤ 65536
requests-few host [] answered = omega arith
requests-few host (e ∷ before) answered = asked-few (view_of host before) e.ask (changed-answered host before e answered.0 answered.1) (requests-few host before answered.2)

-- ---- told changes

limit-met : (v : View) (key : List ℕ) (cmd : Cmd) (o : Option Share) (live : Bool) (perms : Rights) (full : Bool) → changes_in v (asks.Local key cmd) (limit_reply o live perms full) ≡ true → full ≡ false
limit-met v key cmd None live perms full h = absurd (cc)
limit-met v key cmd (Some share) live perms full h =
    let f : Reply → Bool = changes_in v (asks.Local key cmd) in
    let on = let-through f (not live) _ _ refl h in
    let granted = let-through f (not (is_within perms share.granted)) _ _ refl on.1 in
    (let-through f full _ _ refl granted.1).0

-- the messages of a limit have room
limit-room : (v : View) (key : List ℕ) (id : ℕ) (perms : Rights) (user : Option ℕ)
    → changes_in v (asks.Local key (commands.Limit id perms)) (local_reply v user (commands.Limit id perms)) ≡ true → change_count v.messages + length (told_by_limit v id perms) ≤ 655360
limit-room v key id perms None h = absurd (cc)
limit-room v key id perms (Some user) h =
    let more = change_count v.messages + length (told_by_limit v id perms) in
    let full = limit-met v key (commands.Limit id perms) (share_of_owner v user id) (is_live_in v id) perms (is_full_of_changes v (length (told_by_limit v id perms))) h in
    ltb-false 655360 more (neither (nat_lt 655360 more) (nat_lt 4294967295 (v.limits + 1)) full).0

told-few : (v : View) (ask : Ask) → changes_in v ask (reply_in v ask) ≡ true → change_count v.messages ≤ 655360 → change_count v.messages + length (change_sends v ask) ≤ 655360
told-few v (asks.Local key (commands.Limit id perms)) h low =
    let room = limit-room v key id perms (user_of_key v.users key) h in
    let guests = length-filter_map (λ i. option_map (λ share. changed (v.limits + 1) (effective_with v id perms i) i share) (at_number v.shares i)) (told_by_limit v id perms) in
    omega arith
told-few v _ h low = omega arith

-- an entry tells as many changes more as it sends
pub change_count-step : (host : List ℕ) (e : Entry) (before : List Entry) → change_count (out host (e ∷ before)) ≡ change_count (out host before) + length (change_sends (view_of host before) e.ask)
change_count-step host e before =
    let v : View = view_of host before in
    sum_by-append (λ (m : Message). cond (is_change m.letter) 1 0) (out host before) (sends v e.ask) ∙ ap (λ n. change_count (out host before) + n) (changes-parted v e.ask)

-- at most 655,360 messages tell changed permissions
pub changes-few : (host : List ℕ) (g : List Entry) → IsAnswered host g → change_count (out host g) ≤ 655360
changes-few host [] answered = omega arith
changes-few host (e ∷ before) answered =
    let more = change_count-step host e before in
    let few = told-few (view_of host before) e.ask (changed-answered host before e answered.0 answered.1) (changes-few host before answered.2) in
    omega arith
