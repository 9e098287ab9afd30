use Rattle.std.proofs.Common.{◌≡◌, ℕ, ◌+◌, ◌≤◌, List, [], ◌∷◌, length, Bool, true, false, not, refl, subst}
use Rattle.std.specs.Prelude.{Option, Some, None, nat_lt, if◌then◌else◌, option_map, option_and_then, option_to_list}
use Rattle.std.specs.List.{list_all, cons_option}
use Rattle.std.specs.Option.{option_map_or}
use Rattle.std.proofs.lemmas.Bool.{le-ltb}
use Rattle.ocm_texts.specs.Hex.{hex}
use Rattle.ocm_types.specs.declared.addresses.Address.{Address}
use Rattle.ocm_types.specs.declared.letters.Offer.{Offer}
use Rattle.ocm_types.specs.declared.letters.Notice.TheVariants as notices
use Rattle.ocm_types.specs.declared.phases.Which.TheVariants as limits
use Rattle.ocm_types.specs.declared.rights.Rights.{Rights}
use Rattle.ocm_entry.specs.declared.asks.Ask.{Ask}
use Rattle.ocm_entry.specs.declared.asks.Ask.TheVariants as asks
use Rattle.ocm_entry.specs.declared.asks.Cmd.TheVariants as commands
use Rattle.ocm_entry.specs.declared.replies.Reply.{Reply}
use Rattle.ocm_entry.specs.declared.replies.Reply.TheVariants as replies
use Rattle.ocm_entry.specs.declared.refusals.Why.TheVariants.{OwnHost, SenderIdReused, ShareClosed, NotPermitted, Collision, NotOurHost, UnknownUser}
use Rattle.ocm_entry.specs.declared.refusals.AddressField.TheVariants as fields
use Rattle.ocm_entry.specs.declared.entries.Entry.{Entry}
use Rattle.ocm_entry.specs.declared.rows.Share.{Share}
use Rattle.ocm_entry.specs.declared.rows.Standing.{Standing}
use Rattle.ocm_rules.specs.declared.rows.Message.{Message}
use Rattle.ocm_rules.specs.Numbers.{same_text, at_number}
use Rattle.ocm_rules.specs.Shares.{made, share_by, own_share, child_share, named, is_used}
use Rattle.ocm_rules.specs.Offers.{offers, offer_by}
use Rattle.ocm_rules.specs.Requests.{Reshare, child_of}
use Rattle.ocm_rules.specs.Users.{user_of_key, is_taken}
use Rattle.ocm_rules.specs.Views.{View, effective_in, is_live_in, cut_by, told_by_limit}
use Rattle.ocm_rules.specs.Messages.{sends, out, view_of, to_guests, is_away, offered, unshared, acceptance, refusal, reshare_request, undo_of, without}
use Rattle.ocm_rules.specs.Answers.{reply_in, local_reply, share_reply, offer_reply, request_reply, first_reply, repeated_reply, child_for, share_with, refused, limited, may_share, new_offer_reply}
use Rattle.ocm_rules.specs.History.{changes, changes_in, answer_kept, IsAnswered}
use Rattle.ocm_rules.proofs.Lists.{not_both, list_all-added, list_all-more, at_number-all, number_of-within}

-- ---- options

-- the test of a value that a function makes of another, where it may be there
made_of : {X Y : Type 0} (p : Y → Bool) (f : X → Y) (q : X → Bool) → ((x : X) → q x ≡ true → p (f x) ≡ true) → (o : Option X) → option_map_or q o true ≡ true → option_map_or p (option_map f o) true ≡ true
made_of p f q step None h = refl
made_of p f q step (Some x) h = step x h

-- the same of a list of at most one
in_list : {X : Type 0} (p : X → Bool) (o : Option X) → option_map_or p o true ≡ true → list_all p (option_to_list o) ≡ true
in_list p None h = refl
in_list p (Some x) h = rw h refl

in_front : {X : Type 0} (p : X → Bool) (o : Option X) (xs : List X) → option_map_or p o true ≡ true → list_all p xs ≡ true → list_all p (cons_option o xs) ≡ true
in_front p None xs h k = k
in_front p (Some x) xs h k = rw (h, k) refl

-- ---- shares and offers of other hosts

-- whether a share's guest is of another host
abbrev pub guest_away : List ℕ → Share → Bool
guest_away host share = not (same_text share.with.host host)

-- whether an offer's owner is of another host
abbrev pub owner_away : List ℕ → Offer → Bool
owner_away host offer = not (same_text offer.owner.host host)

-- what is not refused for one of three reasons is not refused for the third
third_refusal : (f : Reply → Bool) (a b c : Bool) (r s t x : Reply) → f r ≡ false → f s ≡ false → f t ≡ false
    → f (if a then r else (if b then s else (if c then t else x))) ≡ true → not c ≡ true
third_refusal f true b c r s t x hr hs ht h = absurd (not_both (f r) h hr)
third_refusal f false true c r s t x hr hs ht h = absurd (not_both (f s) h hs)
third_refusal f false false true r s t x hr hs ht h = absurd (not_both (f t) h ht)
third_refusal f false false false r s t x hr hs ht h = refl

-- a command to share that changes something is for another host
share_reply-away : (v : View) (ask : Ask) (own : Bool) (standing : Option Standing) (count : ℕ) (used : Bool)
    → changes_in v ask (refused (OwnHost fields.ShareWith)) ≡ false
    → changes_in v ask (share_reply own standing count used) ≡ true → not own ≡ true
share_reply-away v ask true standing count used none h = absurd (not_both _ h none)
share_reply-away v ask false standing count used none h = refl

own_share-away : (v : View) (key : List ℕ) (path : List (List ℕ)) (with : Address) (perms : Rights) (fresh : List ℕ) (user : Option ℕ)
    → changes_in v (asks.Local key (commands.Share path with perms fresh)) (local_reply v user (commands.Share path with perms fresh)) ≡ true
    → option_map_or (guest_away v.host) (option_map (λ owner. own_share v.host v.users owner path with perms fresh) user) true ≡ true
own_share-away v key path with perms fresh None h = refl
own_share-away v key path with perms fresh (Some user) h =
    share_reply-away v (asks.Local key (commands.Share path with perms fresh)) (same_text with.host v.host) (v.stands (record { user = user; path = path })) (length v.shares) (is_used v.users v.shares (hex fresh)) refl h

-- a repeated request changes nothing
repeated_reply-same : (v : View) (id secret sender_id fresh : List ℕ) (with : Address) (asked : Option Rights) (n : ℕ) (child : Option Share)
    → n ≤ length v.shares
    → changes_in v (asks.Notice (notices.ReshareRequest id secret with sender_id asked) fresh) (repeated_reply n child with asked) ≡ false
repeated_reply-same v id secret sender_id fresh with asked n None within = refl
repeated_reply-same v id secret sender_id fresh with asked n (Some child) within = by_test _
  where
    by_test : (b : Bool) → changes_in v (asks.Notice (notices.ReshareRequest id secret with sender_id asked) fresh) (if b then replies.Child n else refused SenderIdReused) ≡ false
    by_test true = le-ltb (length v.shares) n within
    by_test false = refl

-- a request to share further that changes something is for another host
asked_reply-away : (v : View) (id secret sender_id fresh drawn : List ℕ) (with : Address) (asked : Option Rights) (parent : ℕ) (repeated : Option ℕ)
    → ((n : ℕ) → repeated ≡ Some n → n ≤ length v.shares)
    → changes_in v (asks.Notice (notices.ReshareRequest id secret with sender_id asked) fresh) (option_map_or (λ n. repeated_reply n (at_number v.shares n) with asked) repeated (first_reply v parent with asked drawn)) ≡ true
    → not (same_text with.host v.host) ≡ true
asked_reply-away v id secret sender_id fresh drawn with asked parent None within h =
    third_refusal (changes_in v (asks.Notice (notices.ReshareRequest id secret with sender_id asked) fresh)) (not (is_live_in v parent)) (not (may_share (effective_in v parent) asked)) (same_text with.host v.host) (refused ShareClosed) (refused NotPermitted) (refused (OwnHost fields.ShareWith))
    (if nat_lt 65536 (length v.shares + 1) then limited limits.Shares else (if is_used v.users v.shares drawn then refused Collision else replies.Child (length v.shares + 1)))
    refl refl refl h
asked_reply-away v id secret sender_id fresh drawn with asked parent (Some n) within h =
    absurd (not_both _ h (repeated_reply-same v id secret sender_id fresh with asked n (at_number v.shares n) (within n refl)))

request_reply-away : (v : View) (id secret sender_id fresh drawn : List ℕ) (with : Address) (asked : Option Rights) (found : Option (ℕ × Share))
    → changes_in v (asks.Notice (notices.ReshareRequest id secret with sender_id asked) fresh) (request_reply v found with sender_id asked drawn) ≡ true
    → not (same_text with.host v.host) ≡ true
request_reply-away v id secret sender_id fresh drawn with asked None h = absurd (cc)
request_reply-away v id secret sender_id fresh drawn with asked (Some (parent, share)) h =
    asked_reply-away v id secret sender_id fresh drawn with asked parent (child_for v parent sender_id) (λ n e. number_of-within _ v.shares n e) h

-- a child is for whom it was asked for
child_share-away : (v : View) (id sender_id fresh : List ℕ) (with : Address) (asked : Option Rights) (rights : ℕ → Rights) (number : Option ℕ)
    → not (same_text with.host v.host) ≡ true
    → option_map_or (guest_away v.host) (option_and_then (λ number. option_map (λ (parent : Share). child_share number parent (rights number) with sender_id asked fresh) (at_number v.shares number)) number) true ≡ true
child_share-away v id sender_id fresh with asked rights None h = refl
child_share-away v id sender_id fresh with asked rights (Some number) h = by_parent (at_number v.shares number)
  where
    by_parent : (parent : Option Share) → option_map_or (guest_away v.host) (option_map (λ (parent : Share). child_share number parent (rights number) with sender_id asked fresh) parent) true ≡ true
    by_parent None = refl
    by_parent (Some parent) = h

-- a share that an ask makes which changes something is for a guest of another host
pub new_share-away : (v : View) (rights : ℕ → Rights) (ask : Ask) → changes_in v ask (reply_in v ask) ≡ true
    → option_map_or (guest_away v.host) (share_by v.host v.users v.shares rights ask) true ≡ true
new_share-away v rights (asks.Local key (commands.Share path with perms fresh)) h = own_share-away v key path with perms fresh (user_of_key v.users key) h
new_share-away v rights (asks.Notice (notices.ReshareRequest id secret with sender_id asked) fresh) h =
    child_share-away v id sender_id fresh with asked rights (named id) (request_reply-away v id secret sender_id fresh (hex fresh) with asked (share_with v id secret) h)
new_share-away v rights _ h = refl

-- an offer that changes something is of an owner of another host
offer_reply-away : (v : View) (offer : Offer) → changes_in v (asks.Offer offer) (offer_reply v offer) ≡ true → owner_away v.host offer ≡ true
offer_reply-away v offer h =
    third_refusal (changes_in v (asks.Offer offer)) (not (same_text offer.with.host v.host)) (not (is_taken v.users offer.with.user)) (same_text offer.owner.host v.host) (refused NotOurHost) (refused UnknownUser) (refused (OwnHost fields.Owner))
    (new_offer_reply v offer) refl refl refl h

new_offer-away : (v : View) (ask : Ask) → changes_in v ask (reply_in v ask) ≡ true → option_map_or (owner_away v.host) (offer_by ask) true ≡ true
new_offer-away v (asks.Offer offer) h = offer_reply-away v offer h
new_offer-away v _ h = refl

-- what changed something would change it with the reply that the rules give
pub changed-answered : (host : List ℕ) (before : List Entry) (e : Entry) → e.reply ≡ answer_kept host before e.ask → changes host before e ≡ true
    → changes_in (view_of host before) e.ask (reply_in (view_of host before) e.ask) ≡ true
changed-answered host before e answered changed = subst (λ reply. changes_in (view_of host before) e.ask reply ≡ true) answered changed

-- the guest of each share is of another host
pub made-away : (host : List ℕ) (g : List Entry) → IsAnswered host g → list_all (guest_away host) (made host g) ≡ true
made-away host [] h = refl
made-away host (e ∷ before) h =
    list_all-added (guest_away host) (made host before) _ (made-away host before h.2)
    (new_share-away (view_of host before) _ e.ask (changed-answered host before e h.0 h.1))

-- the owner of each received offer is of another host
pub offers-away : (host : List ℕ) (g : List Entry) → IsAnswered host g → list_all (owner_away host) (offers g) ≡ true
offers-away host [] h = refl
offers-away host (e ∷ before) h =
    list_all-added (owner_away host) (offers before) _ (offers-away host before h.2)
    (new_offer-away (view_of host before) e.ask (changed-answered host before e h.0 h.1))

-- ---- messages

to_guests-away : (host : List ℕ) (ms : List Share) (message : ℕ → Share → Message) → list_all (guest_away host) ms ≡ true
    → ((id : ℕ) (share : Share) → guest_away host share ≡ true → is_away host (message id share) ≡ true)
    → (ids : List ℕ) → list_all (is_away host) (to_guests ms message ids) ≡ true
to_guests-away host ms message away sent [] = refl
to_guests-away host ms message away sent (id ∷ ids) =
    in_front (is_away host) _ _ (made_of (is_away host) (message id) (guest_away host) (sent id) (at_number ms id) (at_number-all (guest_away host) ms away id))
    (to_guests-away host ms message away sent ids)

at_named-away : (host : List ℕ) (messages : ℕ → List Message) → ((i : ℕ) → list_all (is_away host) (messages i) ≡ true) → (number : Option ℕ) → list_all (is_away host) (option_map_or messages number []) ≡ true
at_named-away host messages each None = refl
at_named-away host messages each (Some i) = each i

undo-away : (v : View) (r : ℕ) → list_all (owner_away v.host) v.offers ≡ true → (request : Option Reshare)
    → option_map_or (is_away v.host) (option_and_then (λ (request : Reshare). option_and_then (λ offer. option_map (undo_of r offer) (child_of (v.state r))) (at_number v.offers request.received)) request) true ≡ true
undo-away v r away None = refl
undo-away v r away (Some request) = by_offer (at_number v.offers request.received) (at_number-all (owner_away v.host) v.offers away request.received)
  where
    by_child : (offer : Offer) → owner_away v.host offer ≡ true → (child : Option (List ℕ)) → option_map_or (is_away v.host) (option_map (undo_of r offer) child) true ≡ true
    by_child offer h None = refl
    by_child offer h (Some child) = h

    by_offer : (offer : Option Offer) → option_map_or (owner_away v.host) offer true ≡ true → option_map_or (is_away v.host) (option_and_then (λ offer. option_map (undo_of r offer) (child_of (v.state r))) offer) true ≡ true
    by_offer None h = refl
    by_offer (Some offer) h = by_child offer h (child_of (v.state r))

-- what an ask sends goes to other hosts, where the guests of all shares, the owners of all received offers and the guest of a new share are there
sends-away : (v : View) → list_all (guest_away v.host) v.shares ≡ true → list_all (owner_away v.host) v.offers ≡ true → (ask : Ask)
    → option_map_or (guest_away v.host) (share_by v.host v.users v.shares (effective_in v) ask) true ≡ true
    → list_all (is_away v.host) (sends v ask) ≡ true
sends-away v shares offers (asks.Local key (commands.Share path with perms fresh)) new =
    in_list (is_away v.host) _ (made_of (is_away v.host) (offered v (length v.shares + 1)) (guest_away v.host) (λ share h. h) _ new)
sends-away v shares offers (asks.Local key (commands.Unshare id)) new = to_guests-away v.host v.shares unshared shares (λ i share h. h) (cut_by v id)
sends-away v shares offers (asks.Local key (commands.Limit id perms)) new = to_guests-away v.host v.shares _ shares (λ i share h. h) (told_by_limit v id perms)
sends-away v shares offers (asks.Local key (commands.Accept number)) new =
    in_list (is_away v.host) _ (made_of (is_away v.host) (acceptance number) (owner_away v.host) (λ offer h. h) _ (at_number-all (owner_away v.host) v.offers offers number))
sends-away v shares offers (asks.Local key (commands.Decline number)) new =
    in_list (is_away v.host) _ (made_of (is_away v.host) (refusal number) (owner_away v.host) (λ offer h. h) _ (at_number-all (owner_away v.host) v.offers offers number))
sends-away v shares offers (asks.Local key (commands.Reshare number with perms)) new =
    in_list (is_away v.host) _ (made_of (is_away v.host) (reshare_request (length v.requests + 1) with perms) (owner_away v.host) (λ offer h. h) _ (at_number-all (owner_away v.host) v.offers offers number))
sends-away v shares offers (asks.Local key (commands.Undo request)) new = in_list (is_away v.host) _ (undo-away v request offers (at_number v.requests request))
sends-away v shares offers (asks.Notice (notices.Declined id secret) fresh) new =
    at_named-away v.host _ (λ i. to_guests-away v.host v.shares unshared shares (λ j share h. h) (without i (cut_by v i))) (named id)
sends-away v shares offers (asks.Notice (notices.ReshareRequest id secret with sender_id asked) fresh) new =
    in_list (is_away v.host) _ (made_of (is_away v.host) (offered v (length v.shares + 1)) (guest_away v.host) (λ share h. h) _ new)
sends-away v shares offers (asks.Notice (notices.ReshareUndo id secret) fresh) new =
    at_named-away v.host _ (λ i. to_guests-away v.host v.shares unshared shares (λ j share h. h) (cut_by v i)) (named id)
sends-away v shares offers _ new = refl

-- each message goes to another host
pub out-away : (host : List ℕ) (g : List Entry) → IsAnswered host g → list_all (is_away host) (out host g) ≡ true
out-away host [] h = refl
out-away host (e ∷ before) h =
    list_all-more (is_away host) (out host before) _ (out-away host before h.2)
    (sends-away (view_of host before) (made-away host before h.2) (offers-away host before h.2) e.ask
    (new_share-away (view_of host before) _ e.ask (changed-answered host before e h.0 h.1)))
