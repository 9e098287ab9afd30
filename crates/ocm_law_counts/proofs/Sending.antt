-- What an entry sends is about a share, about a received offer, about a request, or tells changed permissions.
use Rattle.std.proofs.Common.{◌≡◌, ℕ, suc, ◌+◌, ◌≤◌, List, [], ◌∷◌, length, Bool, true, false, refl, ◌∙◌, arith}
use Rattle.std.specs.Prelude.{Option, Some, None, if◌then◌else◌, option_map, option_and_then, option_to_list}
use Rattle.std.specs.List.{cons_option}
use Rattle.std.specs.Option.{option_map_or}
use Rattle.ocm_types.specs.declared.letters.Notice.TheVariants as notices
use Rattle.ocm_types.specs.declared.letters.Offer.{Offer}
use Rattle.ocm_entry.specs.declared.asks.Ask.{Ask}
use Rattle.ocm_entry.specs.declared.asks.Ask.TheVariants as asks
use Rattle.ocm_entry.specs.declared.asks.Cmd.TheVariants as commands
use Rattle.ocm_entry.specs.declared.rows.Share.{Share}
use Rattle.ocm_rules.specs.declared.rows.Message.{Message}
use Rattle.ocm_rules.specs.Numbers.{at_number}
use Rattle.ocm_rules.specs.Shares.{named, share_by}
use Rattle.ocm_rules.specs.Requests.{Reshare, child_of}
use Rattle.ocm_rules.specs.Views.{View, effective_in, cut_by, effective_with, told_by_limit}
use Rattle.ocm_rules.specs.Messages.{acceptance, at_limit, change_count, changed, is_change, offered, refusal, reshare_request, sends, to_guests, undo, undo_of, unshared, without}
use Rattle.ocm_rules.proofs.Lists.{count_by-cons}
use Rattle.ocm_law_counts.proofs.Shares.{share_sends}

-- ---- by what they are about

-- the messages that an entry sends about received offers
abbrev pub record_sends : View → Ask → List Message
record_sends v (asks.Local key (commands.Accept number)) = option_to_list (option_map (acceptance number) (at_number v.offers number))
record_sends v (asks.Local key (commands.Decline number)) = option_to_list (option_map (refusal number) (at_number v.offers number))
record_sends v _ = []

-- about requests
abbrev pub request_sends : View → Ask → List Message
request_sends v (asks.Local key (commands.Reshare number with perms)) = option_to_list (option_map (reshare_request (length v.requests + 1) with perms) (at_number v.offers number))
request_sends v (asks.Local key (commands.Undo request)) = option_to_list (undo v request)
request_sends v _ = []

-- and those that tell changed permissions
abbrev pub change_sends : View → Ask → List Message
change_sends v (asks.Local key (commands.Limit id perms)) = at_limit v id perms
change_sends v _ = []

-- these are all that it sends
pub sends-parted : (v : View) (ask : Ask) → length (sends v ask) ≡ length (share_sends v ask) + length (record_sends v ask) + length (request_sends v ask) + length (change_sends v ask)
sends-parted v (asks.Local key (commands.Share path with perms fresh)) = omega arith
sends-parted v (asks.Local key (commands.Unshare id)) = omega arith
sends-parted v (asks.Local key (commands.Limit id perms)) = omega arith
sends-parted v (asks.Local key (commands.Accept number)) = omega arith
sends-parted v (asks.Local key (commands.Decline number)) = omega arith
sends-parted v (asks.Local key (commands.Reshare number with perms)) = omega arith
sends-parted v (asks.Local key (commands.Undo request)) = omega arith
sends-parted v (asks.Notice (notices.Declined id secret) fresh) = omega arith
sends-parted v (asks.Notice (notices.ReshareRequest id secret with sender_id asked) fresh) = omega arith
sends-parted v (asks.Notice (notices.ReshareUndo id secret) fresh) = omega arith
sends-parted v _ = omega arith

-- ---- those that tell changed permissions

-- none is such where the one that may be there is not
one-plain : {X : Type 0} (f : X → Message) (o : Option X) → ((x : X) → is_change (f x).letter ≡ false) → change_count (option_to_list (option_map f o)) ≡ 0
one-plain f None h = refl
one-plain f (Some x) h = count_by-cons (λ (m : Message). is_change m.letter) (f x) [] ∙ rw (h x) refl

-- all messages to guests are such, or none is
guests-alike : (ms : List Share) (message : ℕ → Share → Message) (such : Bool) → ((id : ℕ) (share : Share) → is_change (message id share).letter ≡ such)
    → (ids : List ℕ) → change_count (to_guests ms message ids) ≡ (if such then length (to_guests ms message ids) else 0)
guests-alike ms message true h [] = refl
guests-alike ms message false h [] = refl
guests-alike ms message such h (id ∷ ids) = by_share (at_number ms id) (guests-alike ms message such h ids)
  where
    others : List Message
    others = to_guests ms message ids

    by_test : (b : Bool) → (if b then (if b then length others else 0) + 1 else (if b then length others else 0)) ≡ (if b then suc (length others) else 0)
    by_test true = omega arith
    by_test false = refl

    by_share : (o : Option Share) → change_count others ≡ (if such then length others else 0)
        → change_count (cons_option (option_map (message id) o) others) ≡ (if such then length (cons_option (option_map (message id) o) others) else 0)
    by_share None rest = rest
    by_share (Some share) rest = count_by-cons (λ (m : Message). is_change m.letter) (message id share) others ∙ rw (h id share, rest) (by_test such)

ends-plain : (v : View) (ids : List ℕ) → change_count (to_guests v.shares unshared ids) ≡ 0
ends-plain v ids = guests-alike v.shares unshared false (λ id share. refl) ids

named-plain : (v : View) (ids : ℕ → List ℕ) (number : Option ℕ) → change_count (option_map_or (λ i. to_guests v.shares unshared (ids i)) number []) ≡ 0
named-plain v ids None = refl
named-plain v ids (Some i) = ends-plain v (ids i)

undo-plain : (v : View) (r : ℕ) (request : Option Reshare)
    → change_count (option_to_list (option_and_then (λ (request : Reshare). option_and_then (λ offer. option_map (undo_of r offer) (child_of (v.state r))) (at_number v.offers request.received)) request)) ≡ 0
undo-plain v r None = refl
undo-plain v r (Some request) = by_offer (at_number v.offers request.received)
  where
    by_offer : (o : Option Offer) → change_count (option_to_list (option_and_then (λ offer. option_map (undo_of r offer) (child_of (v.state r))) o)) ≡ 0
    by_offer None = refl
    by_offer (Some offer) = one-plain (undo_of r offer) (child_of (v.state r)) (λ child. refl)

-- those that tell changed permissions are those of a limit
pub changes-parted : (v : View) (ask : Ask) → change_count (sends v ask) ≡ length (change_sends v ask)
changes-parted v (asks.Local key (commands.Share path with perms fresh)) =
    one-plain (offered v (length v.shares + 1)) (share_by v.host v.users v.shares (effective_in v) (asks.Local key (commands.Share path with perms fresh))) (λ share. refl)
changes-parted v (asks.Local key (commands.Unshare id)) = ends-plain v (cut_by v id)
changes-parted v (asks.Local key (commands.Limit id perms)) =
    guests-alike v.shares (λ i. changed (v.limits + 1) (effective_with v id perms i) i) true (λ i share. refl) (told_by_limit v id perms)
changes-parted v (asks.Local key (commands.Accept number)) = one-plain (acceptance number) (at_number v.offers number) (λ offer. refl)
changes-parted v (asks.Local key (commands.Decline number)) = one-plain (refusal number) (at_number v.offers number) (λ offer. refl)
changes-parted v (asks.Local key (commands.Reshare number with perms)) = one-plain (reshare_request (length v.requests + 1) with perms) (at_number v.offers number) (λ offer. refl)
changes-parted v (asks.Local key (commands.Undo request)) = undo-plain v request (at_number v.requests request)
changes-parted v (asks.Notice (notices.Declined id secret) fresh) = named-plain v (λ i. without i (cut_by v i)) (named id)
changes-parted v (asks.Notice (notices.ReshareRequest id secret with sender_id asked) fresh) =
    one-plain (offered v (length v.shares + 1)) (share_by v.host v.users v.shares (effective_in v) (asks.Notice (notices.ReshareRequest id secret with sender_id asked) fresh)) (λ share. refl)
changes-parted v (asks.Notice (notices.ReshareUndo id secret) fresh) = named-plain v (λ i. cut_by v i) (named id)
changes-parted v _ = refl

-- ---- at most one

pub at-most-one : {X : Type 0} (f : X → Message) (o : Option X) → length (option_to_list (option_map f o)) ≤ 1
at-most-one f None = omega arith
at-most-one f (Some x) = omega arith
