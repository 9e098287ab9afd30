use Rattle.std.specs.Prelude.{ℕ, ◌+◌, List, [], ◌∷◌, ◌++◌, length, filter, filter_map, count_by, map, nat_eq, nat_lt, decimal, Bool, true, false, not, ◌&&◌, Option, Some, option_map, option_to_list, option_and_then, unwrap_or}
use Rattle.std.specs.List.{list_any}
use Rattle.std.specs.Option.{option_map_or}
use Rattle.ocm_path.specs.Paths.{last}
use Rattle.ocm_types.specs.declared.addresses.Address.{Address}
use Rattle.ocm_types.specs.declared.letters.Offer.{Offer}
use Rattle.ocm_types.specs.declared.letters.Letter.{Letter}
use Rattle.ocm_types.specs.declared.letters.Letter.TheVariants as letters
use Rattle.ocm_types.specs.declared.letters.Notice.TheVariants as notices
use Rattle.ocm_types.specs.declared.letters.Numbered.{Numbered}
use Rattle.ocm_types.specs.declared.phases.Phase.{Phase}
use Rattle.ocm_types.specs.declared.phases.RequestPhase.{RequestPhase}
use Rattle.ocm_types.specs.declared.rights.Rights.{Rights}
use Rattle.ocm_entry.specs.declared.asks.Ask.{Ask}
use Rattle.ocm_entry.specs.declared.asks.Ask.TheVariants as asks
use Rattle.ocm_entry.specs.declared.asks.Cmd.TheVariants as commands
use Rattle.ocm_entry.specs.declared.entries.Entry.{Entry}
use Rattle.ocm_entry.specs.declared.rows.User.{User}
use Rattle.ocm_entry.specs.declared.rows.Share.{Share as ShareRow}
use Rattle.ocm_rules.specs.declared.rows.Message.{Message}
use Rattle.ocm_rules.specs.declared.rows.Subject.{Subject}
use Rattle.ocm_rules.specs.declared.rows.Subject.TheVariants.{Share, Received, Request}
use Rattle.ocm_rules.specs.Numbers.{same_text, at_number}
use Rattle.ocm_rules.specs.Users.{name_of}
use Rattle.ocm_rules.specs.Shares.{named, address_of, share_by}
use Rattle.ocm_rules.specs.Settlements.{same_subject, is_settled}
use Rattle.ocm_rules.specs.Offers.{phase_among}
use Rattle.ocm_rules.specs.Requests.{Reshare, child_of, state_among}
use Rattle.ocm_rules.specs.Views.{View, view_with, effective_in, cut_by, effective_with, told_by_limit}

-- ---- letters about shares

-- the name of a share: the last segment of its root, or the owner's name where the root is the owner's own
abbrev pub share_name : List User → ShareRow → List ℕ
share_name us share = unwrap_or (last share.root) (name_of us share.owner)

-- the offer of the share of this number
abbrev pub offer_of : View → ℕ → ShareRow → Offer
offer_of v id share = record {
  with = share.with;
  name = share_name v.users share;
  id = decimal id;
  owner = address_of v.host v.users share.owner;
  sender = share.sender;
  secret = share.secret;
  perms = share.granted;
}

-- a message about the share of this number, to its guest's server
abbrev pub about_share : ℕ → ShareRow → Letter → Message
about_share id share letter = record { subject = Share id; to = share.with.host; letter = letter }

-- that the share of this number was made
abbrev pub offered : View → ℕ → ShareRow → Message
offered v id share = about_share id share (letters.Offer (offer_of v id share))

-- that the share of this number ended
abbrev pub unshared : ℕ → ShareRow → Message
unshared id share = about_share id share (letters.Notice (notices.Unshared (decimal id) share.secret))

-- that the guest of the share of this number has these permissions now, by the change of this serial
abbrev pub changed : ℕ → Rights → ℕ → ShareRow → Message
changed serial perms id share = about_share id share (letters.Notice (notices.Changed (decimal id) share.secret serial perms))

-- a message for each of these shares
abbrev pub to_guests : List ShareRow → (ℕ → ShareRow → Message) → List ℕ → List Message
to_guests ms message ids = filter_map (λ id. option_map (message id) (at_number ms id)) ids

-- the messages at the end of a share: to the guest of each share that ends by it
abbrev pub at_end : View → List ℕ → List Message
at_end v ids = to_guests v.shares unshared ids

-- the messages at a limit of a share: to each guest who may do something else by it
abbrev pub at_limit : View → ℕ → Rights → List Message
at_limit v limited perms = to_guests v.shares (λ id. changed (v.limits + 1) (effective_with v limited perms id) id) (told_by_limit v limited perms)

-- ---- letters about received offers

-- a message about a received offer or a request, to the server of the offer's owner
abbrev pub to_owner : Subject → Offer → Letter → Message
to_owner subject offer letter = record { subject = subject; to = offer.owner.host; letter = letter }

-- that the offer was taken, and how it was understood
abbrev pub acceptance : ℕ → Offer → Message
acceptance n offer = to_owner (Received n) offer (letters.Notice (notices.Accepted offer.id offer.secret (Some offer.owner) (Some offer.with) (Some offer.perms)))

-- that the offer was declined
abbrev pub refusal : ℕ → Offer → Message
refusal n offer = to_owner (Received n) offer (letters.Notice (notices.Declined offer.id offer.secret))

-- the request of this number
abbrev pub reshare_request : ℕ → Address → Option Rights → Offer → Message
reshare_request r with perms offer = to_owner (Request r) offer (letters.Notice (notices.ReshareRequest offer.id offer.secret with (decimal r) perms))

-- that the child made for the request of this number ends
abbrev pub undo_of : ℕ → Offer → List ℕ → Message
undo_of r offer child = to_owner (Request r) offer (letters.Notice (notices.ReshareUndo child offer.secret))

-- the message by which the request of this number is taken back
abbrev pub undo : View → ℕ → Option Message
undo v r = option_and_then (λ (request : Reshare). option_and_then (λ offer. option_map (undo_of r offer) (child_of (v.state r))) (at_number v.offers request.received)) (at_number v.requests r)

-- ---- what an entry sends

-- without this number
abbrev pub without : ℕ → List ℕ → List ℕ
without i ids = filter (λ j. not (nat_eq i j)) ids

-- the offer of the share that a kept ask makes, if it makes one
abbrev pub offer_made : View → Ask → List Message
offer_made v ask = option_to_list (option_map (offered v (length v.shares + 1)) (share_by v.host v.users v.shares (effective_in v) ask))

-- what happens to the share that this id names, where it names a share
abbrev pub at_named : List ℕ → (ℕ → List Message) → List Message
at_named id messages = option_map_or messages (named id) []

-- the messages that a kept ask sends, in order, where this is read of the kept entries before it
abbrev pub sends : View → Ask → List Message
sends v (asks.Local key (commands.Share path with perms fresh)) = offer_made v (asks.Local key (commands.Share path with perms fresh))
sends v (asks.Local key (commands.Unshare id)) = at_end v (cut_by v id)
sends v (asks.Local key (commands.Limit id perms)) = at_limit v id perms
sends v (asks.Local key (commands.Accept number)) = option_to_list (option_map (acceptance number) (at_number v.offers number))
sends v (asks.Local key (commands.Decline number)) = option_to_list (option_map (refusal number) (at_number v.offers number))
sends v (asks.Local key (commands.Reshare number with perms)) = option_to_list (option_map (reshare_request (length v.requests + 1) with perms) (at_number v.offers number))
sends v (asks.Local key (commands.Undo request)) = option_to_list (undo v request)
sends v (asks.Notice (notices.Declined id secret) fresh) = at_named id (λ i. at_end v (without i (cut_by v i)))
sends v (asks.Notice (notices.ReshareRequest id secret with sender_id asked) fresh) = offer_made v (asks.Notice (notices.ReshareRequest id secret with sender_id asked) fresh)
sends v (asks.Notice (notices.ReshareUndo id secret) fresh) = at_named id (λ i. at_end v (cut_by v i))
sends v _ = []

-- these messages, and behind them those that an entry sends after the kept ones before it
abbrev pub out_after : List ℕ → List Entry → Ask → List Message → List Message
out_after host before ask messages = messages ++ sends (view_with host before messages) ask

-- the messages that a list of kept entries sent, the oldest first; they are numbered from 1
abbrev pub out : List ℕ → List Entry → List Message
out host [] = []
out host (e ∷ before) = out_after host before e.ask (out host before)

-- what is read of a list of kept entries
abbrev pub view_of : List ℕ → List Entry → View
view_of host g = view_with host g (out host g)

-- whether a message goes to another host than this one
abbrev pub is_away : List ℕ → Message → Bool
is_away host m = not (same_text m.to host)

-- ---- what is due

-- each item with its number, where the first has this one
abbrev pub numbered_from : {X : Type 0} → ℕ → List X → List (ℕ × X)
numbered_from n [] = []
numbered_from n (x ∷ xs) = (n, x) ∷ numbered_from (n + 1) xs

-- whether the second message holds the first one back: it is earlier, is about the same, and is not settled
abbrev pub holds_back : (ℕ → Bool) → ℕ × Message → ℕ × Message → Bool
holds_back is_settled m earlier = nat_lt earlier.0 m.0 && same_subject earlier.1.subject m.1.subject && not (is_settled earlier.0)

-- whether a message is due: it is not settled, and none of all the messages holds it back
abbrev pub is_due : (ℕ → Bool) → List (ℕ × Message) → ℕ × Message → Bool
is_due is_settled all m = not (is_settled m.0) && not (list_any (holds_back is_settled m) all)

-- a message with its number, as it is sent
abbrev pub as_sent : ℕ × Message → Numbered
as_sent m = record { number = m.0; to = m.1.to; letter = m.1.letter }

-- the messages that are due, in order, of these messages
abbrev pub due_among : (ℕ → Bool) → List Message → List Numbered
due_among is_settled messages = map as_sent (filter (is_due is_settled (numbered_from 1 messages)) (numbered_from 1 messages))

-- the messages that are due after a list of kept entries
abbrev pub due : List ℕ → List Entry → List Numbered
due host g = due_among (is_settled g) (out host g)

-- the phase of a record, and the state of a request, after a list of kept entries
abbrev pub phase : List ℕ → List Entry → ℕ → Phase
phase host g n = phase_among (out host g) g n

abbrev pub state : List ℕ → List Entry → ℕ → RequestPhase
state host g r = state_among (out host g) g r

-- whether a letter tells changed permissions
abbrev pub is_change : Letter → Bool
is_change (letters.Notice (notices.Changed id secret serial perms)) = true
is_change _ = false

-- how many of these messages tell changed permissions
abbrev pub change_count : List Message → ℕ
change_count messages = count_by (λ (m : Message). is_change m.letter) messages
