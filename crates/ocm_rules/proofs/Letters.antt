use Rattle.std.proofs.Common.{◌≡◌, ℕ, ◌+◌, List, [], ◌∷◌, length, Bool, false, refl}
use Rattle.std.specs.Prelude.{Option, Some, None, nat_eq, option_map, option_and_then, option_to_list}
use Rattle.std.specs.List.{list_any, cons_option}
use Rattle.std.specs.Option.{option_map_or}
use Rattle.ocm_types.specs.declared.letters.Notice.TheVariants as notices
use Rattle.ocm_types.specs.declared.letters.Offer.{Offer}
use Rattle.ocm_entry.specs.declared.asks.Ask.{Ask}
use Rattle.ocm_entry.specs.declared.asks.Ask.TheVariants as asks
use Rattle.ocm_entry.specs.declared.asks.Cmd.TheVariants as commands
use Rattle.ocm_entry.specs.declared.rows.Share.{Share}
use Rattle.ocm_rules.specs.declared.rows.Message.{Message}
use Rattle.ocm_rules.specs.declared.rows.Subject.TheVariants as subjects
use Rattle.ocm_rules.specs.Numbers.{at_number}
use Rattle.ocm_rules.specs.Shares.{named, share_by}
use Rattle.ocm_rules.specs.Settlements.{wants_id, is_acceptance}
use Rattle.ocm_rules.specs.Offers.{accepts}
use Rattle.ocm_rules.specs.Requests.{Reshare, child_of}
use Rattle.ocm_rules.specs.Views.{View, effective_in, cut_by, told_by_limit}
use Rattle.ocm_rules.specs.Messages.{sends, to_guests, offered, unshared, acceptance, refusal, reshare_request, undo_of, without}
use Rattle.ocm_rules.specs.State.{is_about}

-- ---- none of a kind of letters

none_of_one : {X : Type 0} (p : Message → Bool) (f : X → Message) → ((x : X) → p (f x) ≡ false) → (o : Option X) → list_any p (option_to_list (option_map f o)) ≡ false
none_of_one p f h None = refl
none_of_one p f h (Some x) = rw (h x) refl

none_of_guests : (p : Message → Bool) (ms : List Share) (message : ℕ → Share → Message) → ((id : ℕ) (share : Share) → p (message id share) ≡ false) → (ids : List ℕ) → list_any p (to_guests ms message ids) ≡ false
none_of_guests p ms message h [] = refl
none_of_guests p ms message h (id ∷ ids) = by_share (at_number ms id) (none_of_guests p ms message h ids)
  where
    by_share : (o : Option Share) → list_any p (to_guests ms message ids) ≡ false → list_any p (cons_option (option_map (message id) o) (to_guests ms message ids)) ≡ false
    by_share None rest = rest
    by_share (Some share) rest = rw (h id share, rest) refl

none_of_named : (p : Message → Bool) (messages : ℕ → List Message) → ((i : ℕ) → list_any p (messages i) ≡ false) → (number : Option ℕ) → list_any p (option_map_or messages number []) ≡ false
none_of_named p messages h None = refl
none_of_named p messages h (Some i) = h i

none_of_undo : (p : Message → Bool) (v : View) (r : ℕ) → ((offer : Offer) (child : List ℕ) → p (undo_of r offer child) ≡ false) → (request : Option Reshare)
    → list_any p (option_to_list (option_and_then (λ (request : Reshare). option_and_then (λ offer. option_map (undo_of r offer) (child_of (v.state r))) (at_number v.offers request.received)) request)) ≡ false
none_of_undo p v r h None = refl
none_of_undo p v r h (Some request) = by_offer (at_number v.offers request.received)
  where
    by_offer : (o : Option Offer) → list_any p (option_to_list (option_and_then (λ offer. option_map (undo_of r offer) (child_of (v.state r))) o)) ≡ false
    by_offer None = refl
    by_offer (Some offer) = none_of_one p (undo_of r offer) (h offer) (child_of (v.state r))

-- ---- acceptances

abbrev pub accepts_record : ℕ → Message → Bool
accepts_record n = is_about is_acceptance (subjects.Received n)

-- an entry that does not accept a record sends no acceptance of it
pub no_acceptance : (v : View) (ask : Ask) (n : ℕ) → accepts n ask ≡ false → list_any (accepts_record n) (sends v ask) ≡ false
no_acceptance v (asks.Local key (commands.Share path with perms fresh)) n h =
    none_of_one (accepts_record n) (offered v (length v.shares + 1)) (λ share. refl) (share_by v.host v.users v.shares (effective_in v) (asks.Local key (commands.Share path with perms fresh)))
no_acceptance v (asks.Local key (commands.Unshare id)) n h = none_of_guests (accepts_record n) v.shares unshared (λ id share. refl) (cut_by v id)
no_acceptance v (asks.Local key (commands.Limit id perms)) n h = none_of_guests (accepts_record n) v.shares _ (λ id share. refl) (told_by_limit v id perms)
no_acceptance v (asks.Local key (commands.Accept number)) n h = none_of_one (accepts_record n) (acceptance number) (λ offer. h) (at_number v.offers number)
no_acceptance v (asks.Local key (commands.Decline number)) n h = none_of_one (accepts_record n) (refusal number) (λ offer. refl) (at_number v.offers number)
no_acceptance v (asks.Local key (commands.Reshare number with perms)) n h = none_of_one (accepts_record n) (reshare_request (length v.requests + 1) with perms) (λ offer. refl) (at_number v.offers number)
no_acceptance v (asks.Local key (commands.Undo request)) n h = none_of_undo (accepts_record n) v request (λ offer child. refl) (at_number v.requests request)
no_acceptance v (asks.Notice (notices.Declined id secret) fresh) n h =
    none_of_named (accepts_record n) _ (λ i. none_of_guests (accepts_record n) v.shares unshared (λ id share. refl) (without i (cut_by v i))) (named id)
no_acceptance v (asks.Notice (notices.ReshareRequest id secret with sender_id asked) fresh) n h =
    none_of_one (accepts_record n) (offered v (length v.shares + 1)) (λ share. refl) (share_by v.host v.users v.shares (effective_in v) (asks.Notice (notices.ReshareRequest id secret with sender_id asked) fresh))
no_acceptance v (asks.Notice (notices.ReshareUndo id secret) fresh) n h =
    none_of_named (accepts_record n) _ (λ i. none_of_guests (accepts_record n) v.shares unshared (λ id share. refl) (cut_by v i)) (named id)
no_acceptance v _ n h = refl

-- ---- requests

abbrev pub asks_for_request : ℕ → Message → Bool
asks_for_request r = is_about wants_id (subjects.Request r)

-- the number of the request that a kept ask makes
abbrev pub makes_request : View → ℕ → Ask → Bool
makes_request v r (asks.Local key (commands.Reshare number with perms)) = nat_eq (length v.requests + 1) r
makes_request v r _ = false

-- an entry that does not make a request does not send it
pub no_request : (v : View) (ask : Ask) (r : ℕ) → makes_request v r ask ≡ false → list_any (asks_for_request r) (sends v ask) ≡ false
no_request v (asks.Local key (commands.Share path with perms fresh)) r h =
    none_of_one (asks_for_request r) (offered v (length v.shares + 1)) (λ share. refl) (share_by v.host v.users v.shares (effective_in v) (asks.Local key (commands.Share path with perms fresh)))
no_request v (asks.Local key (commands.Unshare id)) r h = none_of_guests (asks_for_request r) v.shares unshared (λ id share. refl) (cut_by v id)
no_request v (asks.Local key (commands.Limit id perms)) r h = none_of_guests (asks_for_request r) v.shares _ (λ id share. refl) (told_by_limit v id perms)
no_request v (asks.Local key (commands.Accept number)) r h = none_of_one (asks_for_request r) (acceptance number) (λ offer. refl) (at_number v.offers number)
no_request v (asks.Local key (commands.Decline number)) r h = none_of_one (asks_for_request r) (refusal number) (λ offer. refl) (at_number v.offers number)
no_request v (asks.Local key (commands.Reshare number with perms)) r h = none_of_one (asks_for_request r) (reshare_request (length v.requests + 1) with perms) (λ offer. h) (at_number v.offers number)
no_request v (asks.Local key (commands.Undo request)) r h = none_of_undo (asks_for_request r) v request (λ offer child. refl) (at_number v.requests request)
no_request v (asks.Notice (notices.Declined id secret) fresh) r h =
    none_of_named (asks_for_request r) _ (λ i. none_of_guests (asks_for_request r) v.shares unshared (λ id share. refl) (without i (cut_by v i))) (named id)
no_request v (asks.Notice (notices.ReshareRequest id secret with sender_id asked) fresh) r h =
    none_of_one (asks_for_request r) (offered v (length v.shares + 1)) (λ share. refl) (share_by v.host v.users v.shares (effective_in v) (asks.Notice (notices.ReshareRequest id secret with sender_id asked) fresh))
no_request v (asks.Notice (notices.ReshareUndo id secret) fresh) r h =
    none_of_named (asks_for_request r) _ (λ i. none_of_guests (asks_for_request r) v.shares unshared (λ id share. refl) (cut_by v i)) (named id)
no_request v _ r h = refl
