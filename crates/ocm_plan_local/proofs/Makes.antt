use Rattle.std.proofs.Common.{◌≡◌, ℕ, ◌+◌, ◌<◌, List, [], ◌∷◌, map, length, false, Option, Some, IsSome, IsTrue, refl, sym, ap, ◌∙◌}
use Rattle.std.proofs.lemmas.List.{length-map}
use Rattle.ocm_texts.specs.Hex.{hex}
use Rattle.ocm_path.specs.Paths.{Segments}
use Rattle.ocm_types.specs.declared.addresses.Address.{Address}
use Rattle.ocm_types.specs.declared.letters.Offer.{Offer}
use Rattle.ocm_types.specs.declared.phases.Phase.TheVariants.{Accepting, Declined}
use Rattle.ocm_types.specs.declared.phases.RequestPhase.{RequestPhase}
use Rattle.ocm_types.specs.declared.phases.RequestPhase.TheVariants.{Asked}
use Rattle.ocm_types.specs.declared.rights.Rights.{Rights}
use Rattle.ocm_entry.specs.Proper.{is_short}
use Rattle.ocm_entry.specs.declared.asks.Ask.TheVariants.{Local}
use Rattle.ocm_entry.specs.declared.asks.Cmd.TheVariants as commands
use Rattle.ocm_entry.specs.declared.replies.Reply.{Reply}
use Rattle.ocm_entry.specs.declared.rows.Share.{Share}
use Rattle.ocm_entry.specs.declared.rows.Request.{Request}
use Rattle.ocm_chain.specs.declared.answers.Change.{Change}
use Rattle.ocm_incoming.specs.declared.rows.Record.{Record}
use Rattle.ocm_letters.specs.declared.mailings.NewPerms.{NewPerms}
use Rattle.ocm_letters.specs.Letters.{offered_from}
use Rattle.ocm_letters.specs.Mailings.{changed_to_guests}
use Rattle.ocm_letters.specs.Rows.{own_share_from}
use Rattle.ocm_letters.proofs.GuestMessages.{changed_to_guests-each}
use Rattle.ocm_rules.specs.declared.rows.Message.{Message}
use Rattle.ocm_rules.specs.Numbers.{at_number}
use Rattle.ocm_rules.specs.Requests.{child_of}
use Rattle.ocm_rules.specs.Shares.{is_used}
use Rattle.ocm_rules.specs.Users.{name_of, user_of_key}
use Rattle.ocm_rules.specs.Views.{cut_by, effective_with, told_by_limit}
use Rattle.ocm_rules.specs.Messages.{acceptance, at_end, at_limit, refusal, reshare_request, undo, undo_of}
use Rattle.ocm_rules.specs.State.{State, step, view_in}
use Rattle.ocm_tables.specs.declared.changes.TableChange.TheVariants as changes
use Rattle.ocm_tables.specs.Changes.{FitsShare, acted, changed}
use Rattle.ocm_rules_steps.proofs.CommandSteps.{accept_command-step, decline_command-step, expire_command-step, limit_command-step, reshare_command-step, share-step, undo_command-step, unshare_command-step}
use Rattle.ocm_rules_steps.proofs.Rows.{none-sent}
use Rattle.ocm_plan_local.specs.OwnRows.{IsOwnRequest}
use Rattle.ocm_plan_local.specs.Told.{new_perms}

-- a share that is closed
pub unshare-makes : (st : State) (key : List ℕ) (id : ℕ) (reply : Reply) (ids : List ℕ) (sent : List Message) → ids ≡ cut_by (view_in st) id → sent ≡ at_end (view_in st) ids
    → changed st (changes.Close id) sent ≡ step st (Local key (commands.Unshare id)) reply
unshare-makes st key id reply ids sent cut told = rw (told, cut) (sym (unshare_command-step st key id reply))

-- a share that is given an end
pub expire-makes : (st : State) (key : List ℕ) (id until : ℕ) (reply : Reply) → changed st (changes.Expire id until) [] ≡ step st (Local key (commands.Expire id until)) reply
expire-makes st key id until reply = none-sent (acted st (changes.Expire id until)) ∙ sym (expire_command-step st key id until reply)

abbrev pub change_of : (ℕ → Rights) → ℕ → Change
change_of perms id = record { id = id; perms = perms id }

abbrev told_of : (ℕ → Rights) → ℕ → NewPerms
told_of perms id = record { id = id; perms = perms id }

new_perms-each : (perms : ℕ → Rights) (ids : List ℕ) → map new_perms (map (change_of perms) ids) ≡ map (told_of perms) ids
new_perms-each perms [] = refl
new_perms-each perms (id ∷ ids) = rw (new_perms-each perms ids) refl

-- how many guests are told of a limit
pub told-count : (st : State) (id : ℕ) (perms : Rights) (told : List Change) → told ≡ map (change_of (effective_with (view_in st) id perms)) (told_by_limit (view_in st) id perms) → length told ≡ length (told_by_limit (view_in st) id perms)
told-count st id perms told found = ap (λ (list : List Change). length list) found ∙ length-map (told_by_limit (view_in st) id perms) (change_of (effective_with (view_in st) id perms))

-- the messages of a limit
pub limit-sent : (st : State) (id : ℕ) (perms : Rights) (told : List Change) (sent : List Message) → told ≡ map (change_of (effective_with (view_in st) id perms)) (told_by_limit (view_in st) id perms)
    → sent ≡ changed_to_guests (view_in st).shares (st.limits + 1) (map new_perms told) → sent ≡ at_limit (view_in st) id perms
limit-sent st id perms told sent found e =
    let v = view_in st in
    let ids = told_by_limit v id perms in
    e
    ∙ ap (λ (list : List Change). changed_to_guests v.shares (st.limits + 1) (map new_perms list)) found
    ∙ ap (λ (list : List NewPerms). changed_to_guests v.shares (st.limits + 1) list) (new_perms-each (effective_with v id perms) ids)
    ∙ changed_to_guests-each v.shares (st.limits + 1) (effective_with v id perms) ids

-- a share that is limited
pub limit-makes : (st : State) (key : List ℕ) (id : ℕ) (perms : Rights) (reply : Reply) (sent : List Message) → sent ≡ at_limit (view_in st) id perms
    → changed st (changes.Limit id perms) sent ≡ step st (Local key (commands.Limit id perms)) reply
limit-makes st key id perms reply sent told = rw told (sym (limit_command-step st key id perms reply))

-- a new share
pub share-makes : (st : State) (key : List ℕ) (user : ℕ) (path : Segments) (with : Address) (perms : Rights) (fresh : List ℕ) (reply : Reply) (name secret : List ℕ) (share planned : Share) (sent : List Message)
    → user_of_key st.users key ≡ Some user → name ≡ name_of st.users user → secret ≡ hex fresh → share ≡ own_share_from st.host user name path with perms secret → planned ≡ share
    → sent ≡ offered_from st.host name (length st.shares + 1) share ∷ []
    → changed st (changes.AddShare planned) sent ≡ step st (Local key (commands.Share path with perms fresh)) reply
share-makes st key user path with perms fresh reply name secret share planned sent account named drawn made same told =
    rw (told, same, made, named, drawn) (sym (share-step st key path with perms fresh reply user account))

-- it keeps to the rules
pub share-fits : (st : State) (host : List ℕ) (user : ℕ) (name : List ℕ) (path : Segments) (with : Address) (perms : Rights) (secret : List ℕ) (share planned : Share)
    → share ≡ own_share_from host user name path with perms secret → planned ≡ share → length st.shares < 65536 → is_used st.users (view_in st).shares secret ≡ false → IsSome (at_number st.users user) → IsTrue (is_short path)
    → FitsShare st planned
share-fits st host user name path with perms secret share planned made same few unused there short =
    rw (same, made) (record { few = few; secret = unused; parent = tt; owner = there; root = short })

-- a received share that is taken
pub accept-makes : (st : State) (key : List ℕ) (number : ℕ) (reply : Reply) (offer : Offer) (message : Message) (sent : List Message) → at_number (view_in st).offers number ≡ Some offer
    → message ≡ acceptance number offer → sent ≡ message ∷ []
    → changed st (changes.SetPhase number Accepting) sent ≡ step st (Local key (commands.Accept number)) reply
accept-makes st key number reply offer message sent there told one = rw (one, told) (sym (accept_command-step st key number reply offer there))

-- one that is given back
pub decline-makes : (st : State) (key : List ℕ) (number : ℕ) (reply : Reply) (offer : Offer) (message : Message) (sent : List Message) → at_number (view_in st).offers number ≡ Some offer
    → message ≡ refusal number offer → sent ≡ message ∷ []
    → changed st (changes.SetPhase number Declined) sent ≡ step st (Local key (commands.Decline number)) reply
decline-makes st key number reply offer message sent there told one = rw (one, told) (sym (decline_command-step st key number reply offer there))

-- a new request
pub reshare-makes : (st : State) (key : List ℕ) (number : ℕ) (with copy : Address) (perms : Option Rights) (reply : Reply) (offer : Offer) (count : ℕ) (message : Message) (sent : List Message)
    → at_number (view_in st).offers number ≡ Some offer → copy ≡ with → count ≡ length st.requests
    → message ≡ reshare_request (count + 1) with perms offer → sent ≡ message ∷ []
    → changed st (changes.AddRequest (record { received = number; with = copy; perms = perms; state = Asked })) sent ≡ step st (Local key (commands.Reshare number with perms)) reply
reshare-makes st key number with copy perms reply offer count message sent there same counted told one =
    rw (one, told, counted, same) (sym (reshare_command-step st key number with perms reply offer there))

-- the message of a request that is taken back
undo-message : (st : State) (user r : ℕ) (request : Request) (received : Record) (child : List ℕ) → IsOwnRequest st user r request received → child_of request.state ≡ Some child → undo (view_in st) r ≡ Some (undo_of r received.offer child)
undo-message st user r request received child own granted =
    let found = own.found in
    let offer = own.offer in
    let state : child_of ((view_in st).state r) ≡ Some child = ap (λ (s : RequestPhase). child_of s) own.state ∙ granted in
    rw (found, offer, state) refl

-- a request that is taken back
pub undo-makes : (st : State) (key : List ℕ) (user r : ℕ) (reply : Reply) (request : Request) (received : Record) (child : List ℕ) (message : Message) (sent : List Message)
    → IsOwnRequest st user r request received → child_of request.state ≡ Some child → message ≡ undo_of r received.offer child → sent ≡ message ∷ []
    → changed st (changes.TakeBack r) sent ≡ step st (Local key (commands.Undo r)) reply
undo-makes st key user r reply request received child message sent own granted told one =
    rw (one, told) (sym (undo_command-step st key r reply (undo_of r received.offer child) (undo-message st user r request received child own granted)))
