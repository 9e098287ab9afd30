use Rattle.std.specs.Prelude.{ℕ, List, [], ◌∷◌, length, filter_map, nat_eq, nat_lt, nat_le, Bool, true, false, ◌&&◌, if◌then◌else◌, Option, Some, None}
use Rattle.std.specs.List.{list_any}
use Rattle.std.specs.Option.{option_map_or}
use Rattle.ocm_types.specs.declared.letters.Offer.{Offer}
use Rattle.ocm_types.specs.declared.letters.Notice.TheVariants as notices
use Rattle.ocm_types.specs.declared.phases.Phase.{Phase}
use Rattle.ocm_types.specs.declared.phases.Phase.TheVariants as phases
use Rattle.ocm_entry.specs.declared.asks.Ask.{Ask}
use Rattle.ocm_entry.specs.declared.asks.Ask.TheVariants as asks
use Rattle.ocm_entry.specs.declared.asks.Cmd.TheVariants as commands
use Rattle.ocm_entry.specs.declared.entries.Entry.{Entry}
use Rattle.ocm_rules.specs.declared.rows.Message.{Message}
pub use Rattle.ocm_rules.specs.declared.rows.Told.{Told}
use Rattle.ocm_rules.specs.declared.rows.Subject.TheVariants.{Received}
use Rattle.ocm_rules.specs.Numbers.{same_text, added, at_number}
use Rattle.ocm_rules.specs.Equal.{same_offer}
use Rattle.ocm_rules.specs.Shares.{no_rights}
use Rattle.ocm_rules.specs.Settlements.{Settlement, is_success, is_acceptance, outcome}

-- ---- the received offers, which are the records of a guest's server

-- the offer that a kept ask brings
abbrev pub offer_by : Ask → Option Offer
offer_by (asks.Offer offer) = Some offer
offer_by _ = None

-- the received offers after a list of kept entries, the oldest first; they are numbered from 1
abbrev pub offers : List Entry → List Offer
offers [] = []
offers (e ∷ before) = added (offers before) (offer_by e.ask)

-- whether an equal offer is among these
abbrev pub is_known : List Offer → Offer → Bool
is_known os offer = list_any (same_offer offer) os

-- whether an offer has this id and this secret
abbrev pub is_of : List ℕ → List ℕ → Offer → Bool
is_of id secret offer = same_text offer.id id && same_text offer.secret secret

-- the kept entries after the offer of this number
abbrev pub since_offer : ℕ → List Entry → List Entry
since_offer n [] = []
since_offer n (e ∷ before) = if nat_le n (length (offers before)) then e ∷ since_offer n before else []

-- ---- the phase of a record

-- whether an ask declines the record of this number
abbrev pub declines : ℕ → Ask → Bool
declines n (asks.Local key (commands.Decline number)) = nat_eq number n
declines n _ = false

-- whether an ask accepts the record of this number
abbrev pub accepts : ℕ → Ask → Bool
accepts n (asks.Local key (commands.Accept number)) = nat_eq number n
accepts n _ = false

-- whether an ask tells that this offer is shared no more
abbrev pub unshares : Offer → Ask → Bool
unshares offer (asks.Notice (notices.Unshared id secret) fresh) = is_of id secret offer
unshares offer _ = false

-- whether the record of this number was declined, accepted
abbrev pub is_declined : List Entry → ℕ → Bool
is_declined g n = list_any (λ (e : Entry). declines n e.ask) g

abbrev pub is_accepted : List Entry → ℕ → Bool
is_accepted g n = list_any (λ (e : Entry). accepts n e.ask) g

-- whether an entry after the offer of this number told that it is shared no more
abbrev pub is_removed : List Entry → ℕ → Bool
is_removed g n = option_map_or (λ offer. list_any (λ (e : Entry). unshares offer e.ask) (since_offer n g)) (at_number (offers g) n) false

-- the phase of a record that was neither declined nor removed: how its acceptance was settled, and whether it was accepted
abbrev pub accepted_phase : Option Settlement → Bool → Phase
accepted_phase (Some s) accepted = if is_success s.status then phases.Confirmed else phases.Refused
accepted_phase None accepted = if accepted then phases.Accepting else phases.Pending

-- the phase of a record, by the first that holds: whether it was declined, whether it was removed, how its acceptance was settled, whether it was accepted
abbrev pub phase_from : Bool → Bool → Option Settlement → Bool → Phase
phase_from declined removed settled accepted =
    if declined then phases.Declined else (if removed then phases.Removed else accepted_phase settled accepted)

-- the phase of the record of this number, where these messages were sent
abbrev pub phase_among : List Message → List Entry → ℕ → Phase
phase_among messages g n = phase_from (is_declined g n) (is_removed g n) (outcome messages g is_acceptance (Received n)) (is_accepted g n)

-- whether a phase is this one
abbrev pub is_pending : Phase → Bool
is_pending phases.Pending = true
is_pending _ = false

abbrev pub is_confirmed : Phase → Bool
is_confirmed phases.Confirmed = true
is_confirmed _ = false

-- whether a record of this phase can be declined
abbrev pub is_declinable : Phase → Bool
is_declinable phases.Pending = true
is_declinable phases.Accepting = true
is_declinable phases.Confirmed = true
is_declinable _ = false

-- whether a record of this phase was declined or removed
abbrev pub is_given_up : Phase → Bool
is_given_up phases.Declined = true
is_given_up phases.Removed = true
is_given_up _ = false

-- ---- what a guest was told of its permissions

-- what an ask tells of this offer's permissions
abbrev pub told_by : Offer → Ask → Option Told
told_by offer (asks.Notice (notices.Changed id secret serial perms) fresh) = if is_of id secret offer then Some (record { serial = serial; perms = perms }) else None
told_by offer _ = None

-- the later of two, by their serials; the earlier one that was told, where these are the same
abbrev pub later : Told → Told → Told
later new old = if nat_lt old.serial new.serial then new else old

-- of what was told, newest first, the first that came with the greatest serial; at the beginning stands what the offer said
abbrev pub greatest : Told → List Told → Told
greatest start [] = start
greatest start (new ∷ older) = later new (greatest start older)

-- what the offer itself told: its permissions, as no change
abbrev pub told_first : Offer → Told
told_first offer = record { serial = 0; perms = offer.perms }

-- what the guest of the record of this number was told last, by the serials
abbrev pub told : List Entry → ℕ → Told
told g n = option_map_or (λ offer. greatest (told_first offer) (filter_map (λ (e : Entry). told_by offer e.ask) (since_offer n g))) (at_number (offers g) n) (record { serial = 0; perms = no_rights })
