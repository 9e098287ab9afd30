use Rattle.std.specs.Prelude.{ℕ, List, map, filter, count_by, Bool, false, not, ◌&&◌, if◌then◌else◌, Option}
use Rattle.std.specs.List.{list_any}
use Rattle.std.specs.Option.{option_map_or}
use Rattle.ocm_types.specs.declared.letters.Offer.{Offer}
use Rattle.ocm_types.specs.declared.phases.Phase.{Phase}
use Rattle.ocm_types.specs.declared.phases.Phase.TheVariants.{Pending, Removed}
use Rattle.ocm_types.specs.declared.phases.RequestPhase.{RequestPhase}
use Rattle.ocm_entry.specs.declared.rows.Request.{Request}
use Rattle.ocm_rules.specs.Numbers.{same_text, number_of, at_number, numbers}
use Rattle.ocm_rules.specs.Offers.{is_of, is_pending, is_given_up}
use Rattle.ocm_incoming.specs.declared.rows.Record.{Record}
use Rattle.ocm_incoming.specs.declared.rows.Mark.{Mark}
use Rattle.ocm_incoming.specs.Keys.{mark_of, same_mark}

-- a guest's side of one server: the received offers with their phases, and the requests to share further, each numbered from 1, and how many more of each can be added without memory
pub record InboxLists : Type 0 where
  pub records : List Record
  pub requests : List Request
  pub room : ℕ

-- the received offers alone, and how many more can be added without memory
pub record RecordRows : Type 0 where
  pub rows : List Record
  pub room : ℕ

-- the offers of these records
abbrev pub offers_of : List Record → List Offer
offers_of records = map (λ (r : Record). r.offer) records

-- the phase of the record of this number
abbrev pub phase_at : List Record → ℕ → Phase
phase_at records n = option_map_or (λ (r : Record). r.phase) (at_number records n) Pending

-- a record in this phase
abbrev pub phased : Phase → Record → Record
phased phase r = record { offer = r.offer; phase = phase }

-- a request in this state
abbrev pub stated : RequestPhase → Request → Request
stated state q = record { received = q.received; with = q.with; perms = q.perms; state = state }

-- ---- by the user

-- the names of the users that these records are for
abbrev pub users_of : List Record → List (List ℕ)
users_of records = map (λ (r : Record). r.offer.with.user) records

-- the number of the first for a user of this name
abbrev pub first_for : List (List ℕ) → List ℕ → Option ℕ
first_for users user = number_of (λ u. same_text u user) users

-- whether the offer of this number is for a user of this name
abbrev pub is_for : List Offer → List ℕ → ℕ → Bool
is_for offers user n = option_map_or (λ (offer : Offer). same_text offer.with.user user) (at_number offers n) false

-- how many of the received offers for a user of this name are undecided
abbrev pub pending_among : List Record → List ℕ → ℕ
pending_among records user = count_by (λ n. is_pending (phase_at records n) && is_for (offers_of records) user n) (numbers (offers_of records))

-- the numbers of the records for a user of this name, ascending
abbrev pub records_for : List Record → List ℕ → List ℕ
records_for records user = filter (is_for (offers_of records) user) (numbers (offers_of records))

-- the numbers of the requests whose record is for a user of this name, ascending
abbrev pub requests_for : List Record → List Request → List ℕ → List ℕ
requests_for records requests user =
    filter (λ r. option_map_or (λ (q : Request). is_for (offers_of records) user q.received) (at_number requests r) false) (numbers requests)

-- ---- by the mark

-- the marks of these records
abbrev pub marks_of : List Record → List Mark
marks_of records = map (λ (r : Record). mark_of r.offer) records

-- the number of the first with this mark
abbrev pub first_with : List Mark → Mark → Option ℕ
first_with marks mark = number_of (λ m. same_mark m mark) marks

-- whether the offer of this number has this id and this secret
abbrev pub is_with : List Offer → Mark → ℕ → Bool
is_with offers mark n = option_map_or (is_of mark.id mark.secret) (at_number offers n) false

-- whether a record with this mark is neither declined nor removed
abbrev pub is_held_among : List Record → Mark → Bool
is_held_among records mark = list_any (λ n. is_with (offers_of records) mark n && not (is_given_up (phase_at records n))) (numbers (offers_of records))

-- the numbers of the records with this mark, ascending
abbrev pub records_with : List Record → Mark → List ℕ
records_with records mark = filter (is_with (offers_of records) mark) (numbers (offers_of records))

-- whether a record has this mark, and is neither declined nor removed
abbrev pub holds : Mark → Record → Bool
holds mark r = is_of mark.id mark.secret r.offer && not (is_given_up r.phase)

-- a record once what has this mark is shared no more
abbrev pub unshared : Mark → Record → Record
unshared mark r = record { offer = r.offer; phase = if holds mark r then Removed else r.phase }

-- a record that is removed, unless it is declined or removed already
abbrev pub gone : Record → Record
gone r = record { offer = r.offer; phase = if is_given_up r.phase then r.phase else Removed }
