-- What the records of a journal say: the history to which they open. Records stand oldest first, and histories newest first.
use Rattle.std.specs.Prelude.{ℕ, nat_le, nat_lt, List, [], ◌∷◌, if◌then◌else◌, Option, Some, None, option_and_then}
use Rattle.ocm_entry.specs.declared.asks.Ask.{Ask}
use Rattle.ocm_entry.specs.declared.asks.Ask.TheVariants.{Tick}
use Rattle.ocm_entry.specs.declared.entries.Entry.{Entry}
use Rattle.ocm_journal_image.specs.declared.readings.RawRecord.{RawRecord}
use Rattle.ocm_rules.specs.History.{answer_kept, changes}
use Rattle.ocm_rules.specs.Shares.{moment}
use Rattle.ocm_journal_records.specs.declared.stamps.Stamped.{Stamped}
use Rattle.ocm_journal_records.specs.declared.stamps.Stamped.TheVariants as stamps
use Rattle.ocm_journal_records.specs.Stamps.{stamped_of}

-- an ask with the answer to it after these kept entries
abbrev pub entry_after : List ℕ → List Entry → Ask → Entry
entry_after host k ask = record { ask = ask; reply = answer_kept host k ask }

-- these kept entries, and before them this one; nothing where it changes nothing
abbrev pub with_change : List ℕ → Entry → List Entry → Option (List Entry)
with_change host e k = if changes host k e then Some (e ∷ k) else None

-- these kept entries, and before them this ask with its answer; nothing where it changes nothing
abbrev pub with_ask : List ℕ → Ask → List Entry → Option (List Entry)
with_ask host ask k = with_change host (entry_after host k ask) k

-- these kept entries, and before them a tick with this clock where it is above their moment
abbrev pub with_moment : List ℕ → ℕ → List Entry → List Entry
with_moment host clock k = if nat_lt (moment k) clock then entry_after host k (Tick clock) ∷ k else k

-- The history that goes on by what a record says. A moment alone is a tick. A moment with an ask, which is not below
-- the moment so far, is a tick where it is above that, and then the ask.
abbrev pub with_stamped : List ℕ → Stamped → List Entry → Option (List Entry)
with_stamped host (stamps.Bare ask) k = with_ask host ask k
with_stamped host (stamps.Moment clock) k = with_ask host (Tick clock) k
with_stamped host (stamps.Timed clock ask) k = if nat_le (moment k) clock then with_ask host ask (with_moment host clock k) else None

-- the history that goes on by one record of an area of this form; nothing where the bytes are no such record, or it may not stand there
unfoldable pub goes_on : List ℕ → ℕ → List Entry → List ℕ → Option (List Entry)
goes_on host form k bytes = option_and_then (λ said. with_stamped host said k) (stamped_of form bytes)

-- the history that goes on by these records
abbrev pub opened_from : List ℕ → ℕ → List Entry → List (List ℕ) → Option (List Entry)
opened_from host form k [] = Some k
opened_from host form k (r ∷ rs) = option_and_then (λ now. opened_from host form now rs) (goes_on host form k r)

-- the history to which the records of an area of this form open
abbrev pub opened : List ℕ → ℕ → List (List ℕ) → Option (List Entry)
opened host form records = opened_from host form [] records

-- the place of the gate of the first record by which a history does not go on
abbrev pub refused_from : List ℕ → ℕ → List Entry → List RawRecord → Option ℕ
refused_from host form k [] = None
refused_from host form k (r ∷ rs) = elim (goes_on host form k r.bytes) [
  | None ↦ Some r.place
  | Some now ↦ refused_from host form now rs
]

-- the place of the gate of the first of these records that may not stand where it stands
abbrev pub refused_at : List ℕ → ℕ → List RawRecord → Option ℕ
refused_at host form records = refused_from host form [] records
