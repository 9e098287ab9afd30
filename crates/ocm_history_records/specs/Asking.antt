-- What the records of a journal ask.
use Rattle.std.specs.Prelude.{IsTrue}
use Rattle.ocm_journal_records.specs.declared.stamps.Stamped.{Stamped}
use Rattle.ocm_journal_records.specs.declared.stamps.Stamped.TheVariants as stamps
use Rattle.ocm_entry.specs.Proper.{is_proper}

-- the ask of what a record says is proper, where it says one
abbrev pub HasProperAsk : Stamped → Type 0
HasProperAsk (stamps.Bare ask) = IsTrue (is_proper ask)
HasProperAsk (stamps.Moment clock) = Unit {0}
HasProperAsk (stamps.Timed clock ask) = IsTrue (is_proper ask)
