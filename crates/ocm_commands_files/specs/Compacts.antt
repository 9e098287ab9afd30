-- What is written of a journal's file in its least form.
use Rattle.std.specs.Prelude.{◌≡◌, ℕ, List, [], Result, Ok, Err}
use Rattle.ocm_compact.specs.Compacts as journals
use Rattle.ocm_compact.specs.declared.faults.CompactFault.{CompactFault}
use Rattle.ocm_compact.specs.declared.faults.CompactFault.TheVariants as faults
use Rattle.ocm_commands_files.specs.Audits.{not_journal}
use Rattle.ocm_commands_files.specs.declared.ends.End.{End}
use Rattle.ocm_commands_files.specs.declared.ends.End.TheVariants as whole

-- what is written of what was made: the bytes, the place where there is no journal, or nothing
abbrev pub Writes : Result (List ℕ) CompactFault → End → List ℕ → Type 0
Writes (Ok made) end text = (end ≡ whole.Done) × (text ≡ made)
Writes (Err (faults.NotJournal place)) end text = (end ≡ whole.NotJournal) × (text ≡ not_journal place)
Writes (Err faults.Differs) end text = (end ≡ whole.Differs) × (text ≡ [])
Writes (Err faults.NoMemory) end text = ⊥

-- The bytes of a journal's file give the status 0 and a journal of the same server that answers alike, or the status 18 and
-- nothing. Others give the status 7 and the first place that is refused.
abbrev pub CompactsTo : List ℕ → End → List ℕ → Type 0
CompactsTo bytes end text = (told : Result (List ℕ) CompactFault) × journals.Compacts bytes told × Writes told end text
