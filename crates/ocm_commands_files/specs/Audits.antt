use Rattle.std.specs.Prelude.{◌≡◌, ℕ, List, [], ◌∷◌, ◌++◌, codes, Result, Ok, Err}
use Rattle.std.specs.Fmt.{decimal}
use Rattle.ocm_journal_audit.specs.Audits as audits
use Rattle.ocm_commands_files.specs.declared.ends.End.{End}
use Rattle.ocm_commands_files.specs.declared.ends.End.TheVariants as whole

-- the line that names the place where bytes are no journal
abbrev pub not_journal : ℕ → List ℕ
not_journal place = codes "not a journal at " ++ decimal place ++ 10 ∷ []

-- what is written of a journal's file, or of the place where bytes are none
abbrev pub Names : Result (List ℕ) ℕ → End → List ℕ → Type 0
Names (Ok told) end text = (end ≡ whole.Done) × (text ≡ told)
Names (Err place) end text = (end ≡ whole.NotJournal) × (text ≡ not_journal place)

-- The bytes of a journal's file give the status 0 and what its records say, and others give the status 7 and the first place
-- that is refused.
abbrev pub AuditsTo : List ℕ → End → List ℕ → Type 0
AuditsTo bytes end text = (told : Result (List ℕ) ℕ) × audits.Audits bytes told × Names told end text
