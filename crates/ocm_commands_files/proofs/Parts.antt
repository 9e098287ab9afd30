use Rattle.std.proofs.Common.{◌≡◌, ◌≢◌, ◌≤◌, List, ◌++◌, drop, take, length, ℕ, refl, sym, subst}
use Rattle.std.specs.Prelude.{Option, Result, Ok, Err, IfOk}
use Rattle.std.proofs.lemmas.List.{take-append-drop}
use mathlib.Core.Logic.{inl, inr}
use Rattle.ocm_base.specs.Outside.{Appends, AppendsPart}
use Rattle.ocm_journal_audit.specs.Audits.{Audits, WritesFront}
use Rattle.ocm_records.specs.Rows as rows
use Rattle.ocm_records.specs.declared.faults.RecordFault.{RecordFault}
use Rattle.ocm_records.specs.declared.faults.RecordFault.TheVariants as records
use Rattle.ocm_commands_files.specs.Audits.{not_journal}
use Rattle.ocm_commands_files.specs.Checks.{Tells}
use Rattle.ocm_commands_files.specs.Commands.{GivesPlain, WritesPlain, WritesPlainPart}
use Rattle.ocm_commands_files.specs.Words.{most_bytes}
use Rattle.ocm_commands_files.specs.declared.ends.End.{End}
use Rattle.ocm_commands_files.specs.declared.ends.End.TheVariants as whole
use Rattle.ocm_commands_files.specs.declared.ends.Fault.{Fault}
use Rattle.ocm_commands_files.specs.declared.words.Command.{Command}
use Rattle.ocm_commands_files.specs.declared.words.Command.TheVariants as commands

-- a front of the text of a whole run is a front of what the command writes
pub front-part : (command : Command) (bytes : List ℕ) (old new : Option (List ℕ)) (end : End) (text : List ℕ) → length bytes ≤ most_bytes command → GivesPlain command bytes end text → AppendsPart old new text → WritesPlainPart command bytes old new
front-part command bytes old new end text le gives part =
    inr (le, end, take part.0 text, drop part.0 text, part.2, subst (λ t. GivesPlain command bytes end t) (sym (take-append-drop part.0 text)) gives)

-- what is told of the record that was read is told of the one that the bytes are
pub told-given : (read given : Result (List ℕ) RecordFault) (end : End) (text : List ℕ) → rows.Gives (λ t. t) read given → read ≢ Err records.NoMemory → Tells read end text → Tells given end text
told-given (Ok form) given end text is known told = subst (λ r. Tells r end text) (sym is) told
told-given (Err records.NotJson) given end text is known told = subst (λ r. Tells r end text) (sym is) told
told-given (Err records.NotObject) given end text is known told = subst (λ r. Tells r end text) (sym is) told
told-given (Err (records.Missing field)) given end text is known told = subst (λ r. Tells r end text) (sym is) told
told-given (Err (records.Kind field)) given end text is known told = subst (λ r. Tells r end text) (sym is) told
told-given (Err (records.Value field)) given end text is known told = subst (λ r. Tells r end text) (sym is) told
told-given (Err (records.Unsupported field)) given end text is known told = subst (λ r. Tells r end text) (sym is) told
told-given (Err records.NoMemory) given end text is known told = absurd (known refl)

-- the line that names where bytes are no journal is what the command writes
pub named-place : (bytes : List ℕ) (place : ℕ) (old mid new : Option (List ℕ)) (result : Result End Fault) → length bytes ≤ most_bytes commands.Audit → Audits bytes (Err place) → mid ≡ old → IfOk result (λ end. (end ≡ whole.NotJournal) × Appends mid new (not_journal place)) → IfOk result (λ end. WritesPlain commands.Audit bytes end old new)
named-place bytes place old mid new (Ok end) le audits same named = (le, not_journal place, subst (λ o. Appends o new (not_journal place)) same named.1, (Err place, audits, (named.0, refl)))
named-place bytes place old mid new (Err fault) le audits same named = tt

-- a front of that line is a front of what the command writes
pub named-place-part : (bytes : List ℕ) (place : ℕ) (old mid new : Option (List ℕ)) → length bytes ≤ most_bytes commands.Audit → Audits bytes (Err place) → mid ≡ old → AppendsPart mid new (not_journal place) → WritesPlainPart commands.Audit bytes old new
named-place-part bytes place old mid new le audits same part =
    front-part commands.Audit bytes old new whole.NotJournal (not_journal place) le (Err place, audits, (refl, refl)) (subst (λ o. AppendsPart o new (not_journal place)) same part)

-- a front of an audit's text is a front of what the command writes
pub audited-part : (bytes : List ℕ) (old new : Option (List ℕ)) → length bytes ≤ most_bytes commands.Audit → WritesFront bytes old new → WritesPlainPart commands.Audit bytes old new
audited-part bytes old new le (inl same) = inl same
audited-part bytes old new le (inr front) = inr (le, whole.Done, front.0, front.1, front.2, (Ok (front.0 ++ front.1), front.3, (refl, refl)))
