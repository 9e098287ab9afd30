use Rattle.ocm_entry_bytes.proofs.Whole.{ask_of-spells, ask_of-spelling}
use Rattle.ocm_entry_bytes.proofs.laws.spellings_are_what_is_read.Goals as goal

pub returns-clause-spelled : goal.returns-clause-spelled
returns-clause-spelled c = ask_of-spells

pub returns-clause-read : goal.returns-clause-read
returns-clause-read c = ask_of-spelling
