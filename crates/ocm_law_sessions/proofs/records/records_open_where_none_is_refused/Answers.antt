use Rattle.std.specs.Prelude.{[]}
use Rattle.ocm_law_sessions.proofs.Opening.{unrefused-opens, opened-unrefused, refused-opens, refused-first}
use Rattle.ocm_law_sessions.proofs.records.records_open_where_none_is_refused.Goals as goal

pub returns-clause-opens : goal.returns-clause-opens
returns-clause-opens c = λ host form records none. unrefused-opens host form records [] none

pub returns-clause-none : goal.returns-clause-none
returns-clause-none c = λ host form records k is. opened-unrefused host form records k is

pub returns-clause-refused : goal.returns-clause-refused
returns-clause-refused c = λ host form records place is. refused-opens host form records [] place is

pub returns-clause-first : goal.returns-clause-first
returns-clause-first c = λ host form front rest r k is none. refused-first host form front rest r [] k is none
