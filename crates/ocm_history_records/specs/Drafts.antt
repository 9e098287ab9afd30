-- What is written of an ask that changes something, and what is kept of it.
use Rattle.std.specs.Prelude.{◌≡◌, ℕ, ◌+◌, List, length}
use Rattle.ocm_entry.specs.declared.asks.Ask.{Ask}
use Rattle.ocm_entry.specs.declared.entries.Entry.{Entry}
use Rattle.ocm_rules.specs.History.{kept}
use Rattle.ocm_law_sessions.specs.Sessions.{heard}
use Rattle.ocm_law_sessions.specs.Written.{record_of}
use Rattle.ocm_history_records.specs.declared.drafts.Draft.{Draft}
use Rattle.ocm_history_records.specs.Kept.{kept_of}

-- what is written, in an area of this form, of an ask with its answer after a history, and what is kept of it in memory
pub record IsDraft (host : List ℕ) (form : ℕ) (g : List Entry) (ask : Ask) (draft : Draft) : Type 0 where
  pub text : draft.written ≡ record_of form (kept host g) (heard host g ask)
  pub memory : draft.newest ≡ kept_of host g ask
  -- how many bytes of an area the record takes in form 2
  pub size : draft.size ≡ 5 + length (record_of 2 (kept host g) (heard host g ask))
