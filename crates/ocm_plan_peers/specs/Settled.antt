use Rattle.std.specs.Prelude.{ℕ, true}
use Rattle.ocm_rules.specs.declared.rows.SentRow.{SentRow}
use Rattle.ocm_rules.specs.State.{State, changed_at}

-- the lists once the message of this number is settled, and nothing more
abbrev pub settled_in : State → ℕ → State
settled_in st number = record st { sent = changed_at number (λ (row : SentRow). record row { settled = true }) st.sent }
