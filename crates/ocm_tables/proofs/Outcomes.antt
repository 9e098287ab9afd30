use Rattle.std.proofs.Common.{List}
use Rattle.ocm_rules.specs.declared.rows.SentRow.{SentRow}
use Rattle.ocm_rules.specs.State.{State}
use Rattle.ocm_tables.specs.Changes.{FitsOutcome}
use Rattle.ocm_tables.specs.declared.changes.Outcome.{Outcome}
use Rattle.ocm_tables.specs.declared.changes.Outcome.TheVariants as outcomes

-- what an answer does is about what is there, whatever was sent
pub fits-sent : (st : State) (outcome : Outcome) (sent : List SentRow) → FitsOutcome st outcome → FitsOutcome (record st { sent = sent }) outcome
fits-sent st outcomes.Nothing sent h = h
fits-sent st (outcomes.SetPhase number phase) sent h = h
fits-sent st (outcomes.SetState request state) sent h = h
