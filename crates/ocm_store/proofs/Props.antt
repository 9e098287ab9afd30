-- A ghost field holds these facts truncated, since antt does not look into a record there. Each has one proof at most.
use Rattle.std.proofs.Common.{◌≡◌, List}
use Rattle.std.proofs.Math.Logic.{∥∥₁_elim}
use Rattle.std.proofs.Props.{props}
use Rattle.std.specs.Coded.{Coded, Coded-set, codes}
use Rattle.ocm_entry.specs.declared.asks.Ask.{Ask}
use Rattle.ocm_entry.specs.declared.replies.Reply.{Reply}
use Rattle.ocm_entry.specs.declared.rows.Node.{Node}
use Rattle.ocm_history_records.specs.declared.kept.KeptRecord.{KeptRecord}
use Rattle.ocm_history.specs.declared.histories.History.{History}
use Rattle.ocm_history.specs.Histories.{HasPlace, SameMemory}
use Rattle.ocm_plan.specs.Plans.{Plan, Plans}
use Rattle.ocm_rules.specs.Files.{Act}
use Rattle.ocm_rules.specs.State.{State}
use Rattle.ocm_tables.specs.Changes.{Fits, FitsOutcome, HasRoom}
use Rattle.ocm_tables.specs.Tables.{Rooms}
use Rattle.ocm_tables.specs.declared.changes.Outcome.{Outcome}
use Rattle.ocm_tables.specs.declared.changes.Outcome.TheVariants as outcomes
use Rattle.ocm_tables.specs.declared.changes.TableChange.{TableChange}
use Rattle.ocm_tables.specs.declared.changes.TableChange.TheVariants as changes

state_code : Coded State
state_code = hlevel codes

reply_code : Coded Reply
reply_code = hlevel codes

act_code : Coded Act
act_code = hlevel codes

nodes_code : Coded (List Node)
nodes_code = hlevel codes

records_code : Coded (List KeptRecord)
records_code = hlevel codes

-- the type of these, which has a code, is a set
set-at : {X : Type 0} → X → Coded X → IsSet X
set-at x code = Coded-set code

history_code : Coded History
history_code = hlevel codes

pub same-history : (old new : History) → ∥ old ≡ new ∥₁ → old ≡ new
same-history old new same = ∥∥₁_elim same (Coded-set history_code old new) (λ e. e)

-- two memories that differ in the room alone
SameMemory-prop : (old new : History) → IsProp (SameMemory old new)
SameMemory-prop old new = hlevel (Coded-set state_code, set-at old.core.origins (hlevel codes), Coded-set records_code, props)

pub same-memory : (old new : History) → ∥ SameMemory old new ∥₁ → SameMemory old new
same-memory old new same = ∥∥₁_elim same (SameMemory-prop old new) (λ s. s)

-- room for what is planned
HasRoom-prop : (room : Rooms) (change : TableChange) → IsProp (HasRoom room change)
HasRoom-prop room (changes.AddUser user) = hlevel props
HasRoom-prop room (changes.Put node) = hlevel props
HasRoom-prop room (changes.Carry carry) = hlevel props
HasRoom-prop room (changes.AddShare share) = hlevel props
HasRoom-prop room (changes.Receive offer) = hlevel props
HasRoom-prop room (changes.AddRequest request) = hlevel props
HasRoom-prop room _ = hlevel props

pub has-place : (history : History) (plan : Plan) → ∥ HasPlace history plan ∥₁ → HasPlace history plan
has-place history plan place = ∥∥₁_elim place (hlevel (HasRoom-prop, props)) (λ p. p)

-- a change that keeps to the rules
FitsOutcome-prop : (st : State) (outcome : Outcome) → IsProp (FitsOutcome st outcome)
FitsOutcome-prop st outcomes.Nothing = hlevel props
FitsOutcome-prop st (outcomes.SetPhase number phase) = hlevel props
FitsOutcome-prop st (outcomes.SetState request state) = hlevel props

Fits-prop : (st : State) (change : TableChange) → IsProp (Fits st change)
Fits-prop st changes.Nothing = hlevel props
Fits-prop st (changes.Advance clock) = hlevel props
Fits-prop st (changes.AddUser user) = hlevel props
Fits-prop st (changes.Put node) = hlevel props
Fits-prop st (changes.Remove place) = hlevel props
Fits-prop st (changes.Carry carry) = hlevel (Coded-set nodes_code, props)
Fits-prop st (changes.AddShare share) = hlevel props
Fits-prop st (changes.Close id) = hlevel props
Fits-prop st (changes.Limit id perms) = hlevel props
Fits-prop st (changes.Expire id until) = hlevel props
Fits-prop st (changes.Receive offer) = hlevel props
Fits-prop st (changes.SetPhase number phase) = hlevel props
Fits-prop st (changes.AddRequest request) = hlevel props
Fits-prop st (changes.TakeBack request) = hlevel props
Fits-prop st (changes.GiveUp mark) = hlevel props
Fits-prop st (changes.Tell numbers serial perms) = hlevel props
Fits-prop st (changes.Settle number outcome) = hlevel (FitsOutcome-prop, props)

-- a plan for an ask
pub has-plan : (st : State) (ask : Ask) (plan : Plan) → ∥ Plans st ask plan ∥₁ → Plans st ask plan
has-plan st ask plan plans = ∥∥₁_elim plans (hlevel (Coded-set reply_code, Coded-set state_code, Coded-set act_code, Fits-prop, props)) (λ p. p)
