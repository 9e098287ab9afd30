-- How lists go on by what is planned.
use Rattle.std.proofs.Common.{◌≡◌, List, ◌∷◌, Bool, sym, ◌∙◌, subst, Result, Ok, Err}
use Rattle.std.specs.Prelude.{IfOk}
use Rattle.ocm_entry.specs.declared.asks.Ask.{Ask}
use Rattle.ocm_entry.specs.declared.entries.Entry.{Entry}
use Rattle.ocm_entry.specs.declared.replies.Reply.{Reply}
use Rattle.ocm_rules.specs.History.{changes, kept}
use Rattle.ocm_rules.specs.State.{State}
use Rattle.ocm_tables.specs.Changes.{is_kept}
use Rattle.ocm_plan.specs.Plans.{Plan, Plans}
use Rattle.ocm_core.specs.Standing.{IsAfter}
use Rattle.ocm_core.proofs.Standing.{changes-after}

-- an ask with its reply
abbrev pub told : Ask → Reply → Entry
told ask reply = record { ask = ask; reply = reply }

-- what is planned changes something exactly where the entry does
pub planned-changes : (st : State) (plan : Plan) (b : Bool) → b ≡ is_kept plan.change → (g : List Entry) (ask : Ask) → IsAfter st g → Plans st ask plan → b ≡ changes st.host (kept st.host g) (told ask plan.reply)
planned-changes st plan b is g ask after plans = is ∙ plans.kept ∙ changes-after st g ask plan.reply after

-- lists that took room stand for the same histories
pub applied-after : (st middle new : State) (plan : Plan) (reply : Reply) → middle ≡ st → reply ≡ plan.reply
    → ((g : List Entry) (ask : Ask) → IsAfter middle g → Plans middle ask plan → IsAfter new (told ask reply ∷ g))
    → (g : List Entry) (ask : Ask) → IsAfter st g → Plans st ask plan → IsAfter new (told ask plan.reply ∷ g)
applied-after st middle new plan reply same is goes g ask after plans =
    subst (λ r. IsAfter new (told ask r ∷ g)) is (goes g ask (subst (λ s. IsAfter s g) (sym same) after) (subst (λ s. Plans s ask plan) (sym same) plans))

pub if-ok-of : {A E : Type 0} (r : Result A E) (P Q : A → Type 0) → ((a : A) → P a → Q a) → IfOk r P → IfOk r Q
if-ok-of (Ok a) P Q step holds = step a holds
if-ok-of (Err e) P Q step holds = tt
