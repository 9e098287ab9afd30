use Rattle.std.proofs.Common.{refl, sym, ◌∙◌}
use Rattle.ocm_rules_steps.proofs.OtherSteps.{user-step}
use Rattle.ocm_plan.proofs.Planning.{none-sent, not_full}
use Rattle.ocm_plan.proofs.users.plan_new_user.Goals as goal

pub returns-then-is_taken-clause-plans : goal.returns-then-is_taken-clause-plans
returns-then-is_taken-clause-plans g c = c.refused.ensures.plans _ (rw (← c.is_taken.ensures, c.if-is_taken.true) refl)

pub returns-then-is_full-clause-plans : goal.returns-then-is_full-clause-plans
returns-then-is_full-clause-plans g c = c.refused-then-is_full.ensures.plans _ (rw (← c.is_taken.ensures, c.if-is_taken.false, ← c.user_count.ensures.count, ← c.is_full.ensures, c.if-is_full.true) refl)

pub returns-then-is_used-clause-plans : goal.returns-then-is_used-clause-plans
returns-then-is_used-clause-plans g c =
    c.refused-then-is_used.ensures.plans _
    (rw (← c.is_taken.ensures, c.if-is_taken.false, ← c.user_count.ensures.count, ← c.is_full.ensures, c.if-is_full.false, ← c.in_ok-key.ensures.text, ← c.is_used.ensures.used, c.if-is_used.true) refl)

pub returns-clause-plans : goal.returns-clause-plans
returns-clause-plans g c = c.silent.ensures.plans _
    (rw (← c.is_taken.ensures, c.if-is_taken.false, ← c.user_count.ensures.count, ← c.is_full.ensures, c.if-is_full.false, ← c.in_ok-key.ensures.text, ← c.is_used.ensures.used, c.if-is_used.false) refl)
    refl refl
    (none-sent _ ∙ rw c.in_ok-user.ensures (sym (user-step _ _ c.args.fresh.now _)))
    (record { few = rw (← c.user_count.ensures.count) (not_full 4096 c.user_count.result (sym c.is_full.ensures ∙ c.if-is_full.false)); key = rw c.in_ok-user.ensures (sym c.is_used.ensures.used ∙ c.if-is_used.false) }) refl
