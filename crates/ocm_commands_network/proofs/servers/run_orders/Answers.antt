use Rattle.std.proofs.Common.{◌≡◌, ℕ, List, Option, inl, inr, subst}
use Rattle.ocm_disk.specs.declared.disk.Disk.{Ghosts}
use Rattle.ocm_serve_options.specs.declared.plans.Plan.{Plan}
use Rattle.ocm_server_connections.specs.Sides.{Sides}
use Rattle.ocm_commands_network.specs.Servers.{RanBy}
use Rattle.ocm_commands_network.proofs.servers.run_orders.Goals as goal

-- it ran by that plan and with that log, if these are the ones
same_run : {D C K : Type 0} (disk : Ghosts D) (sides : C → Sides) (taken : K → Option (List ℕ)) (faults : K → ℕ) (plan that_plan : Plan) (log that_log : Option (List ℕ)) (holds : List ℕ) (status : ℕ)
    → log ≡ that_log → plan ≡ that_plan → RanBy disk sides taken faults plan log holds status → RanBy disk sides taken faults that_plan that_log holds status
same_run disk sides taken faults plan that_plan log that_log holds status e f ran =
    subst (λ (l : Option (List ℕ)). RanBy disk sides taken faults that_plan l holds status) e (subst (λ (p : Plan). RanBy disk sides taken faults p log holds status) f ran)

pub returns-in-Ok-clause-ran : goal.returns-in-Ok-clause-ran
returns-in-Ok-clause-ran g c = elim c.run_plan.ensures.ran [
  | inl none ↦ inl none
  | inr ran ↦ inr (c.in-Ok.admin, c.in-Ok.ensures, same_run _ _ _ _ _ _ _ _ _ _ c.take-log.ensures.value c.plan.ensures ran)
]

pub returns-in-Err-clause-ran : goal.returns-in-Err-clause-ran
returns-in-Err-clause-ran g c = inl (c.in-Err.fault, c.tell_key_fault-status.ensures.exact)
