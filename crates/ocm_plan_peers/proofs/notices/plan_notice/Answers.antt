use Rattle.ocm_plan_peers.proofs.notices.plan_notice.Goals as goal

pub returns-in-Accepted : goal.returns-in-Accepted
returns-in-Accepted g c =
    let told = c.plan_accepted.ensures c.args.fresh.now in
    rw c.in-Accepted.is (rw (c.as_ref.ensures.value, c.as_ref-in-Accepted.ensures.value) at told)
