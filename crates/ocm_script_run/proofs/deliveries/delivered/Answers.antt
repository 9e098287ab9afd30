use Rattle.ocm_script_run.proofs.deliveries.delivered.Goals as goal

pub returns : goal.returns
returns g c =
    let ask = rw c.deref.ensures at c.in_ok-ask.ensures.ask in
    rw (← ask) c.given.ensures
