use Rattle.ocm_script_run.proofs.deliveries.pumped_from.Goals as goal

pub returns : goal.returns
returns g c = c.pumped-text.ensures
