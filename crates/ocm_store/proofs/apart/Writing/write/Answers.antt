use Rattle.ocm_store.proofs.apart.Writing.write.Goals as goal

pub returns-clause-is_for : goal.returns-clause-is_for
returns-clause-is_for g c = λ ask is_for. record { prepared = is_for.prepared; ready = is_for.ready; appended = c.append_once-appended.ensures.appended _ is_for.appended }
