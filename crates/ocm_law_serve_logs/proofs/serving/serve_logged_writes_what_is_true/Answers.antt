use Rattle.ocm_law_serve_logs.proofs.Running.{run-true}
use Rattle.ocm_store.specs.Stores.{terms_of}
use Rattle.ocm_law_serve_logs.proofs.serving.serve_logged_writes_what_is_true.Goals as goal

pub returns : goal.returns
returns g c = λ calls own has.
    let came = c.serve_logged.ensures.served calls own has in
    let run = came.0 in (
      run,
      came.1,
      run-true g.D.Disk _ _ _ _ _ _ _ _ run _ _ _ _ came.1 c.host_labels_its_journal.ensures,
      λ tells i d below. c.an_answer_is_on_the_disk.ensures (terms_of run.store) run.served.first.base _ c.serve_logged.result.disk (run.since tells) _ _ _ _ _ _ _ (run.served.service.each.1 i d below),
    )
