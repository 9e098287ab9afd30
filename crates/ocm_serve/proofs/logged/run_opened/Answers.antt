use Rattle.std.proofs.Common.{◌∙◌, inr, sym, subst}
use Rattle.ocm_serve_system.specs.Openings.{IsOpenedWith}
use Rattle.ocm_serve.proofs.logged.run_opened.Goals as goal

pub returns-clause-ran : goal.returns-clause-ran
returns-clause-ran g c = λ holds at.
    let opened = subst (IsOpenedWith _ holds) (sym (c.new.ensures ∙ c.into_disk-disk.ensures.disk)) at in
    let r = c.run_over.ensures.ran holds (record { held = opened.held; faithful = opened.faithful; settled = opened.settled; unfailed = opened.unfailed }) in
    inr (record {
      before = r.before;
      opened = r.opened;
      workers = r.workers;
      counted = r.counted;
      tell = r.tell;
      key = r.key;
      came = r.came;
      runs = record { runs = r.runs.runs; sink = r.runs.sink.file; left_out = r.runs.left_out; out_of_memory = r.runs.out_of_memory; log = r.runs.log; unlogged = r.runs.unlogged };
      status_is = r.status_is;
    })
