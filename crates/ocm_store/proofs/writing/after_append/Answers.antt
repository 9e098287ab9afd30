use Rattle.std.proofs.Common.{refl, subst}
use Rattle.std.proofs.lemmas.Result.{on_ok_weaker}
use Rattle.ocm_journal.specs.Journals.{disk_of, form_of}
use Rattle.ocm_store.specs.Appends.{IsAppended}
use Rattle.ocm_store.proofs.Journaling.{anew-after_fault, grown-anew}
use Rattle.ocm_store.proofs.Wrote.{failed-is, writes-behind, writes-failed}
use Rattle.ocm_store.proofs.writing.after_append.Goals as goal

pub returns-in-Ok-clause-writes : goal.returns-in-Ok-clause-writes
returns-in-Ok-clause-writes G c = λ before a. writes-behind G.D.Disk c.args.history.now c.args.planned.now c.args.draft.now before c.args.journal.now (subst (IsAppended G.D.Disk before c.args.journal.now c.args.draft.now.written) c.in-Ok.is a)

pub returns-in-Err-DiskFault-clause-writes : goal.returns-in-Err-DiskFault-clause-writes
returns-in-Err-DiskFault-clause-writes G c = λ before a. writes-failed G.D.Disk c.args.history.now c.args.planned.now c.args.draft.now before c.args.journal.now _ (subst (IsAppended G.D.Disk before c.args.journal.now c.args.draft.now.written) (let is = rw c.in-Err-DiskFault.is at c.in-Err-DiskFault.field-0-is in failed-is c.args.appended c.in-Err-DiskFault.field-0 _ c.in-Err-DiskFault.is is) a)

pub returns-in-Err-Full-clause-writes : goal.returns-in-Err-Full-clause-writes
returns-in-Err-Full-clause-writes G c = λ before a.
    let d = G.D.Disk in
    let history = c.args.history.now in
    let plan = c.args.planned.now in
    let draft = c.args.draft.now in
    let form = form_of before in
    let here = rw c.in-Err-Full.is at c.in-Err-Full.field-0-is in
    let full_is = failed-is c.args.appended c.in-Err-Full.field-0 _ c.in-Err-Full.is here in
    let same = a.unchanged full_is in
    let full = a.full.0 full_is in
    let anew = rw same at c.write_anew.ensures in
    record {
      written = λ tells g ask change w. anew.written tells g ask form draft change refl w;
      unwritten = anew.unwritten;
      any_moment = λ tells g ask change w. anew.any_moment tells g ask form draft change refl w;
      not_full = λ g ask change fits. anew.not_full g ask form draft change refl fits;
      fault = anew.fault;
      count = anew.count;
      stopped = anew.stopped;
      area = anew.area;
      made = anew.made;
      not_made = anew.not_made;
      fewer = anew.fewer;
      passes = anew.passes;
      live = λ tells g ask live change h.
          on_ok_weaker c.write_anew.result (grown-anew d history g ask plan form draft change before c.write_anew.new.journal live refl h full) (anew.live tells g ask form draft live change refl h);
      still = anew.still;
      after_fault = λ tells g ask live left change w h stopped pass burnt.
          anew-after_fault d history g ask plan form draft change before (disk_of c.write_anew.new.journal) live left refl h full
          (anew.after_fault tells g ask form draft live left change refl w h stopped pass burnt);
    }
