use Rattle.std.proofs.Common.{◌≡◌, subst}
use Rattle.ocm_store.specs.Appends.{IsAppended, IsAppendedYet}
use Rattle.ocm_store.proofs.writing.append_once.Goals as goal

pub returns-in-None-clause-appended : goal.returns-in-None-clause-appended
returns-in-None-clause-appended G c = λ before yet.
    let d = G.D.Disk in
    let text = c.args.draft.now.written in
    let same : c.args.journal.now ≡ before = subst (IsAppendedYet d before c.args.journal.now text) c.in-None.is yet in
    let appended : IsAppended d c.args.journal.now c.append.new.self text c.append.result = record {
      acknowledged = c.append.ensures.acknowledged;
      any_moment = c.append.ensures.any_moment;
      full = c.append.ensures.full;
      unchanged = c.append.ensures.unchanged;
      fault = c.append.ensures.fault;
      count = c.append.ensures.count;
      stopped = c.append.ensures.stopped;
      shape = c.append.ensures.shape;
      calls = c.append.ensures.calls;
      fewer = c.append.ensures.fewer;
      passes = c.append.ensures.passes;
      after_fault = c.append.ensures.after_fault;
    } in
    subst (λ j. IsAppended d j c.append.new.self text c.append.result) same appended
