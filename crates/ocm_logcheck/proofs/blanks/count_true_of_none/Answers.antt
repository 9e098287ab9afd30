use Rattle.std.proofs.Common.{IsTrue, subst, sym}
use Rattle.ocm_access_log.specs.declared.lines.LogLine.{LogLine}
use Rattle.ocm_access_log.specs.Reads.{is_read}
use Rattle.ocm_logcheck.proofs.Looking.{logged-read}
use Rattle.ocm_logcheck.proofs.blanks.count_true_of_none.Goals as goal

pub is_true_of_none-requires : goal.is_true_of_none-requires
is_true_of_none-requires c =
    let line : LogLine = c.index-lines-found.result in
    subst (λ (l : LogLine). IsTrue (is_read l.ask)) (sym c.index-lines-found.is) (logged-read 0 0 c.args.lines.now c.loop-found.found line c.requires c.loop-found-test.true)
