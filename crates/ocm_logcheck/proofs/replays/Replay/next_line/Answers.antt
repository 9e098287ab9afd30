use Rattle.std.proofs.Common.{IsTrue, subst, sym}
use Rattle.ocm_access_log.specs.declared.lines.LogLine.{LogLine}
use Rattle.ocm_access_log.specs.Reads.{is_read}
use Rattle.ocm_logcheck.proofs.Looking.{logged-read}
use Rattle.ocm_logcheck.proofs.replays.Replay.next_line.Goals as goal

pub returns-then-line-self-clause-read : goal.returns-then-line-self-clause-read
returns-then-line-self-clause-read c =
    let line : LogLine = c.index-lines-self.result in
    subst (λ (l : LogLine). IsTrue (is_read l.ask)) (sym c.index-lines-self.is) (logged-read 0 0 c.args.lines.now c.args.self.now.found line c.requires c.if-self-lines.false)
