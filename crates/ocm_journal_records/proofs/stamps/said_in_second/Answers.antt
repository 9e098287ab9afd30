use Rattle.std.proofs.Common.{sym, ◌∙◌}
use Rattle.ocm_journal_records.proofs.Asks.{said-timed}
use Rattle.ocm_journal_records.proofs.stamps.said_in_second.Goals as goal

pub returns-in-Some : goal.returns-in-Some
returns-in-Some c = said-timed c.args.bytes.now c.moment_in-moment.result c.in-Some.ask c.timed.result c.if-bytes-lt8.false c.if-bytes-eq8.false c.moment_in-moment.ensures (sym c.in-Some.is ∙ c.in_ok-ask.ensures) c.timed.ensures
