use Rattle.std.proofs.Common.{sym, ◌∙◌}
use Rattle.ocm_journal.specs.Passing.{FailsWithDisk}
use Rattle.ocm_journal.proofs.AppendStands.{on_ok}
use Rattle.ocm_journal.proofs.Passing.{not_failed, some_calls}
use Rattle.ocm_journal.proofs.reading.read_part.Goals as goal

pub returns-then-is_err-clause-unfailing : goal.returns-then-is_err-clause-unfailing
unfolding FailsWithDisk
returns-then-is_err-clause-unfailing g c = (tt, λ all. (all, tt))

pub returns-then-is_err-2-clause-unfailing : goal.returns-then-is_err-2-clause-unfailing
unfolding FailsWithDisk
returns-then-is_err-2-clause-unfailing g c = (tt, λ all. absurd (not_failed c.read_at.result (some_calls g.D.Disk c.args.disk.now c.read_at.new.self c.read_at.result 1 c.read_at.ensures.passes all).0 (sym c.is_err-2.ensures.value ∙ c.if-is_err-2.true)))

pub returns-clause-unfailing : goal.returns-clause-unfailing
unfolding FailsWithDisk
returns-clause-unfailing g c = (on_ok c.read_at.result _ (sym c.is_err-2.ensures.value ∙ c.if-is_err-2.false) c.read_at.ensures.cause.passed, λ all. ((some_calls g.D.Disk c.args.disk.now c.read_at.new.self c.read_at.result 1 c.read_at.ensures.passes all).1, tt))
