use Rattle.std.proofs.Common.{[], arith}
use Rattle.ocm_journal.specs.Openings.{Opens}
use Rattle.ocm_journal.specs.Passing.{PassesWithDisk}
use Rattle.ocm_journal.proofs.Moving.{weaker}
use Rattle.ocm_journal.proofs.Made.{in_finish}
use Rattle.ocm_journal.proofs.Passing.{some_calls}
use Rattle.ocm_journal.proofs.making.finish.Goals as goal

pub returns-clause-any_moment : goal.returns-clause-any_moment
returns-clause-any_moment g c = λ tells only label area form x label_size area_size known is.
    weaker g.D.Disk.moment g.D.Disk.left_since c.args.disk.now c.put.new.disk _ (Opens label area []) (c.put.ensures.any_moment tells only) (λ b torn. in_finish label area form x (g.D.Disk.seen c.args.disk.now) b label_size area_size known is torn)

pub returns-clause-passes : goal.returns-clause-passes
unfolding PassesWithDisk
returns-clause-passes g c = λ all room. some_calls g.D.Disk c.args.disk.now c.put.new.disk c.put.result 2 (λ n p. c.put.ensures.passes n p (omega (arith, room))) all
