use Rattle.std.proofs.Common.{subst, sym}
use Rattle.std.specs.Prelude.{IfOk, OnErr}
use Rattle.ocm_commands.specs.Commands.{LeavesPart, Writes, WritesPart}
use Rattle.ocm_commands.proofs.Parts.{plain-part, plain-whole}
use Rattle.ocm_commands.proofs.Shelved.{left-plain}
use Rattle.ocm_commands.proofs.commands.run_on.Goals as goal

pub returns-in-Replay-clause-whole : goal.returns-in-Replay-clause-whole
returns-in-Replay-clause-whole g c = rw c.in-Replay.is (rw c.as_slice.ensures at c.run_script.ensures.whole)

pub returns-in-Replay-clause-part : goal.returns-in-Replay-clause-part
returns-in-Replay-clause-part g c = rw c.in-Replay.is (rw c.as_slice.ensures at c.run_script.ensures.part)

pub returns-in-Trace-clause-whole : goal.returns-in-Trace-clause-whole
returns-in-Trace-clause-whole g c = rw c.in-Trace.is (rw c.as_slice-in-Trace.ensures at c.run_trace.ensures.whole)

pub returns-in-Trace-clause-part : goal.returns-in-Trace-clause-part
returns-in-Trace-clause-part g c = rw c.in-Trace.is (rw c.as_slice-in-Trace.ensures at c.run_trace.ensures.part)

pub returns-in-Drill-clause-whole : goal.returns-in-Drill-clause-whole
returns-in-Drill-clause-whole g c =
    let le = rw c.in-Drill.is at c.requires.length in
    subst (λ k. IfOk c.run_drill.result (λ end. Writes k c.args.bytes.now end (g.K.Sink.taken c.args.sink.now) (g.K.Sink.taken c.run_drill.new.sink) c.run_drill.new.shelf)) (sym c.in-Drill.is) (c.run_drill.ensures.whole c.args.bytes.now le)

pub returns-in-Drill-clause-part : goal.returns-in-Drill-clause-part
returns-in-Drill-clause-part g c =
    let le = rw c.in-Drill.is at c.requires.length in
    subst (λ k. OnErr c.run_drill.result (WritesPart k c.args.bytes.now (g.K.Sink.taken c.args.sink.now) (g.K.Sink.taken c.run_drill.new.sink))) (sym c.in-Drill.is) (c.run_drill.ensures.part c.args.bytes.now le)

pub returns-in-Audit-clause-whole : goal.returns-in-Audit-clause-whole
returns-in-Audit-clause-whole g c =
    plain-whole c.args.command.now c.args.bytes.now (g.K.Sink.taken c.args.sink.now) (g.K.Sink.taken c.run_plain.new.sink) c.args.shelf.now c.run_plain.result (rw c.as_slice-in-Audit.ensures at c.run_plain.ensures.whole)

pub returns-in-Audit-clause-part : goal.returns-in-Audit-clause-part
returns-in-Audit-clause-part g c =
    plain-part c.args.command.now c.args.bytes.now (g.K.Sink.taken c.args.sink.now) (g.K.Sink.taken c.run_plain.new.sink) c.run_plain.result (rw c.as_slice-in-Audit.ensures at c.run_plain.ensures.part)

pub returns-in-Replay-clause-shelf_part : goal.returns-in-Replay-clause-shelf_part
returns-in-Replay-clause-shelf_part g c = rw c.in-Replay.is (rw c.as_slice.ensures at c.run_script.ensures.shelf_part)

pub returns-in-Trace-clause-shelf_part : goal.returns-in-Trace-clause-shelf_part
returns-in-Trace-clause-shelf_part g c = rw c.in-Trace.is (rw c.as_slice-in-Trace.ensures at c.run_trace.ensures.shelf_part)

pub returns-in-Drill-clause-shelf_part : goal.returns-in-Drill-clause-shelf_part
returns-in-Drill-clause-shelf_part g c =
    subst (λ k. OnErr c.run_drill.result (LeavesPart k c.args.bytes.now c.run_drill.new.shelf)) (sym c.in-Drill.is) (c.run_drill.ensures.shelf_part c.args.bytes.now)

pub returns-in-Audit-clause-shelf_part : goal.returns-in-Audit-clause-shelf_part
returns-in-Audit-clause-shelf_part g c = left-plain c.args.command.now c.args.bytes.now c.args.shelf.now c.run_plain.result c.requires.empty
