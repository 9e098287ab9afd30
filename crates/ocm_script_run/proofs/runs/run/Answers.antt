use Rattle.std.proofs.Common.{refl}
use Rattle.ocm_script.specs.declared.events.Event.TheVariants as events
use Rattle.ocm_script_run.specs.Deliveries as deliveries
use Rattle.ocm_script_run.specs.Deliveries.{next_wanting}
use Rattle.ocm_script_run.specs.Transcript as transcript
use Rattle.ocm_script_run.specs.Transcript.{IsRun}
use Rattle.ocm_script_run.proofs.Posts.{Ran-by, Ran-plain}
use Rattle.ocm_script_run.proofs.Lines.{if_ok}
use Rattle.ocm_script_run.proofs.runs.run.Goals as goal

pub run_plain-requires : goal.run_plain-requires
run_plain-requires g c = c.requires.proper

pub returns-in-Node : goal.returns-in-Node
returns-in-Node g c = rw c.in-Node.is
    (if_ok c.name.result (λ text h world are. Ran-by g.S.ScriptServers.stand (IsRun world c.args.line (events.Node c.in-Node.host)) (λ w. transcript.named world c.args.line c.in-Node.host) c.name.new.servers text (λ w. (w, refl)) (h world are)) c.name.ensures)

pub returns-in-Deliver : goal.returns-in-Deliver
returns-in-Deliver g c = rw c.in-Deliver.is
    (if_ok c.deliver.result
    (λ text h world are. Ran-by g.S.ScriptServers.stand (IsRun world c.args.line (events.Deliver c.in-Deliver.host c.in-Deliver.number c.in-Deliver.fresh c.in-Deliver.lost))
    (λ w. deliveries.deliver w world c.args.line c.in-Deliver.host c.in-Deliver.number c.in-Deliver.fresh c.in-Deliver.lost) c.deliver.new.servers text (λ w. (w, refl)) (h world are))
    c.deliver.ensures)

pub returns-in-Pump : goal.returns-in-Pump
returns-in-Pump g c = rw c.in-Pump.is
    (if_ok c.pump.result
    (λ text h world are. Ran-by g.S.ScriptServers.stand (IsRun world c.args.line (events.Pump c.in-Pump.host c.in-Pump.fresh)) (λ w. deliveries.pump w world c.args.line c.in-Pump.host c.in-Pump.fresh) c.pump.new.servers text (λ w. (w, refl)) (h world are))
    c.pump.ensures)

pub returns-in-Raw : goal.returns-in-Raw
returns-in-Raw g c = rw c.in-Raw.is c.talk.ensures

pub returns-in-Clock : goal.returns-in-Clock
returns-in-Clock g c = rw c.in-Clock.is
    (if_ok c.tell_time.result
    (λ text h world are. Ran-by g.S.ScriptServers.stand (IsRun world c.args.line (events.Clock c.in-Clock.host c.in-Clock.clock)) (λ w. transcript.clocked (next_wanting w) world c.args.line c.in-Clock.host c.in-Clock.clock) c.tell_time.new.servers text (λ w. (w, refl)) (h world are))
    c.tell_time.ensures)

pub returns-in-Fuse : goal.returns-in-Fuse
returns-in-Fuse g c = rw c.in-Fuse.is
    (if_ok c.fuse.result
    (λ text h world are. Ran-by g.S.ScriptServers.stand (IsRun world c.args.line (events.Fuse c.in-Fuse.host c.in-Fuse.calls)) (λ w. transcript.fused world c.args.line c.in-Fuse.host c.in-Fuse.calls) c.fuse.new.servers text (λ w. (w, refl)) (h world are))
    c.fuse.ensures)

pub returns-in-Crash : goal.returns-in-Crash
returns-in-Crash g c = rw c.in-Crash.is
    (if_ok c.crash.result
    (λ text h world are. Ran-by g.S.ScriptServers.stand (IsRun world c.args.line (events.Crash c.in-Crash.host c.in-Crash.left)) (λ w. transcript.restarted c.in-Crash.left world c.args.line c.in-Crash.host) c.crash.new.servers text (λ w. (w, refl)) (h world are))
    c.crash.ensures)

pub returns-in_default : goal.returns-in_default
returns-in_default g c = if_ok c.run_plain.result
    (λ text h world are. Ran-plain g.S.ScriptServers.stand c.args.event.now world c.args.line c.run_plain.new.servers text
    (record {
      no_node = c.in_default.not-Node;
      no_clock = c.in_default.not-Clock;
      no_raw = c.in_default.not-Raw;
      no_deliver = c.in_default.not-Deliver;
      no_pump = c.in_default.not-Pump;
      no_fuse = c.in_default.not-Fuse;
      no_crash = c.in_default.not-Crash;
    })
    (h world are))
    c.run_plain.ensures
