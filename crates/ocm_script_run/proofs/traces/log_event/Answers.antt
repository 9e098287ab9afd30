use Rattle.std.proofs.Common.{sym, ◌∙◌, subst, IsTrue}
use Rattle.ocm_script.specs.declared.events.Event.{Event}
use Rattle.ocm_script_run.specs.Asked.{asks_properly}
use Rattle.ocm_script_run.proofs.Lines.{if_ok}
use Rattle.ocm_script_run.proofs.Logging.{Logs-none, Logs-read, logged-apart, logged-other, second_of_both}
use Rattle.ocm_script_run.proofs.traces.log_event.Goals as goal

pub log_read-requires-clause-reads : goal.log_read-requires-clause-reads
log_read-requires-clause-reads g c = second_of_both _ _ (sym c.is_read_at.ensures ∙ c.if-is_read_at.true)

pub log_read-requires-clause-proper : goal.log_read-requires-clause-proper
log_read-requires-clause-proper g c = subst (λ (e : Event). IsTrue (asks_properly e)) c.in-Dav.is c.requires.proper

pub returns-in_default : goal.returns-in_default
returns-in_default g c = Logs-none g.S.ScriptServers.stand c.run_unlogged.result c.args.servers.now c.run_unlogged.new.servers c.args.number c.args.host.now c.args.event.now c.run_unlogged.ensures.none c.run_unlogged.ensures.ran
    (λ world b. logged-other world c.args.host.now c.args.event.now c.in_default.not-Dav b)

pub returns-then-is_read_at : goal.returns-then-is_read_at
returns-then-is_read_at g c = rw c.in-Dav.is
    (if_ok c.log_read.result (λ log h world are. Logs-read g.S.ScriptServers.stand world c.args.number c.args.host.now c.in-Dav.at _ _ _ c.log_read.new.servers log (sym c.is_read_at.ensures ∙ c.if-is_read_at.true) (h world are)) c.log_read.ensures)

pub returns-else-is_read_at : goal.returns-else-is_read_at
returns-else-is_read_at g c = Logs-none g.S.ScriptServers.stand c.run_unlogged-else-is_read_at.result c.args.servers.now c.run_unlogged-else-is_read_at.new.servers c.args.number c.args.host.now c.args.event.now c.run_unlogged-else-is_read_at.ensures.none c.run_unlogged-else-is_read_at.ensures.ran
    (λ world b. rw c.in-Dav.is (logged-apart world c.args.host.now c.in-Dav.at c.in-Dav.secret c.in-Dav.method c.in-Dav.path (sym c.is_read_at.ensures ∙ c.if-is_read_at.false) b))
