use Rattle.std.proofs.Common.{[], None, sym, ◌∙◌}
use Rattle.ocm_script_run.proofs.Lines.{Runs-same, if_ok}
use Rattle.ocm_script.specs.Events.{host_of}
use Rattle.ocm_script_run.specs.Transcript.{faulty_text, plain}
use Rattle.ocm_script_run.specs.Deliveries.{next_wanting}
use Rattle.ocm_script_run.proofs.Posts.{plain-unasked}
use Rattle.ocm_script_run.proofs.runs.run_plain.Goals as goal

pub returns-in_default : goal.returns-in_default
returns-in_default g c = if_ok c.run_faulty.result (λ text e world are. rw (← c.in_default.ensures) ([], e, are)) c.run_faulty.ensures

pub returns-in-Some-2 : goal.returns-in-Some-2
returns-in-Some-2 g c = rw (← c.in-Some.ensures, ← (sym c.in-Some-2.is ∙ c.in_ok-ask.ensures)) (rw c.shows_digits.ensures at c.run_ask.ensures)

pub returns-in-None : goal.returns-in-None
returns-in-None g c = if_ok c.run_faulty-in-None.result
    (λ text e world are. rw (← (sym c.in-None.is ∙ c.in_ok-ask.ensures))
    (Runs-same g.S.ScriptServers.stand (λ w. plain (next_wanting w) world c.args.line c.args.event.now (host_of c.args.event.now) None) (λ w. record { world = world; text = faulty_text c.args.line c.args.event.now }) c.args.servers.now text
    (λ w. plain-unasked (next_wanting w) world c.args.line c.args.event.now (host_of c.args.event.now)) ([], e, are)))
    c.run_faulty-in-None.ensures
