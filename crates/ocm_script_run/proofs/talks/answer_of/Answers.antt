use Rattle.std.proofs.Common.{Bool, subst}
use Rattle.ocm_dav.specs.declared.wants.Wanted.{Wanted}
use Rattle.ocm_dav.specs.Routes.{wanted_of}
use Rattle.ocm_server_connections.specs.Talk.{wanted_at}
use Rattle.ocm_server_connections.proofs.Talking.{requested}
use Rattle.ocm_script_run.specs.Running.{Showing}
use Rattle.ocm_script_run.proofs.Lines.{if_ok}
use Rattle.ocm_script_run.proofs.talks.answer_of.Goals as goal

pub answer-lines-requires-clause-request : goal.answer-lines-requires-clause-request
answer-lines-requires-clause-request g c = requested c.args.number c.args.message c.counted-message.result c.counted-message.ensures c.requires.request

pub returns : goal.returns
unfolding wanted_at
returns g c = if_ok c.answer-lines.result
    (λ r h server is.
    subst (λ (z : Wanted × Bool). Showing g.N.ScriptServer.stands z.0 c.args.line z.1 server c.answer-lines.new.node r.0 r.1)
    (λ i. (wanted_of c.args.config.now (c.counted-message.ensures i) c.args.fresh, c.is_last-last.ensures i)) (h server is))
    c.answer-lines.ensures
