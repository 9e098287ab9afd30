use Rattle.std.proofs.Common.{inl, inr, refl, subst}
use Rattle.std.specs.Prelude.{Err}
use Rattle.ocm_dav.specs.Routes.{wanted_of}
use Rattle.ocm_server_connections.specs.Talk.{Answers}
use Rattle.ocm_server_connections.specs.declared.endings.Missed.{Missed}
use Rattle.ocm_script_run.proofs.talks.answer.Goals as goal

pub returns-in_ok-lines-in-Ok : goal.returns-in_ok-lines-in-Ok
returns-in_ok-lines-in-Ok g c = λ server is.
    let a = c.in-Ok.ensures.answers server is in
    (a.0, a.1, inl (c.in-Ok.page, a.2, refl, c.in_ok-lines-in-Ok.ensures))

pub returns-in_ok-fixed-in-Err : goal.returns-in_ok-fixed-in-Err
returns-in_ok-fixed-in-Err g c = λ server is.
    let a = c.in-Err.ensures.answers server is in
    let none = subst (λ (m : Missed). Answers (wanted_of c.args.config.now c.args.message.now c.args.fresh) server.clock a.0 (Err m)) c.in-Err.ensures.missed a.2 in
    (a.0, a.1, inr (none, refl, c.in_ok-fixed-in-Err.ensures))
