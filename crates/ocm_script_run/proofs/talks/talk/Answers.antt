use Rattle.std.proofs.Common.{◌≡◌, ap, ◌∙◌, subst}
use Rattle.ocm_dav.specs.declared.configs.Config.{Config}
use Rattle.ocm_script_run.specs.Talks.{IsTalk, config_of}
use Rattle.ocm_script_run.proofs.Lines.{if_ok}
use Rattle.ocm_script_run.proofs.talks.talk.Goals as goal

pub returns : goal.returns
returns g c = if_ok c.answers.result
    (λ text h server is.
    let a = h server is in
    let config : c.in_ok-config.config ≡ config_of server.host = c.in_ok-config.ensures ∙ ap config_of (c.host.ensures server is) in
    (a.0, subst (λ (k : Config). IsTalk k c.args.line c.args.fresh 0 0 c.args.bytes.now server a.0 text) config a.1, a.2))
    c.answers.ensures
