use Rattle.std.proofs.Common.{ℕ, List, ap, sym, ◌∙◌, subst}
use Rattle.ocm_base.specs.Memory.{PureState}
use Rattle.ocm_script_run.specs.Talks.{IsTalk}
use Rattle.ocm_script_run.proofs.Lines.{if_ok}
use Rattle.ocm_script_run.proofs.Talking.{talk-stuck}
use Rattle.ocm_script_run.proofs.talks.answers.Goals as goal

pub returns-in_default : goal.returns-in_default
returns-in_default g c = if_ok c.no_memory.result
    (λ text e server is. (server, subst (λ (t : List ℕ). IsTalk c.args.config.now c.args.line c.args.fresh 0 0 c.args.bytes.now server server t) (sym e) (talk-stuck c.args.config.now c.args.line c.args.fresh 0 0 c.args.bytes.now server), is))
    c.no_memory.ensures

pub returns : goal.returns
returns g c = if_ok c.answers_to-text.result
    (λ text h server is.
    let said = h server is in
    let all = ap (λ (s : PureState). s.left) c.new-source.ensures.state ∙ c.in_ok-copy.ensures in
    (said.0, subst (λ (b : List ℕ). IsTalk c.args.config.now c.args.line c.args.fresh 0 0 b server said.0 text) all said.1, said.2))
    c.answers_to-text.ensures
