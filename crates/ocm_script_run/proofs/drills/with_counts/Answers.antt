use Rattle.std.proofs.Common.{◌∙◌, ap, map}
use Rattle.ocm_drill.specs.Summary.{summary}
use Rattle.ocm_script_run.specs.Drills.{kept_by}
use Rattle.ocm_script_run.proofs.drills.with_counts.Goals as goal

pub returns : goal.returns
returns g c = λ texts world counted are.
    c.into_bytes.ensures ∙ c.in_ok-add_counts.ensures world c.args.events texts are (c.in_ok-summary.ensures texts counted)
    ∙ ap (λ hosts. summary c.args.events texts (map (λ host. (host, kept_by world host)) hosts)) (c.as_slice.ensures ∙ c.in_ok-hosts.ensures)
