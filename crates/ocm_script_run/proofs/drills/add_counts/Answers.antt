use Rattle.std.proofs.Common.{◌∙◌, List, ℕ, ap, arith, map, take}
use Rattle.std.proofs.lemmas.List.{take_all}
use Rattle.ocm_drill.specs.Summary.{summary}
use Rattle.ocm_script_run.specs.Drills.{kept_by}
use Rattle.ocm_script_run.proofs.Drilling.{counts-more}
use Rattle.ocm_script_run.proofs.drills.add_counts.Goals as goal

pub loop-host-init : goal.loop-host-init
loop-host-init g c = λ world events texts are start. start

pub loop-host-preserved : goal.loop-host-preserved
loop-host-preserved g c = λ world events texts are start.
    let f : List ℕ → List ℕ × ℕ = λ host. (host, kept_by world host) in
    let i = c.loop-host.host-index in
    c.in_ok-add_kept.ensures.summary events texts (map f (take i c.args.hosts.now)) (c.loop-host.invariant world events texts are start)
    ∙ ap (summary events texts) (counts-more f c.args.hosts.now i c.host-item.result c.kept.result (omega arith) c.host-item.is (ap (λ k. (c.host-item.result, k)) (c.kept.ensures world are)))

pub returns : goal.returns
returns g c = λ world events texts are start.
    c.loop-host.invariant world events texts are start ∙ ap (λ hosts. summary events texts (map (λ host. (host, kept_by world host)) hosts)) (take_all c.loop-host.host-index c.args.hosts.now (omega arith))
