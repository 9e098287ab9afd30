use denote.Param.Send.{arg_send, param_send}
use Rattle.std.proofs.Common.{◌≡◌, ◌∙◌, ◌+◌, ℕ, length, refl, sym}
use Rattle.ocm_net_adapters.proofs.Crossing.{door-send, post-send}
use Rattle.ocm_serve.proofs.Known.{run-from}
use Rattle.ocm_serve.proofs.running.run_over.Goals as goal

pub returns-clause-ran : goal.returns-clause-ran
returns-clause-ran g c = λ holds opened.
    let workers = c.args.workers in
    let many : length workers.items ≡ c.args.plan.now.workers + 1 = sym workers.ok.0 ∙ c.requires.counted in
    run-from g.D.Disk c.args.plan.now holds _ c.run_workers.result _ c.args.disk workers.items c.args.draw_key c.run_workers.ensures.runs (λ w. record { connections = refl; exchanges = refl; moments = refl }) opened many

pub run_workers-requires-send-L : goal.run_workers-requires-send-L
run_workers-requires-send-L g c κs within = search (param_send, arg_send, door-send, c.type_bounds.sync-R)

pub run_workers-requires-send-N : goal.run_workers-requires-send-N
run_workers-requires-send-N g c κs within = search (param_send, arg_send, post-send, c.type_bounds.sync-R)
