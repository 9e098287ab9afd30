use Rattle.std.proofs.Common.{◌≡◌, List, get_or, set, sym, ap, ◌∙◌, subst}
use Rattle.std.specs.Prelude.{option_map}
use Rattle.std.specs.List.{insert, remove}
use Rattle.ocm_rules.specs.Lean.{count}
use Rattle.ocm_world.specs.declared.nodes.RunningServer.{RunningServer}
use Rattle.ocm_world.specs.Running.{AreOf, IsOf}
use Rattle.ocm_script_run.specs.Servers.{Server, history, restart, step_at}
use Rattle.ocm_script_run.proofs.Worlds.{kept-found}
use Rattle.ocm_world.proofs.Worlds.{AreOf-nowhere, found-within, found_at, found_nowhere, put_again}
use Rattle.ocm_world.proofs.servers.ServersScriptServers.crash.Goals as goal

pub restart-requires : goal.restart-requires
restart-requires c =
    let here = found_at c.args.host.now c.args.self.now c.requires.0 c.in-Some.place c.remove.result c.requires.1 (sym c.in-Some.ensures) in
    let place : c.remove.result ≡ get_or c.args.self.now c.in-Some.place c.remove.result =
    c.remove.ensures.value ∙ ap (λ (l : List RunningServer). get_or l c.in-Some.place c.remove.result) c.self.view_is in
    (here.server, subst (λ (n : RunningServer). IsOf n here.server) (sym place) here.of)

pub returns-in_default : goal.returns-in_default
returns-in_default c = λ world are. (
  sym (ap (option_map (λ (s : Server). count s.host (history (restart c.args.left s)))) (found_nowhere c.args.host.now c.args.self.now world are (sym c.in_default.ensures))),
  AreOf-nowhere (restart c.args.left) c.args.host.now c.args.self.now world are (sym c.in_default.ensures),
)

pub returns : goal.returns
returns c = λ world are.
    let here = found_at c.args.host.now c.args.self.now world c.in-Some.place c.remove.result are (sym c.in-Some.ensures) in
    let place : c.remove.result ≡ get_or c.args.self.now c.in-Some.place c.remove.result =
    c.remove.ensures.value ∙ ap (λ (l : List RunningServer). get_or l c.in-Some.place c.remove.result) c.self.view_is in
    let kept = c.in_ok-node.ensures here.server (subst (λ (n : RunningServer). IsOf n here.server) (sym place) here.of) in
    let within = found-within c.args.host.now c.args.self.now c.in-Some.place c.remove.result (sym c.in-Some.ensures) in
    let out : c.remove.new.self.items ≡ remove c.args.self.now c.in-Some.place = c.remove.ensures.items ∙ ap (λ (l : List RunningServer). remove l c.in-Some.place) c.self.view_is in
    let items : c.insert.new.self.items ≡ set c.args.self.now c.in-Some.place c.in_ok-node.node =
    c.in_ok-insert.ensures.items ∙ ap (λ (l : List RunningServer). insert l c.in-Some.place c.in_ok-node.node) out ∙ put_again c.args.self.now c.in-Some.place c.in_ok-node.node within in (
      kept-found c.args.left world c.args.host.now here.server c.kept-count.result (c.kept-count.ensures (restart c.args.left here.server) kept) here.there,
      subst (λ (l : List RunningServer). AreOf l (step_at (restart c.args.left) world c.args.host.now)) (sym items) (here.stepped c.in_ok-node.node (restart c.args.left) kept),
    )
