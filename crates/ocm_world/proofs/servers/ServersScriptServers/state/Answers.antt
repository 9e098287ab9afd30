use Rattle.std.proofs.Common.{◌≡◌, List, get_or, sym, ap, ◌∙◌, subst, Some}
use Rattle.ocm_world.specs.declared.nodes.RunningServer.{RunningServer}
use Rattle.ocm_world.specs.Running.{IsOf}
use Rattle.ocm_script_run.proofs.Worlds.{state-found, state-nowhere}
use Rattle.ocm_world.proofs.Worlds.{found_at, found_nowhere}
use Rattle.ocm_world.proofs.servers.ServersScriptServers.state.Goals as goal

pub returns-in-Some : goal.returns-in-Some
returns-in-Some c = λ world are.
    let here = found_at c.args.host.now c.args.self.now world c.in-Some.place c.index.result.now are (sym c.in-Some.ensures) in
    let place : c.index.result.now ≡ get_or c.args.self.now c.in-Some.place c.index.result.now =
    c.index.ensures ∙ ap (λ (l : List RunningServer). get_or l c.in-Some.place c.index.result.now) c.self.view_is in
    let is : IsOf c.index.result.now here.server = subst (λ (n : RunningServer). IsOf n here.server) (sym place) here.of in
    ap Some (c.state.ensures here.server is) ∙ state-found here.server world c.args.host.now here.there

pub returns-in-None : goal.returns-in-None
returns-in-None c = λ world are. state-nowhere world c.args.host.now (found_nowhere c.args.host.now c.args.self.now world are (sym c.in-None.ensures))
