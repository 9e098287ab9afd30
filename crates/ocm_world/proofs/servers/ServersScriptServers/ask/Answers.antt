use Rattle.std.proofs.Common.{◌≡◌, List, get_or, sym, ap, ◌∙◌, subst}
use Rattle.ocm_world.specs.declared.nodes.RunningServer.{RunningServer}
use Rattle.ocm_world.specs.Running.{IsOf}
use Rattle.ocm_world.proofs.Worlds.{Asks-found, Asks-nowhere, found_at, found_nowhere}
use Rattle.ocm_world.proofs.servers.ServersScriptServers.ask.Goals as goal

pub returns-in-Some : goal.returns-in-Some
returns-in-Some c =
    rw c.self.view_is
    (λ world are.
    let here = found_at c.args.host.now c.args.self.now world c.in-Some.place c.index_mut.result.now are (sym c.in-Some.ensures) in
    let place : c.index_mut.result.now ≡ get_or c.args.self.now c.in-Some.place c.index_mut.result.now =
    c.index_mut.ensures.value ∙ ap (λ (l : List RunningServer). get_or l c.in-Some.place c.index_mut.result.now) c.self.view_is in
    Asks-found c.args.host.now c.args.self.now world c.in-Some.place c.index_mut.result.now c.act.new.self c.args.ask c.act.result here
    (c.act.ensures.replied here.server (subst (λ (n : RunningServer). IsOf n here.server) (sym place) here.of)))

pub returns-in-None : goal.returns-in-None
returns-in-None c = λ world are. Asks-nowhere c.args.host.now c.args.self.now world c.args.ask are (found_nowhere c.args.host.now c.args.self.now world are (sym c.in-None.ensures))
