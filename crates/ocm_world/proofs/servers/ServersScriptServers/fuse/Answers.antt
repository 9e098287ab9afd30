use Rattle.std.proofs.Common.{◌≡◌, List, get_or, sym, ap, ◌∙◌, subst, Some}
use Rattle.ocm_world.specs.declared.nodes.RunningServer.{RunningServer}
use Rattle.ocm_world.specs.Running.{IsOf}
use Rattle.ocm_script_run.specs.Servers.{Server}
use Rattle.ocm_world.proofs.Worlds.{AreOf-nowhere, found_at}
use Rattle.ocm_world.proofs.servers.ServersScriptServers.fuse.Goals as goal

pub returns-in_default : goal.returns-in_default
returns-in_default c = λ world are. AreOf-nowhere (λ (s : Server). record s { fuse = (Some c.args.calls) }) c.args.host.now c.args.self.now world are (sym c.in_default.ensures)

pub returns : goal.returns
returns c =
    rw c.self.view_is
    (λ world are.
    let here = found_at c.args.host.now c.args.self.now world c.in-Some.place c.index_mut.result.now are (sym c.in-Some.ensures) in
    let place : c.index_mut.result.now ≡ get_or c.args.self.now c.in-Some.place c.index_mut.result.now =
    c.index_mut.ensures.value ∙ ap (λ (l : List RunningServer). get_or l c.in-Some.place c.index_mut.result.now) c.self.view_is in
    here.stepped c.fuse.new.self (λ (s : Server). record s { fuse = (Some c.args.calls) }) (c.fuse.ensures here.server (subst (λ (n : RunningServer). IsOf n here.server) (sym place) here.of)))
