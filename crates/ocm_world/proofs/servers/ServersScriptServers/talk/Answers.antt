use Rattle.std.proofs.Common.{◌≡◌, List, [], get_or, refl, sym, ap, ◌∙◌, subst, Option}
use Rattle.ocm_world.specs.declared.nodes.RunningServer.{RunningServer}
use Rattle.ocm_world.specs.Running.{IsOf}
use Rattle.ocm_script_run.specs.Servers.{Server, step_at}
use Rattle.ocm_script_run.specs.Transcript.{Talked}
use Rattle.ocm_script_run.proofs.Lines.{if_ok}
use Rattle.ocm_world.proofs.Worlds.{found_at, found_nowhere}
use Rattle.ocm_world.proofs.servers.ServersScriptServers.talk.Goals as goal

pub talk-requires : goal.talk-requires
talk-requires c =
    let here = found_at c.args.host.now c.args.self.now c.requires.0 c.in-Some.place c.index_mut.result.now c.requires.1 (sym c.in-Some.ensures) in
    let place : c.index_mut.result.now ≡ get_or c.args.self.now c.in-Some.place c.index_mut.result.now =
    c.index_mut.ensures.value ∙ ap (λ (l : List RunningServer). get_or l c.in-Some.place c.index_mut.result.now) c.self.view_is in
    (here.server, subst (λ (n : RunningServer). IsOf n here.server) (sym place) here.of)

pub returns-in-Some : goal.returns-in-Some
returns-in-Some c =
    rw c.self.view_is
    (if_ok c.talk.result
    (λ text h world are.
    let here = found_at c.args.host.now c.args.self.now world c.in-Some.place c.index_mut.result.now are (sym c.in-Some.ensures) in
    let place : c.index_mut.result.now ≡ get_or c.args.self.now c.in-Some.place c.index_mut.result.now =
    c.index_mut.ensures.value ∙ ap (λ (l : List RunningServer). get_or l c.in-Some.place c.index_mut.result.now) c.self.view_is in
    let said = h here.server (subst (λ (n : RunningServer). IsOf n here.server) (sym place) here.of) in
    record {
      line = record { world = step_at (λ (s : Server). said.0) world c.args.host.now; text = text };
      is = subst (λ (found : Option Server). Talked world c.args.line c.args.host.now c.args.fresh c.args.bytes.now found (record { world = step_at (λ (s : Server). said.0) world c.args.host.now; text = text })) (sym here.there) (said.0, text, said.1, refl);
      printed = refl;
      stands = here.stepped c.talk.new.node (λ (s : Server). said.0) said.2;
    })
    c.talk.ensures)

pub returns-in-None : goal.returns-in-None
returns-in-None c = rw c.new.ensures
    (λ world are. record {
      line = record { world = world; text = [] };
      is = subst (λ (found : Option Server). Talked world c.args.line c.args.host.now c.args.fresh c.args.bytes.now found (record { world = world; text = [] })) (sym (found_nowhere c.args.host.now c.args.self.now world are (sym c.in-None.ensures))) refl;
      printed = refl;
      stands = are;
    })
