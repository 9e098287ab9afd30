use Rattle.std.proofs.Common.{List, map, sym, ap, ◌∙◌, subst}
use Rattle.std.proofs.lemmas.Iterator.Adapters.{YieldsList-from_vec}
use Rattle.std.proofs.lemmas.Iterator.Consumers.{YieldsList-end, YieldsList-so_far}
use Rattle.std.proofs.lemmas.Result.{err_from_is_err_and}
use Rattle.ocm_world.specs.declared.nodes.RunningServer.{RunningServer}
use Rattle.ocm_world.specs.Running.{AreOf, shelved}
use Rattle.ocm_world.specs.Shelves.{AreShelved}
use Rattle.ocm_world.proofs.Fronts.{shelved-cut}
use Rattle.ocm_world.proofs.Shelving.{map_same, shelved-all}
use Rattle.ocm_world.proofs.servers.Servers.shelve.Goals as goal

pub returns-clause-ok : goal.returns-clause-ok
returns-clause-ok c = λ world are.
    let gives = c.into_iter-node-iterator.ensures.into_iter_gives in
    let whole = YieldsList-end (YieldsList-from_vec c.self.inside.nodes.items gives.0 (gives.1 ∙ c.self.inside.nodes.ok.0)) c.loop-node.yielded c.loop-node.node-iterator c.loop-node.yielded_by c.next.result c.next.new.self c.in-None.is c.next.ensures.steps in
    let nodes = sym (map_same c.loop-node.yielded) ∙ whole.0 ∙ c.self.view_is in
    subst (AreShelved world) (sym (c.loop-node.invariant ∙ ap (λ (l : List RunningServer). map shelved l) nodes)) (shelved-all c.args.self world are)

pub returns-in_err-shelve-clause-err : goal.returns-in_err-shelve-clause-err
returns-in_err-shelve-clause-err c =
    let p = err_from_is_err_and c.from_residual.result c.from_residual.ensures.1 in
    let gives = c.into_iter-node-iterator.ensures.into_iter_gives in
    let front = sym (map_same c.loop-node.yielded) ∙ YieldsList-so_far (YieldsList-from_vec c.self.inside.nodes.items gives.0 (gives.1 ∙ c.self.inside.nodes.ok.0)) c.loop-node.yielded c.loop-node.node-iterator c.loop-node.yielded_by in
    rw p.1
    (λ world are. shelved-cut c.self.inside.nodes.items c.loop-node.yielded world c.shelve.new.shelf front (c.in_err-shelve.ensures.err ∙ c.loop-node.invariant)
    (subst (λ (l : List RunningServer). AreOf l world) (sym c.self.view_is) are))
