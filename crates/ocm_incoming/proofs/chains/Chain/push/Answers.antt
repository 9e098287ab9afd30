use Rattle.std.proofs.Common.{arith}
use Rattle.std.proofs.lemmas.Grind.{common_steps}
use Rattle.ocm_incoming.proofs.Walking.{pushed-IsChain}
use Rattle.ocm_incoming.proofs.chains.Chain.push.Goals as goal

pub invariant_of-self : goal.invariant_of-self
invariant_of-self c =
    let linked = c.push_reserved.ensures.items in
    let grouped = c.push_reserved-2.ensures.items in
    let kept = rw c.unwrap-before.ensures at c.insert-kept.ensures.updates in
    rw (linked, grouped) (pushed-IsChain c.self.inside.groups.items c.self.inside.earlier.items c.self.inside.last _ c.args.group _ _ c.self.invariant (grind (arith, common_steps)) (grind (arith, common_steps)) c.kept_for-before.ensures kept.0)
