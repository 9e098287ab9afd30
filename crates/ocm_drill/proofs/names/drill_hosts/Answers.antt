use Rattle.std.proofs.Common.{◌∙◌, ap, arith}
use Rattle.ocm_types.specs.declared.addresses.Address.{Address}
use Rattle.ocm_drill.specs.Federation.{host}
use Rattle.ocm_drill.proofs.Known.{one_more}
use Rattle.ocm_drill.proofs.names.drill_hosts.Goals as goal

pub loop-i-preserved : goal.loop-i-preserved
loop-i-preserved c = c.in_ok-push.ensures.ok ∙ one_more host c.loop-i.i c.loop-i.hosts _ c.loop-i.invariant (omega arith) (c.into_host.ensures ∙ ap (λ (user : Address). user.host) c.in_ok-user.ensures)
