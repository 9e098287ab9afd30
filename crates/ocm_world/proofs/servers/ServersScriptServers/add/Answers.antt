use Rattle.std.proofs.Common.{subst}
use Rattle.ocm_disk.specs.Memory.{DiskState}
use Rattle.ocm_world.specs.Running.{IsLoaded}
use Rattle.ocm_world.proofs.Loading.{new-own, new-of, new-sound}
use Rattle.ocm_world.proofs.Worlds.{AreOf-more}
use Rattle.ocm_world.proofs.servers.ServersScriptServers.add.Goals as goal

pub load-requires : goal.load-requires
load-requires c = record { sound = new-sound c.new.result 0 c.new.ensures; own = new-own c.args.host.now c.new.result 0 c.new.ensures }

pub returns : goal.returns
returns c =
    rw (c.in_ok-push.ensures.items, ← c.self.view_is)
    (λ world are. AreOf-more c.self.inside.nodes.items world c.in_ok-node.node _ are
    (new-of c.in_ok-node.node c.args.host.now (subst (λ (d : DiskState). IsLoaded d.images.seen c.args.host.now 0 c.in_ok-node.node) c.new.ensures c.in_ok-node.ensures)))
