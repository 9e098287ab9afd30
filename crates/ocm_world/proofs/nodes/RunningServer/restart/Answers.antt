use Rattle.std.proofs.Common.{◌∙◌, ap}
use Rattle.ocm_disk.specs.Memory.{DiskState, left_by, settled}
use Rattle.ocm_world.proofs.Loading.{crashed-own, crashed-of, crashed-sound}
use Rattle.ocm_script_run.proofs.Lines.{if_ok}
use Rattle.ocm_world.proofs.nodes.RunningServer.restart.Goals as goal

pub load-node-requires : goal.load-node-requires
load-node-requires c =
    let limit = c.crash.result.images.limit in
    let left = c.crash.ensures.left ∙ ap (λ (d : DiskState). settled (left_by c.args.left d.images) limit) c.into_disk.ensures in
    record {
      sound = crashed-sound c.args.left c.into_disk.result.images c.crash.result limit c.crash.ensures.left;
      own = crashed-own c.args.self c.requires.0 c.args.left c.crash.result limit c.requires.1 left;
    }

pub returns : goal.returns
returns c =
    let limit = c.crash.result.images.limit in
    let left = c.crash.ensures.left ∙ ap (λ (d : DiskState). settled (left_by c.args.left d.images) limit) c.into_disk.ensures in
    if_ok c.load-node.result (λ node loaded server is. crashed-of c.args.self node server c.args.left c.crash.result limit is left loaded) c.load-node.ensures
