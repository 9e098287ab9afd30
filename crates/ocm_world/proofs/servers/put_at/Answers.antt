use Rattle.std.proofs.Common.{[]}
use Rattle.ocm_disk.specs.Memory.{settled}
use Rattle.ocm_script_run.proofs.Shelving.{put_on}
use Rattle.ocm_world.proofs.servers.put_at.Goals as goal

pub returns-in-Ok-clause-ok : goal.returns-in-Ok-clause-ok
returns-in-Ok-clause-ok c = put_on c.args.host.now c.args.disk (settled [] 0) c.args.shelf.now c.add_place.new.shelf c.take-empty.new.self c.put_back-held.new.self c.put_back-held.result
    c.in-Ok.ensures.free c.in-Ok.ensures.ok c.take-empty.ensures.after c.put_back-held.ensures.vacant c.put_back-held.ensures.after
