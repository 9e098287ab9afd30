use Rattle.std.proofs.Common.{ap, arith}
use Rattle.ocm_disk.specs.Memory.{ImagesState}
use Rattle.ocm_disk.proofs.Tracking.{tracked_cut_as, torn_cut}
use Rattle.ocm_disk.proofs.images.Images.cut.Goals as goal

pub invariant_of-self : goal.invariant_of-self
invariant_of-self c = tracked_cut_as _ _ _ _ _ _ c.self.invariant c.args.len _ _ _ _ c.truncate.ensures.items c.min-self-inside.ensures (omega arith) (omega arith)

pub returns-clause-torn : goal.returns-clause-torn
returns-clause-torn c =
    torn_cut c.self.inside.marks.items c.self.inside.seen.items c.truncate.new.self.items c.args.self.now.torn c.args.len (ap (λ (v : ImagesState). v.torn) c.self.view_is) c.truncate.ensures.items
