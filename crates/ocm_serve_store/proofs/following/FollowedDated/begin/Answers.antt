use Rattle.ocm_serve_store.proofs.Answering.{apart-since, busy-since, replied-since, same-store, stays-came, stays-stands, terms-stay}
use Rattle.ocm_serve_store.proofs.following.FollowedDated.begin.Goals as goal

pub returns-clause-terms : goal.returns-clause-terms
returns-clause-terms g c = let d = g.D.Disk in let old = c.args.self.now in let new = c.start.new.self in let told = c.start.ensures in
    terms-stay d old new c.args.ask told.born c.start.result told.replied (same-store d old new c.args.ask told.born c.start.result told.apart told.busy)

pub returns-clause-replied : goal.returns-clause-replied
returns-clause-replied g c = replied-since g.D.Disk c.args.self.now c.start.new.self c.args.ask c.start.ensures.born c.start.result c.start.ensures.replied

pub returns-clause-apart : goal.returns-clause-apart
returns-clause-apart g c = apart-since g.D.Disk c.args.self.now c.start.new.self c.args.ask c.start.ensures.born c.start.result c.start.ensures.apart

pub returns-clause-busy : goal.returns-clause-busy
returns-clause-busy g c = busy-since g.D.Disk c.args.self.now c.start.new.self c.args.ask c.start.ensures.born c.start.result c.start.ensures.busy

pub returns-clause-stays : goal.returns-clause-stays
returns-clause-stays g c = λ goes k h s legal. let d = g.D.Disk in let old = c.args.self.now in let new = c.start.new.self in let told = c.start.ensures in
    let same = same-store d old new c.args.ask told.born c.start.result told.apart told.busy goes in
    (stays-stands d old new same told.born k h s, stays-came d old new same told.born k h)
