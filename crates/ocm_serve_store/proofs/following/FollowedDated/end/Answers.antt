use Rattle.ocm_serve_store.proofs.Answering.{came-since, legal-since, origin-stays, stands-since}
use Rattle.ocm_serve_store.proofs.following.FollowedDated.end.Goals as goal

pub returns-clause-terms : goal.returns-clause-terms
returns-clause-terms g c = λ ask is. origin-stays g.D.Disk c.args.self.now c.finish.new.self ask c.finish.result (c.finish.ensures.acts ask is) c.finish.ensures.born

pub returns-clause-ended : goal.returns-clause-ended
returns-clause-ended g c = λ ask is k h s legal. let d = g.D.Disk in let old = c.args.self.now in let new = c.finish.new.self in
    let acts = c.finish.ensures.acts ask is in let born = c.finish.ensures.born in
    (stands-since d old new ask c.finish.result acts born k h s legal, legal-since d old new ask c.finish.result acts born k h s legal, came-since d old new ask c.finish.result acts born k h)
