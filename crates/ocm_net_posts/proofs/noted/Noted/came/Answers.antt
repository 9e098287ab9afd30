use Rattle.ocm_net_posts.proofs.MadeLemmas.{goes_on}
use Rattle.ocm_net_posts.proofs.noted.Noted.came.Goals as goal

pub invariant_of-self : goal.invariant_of-self
invariant_of-self c =
    let d = c.self.inside.delivery in
    goes_on d.message c.came.new.self.message d.stage c.came.new.self.stage c.args.reply c.self.inside.exchanges c.note.new.self c.self.invariant c.came.ensures.goes c.came.ensures.same c.note.ensures
