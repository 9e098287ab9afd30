use Rattle.std.proofs.Common.{◌∙◌}
use Rattle.ocm_incoming.specs.Keys.{key_of}
use Rattle.ocm_incoming.proofs.Firsts.{first_same}
use Rattle.ocm_incoming.proofs.records.RecordTable.same.Goals as goal

pub returns : goal.returns
returns c =
    let found = rw c.key.ensures at c.get.ensures.value in
    rw (← c.self.view_is) (c.copied.ensures ∙ (found ∙ (c.self.invariant.offers (key_of c.args.planned.now) ∙ first_same c.args.planned.now c.self.inside.rows.items)))
