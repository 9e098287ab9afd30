use Rattle.ocm_change.proofs.Numbering.{number-from-one, set-number}
use Rattle.ocm_change.proofs.boards.Board.take.Goals as goal

pub returns-clause-told : goal.returns-clause-told
returns-clause-told c =
    let there = rw (← c.self.view_is) at c.requires in
    rw (← c.self.view_is) (set-number c.self.inside.rows.items _ c.args.n _ (number-from-one c.self.inside.rows.items c.args.n there))
