use Rattle.ocm_journal.proofs.AppendStands.{stands_with}
use Rattle.ocm_journal.proofs.journal.Journal.room.Goals as goal

pub returns-clause-stands : goal.returns-clause-stands
returns-clause-stands g c = λ tells label records s.
    let t = stands_with g.D.Disk label records c.args.self.now c.room.new.self c.room.ensures.seen (c.room.ensures.crash tells) s in
    record { image = t.0; selector = s.selector; start = t.1; gate = s.gate; durable = t.2 }
