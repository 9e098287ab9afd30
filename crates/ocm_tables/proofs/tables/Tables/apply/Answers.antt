use Rattle.std.proofs.Common.{◌∙◌, refl, arith}
use Rattle.ocm_tables.proofs.Sending.{numbers-after}
use Rattle.ocm_tables.proofs.tables.Tables.apply.Goals as goal

pub act-requires-clause-fits : goal.act-requires-clause-fits
act-requires-clause-fits c = rw c.count.ensures.state c.requires.fits

pub act-requires-clause-room : goal.act-requires-clause-room
act-requires-clause-room c = rw c.count.ensures.room c.requires.room

pub send-requires-clause-numbers : goal.send-requires-clause-numbers
send-requires-clause-numbers c = rw (c.act.ensures.state, c.count.ensures.state) (numbers-after c.args.self.now.state c.args.change c.args.messages c.requires.numbers)

pub send-requires-clause-room : goal.send-requires-clause-room
send-requires-clause-room c =
    let room = rw c.count.ensures.room at c.act.ensures.messages in
    omega (arith, room, c.requires.sending)

pub returns-clause-state : goal.returns-clause-state
returns-clause-state c = c.send.ensures.state ∙ rw (c.act.ensures.state, c.count.ensures.state) refl

pub returns-clause-entries : goal.returns-clause-entries
returns-clause-entries c = c.send.ensures.entries ∙ (c.act.ensures.entries ∙ c.count.ensures.entries)

pub returns-clause-origins : goal.returns-clause-origins
returns-clause-origins c = c.send.ensures.origins ∙ (c.act.ensures.origins ∙ rw (c.send.ensures.entries, c.act.ensures.entries, c.count.ensures.origins) refl)
