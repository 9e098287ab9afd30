use Rattle.std.proofs.Common.{rules}
use Rattle.ocm_http.proofs.BodySteps.{data_goes}
use Rattle.ocm_http.proofs.chunks.feed_data.Goals as goal

pub returns-then-len-wanted-clause-fed : goal.returns-then-len-wanted-clause-fed
returns-then-len-wanted-clause-fed c =
    rw (c.in_ok-message.ensures, c.past.ensures)
    (data_goes c.args.rules c.args.message c.args.place c.args.wanted c.args.piece.now c.requires.some c.requires.stands (search rules))
