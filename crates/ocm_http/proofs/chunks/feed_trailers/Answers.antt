use Rattle.std.proofs.Common.{sym, refl}
use Rattle.ocm_http.proofs.BodySteps.{trailers_go, trailers_made, trailers_long}
use Rattle.ocm_http.proofs.chunks.feed_trailers.Goals as goal

pub returns-in-Unfinished-clause-fed : goal.returns-in-Unfinished-clause-fed
returns-in-Unfinished-clause-fed c =
    rw (c.in-Unfinished.ensures.moved refl) (trailers_go c.args.rules c.args.message c.args.place c.args.look c.args.piece.now c.requires.some c.requires.stands (sym c.in-Unfinished.ensures.found))

pub returns-in-TooLong-clause-fault : goal.returns-in-TooLong-clause-fault
returns-in-TooLong-clause-fault c = trailers_long c.args.rules c.args.message c.args.place c.args.look c.args.piece.now _ (sym c.in-TooLong.ensures.found)

pub returns-in-Whole-clause-fed : goal.returns-in-Whole-clause-fed
returns-in-Whole-clause-fed c = trailers_made c.args.rules c.args.message c.args.place c.args.look c.args.piece.now _ (sym c.in-Whole.ensures.found)
