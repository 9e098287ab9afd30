use Rattle.std.proofs.Common.{rules, ◌≡◌, get_or}
use Rattle.ocm_http.proofs.LineSteps.{break_goes}
use Rattle.ocm_http.proofs.chunks.feed_break.Goals as goal

pub returns-then-returned-clause-fed : goal.returns-then-returned-clause-fed
returns-then-returned-clause-fed c =
    let first : get_or c.args.piece.now 0 0 ≡ 10 = search rules in
    rw (c.past.ensures, c.new.ensures, c.if-returned.true) (break_goes c.args.rules c.args.message c.args.place c.args.piece.now c.requires.some c.requires.stands first)
