use Rattle.std.proofs.Common.{rules, ◌-◌, length, subst}
use Rattle.ocm_http.specs.Stages.{Goes}
use Rattle.ocm_http.specs.declared.stages.Stage.TheVariants.{Sized}
use Rattle.ocm_http.proofs.BodySteps.{sized_goes}
use Rattle.ocm_http.proofs.bodies.feed_sized.Goals as goal
use Rattle.std.proofs.Common.{sym}

pub returns-then-len-wanted-clause-fed : goal.returns-then-len-wanted-clause-fed
returns-then-len-wanted-clause-fed c =
    subst (λ m. Goes c.args.rules (Sized c.args.message c.args.wanted) (Sized m (c.args.wanted - length c.args.piece.now)) c.args.piece.now (length c.args.piece.now)) (sym c.in_ok-message.ensures)
    (sized_goes c.args.rules c.args.message c.args.wanted c.args.piece.now c.requires.some c.requires.stands (search rules))
