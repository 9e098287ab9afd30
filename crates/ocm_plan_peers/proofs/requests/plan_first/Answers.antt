use Rattle.std.proofs.Common.{◌∙◌, sym}
use Rattle.ocm_texts.specs.Hex.{hex}
use Rattle.ocm_plan_peers.proofs.requests.plan_first.Goals as goal

pub returns-in-Err : goal.returns-in-Err
returns-in-Err g c = λ id mark is_named answered. c.refused.ensures.plans _ (c.in-Err.ensures.refused (hex c.args.fresh.now) ∙ sym answered)
