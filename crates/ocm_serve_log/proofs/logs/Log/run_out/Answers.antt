use Rattle.std.proofs.Common.{refl}
use mathlib.Core.Logic.{inr}
use Rattle.ocm_serve_log.proofs.Holding.{passed_over}
use Rattle.ocm_serve_log.proofs.logs.Log.run_out.Goals as goal

pub returns : goal.returns
returns g c = λ line lines h. passed_over _ _ _ _ _ _ _ _ lines line c.saturating_add-self.ensures (inr refl) h
