use Rattle.std.proofs.Common.{refl, arith}
use mathlib.Core.Logic.{inl}
use Rattle.ocm_serve_log.proofs.Holding.{passed_over}
use Rattle.ocm_serve_log.proofs.logs.Log.leave_out.Goals as goal

pub returns : goal.returns
returns g c = λ line lines h. passed_over _ _ _ _ _ _ _ _ lines line c.saturating_add-self.ensures (inl ((λ none. let some = c.requires in omega arith), refl)) h
