use Rattle.std.proofs.Common.{◌∙◌, sym}
use Rattle.ocm_serve_store.proofs.Idle.{idle}
use Rattle.ocm_serve_store.proofs.following.may_change.Goals as goal

pub returns-clause-idle : goal.returns-clause-idle
returns-clause-idle c = λ is tick. idle c.args.ask.now (sym c.makes_a_change.ensures ∙ is) tick
