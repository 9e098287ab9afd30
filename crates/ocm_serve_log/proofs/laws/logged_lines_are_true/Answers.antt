use Rattle.ocm_serve_log.proofs.TrueLines.{lines-true}
use Rattle.ocm_serve_log.proofs.laws.logged_lines_are_true.Goals as goal

pub returns : goal.returns
returns c = lines-true
