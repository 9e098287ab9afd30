use Rattle.std.proofs.Common.{refl}
use Rattle.url.proofs.OnLiterals.{url_on_literals}
use Rattle.ocm_law_posts.proofs.wrong.an_end_point_has_its_path.Goals as goal

pub returns : goal.returns
unfolding url_on_literals
returns c = refl
