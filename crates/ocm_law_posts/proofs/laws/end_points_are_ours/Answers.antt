use Rattle.ocm_law_posts.proofs.Sites.{end_points-ours}
use Rattle.ocm_law_posts.proofs.laws.end_points_are_ours.Goals as goal

pub returns : goal.returns
returns c = end_points-ours
