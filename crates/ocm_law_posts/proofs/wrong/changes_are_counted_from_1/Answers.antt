use Rattle.std.proofs.Common.{refl}
use Rattle.ocm_records.specs.Notices.{changed, notice}
use Rattle.ocm_law_posts.proofs.wrong.changes_are_counted_from_1.Goals as goal

pub returns : goal.returns
unfolding changed notice
returns c = refl
