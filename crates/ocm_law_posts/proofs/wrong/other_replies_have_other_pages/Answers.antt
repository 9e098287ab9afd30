use Rattle.std.proofs.Common.{refl}
use Rattle.ocm_dav_pages.specs.Pages.{page, page_of}
use Rattle.ocm_law_posts.proofs.wrong.other_replies_have_other_pages.Goals as goal

pub returns-clause-page : goal.returns-clause-page
unfolding page page_of
returns-clause-page c = refl
