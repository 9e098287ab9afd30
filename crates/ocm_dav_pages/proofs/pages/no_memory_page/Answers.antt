use Rattle.std.proofs.Common.{refl}
use Rattle.std.specs.Fmt.{digits}
use Rattle.ocm_dav_pages.proofs.pages.no_memory_page.Goals as goal

pub returns : goal.returns
unfolding digits
returns c = rw (c.in_ok-bytes.ensures.written, c.new-fields.ensures, c.new-body.ensures) refl
