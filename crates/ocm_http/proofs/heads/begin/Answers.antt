use Rattle.ocm_http.proofs.HeadSteps.{begins_chunks}
use Rattle.ocm_http.proofs.heads.begin.Goals as goal

pub returns-in-Chunked : goal.returns-in-Chunked
returns-in-Chunked c = rw (c.new.ensures, c.new-in-Chunked.ensures, c.in-Chunked.is) (begins_chunks c.args.rules c.args.head c.args.first c.args.next)
