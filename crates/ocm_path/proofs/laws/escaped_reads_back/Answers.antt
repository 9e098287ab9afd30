use Rattle.ocm_path.proofs.RoundTrip.{path_of-path_escaped}
use Rattle.ocm_path.proofs.laws.escaped_reads_back.Goals as goal

pub returns : goal.returns
returns c = path_of-path_escaped c.args.path.now c.segments-segments.ensures.sound c.requires
