use Rattle.ocm_tree.proofs.Spans.{span-of}
use Rattle.ocm_tree.proofs.trails.Span.of.Goals as goal

pub returns : goal.returns
returns c = span-of (record { least = c.trail_of.result; most = c.trail_of-2.result }) (record { user = c.args.user; path = c.args.path.now }) c.trail_of.ensures c.trail_of-2.ensures
