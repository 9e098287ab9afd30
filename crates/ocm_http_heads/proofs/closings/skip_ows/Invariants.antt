use Rattle.std.proofs.Common.{◌≡◌, length}
use Rattle.httparse.specs.Grammar as grammar
use Rattle.ocm_http_heads.proofs.closings.skip_ows.Given as goal

abbrev pub invariant-loop-rest : goal.invariant-loop-rest
invariant-loop-rest l = grammar.skip_ows l.rest ≡ grammar.skip_ows l.fn.bytes

abbrev pub decreases-loop-rest : goal.decreases-loop-rest
decreases-loop-rest l = length l.rest
