use Rattle.std.proofs.Common.{◌≡◌, length}
use Rattle.ocm_http_heads.specs.Lengths as lengths
use Rattle.ocm_http_heads.proofs.lengths.first_named.Given as goal

abbrev pub invariant-loop-rest : goal.invariant-loop-rest
invariant-loop-rest l = lengths.values l.name l.rest ≡ lengths.values l.name l.fields

abbrev pub decreases-loop-rest : goal.decreases-loop-rest
decreases-loop-rest l = length l.rest
