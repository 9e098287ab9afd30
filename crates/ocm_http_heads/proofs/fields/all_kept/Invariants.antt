use Rattle.std.proofs.Common.{◌≡◌, map, take}
use Rattle.httparse.specs.Borrowed.{header_parts}
use Rattle.ocm_http_heads.specs.Heads.{kept_field}
use Rattle.ocm_http_heads.proofs.fields.all_kept.Given as goal

abbrev pub invariant-loop-header : goal.invariant-loop-header
invariant-loop-header l = l.fields ≡ map (λ h. kept_field (header_parts h)) (take l.header-index l.headers)
