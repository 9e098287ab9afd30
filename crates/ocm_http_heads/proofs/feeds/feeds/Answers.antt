use Rattle.std.proofs.Common.{nat_eq, w8, arith}
use Rattle.std.proofs.lemmas.Simd.{bitmask_splat}
use Rattle.ocm_http_heads.proofs.feeds.feeds.Goals as goal

pub returns : goal.returns
returns c = bitmask_splat w8 nat_eq c.args.bytes 16 10 c.fits-bytes.0 (omega arith)
