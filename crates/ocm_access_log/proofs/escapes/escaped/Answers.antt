use Rattle.std.proofs.Common.{arith}
use Rattle.std.proofs.lemmas.List.Elements.{All-from_get_or}
use Rattle.percent_encoding.proofs.PercentLemmas.{IsByte}
use Rattle.ocm_path.proofs.Kept.{percent_encode-ESCAPED}
use Rattle.ocm_access_log.proofs.escapes.escaped.Goals as goal

pub returns : goal.returns
returns c =
    let small = All-from_get_or IsByte c.args.plain.now 0 (λ i within. omega (arith, c.type_inv.plain i)) in
    rw (c.in_ok-append_to.ensures.ok, c.new-text.ensures.bytes, c.percent_encode.ensures.text, c.as_bytes.ensures.value) (percent_encode-ESCAPED _ small)
