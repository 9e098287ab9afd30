use Rattle.std.proofs.Common.{arith, ap, ◌++◌, ◌∙◌, string_bytes}
use Rattle.std.proofs.lemmas.List.Elements.{All-from_get_or}
use Rattle.percent_encoding.proofs.PercentLemmas.{IsByte}
use Rattle.ocm_path.proofs.Kept.{percent_encode-ESCAPED}
use Rattle.ocm_path.proofs.escapes.add_escaped.Goals as goal

pub returns-clause-ok : goal.returns-clause-ok
returns-clause-ok c =
    let small = All-from_get_or IsByte c.args.segment.now 0 (λ i within. omega (arith, c.type_inv.segment i)) in
    c.in_ok-append_to.ensures.ok ∙ (rw (c.percent_encode.ensures.text, c.as_bytes.ensures.value) (ap (λ x. string_bytes c.args.text.now ++ x) (percent_encode-ESCAPED _ small)))
