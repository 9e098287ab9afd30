use Rattle.std.proofs.Common.{◌+◌, ◌%◌, ◌^◌, arith, ap, ◌∙◌}
use Rattle.ocm_types.specs.Draws.{number_of}
use Rattle.ocm_types.proofs.Numbers.{number_of-to_be_bytes}
use Rattle.ocm_types.proofs.draws.Fresh.plus.Goals as goal

pub returns-clause-number : goal.returns-clause-number
returns-clause-number c =
    ap number_of c.to_be_bytes.ensures ∙ number_of-to_be_bytes _ (omega arith) ∙ ap (λ n. (n + c.args.k) % 2 ^ 128) (c.from_be_bytes-number.ensures ∙ ap number_of c.self.view_is)
