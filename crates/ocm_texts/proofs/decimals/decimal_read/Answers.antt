use Rattle.std.proofs.Common.{◌≡◌, true, None, ◌∙◌, rules}
use Rattle.ocm_texts.specs.Decimal.{decimal_of, is_decimal_text}
use Rattle.ocm_texts.proofs.DecimalLaws.{reads, printed}
use Rattle.ocm_texts.proofs.decimals.decimal_read.Goals as goal

pub returns-then-not-is_decimal-clause-printed : goal.returns-then-not-is_decimal-clause-printed
returns-then-not-is_decimal-clause-printed c =
    λ n. let e : decimal_of c.args.s.now ≡ None = search rules in rw e at (printed c.args.s.now n)

pub returns-clause-value : goal.returns-clause-value
returns-clause-value c =
    let form : is_decimal_text c.args.s.now ≡ true = search rules in
    c.ok.ensures.value ∙ reads c.args.s.now c.parse.result form c.parse.ensures.value.0

pub returns-clause-printed : goal.returns-clause-printed
returns-clause-printed c =
    λ n. let e : c.ok.result ≡ decimal_of c.args.s.now = returns-clause-value c in rw e (printed c.args.s.now n)
