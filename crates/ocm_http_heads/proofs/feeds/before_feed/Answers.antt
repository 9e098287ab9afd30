use Rattle.std.proofs.Common.{sym, ap, ◌∙◌, arith}
use Rattle.std.proofs.lemmas.List.Sums.{prefix_len-le-length}
use lib.Count.{count_trailing_zeros}
use Rattle.ocm_http_heads.specs.Endings.{is_in_line}
use Rattle.ocm_http_heads.proofs.Masks.{goes_on, stops}
use Rattle.ocm_http_heads.proofs.feeds.before_feed.Goals as goal

pub returns-then-found-ne0-clause-count : goal.returns-then-found-ne0-clause-count
returns-then-found-ne0-clause-count c =
    let mask = c.feeds-found.ensures in
    let here = stops c.args.bytes.now c.loop-i.i (omega arith) (omega (arith, mask)) ∙ ap (count_trailing_zeros 64) (sym mask) in
    omega (arith, here, c.loop-i.invariant.count)

pub returns-then-found-ne0-clause-within : goal.returns-then-found-ne0-clause-within
returns-then-found-ne0-clause-within c = omega (arith, returns-then-found-ne0-clause-count c, prefix_len-le-length is_in_line c.args.bytes.now)

pub loop-i-preserved : goal.loop-i-preserved
loop-i-preserved c =
    let here = goes_on c.args.bytes.now c.loop-i.i (omega arith) (omega (arith, c.feeds-found.ensures)) in
    record { count = omega (arith, here, c.loop-i.invariant.count); within = omega arith }
