use Rattle.std.proofs.Common.{rules, tests}
use Rattle.std.proofs.lemmas.Iterator.Search.{any_from_yields_List}
use Rattle.std.proofs.lemmas.Iterator.Splits.{YieldsList-from_slice_split}
use Rattle.ocm_http_heads.specs.Heads as heads
use Rattle.ocm_http_heads.proofs.closings.has_close.Goals as goal

pub returns : goal.returns
returns c = any_from_yields_List heads.is_close _ _ _ c.any.ensures.ran (YieldsList-from_slice_split _ heads.is_comma c.args.list.now (search rules) (search rules) (search rules) (λ x r q k. search (rules, tests))) (λ x b q k. search (rules, tests))
