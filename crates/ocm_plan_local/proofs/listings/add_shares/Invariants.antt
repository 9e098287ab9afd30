use Rattle.std.proofs.Common.{◌≡◌, ◌++◌, take}
use Rattle.std.specs.Prelude.{filter_map}
use Rattle.ocm_plan_local.specs.Told.{share_told}
use Rattle.ocm_plan_local.proofs.listings.add_shares.Given as goal

abbrev pub invariant-loop-id : goal.invariant-loop-id
invariant-loop-id g l = l.lines ≡ l.initial.lines ++ filter_map (share_told l.tables.state) (take l.id-index l.ids)
