use Rattle.std.proofs.Common.{◌≡◌, ◌++◌, take}
use Rattle.std.specs.Prelude.{filter_map}
use Rattle.ocm_plan_local.specs.Told.{request_told}
use Rattle.ocm_plan_local.proofs.listings.add_requests.Given as goal

abbrev pub invariant-loop-number : goal.invariant-loop-number
invariant-loop-number l = l.lines ≡ l.initial.lines ++ filter_map (request_told l.tables.state) (take l.number-index l.numbers)
