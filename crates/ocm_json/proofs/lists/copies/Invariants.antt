use Rattle.std.proofs.Common.{◌≡◌, map, take}
use Rattle.ocm_json.specs.Seen.{data_at, data_in}
use Rattle.ocm_json.proofs.lists.copies.Given as goal

abbrev pub invariant-loop-object : goal.invariant-loop-object
invariant-loop-object l = map data_in l.made ≡ map data_at (take l.object-index l.object-items)
