use Rattle.std.proofs.Common.{◌≡◌, take, map}
use Rattle.std.specs.List.{flat_map}
use Rattle.serde_json.specs.View.{view}
use Rattle.ocm_dav_pages.specs.Listings.{line_data}
use Rattle.ocm_dav_pages.proofs.listings.part_values.Given as goal

abbrev pub invariant-loop-line : goal.invariant-loop-line
invariant-loop-line l = map view l.values.items ≡ flat_map (line_data l.part) (take l.line-index l.lines)
