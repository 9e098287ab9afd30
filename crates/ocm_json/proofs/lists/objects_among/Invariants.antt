use Rattle.std.proofs.Common.{◌≡◌, drop, map}
use Rattle.serde_json.specs.View.{items_view}
use Rattle.ocm_json.specs.Json.{each_in, object_in}
use Rattle.ocm_json.specs.Seen.{data_at}
use Rattle.ocm_json.proofs.EachElement.{with_front}
use Rattle.ocm_json.proofs.lists.objects_among.Given as goal

abbrev pub invariant-loop-element : goal.invariant-loop-element
invariant-loop-element l = with_front (map data_at l.objects) (each_in object_in (items_view (drop l.element-index l.elements))) ≡ each_in object_in (items_view l.elements)
