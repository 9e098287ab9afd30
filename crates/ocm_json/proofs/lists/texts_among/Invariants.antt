use Rattle.std.proofs.Common.{◌≡◌, drop}
use Rattle.serde_json.specs.Find.{as_str}
use Rattle.serde_json.specs.View.{items_view}
use Rattle.ocm_json.specs.Json.{each_in}
use Rattle.ocm_json.proofs.EachElement.{with_front}
use Rattle.ocm_json.proofs.lists.texts_among.Given as goal

abbrev pub invariant-loop-element : goal.invariant-loop-element
invariant-loop-element l = with_front l.texts (each_in as_str (items_view (drop l.element-index l.elements))) ≡ each_in as_str (items_view l.elements)
