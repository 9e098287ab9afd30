use Rattle.std.proofs.Common.{◌≡◌, ◌<◌, take, fold}
use Rattle.ocm_tree.specs.Tags.{mix_all}
use Rattle.ocm_tree.proofs.tags.tag_of.Given as goal

abbrev pub invariant-loop-segment : goal.invariant-loop-segment
invariant-loop-segment l = record {
  mixed : l.tag ≡ fold mix_all l.place.user (take l.segment-index l.segment-items);
  within : l.tag < 4294967296;
}
