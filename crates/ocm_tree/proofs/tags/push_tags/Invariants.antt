use Rattle.std.proofs.Common.{◌≡◌, ◌++◌, ◌≤◌, ◌+◌, length, map, take, vec_len, vec_capacity}
use Rattle.ocm_tree.specs.Tags.{parent_tag}
use Rattle.ocm_tree.proofs.tags.push_tags.Given as goal

abbrev pub invariant-loop-planned : goal.invariant-loop-planned
invariant-loop-planned l = record {
  tags : l.tags.items ≡ l.initial.tags.items ++ map parent_tag (take l.planned-index l.nodes);
  room : length l.nodes + vec_len l.tags ≤ vec_capacity l.tags + l.planned-index;
}
