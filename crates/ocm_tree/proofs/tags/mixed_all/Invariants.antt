use Rattle.std.proofs.Common.{◌≡◌, ◌<◌, take, fold}
use Rattle.ocm_tree.specs.Tags.{mix}
use Rattle.ocm_tree.proofs.tags.mixed_all.Given as goal

abbrev pub invariant-loop-byte : goal.invariant-loop-byte
invariant-loop-byte l = record {
  mixed : l.more ≡ fold mix (mix l.tag 47) (take l.byte-index l.segment);
  within : l.more < 4294967296;
}
