use Rattle.std.proofs.Common.{rules}
use Rattle.ocm_tree.proofs.nodes.NodeTable.lone_carry.Goals as goal

pub returns-in-Some : goal.returns-in-Some
returns-in-Some c = record {
  lone = search rules;
  bare = search rules;
  amounts = c.amounts_beside.ensures c.args.to.now c.requires;
}
