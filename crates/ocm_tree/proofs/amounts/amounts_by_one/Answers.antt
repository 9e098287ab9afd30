use Rattle.std.proofs.Common.{◌∙◌, ap, arith}
use Rattle.ocm_tree.specs.declared.amounts.Amount.TheVariants.{Bytes, Nodes, Siblings}
use Rattle.ocm_tree.specs.Carries.{amount_in}
use Rattle.ocm_tree.proofs.Lone.{part-within, amount-lone, long-lone}
use Rattle.ocm_tree.proofs.amounts.amounts_by_one.Goals as goal

pub amounts_in-newer-requires : goal.amounts_in-newer-requires
amounts_in-newer-requires c =
    let f = amount_in Bytes c.args.from.now c.args.to.now c.args.moving in
    let within = part-within f c.args.slots.now c.args.index c.index-slots-index-2.result c.requires.lone.lone.within in
    let here = ap f c.index-slots-index-2.is in
    let all = c.requires.few Bytes in
    omega (arith, within, here, all)

pub overflow_add-result : goal.overflow_add-result
overflow_add-result c =
    let known = c.requires.lone in
    let sum = amount-lone Bytes c.args.from.now c.args.to.now c.args.moving c.args.slots.now c.args.index c.index-slots-index.result c.index-slots-index-2.result c.args.all.bytes c.weights_in-older.result.bytes c.amounts_in-newer.result.bytes
    known.lone known.bare c.index-slots-index.is c.index-slots-index-2.is known.amounts.bytes c.weights_in-older.ensures.bytes c.amounts_in-newer.ensures.amounts.bytes in
    let all = c.requires.few Bytes in
    omega (arith, sum, all)

pub overflow_add-result-2 : goal.overflow_add-result-2
overflow_add-result-2 c =
    let known = c.requires.lone in
    let sum = amount-lone Nodes c.args.from.now c.args.to.now c.args.moving c.args.slots.now c.args.index c.index-slots-index.result c.index-slots-index-2.result c.args.all.nodes c.weights_in-older.result.nodes c.amounts_in-newer.result.nodes
    known.lone known.bare c.index-slots-index.is c.index-slots-index-2.is known.amounts.nodes c.weights_in-older.ensures.nodes c.amounts_in-newer.ensures.amounts.nodes in
    let all = c.requires.few Nodes in
    omega (arith, sum, all)

pub overflow_add-result-3 : goal.overflow_add-result-3
overflow_add-result-3 c =
    let known = c.requires.lone in
    let sum = amount-lone Siblings c.args.from.now c.args.to.now c.args.moving c.args.slots.now c.args.index c.index-slots-index.result c.index-slots-index-2.result c.args.all.siblings c.weights_in-older.result.siblings c.amounts_in-newer.result.siblings
    known.lone known.bare c.index-slots-index.is c.index-slots-index-2.is known.amounts.siblings c.weights_in-older.ensures.siblings c.amounts_in-newer.ensures.amounts.siblings in
    let all = c.requires.few Siblings in
    omega (arith, sum, all)

pub returns-clause-amounts : goal.returns-clause-amounts
returns-clause-amounts c =
    let known = c.requires.lone in
    record {
      bytes = amount-lone Bytes c.args.from.now c.args.to.now c.args.moving c.args.slots.now c.args.index c.index-slots-index.result c.index-slots-index-2.result c.args.all.bytes c.weights_in-older.result.bytes c.amounts_in-newer.result.bytes
          known.lone known.bare c.index-slots-index.is c.index-slots-index-2.is known.amounts.bytes c.weights_in-older.ensures.bytes c.amounts_in-newer.ensures.amounts.bytes;
      nodes = amount-lone Nodes c.args.from.now c.args.to.now c.args.moving c.args.slots.now c.args.index c.index-slots-index.result c.index-slots-index-2.result c.args.all.nodes c.weights_in-older.result.nodes c.amounts_in-newer.result.nodes
          known.lone known.bare c.index-slots-index.is c.index-slots-index-2.is known.amounts.nodes c.weights_in-older.ensures.nodes c.amounts_in-newer.ensures.amounts.nodes;
      siblings = amount-lone Siblings c.args.from.now c.args.to.now c.args.moving c.args.slots.now c.args.index c.index-slots-index.result c.index-slots-index-2.result c.args.all.siblings c.weights_in-older.result.siblings c.amounts_in-newer.result.siblings
          known.lone known.bare c.index-slots-index.is c.index-slots-index-2.is known.amounts.siblings c.weights_in-older.ensures.siblings c.amounts_in-newer.ensures.amounts.siblings;
    }

pub returns-clause-long : goal.returns-clause-long
returns-clause-long c = c.amounts_in-newer.ensures.long ∙ long-lone c.args.from.now c.args.to.now c.args.slots.now c.args.index c.index-slots-index-2.result c.requires.lone.lone c.index-slots-index-2.is
