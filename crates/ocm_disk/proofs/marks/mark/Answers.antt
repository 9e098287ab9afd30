use Rattle.std.proofs.Common.{◌∙◌, arith}
use Rattle.ocm_disk.proofs.Marking.{marked_more, before_more, behind_more}
use Rattle.ocm_disk.proofs.marks.mark.Goals as goal

pub loop-at-preserved : goal.loop-at-preserved
loop-at-preserved c =
    let words = c.loop-at.words in
    let at = c.loop-at.at in
    let low = c.saturating_sub.result in
    let high = c.min.result in
    record {
      marked = marked_more words c.args.from c.args.to at low high c.ones.result (omega arith) (omega arith) (omega arith) c.saturating_sub.ensures c.min.ensures c.ones.ensures c.loop-at.invariant.marked;
      before = λ place below. before_more words c.args.from c.args.to at low high c.ones.result (omega arith) (omega arith) (omega arith) c.saturating_sub.ensures c.min.ensures c.ones.ensures place below ∙ c.loop-at.invariant.before place below;
      behind = λ place above. behind_more words c.args.from c.args.to at low high c.ones.result (omega arith) (omega arith) (omega arith) c.saturating_sub.ensures c.min.ensures c.ones.ensures place above ∙ c.loop-at.invariant.behind place above;
    }
