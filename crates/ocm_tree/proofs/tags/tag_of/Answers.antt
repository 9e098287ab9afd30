use Rattle.std.proofs.Common.{◌∙◌, get_or, sym, ap}
use Rattle.std.proofs.lemmas.List.Sums.{fold_more}
use Rattle.ocm_tree.specs.Tags.{mix_all}
use Rattle.ocm_tree.proofs.tags.tag_of.Goals as goal

pub loop-segment-preserved : goal.loop-segment-preserved
loop-segment-preserved c =
    let at = c.loop-segment in
    let segments = c.segments-segment-items.result.now in
    let segment = c.segment-item.result in
    let bytes = c.as_bytes.ensures.value ∙ (c.as_str.ensures ∙ c.segment-item.is) in
    record {
      mixed =
          c.mixed_all-tag.ensures.mix
          ∙ (ap (mix_all at.tag) bytes
          ∙ (ap (λ tag. mix_all tag (get_or segments at.segment-index segment)) at.invariant.mixed ∙ sym (fold_more mix_all c.args.place.now.user segments at.segment-index segment c.loop-segment-test.true)));
      within = c.mixed_all-tag.ensures.within;
    }
