use Rattle.std.proofs.Common.{◌≡◌, ◌∙◌, ◌++◌, ◌∷◌, [], map, take, get_or, append_assoc, sym, ap, arith}
use Rattle.std.proofs.lemmas.List.{take_more, map-append}
use Rattle.ocm_tree.specs.Tags.{parent_tag, tag_of}
use Rattle.ocm_tree.proofs.tags.push_tags.Goals as goal

pub loop-planned-preserved : goal.loop-planned-preserved
loop-planned-preserved c =
    let at = c.loop-planned in
    let nodes = c.args.nodes.now in
    let node = c.planned-item.result in
    let first = c.args.tags.now.items in
    let tags = map parent_tag (take at.planned-index nodes) in
    let tag : c.tag_of.result ≡ parent_tag (get_or nodes at.planned-index node) = c.tag_of.ensures ∙ (ap tag_of c.parent.ensures ∙ ap parent_tag c.planned-item.is) in
    let more = take_more nodes at.planned-index node c.loop-planned-test.true in
    record {
      tags =
          c.push_reserved.ensures.items
          ∙ (ap (λ ts. ts ++ c.tag_of.result ∷ []) at.invariant.tags
          ∙ (append_assoc first tags (c.tag_of.result ∷ [])
          ∙ ap (λ ts. first ++ ts) (ap (λ t. tags ++ t ∷ []) tag ∙ (sym (map-append parent_tag (take at.planned-index nodes) (get_or nodes at.planned-index node ∷ [])) ∙ ap (map parent_tag) (sym more)))));
      room = omega (arith, c.push_reserved.ensures.len, c.push_reserved.ensures.capacity, at.invariant.room);
    }
