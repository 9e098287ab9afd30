use Rattle.std.proofs.Common.{◌++◌, ◌∷◌, [], ap, ◌∙◌, arith, length}
use Rattle.std.proofs.lemmas.List.{length-append}
use Rattle.ocm_history_records.specs.Packed.{marks_size, record_at, unpacked}
use Rattle.ocm_history_records.proofs.Packing.{marks-more, unpacked-more}
use Rattle.ocm_history_records.proofs.blocks.Block.add_bytes.Goals as goal

pub invariant_of-self-2 : goal.invariant_of-self-2
invariant_of-self-2 c =
    let more = ap marks_size (c.push_reserved.ensures.items ∙ ap (λ ms. ms ++ c.args.mark ∷ []) c.in_ok-reserve.ensures.items) ∙ marks-more c.self.inside.marks.items c.args.mark in
    let text = ap length c.in_ok-extend_from_slice.ensures.items ∙ length-append c.self.inside.text.items c.args.bytes.now in
    omega (arith, more, text, c.self.invariant, c.requires)

pub returns : goal.returns
returns c =
    ap (λ ms. unpacked ms c.extend_from_slice.new.self.items) (c.push_reserved.ensures.items ∙ ap (λ ms. ms ++ c.args.mark ∷ []) c.in_ok-reserve.ensures.items)
    ∙ ap (unpacked (c.self.inside.marks.items ++ c.args.mark ∷ [])) c.in_ok-extend_from_slice.ensures.items
    ∙ unpacked-more c.self.inside.marks.items c.self.inside.text.items c.args.mark c.args.bytes.now c.self.invariant
    ∙ ap (λ rs. rs ++ record_at c.args.mark c.args.bytes.now ∷ []) c.self.view_is
