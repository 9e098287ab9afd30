use Rattle.std.proofs.Common.{◌≡◌, List, ℕ, ◌∷◌, ◌++◌, length, take, sym, ap, ◌∙◌, subst, arith}
use Rattle.ocm_journal_image.specs.Layout.{IsImage, area_text, fresh}
use Rattle.ocm_core.proofs.Taking.{if-ok-of}
use Rattle.ocm_compact.proofs.WholeImages.{length-fresh, whole-image}
use Rattle.ocm_compact.proofs.images.image_of.Goals as goal

pub joined-requires : goal.joined-requires
joined-requires c =
    let size : length c.as_slice.result.now ≡ 513 = ap (λ (l : List ℕ). length l) (c.as_slice.ensures ∙ c.in_ok-fresh.ensures) ∙ length-fresh c.args.label.now c.args.area c.requires.label in
    omega (arith, size)

pub returns : goal.returns
returns c =
    let label = c.args.label.now in
    let area = c.args.area in
    let texts = c.args.texts.now in
    let front : c.as_slice.result.now ≡ fresh label area 2 = c.as_slice.ensures ∙ c.in_ok-fresh.ensures in
    let live : c.as_slice-2.result.now ≡ area_text 2 texts 0 = c.as_slice-2.ensures ∙ c.in_ok-live.ensures in
    if-ok-of c.joined.result (λ bytes. bytes ≡ (1 ∷ take 511 c.as_slice.result.now) ++ c.as_slice-2.result.now) (IsImage label area 2 texts)
    (λ bytes is. subst (IsImage label area 2 texts)
    (sym (is ∙ ap (λ (l : List ℕ). (1 ∷ take 511 l) ++ c.as_slice-2.result.now) front ∙ ap (λ (l : List ℕ). (1 ∷ take 511 (fresh label area 2)) ++ l) live))
    (whole-image label area texts c.requires.label c.requires.area c.requires.records c.requires.room))
    c.joined.ensures
