-- Bytes are one image at most, and none where they are blank.
use Rattle.std.proofs.Common.{◌≡◌, inl, inr, ℕ, ◌+◌, List, [], ◌∷◌, ◌++◌, length, take, drop, get_or, refl, sym, ◌∙◌, ap, arith, take-append-drop}
use Rattle.std.proofs.lemmas.Grind.{common_steps}
use Rattle.std.proofs.lemmas.Bool.Decides.{nat_tests}
use Rattle.ocm_journal_image.specs.declared.readings.Image.{Image}
use Rattle.ocm_journal_image.specs.Blank.{IsBlank}
use Rattle.ocm_journal_image.specs.Layout.{IsImage, named, placed, contents}
use Rattle.ocm_journal_image.proofs.ImageRead.{image_read}
use Rattle.ocm_journal_image.proofs.ReadBack.{image_is}
use Rattle.ocm_journal_image.proofs.ForAnyLabel.{blank_cases}

pub contents-placed : (place : ℕ) (rs : List (List ℕ)) → contents (placed place rs) ≡ rs
contents-placed place [] = refl
contents-placed place (r ∷ rs) = ap (λ (l : List (List ℕ)). r ∷ l) (contents-placed (place + (5 + length r)) rs)

pub one_image : (bytes label other_label : List ℕ) (area other_area form other_form : ℕ) (records others : List (List ℕ)) → IsImage label area form records bytes → IsImage other_label other_area other_form others bytes → (label ≡ other_label) × (area ≡ other_area) × (form ≡ other_form) × (records ≡ others)
one_image bytes label other_label area other_area form other_form records others one other =
    let same = image_is _ _ (sym (image_read label area form records bytes one) ∙ image_read other_label other_area other_form others bytes other) in (
      ap (λ (i : Image). i.header.label) same,
      ap (λ (i : Image). i.header.area) same,
      ap (λ (i : Image). i.live.form) same,
      sym (contents-placed _ records) ∙ ap (λ (i : Image). contents i.live.records) same ∙ contents-placed _ others,
    )

first_is_one : (label : List ℕ) (area selector : ℕ) (bytes : List ℕ) → take (length (1 ∷ named label area ++ selector ∷ [])) bytes ≡ 1 ∷ named label area ++ selector ∷ [] → get_or bytes 0 0 ≡ 1
first_is_one label area selector bytes front =
    let text : List ℕ = 1 ∷ named label area ++ selector ∷ [] in
    ap (λ (l : List ℕ). get_or l 0 0) (sym (take-append-drop (length text) bytes) ∙ ap (λ (l : List ℕ). l ++ drop (length text) bytes) front)

pub blank_is_none : (bytes label other_label : List ℕ) (area other_area form : ℕ) (records : List (List ℕ)) → IsBlank label area bytes → IsImage other_label other_area form records bytes → ⊥
blank_is_none bytes label other_label area other_area form records blank image =
    let long = image.header in
    let one = first_is_one other_label other_area image.selector bytes image.front in
    elim (blank_cases label area bytes blank) [
      | inl few ↦ grind (arith, nat_tests, common_steps, few, long)
      | inr (inl begun) ↦ grind (arith, nat_tests, common_steps, begun.0, one)
      | inr (inr other) ↦ grind (arith, nat_tests, common_steps, other.0, one)
    ]
