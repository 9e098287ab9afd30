-- What is written is an image.
use Rattle.std.proofs.Common.{◌≡◌, ◌≤◌, ℕ, ◌+◌, ◌-◌, List, [], ◌∷◌, ◌++◌, length, take, replicate, refl, sym, ap, ◌∙◌, arith, append_assoc, length-append, inr}
use Rattle.std.proofs.lemmas.List.{take_at, drop_at, length-replicate}
use Rattle.std.proofs.Math.Seq.{take-length}
use Rattle.std.specs.Int.{w64, to_be_bytes}
use Rattle.ocm_journal_image.specs.Layout.{AreRecords, IsAreaSize, IsImage, IsLabel, area_text, blocks_size, fresh, named}

-- a header of form 2 and its first area
pub whole-image : (label : List ℕ) (area : ℕ) (records : List (List ℕ)) → IsLabel label → IsAreaSize area → AreRecords records → 2 + blocks_size records ≤ area
    → IsImage label area 2 records ((1 ∷ take 511 (fresh label area 2)) ++ area_text 2 records 0)
whole-image label area records label_size area_size sizes room =
    let zeros : List ℕ = replicate (494 - length label) 0 in
    let text : List ℕ = 1 ∷ named label area ++ 1 ∷ [] in
    let live : List ℕ = area_text 2 records 0 in
    let rest_text : List ℕ = named label area ++ 1 ∷ zeros in
    let size : length rest_text ≡ 511 = omega (arith, length-append (named label area) (1 ∷ zeros), length-append label (to_be_bytes w64 area), length-replicate {A = ℕ} (494 - length label) 0, label_size.1) in
    let front_is : take 511 (fresh label area 2) ≡ rest_text = take_at rest_text (2 ∷ 0 ∷ []) 511 size in
    let long : length (1 ∷ take 511 (fresh label area 2)) ≡ 512 = ap (λ (l : List ℕ). length (1 ∷ l)) front_is ∙ omega (arith, size) in
    let flat : (1 ∷ take 511 (fresh label area 2)) ++ live ≡ text ++ (zeros ++ live) =
    ap (λ (l : List ℕ). (1 ∷ l) ++ live) (front_is ∙ sym (append_assoc (named label area) (1 ∷ []) zeros)) ∙ append_assoc text zeros live in
    record {
      selector = 1;
      gate = 0;
      label_size = label_size;
      area_size = area_size;
      form_known = inr refl;
      record_sizes = sizes;
      header = omega (arith, length-append (1 ∷ take 511 (fresh label area 2)) live, long);
      front = ap (λ (l : List ℕ). take (length text) l) flat ∙ take_at text (zeros ++ live) (length text) refl;
      live = ap (λ (l : List ℕ). take (length live) l) (drop_at (1 ∷ take 511 (fresh label area 2)) live 512 long) ∙ take-length live;
      shut = omega arith;
      within = room;
    }

pub length-fresh : (label : List ℕ) (area : ℕ) → IsLabel label → length (fresh label area 2) ≡ 513
length-fresh label area sizes =
    let zeros : List ℕ = replicate (494 - length label) 0 in
    omega (arith, length-append (named label area ++ 1 ∷ zeros) (2 ∷ 0 ∷ []), length-append (named label area) (1 ∷ zeros), length-append label (to_be_bytes w64 area), length-replicate {A = ℕ} (494 - length label) 0, sizes.1)
