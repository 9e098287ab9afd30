-- An area's bytes with one record more.
use Rattle.std.proofs.Common.{◌≡◌, ℕ, ◌+◌, ◌≤◌, List, [], ◌∷◌, ◌++◌, length, refl, sym, ap, ◌∙◌, subst, append_assoc, arith}
use Rattle.std.specs.Int.{w32, to_be_bytes}
use Rattle.std.specs.Prelude.{IsTrue}
use Rattle.std.proofs.Math.Dec.{ltb}
use Rattle.std.proofs.lemmas.Bool.{lt-ltb, ltb-true}
use Rattle.std.proofs.lemmas.List.{length-append}
use Rattle.ocm_journal_image.specs.Layout.{AreRecords, block, blocks, blocks_size, contents}
use Rattle.ocm_journal_image.proofs.ImageRead.{records_read}
use Rattle.ocm_journal_image.proofs.Sizes.{length-blocks}
use Rattle.ocm_journal_image.proofs.OneImage.{contents-placed}
use Rattle.ocm_journal_area.specs.Areas.{items_of, records_in}

-- the records of an area are read of its bytes
pub records-back : (rs : List (List ℕ)) → AreRecords rs → records_in (2 ∷ blocks rs) ≡ rs
records-back rs are = ap (λ r. contents (items_of r)) (records_read 0 rs 0 [] are (omega arith)) ∙ contents-placed 0 rs

pub blocks-more : (rs : List (List ℕ)) (r : List ℕ) → blocks (rs ++ r ∷ []) ≡ blocks rs ++ block r
blocks-more [] r = nothing-behind (block r)
  where
    nothing-behind : (xs : List ℕ) → xs ++ [] ≡ xs
    nothing-behind [] = refl
    nothing-behind (x ∷ xs) = ap (λ l. x ∷ l) (nothing-behind xs)
blocks-more (x ∷ rs) r = ap (λ l. block x ++ l) (blocks-more rs r) ∙ sym (append_assoc (block x) (blocks rs) (block r))

pub are-more : (rs : List (List ℕ)) (r : List ℕ) → AreRecords rs → 1 ≤ length r → length r ≤ 2097152 → AreRecords (rs ++ r ∷ [])
are-more [] r are some few = (some, few, tt)
are-more (x ∷ rs) r are some few = (are.0, are.1, are-more rs r are.2 some few)

-- the bytes of records, of which one is written behind the others
pub record Holds (text : List ℕ) (rs : List (List ℕ)) : Type 0 where
  pub records : records_in text ≡ rs
  pub are : AreRecords (records_in text)
  pub bytes : text ≡ 2 ∷ blocks (records_in text)

pub holds : (text : List ℕ) (rs : List (List ℕ)) → AreRecords rs → text ≡ 2 ∷ blocks rs → Holds text rs
holds text rs are is = record {
  records = back;
  are = subst AreRecords (sym back) are;
  bytes = is ∙ ap (λ l. 2 ∷ blocks l) (sym back);
}
  where
    back : records_in text ≡ rs
    back = ap records_in is ∙ records-back rs are

pub holds-more : (old new : List ℕ) (r : List ℕ) → AreRecords (records_in old) → old ≡ 2 ∷ blocks (records_in old) → 1 ≤ length r → length r ≤ 2097152 → new ≡ old ++ block r
    → Holds new (records_in old ++ r ∷ [])
holds-more old new r are is some few grown =
    holds new (records_in old ++ r ∷ []) (are-more (records_in old) r are some few)
    (grown ∙ ap (λ l. l ++ block r) is ∙ ap (λ l. 2 ∷ l) (sym (blocks-more (records_in old) r)))

-- how many bytes three pieces have
pub length-pieces : (front middle back : List ℕ) → length (front ++ middle ++ back) ≡ length front + length middle + length back
length-pieces front middle back =
    let outer = length-append (front ++ middle) back in
    let inner = length-append front middle in
    omega (arith, outer, inner)

one-behind : (old more : List ℕ) (byte : ℕ) → (old ++ byte ∷ []) ++ more ≡ old ++ byte ∷ more
one-behind old more byte = append_assoc old (byte ∷ []) more

-- the pieces of a record, one after another
pub pieces : (old len front middle back t1 t2 t3 t4 t5 : List ℕ) (size : ℕ) → t1 ≡ old ++ 1 ∷ [] → t2 ≡ t1 ++ len → t3 ≡ t2 ++ front → t4 ≡ t3 ++ middle → t5 ≡ t4 ++ back
    → len ≡ to_be_bytes w32 size → size ≡ length front + length middle + length back → t5 ≡ old ++ block (front ++ middle ++ back)
pieces old len front middle back t1 t2 t3 t4 t5 size i1 i2 i3 i4 i5 is sized =
    i5 ∙ ap (λ l. l ++ back) (i4 ∙ ap (λ l. l ++ middle) (i3 ∙ ap (λ l. l ++ front) (i2 ∙ ap (λ l. l ++ len) i1)))
    ∙ ap (λ l. l ++ back) (append_assoc ((old ++ 1 ∷ []) ++ len) front middle)
    ∙ append_assoc ((old ++ 1 ∷ []) ++ len) (front ++ middle) back
    ∙ append_assoc (old ++ 1 ∷ []) len (front ++ middle ++ back)
    ∙ one-behind old (len ++ (front ++ middle ++ back)) 1
    ∙ ap (λ (l : List ℕ). old ++ 1 ∷ (l ++ (front ++ middle ++ back))) (is ∙ ap (to_be_bytes w32) whole)
  where
    whole : size ≡ length (front ++ middle ++ back)
    whole = sized ∙ sym (length-pieces front middle back)

-- an area has room for records exactly where it is longer than what is written of them without the last gate
pub fits-size : (text : List ℕ) (rs seen : List (List ℕ)) (area len : ℕ) → text ≡ 2 ∷ blocks rs → rs ≡ seen → len ≡ length text
    → (IsTrue (ltb len area) → 2 + blocks_size seen ≤ area) × (2 + blocks_size seen ≤ area → IsTrue (ltb len area))
fits-size text rs seen area len is shown sized =
    (λ yes. let less = ltb-true len area yes in omega (arith, less, whole), λ within. lt-ltb len area (omega (arith, within, whole)))
  where
    whole : len ≡ 1 + blocks_size seen
    whole = let all = ap length is in let behind = length-blocks rs in let same = ap blocks_size shown in omega (arith, sized, all, behind, same)
