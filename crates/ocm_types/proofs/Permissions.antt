use Rattle.std.proofs.Common.{◌≡◌, ℕ, List, [], ◌∷◌, Bool, true, false, not, ◌||◌, if◌then◌else◌, find, bytes_eq, Option, Some, None, option_and_then, IsTrue, ◌↔◌, refl, sym, ap, ◌∙◌}
use Rattle.std.proofs.lemmas.Bool.{and_parts, and_from}
use Rattle.std.proofs.lemmas.Option.{cond_some}
use Rattle.std.proofs.lemmas.Slice.Eq.{bytes_eq-Decides}
use Rattle.ocm_types.specs.declared.rights.Rights.{Rights}
use Rattle.ocm_types.specs.declared.rights.Need.{Need}
use Rattle.ocm_types.specs.declared.rights.Need.TheVariants.{Read, Write, Share}
use Rattle.ocm_types.specs.Rights.{has, is_within, is_any, perms_from, perms_text, perms_of, every_rights}

-- what is found is what is looked for
found : {X : Type 0} (p : X → Bool) (y x : X) (rest : Option X) (b : Bool) → p y ≡ b → (rest ≡ Some x → p x ≡ true) → (if b then Some y else rest) ≡ Some x → p x ≡ true
found p y x rest true e h s = cc
found p y x rest false e h s = h s

find-passes : {X : Type 0} (p : X → Bool) (xs : List X) (x : X) → find p xs ≡ Some x → p x ≡ true
find-passes p [] x e = cc
find-passes p (y ∷ ys) x e = found p y x (find p ys) (p y) refl (find-passes p ys x) e

-- permissions come from rights of which one is held
from_found : (o : Option Rights) (rights : Rights) → option_and_then perms_from o ≡ Some rights → (o ≡ Some rights) × IsTrue (is_any rights)
from_found None rights e = cc
from_found (Some x) rights e = let parts = cond_some (is_any x) x rights e in (cc, cc)

-- the permissions of a text have this text
pub perms_of-is : (text : List ℕ) (rights : Rights) → perms_of text ≡ Some rights → IsTrue (is_any rights) × (text ≡ perms_text rights)
perms_of-is text rights e =
    let parts = from_found (find (λ r. bytes_eq (perms_text r) text) every_rights) rights e in
    let passes = find-passes (λ r. bytes_eq (perms_text r) text) every_rights rights parts.0 in
    let same : perms_text rights ≡ text = (bytes_eq-Decides (perms_text rights) text).0 passes in
    (parts.1, cc)

by_bits : (a b c : Bool) → IsTrue (a || b || c) → perms_of (perms_text (record { read = a; write = b; share = c })) ≡ Some (record { read = a; write = b; share = c })
by_bits true true true h = refl
by_bits true true false h = refl
by_bits true false true h = refl
by_bits true false false h = refl
by_bits false true true h = refl
by_bits false true false h = refl
by_bits false false true h = refl
by_bits false false false h = cc

-- the text of permissions gives them back
pub perms_of-text : (rights : Rights) → IsTrue (is_any rights) → perms_of (perms_text rights) ≡ Some rights
perms_of-text rights h = by_bits rights.read rights.write rights.share h

-- a reading that follows the definition is exact
pub exact-perms_of : (text : List ℕ) (read : Option Rights) → read ≡ perms_of text → (rights : Rights) → (read ≡ Some rights) ↔ (IsTrue (is_any rights) × (text ≡ perms_text rights))
exact-perms_of text read e rights =
    ((λ h. perms_of-is text rights (sym e ∙ h)), (λ h. e ∙ ap perms_of h.1 ∙ perms_of-text rights h.0))

implies : (a b : Bool) → (IsTrue (not a || b)) ↔ (IsTrue a → IsTrue b)
implies true b = ((λ h _. h), (λ h. h refl))
implies false b = ((λ _ h. cc), (λ _. refl))

-- permissions are within rights where each right of theirs is among these
pub each-is_within : (a b : Rights) (within : Bool) → within ≡ is_within a b → IsTrue within ↔ ((need : Need) → IsTrue (has a need) → IsTrue (has b need))
each-is_within a b within e = (forth, back)
  where
    forth : IsTrue within → (need : Need) → IsTrue (has a need) → IsTrue (has b need)
    forth h Read = (implies a.read b.read).0 (and_parts _ _ (and_parts _ _ (sym e ∙ h)).0).0
    forth h Write = (implies a.write b.write).0 (and_parts _ _ (and_parts _ _ (sym e ∙ h)).0).1
    forth h Share = (implies a.share b.share).0 (and_parts _ _ (sym e ∙ h)).1

    back : ((need : Need) → IsTrue (has a need) → IsTrue (has b need)) → IsTrue within
    back h = e ∙ and_from _ _ (and_from _ _ ((implies a.read b.read).1 (h Read)) ((implies a.write b.write).1 (h Write))) ((implies a.share b.share).1 (h Share))
