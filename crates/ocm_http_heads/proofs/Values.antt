-- The values of the fields with a name.
use Rattle.std.proofs.Common.{◌≡◌, ℕ, List, [], ◌∷◌, Bool, true, false, refl}
use Rattle.std.specs.List.{list_all}
use Rattle.ocm_http_heads.specs.declared.fields.Field.{Field}
use Rattle.ocm_http_heads.specs.Heads.{is_same}
use Rattle.ocm_http_heads.specs.Lengths.{values, is_unless}

one_more : (name value : List ℕ) (f : Field) (fields : List Field) (named : Bool) → is_same f.name name ≡ named → list_all (is_same value) (values name fields) ≡ list_all (λ g. is_unless name value g) fields → list_all (is_same value) (values name (f ∷ fields)) ≡ list_all (λ g. is_unless name value g) (f ∷ fields)
one_more name value f fields true h same = rw (h, same) refl
one_more name value f fields false h same = rw (h, same) refl

-- each value is this one where each field with the name has it
pub all_values : (name value : List ℕ) (fields : List Field) → list_all (is_same value) (values name fields) ≡ list_all (λ g. is_unless name value g) fields
all_values name value [] = refl
all_values name value (f ∷ fields) = one_more name value f fields (is_same f.name name) refl (all_values name value fields)
