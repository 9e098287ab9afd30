-- What bytes are as a JSON object, from what reading them gave.
use Rattle.std.proofs.Common.{◌≡◌, ℕ, List, Bool, true, false, cond, Option, Some, None, Ok, Err, refl, ap, ◌∙◌, is_some, true≢false, sym}
use Rattle.std.specs.Prelude.{IsUtf8}
use Rattle.std.specs.Str.{is_utf8}
use Rattle.std.proofs.lemmas.Str.{IsUtf8-from_is_utf8, is_utf8-from_IsUtf8}
use Rattle.serde_json.specs.Data.{Data, null, boolean, number, string, array, object}
use Rattle.serde_json.specs.Find.{as_object}
use Rattle.serde_json.specs.Read.{read}
use Rattle.ocm_json.specs.Json.{json_of, object_in, object_of}
use Rattle.ocm_json.specs.declared.faults.JsonFault.TheVariants.{NotJson, NotObject}

-- UTF-8 of which a value was read
json_of-read : (bytes : List ℕ) (d : Data) → IsUtf8 bytes → read bytes ≡ Some d → json_of bytes ≡ Some d
json_of-read bytes d utf8 is = ap (λ b. cond b (read bytes) None) (is_utf8-from_IsUtf8 bytes utf8) ∙ is

no_json_at : (b : Bool) (r : Option Data) → (b ≡ true → r ≡ None) → cond b r None ≡ None
no_json_at true r none = none refl
no_json_at false r none = refl

json_of-none : (bytes : List ℕ) → (IsUtf8 bytes → read bytes ≡ None) → json_of bytes ≡ None
json_of-none bytes none = no_json_at (is_utf8 bytes) (read bytes) (λ t. none (IsUtf8-from_is_utf8 bytes t))

pub object_in-object : (d : Data) → is_some (as_object d) ≡ true → object_in d ≡ Some d
object_in-object null is = absurd (true≢false (sym is))
object_in-object (boolean b) is = absurd (true≢false (sym is))
object_in-object (number n) is = absurd (true≢false (sym is))
object_in-object (string s) is = absurd (true≢false (sym is))
object_in-object (array elements) is = absurd (true≢false (sym is))
object_in-object (object entries) is = refl

pub object_in-other : (d : Data) → is_some (as_object d) ≡ false → object_in d ≡ None
object_in-other null is = refl
object_in-other (boolean b) is = refl
object_in-other (number n) is = refl
object_in-other (string s) is = refl
object_in-other (array elements) is = refl
object_in-other (object entries) is = absurd (true≢false is)

-- an object was read
pub object_of-object : (bytes : List ℕ) (d : Data) → IsUtf8 bytes → read bytes ≡ Some d → is_some (as_object d) ≡ true → object_of bytes ≡ Ok d
object_of-object bytes d utf8 is one = rw (json_of-read bytes d utf8 is, object_in-object d one) refl

-- a value of another kind was read
pub object_of-other : (bytes : List ℕ) (d : Data) → IsUtf8 bytes → read bytes ≡ Some d → is_some (as_object d) ≡ false → object_of bytes ≡ Err NotObject
object_of-other bytes d utf8 is other = rw (json_of-read bytes d utf8 is, object_in-other d other) refl

-- nothing was read
pub object_of-none : (bytes : List ℕ) → (IsUtf8 bytes → read bytes ≡ None) → object_of bytes ≡ Err NotJson
object_of-none bytes none = rw (json_of-none bytes none) refl
