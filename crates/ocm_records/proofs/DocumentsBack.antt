-- Documents that are written read as themselves.
use Rattle.std.proofs.Common.{◌≡◌, ◌≤◌, ℕ, ◌&&◌, Bool, true, nat_le, List, [], ◌∷◌, map, length, Option, Some, None, Ok, refl, ◌∙◌, sym, arith, true≢false, lit≤, subst}
use Rattle.std.proofs.lemmas.Bool.{leb-true, le-leb}
use Rattle.std.specs.List.{list_all}
use Rattle.serde_json.specs.Data.{Data, depth, items_depth}
use Rattle.serde_json.specs.View.{items_of}
use Rattle.ocm_json.specs.Json.{each_in, json_of, object_in}
use Rattle.ocm_types.specs.Texts.{has_length}
use Rattle.ocm_records.specs.Kinds.{most_bytes}
use Rattle.ocm_records.specs.Rows.{record_of}
use Rattle.ocm_records.specs.Documents.{discovery, webdav_among, is_root_path, is_interface, is_discovery, note, notes, error, is_note, is_error}
use Rattle.ocm_records.specs.Written.{discovery_data, types_data, note_data, error_data}
use Rattle.ocm_records.specs.declared.values.Discovery.{Discovery}
use Rattle.ocm_records.specs.declared.values.ErrorBody.{ErrorBody}
use Rattle.ocm_records.specs.declared.values.FieldNote.{FieldNote}
use Rattle.ocm_records.proofs.ReadBack.{left_of, right_of, both_of, record_again}

-- a text of few bytes is one that a record may have
within : (low high : ℕ) (s : List ℕ) → has_length low high s ≡ true → high ≤ most_bytes → has_length 0 most_bytes s ≡ true
within low high s is small =
    let few : length s ≤ high = leb-true (length s) high (right_of (nat_le low (length s)) (nat_le (length s) high) is) in
    let least : 0 ≤ length s = omega arith in
    let most : length s ≤ most_bytes = omega (arith, few, small) in
    both_of (nat_le 0 (length s)) (nat_le (length s) most_bytes) (le-leb 0 (length s) least) (le-leb (length s) most_bytes most)

path_within : (s : List ℕ) → is_root_path s ≡ true → has_length 0 most_bytes s ≡ true
path_within [] is = absurd (true≢false (sym is))
path_within (b ∷ bs) is =
    let few : length (b ∷ bs) ≤ 1024 = leb-true (length (b ∷ bs)) 1024 (left_of _ _ is) in
    let least : 0 ≤ length (b ∷ bs) = omega arith in
    let most : length (b ∷ bs) ≤ most_bytes = omega (arith, few) in
    both_of (nat_le 0 (length (b ∷ bs))) (nat_le (length (b ∷ bs)) most_bytes) (le-leb 0 (length (b ∷ bs)) least) (le-leb (length (b ∷ bs)) most_bytes most)

webdav_again : (enabled : Bool) (version end_point : List ℕ) (webdav : Option (List ℕ)) → is_interface webdav ≡ true
    → webdav_among (discovery_data (record { enabled = enabled; version = version; end_point = end_point; webdav = webdav })) ≡ Ok webdav
unfolding webdav_among
webdav_again enabled version end_point None is = refl
webdav_again enabled version end_point (Some path) is = rw (path_within path is, is) refl

discovery_parts : (enabled : Bool) (version end_point : List ℕ) (webdav : Option (List ℕ)) → has_length 1 64 version ≡ true → has_length 1 1024 end_point ≡ true → is_interface webdav ≡ true
    → discovery (discovery_data (record { enabled = enabled; version = version; end_point = end_point; webdav = webdav })) ≡ Ok (record { enabled = enabled; version = version; end_point = end_point; webdav = webdav })
unfolding discovery
discovery_parts enabled version end_point webdav v e w =
    rw (within 1 64 version v (lit≤ tt), v, within 1 1024 end_point e (lit≤ tt), e, webdav_again enabled version end_point webdav w) refl

types_depth : (webdav : Option (List ℕ)) → depth (types_data webdav) ≤ 4
types_depth None = lit≤ tt
types_depth (Some path) = lit≤ tt

discovery_depth_at : (d : Discovery) (webdav : Option (List ℕ)) → d.webdav ≡ webdav → depth (discovery_data d) ≤ 127
discovery_depth_at d None is = rw is (lit≤ tt)
discovery_depth_at d (Some path) is = rw is (lit≤ tt)

-- the bytes of a discovery document are read as that document
pub discovery_back : (bytes : List ℕ) (value : Data) (d : Discovery) → value ≡ discovery_data d → (depth value ≤ 127 → json_of bytes ≡ Some value) → is_discovery d ≡ true → record_of discovery bytes ≡ Ok d
discovery_back bytes value d is again sound =
    let P : Data → Type 0 = λ x. depth x ≤ 127 → json_of bytes ≡ Some x in
    let texts : (has_length 1 64 d.version && has_length 1 1024 d.end_point) ≡ true = left_of _ (is_interface d.webdav) sound in
    record_again discovery bytes (discovery_data d) (subst P is again (discovery_depth_at d d.webdav refl)) refl ∙
    discovery_parts d.enabled d.version d.end_point d.webdav (left_of _ _ texts) (right_of (has_length 1 64 d.version) _ texts) (right_of (has_length 1 64 d.version && has_length 1 1024 d.end_point) _ sound)

note_again : (n : FieldNote) → is_note n ≡ true → note (note_data n) ≡ Ok n
unfolding note
note_again n is =
    let message : has_length 0 1024 n.message ≡ true = left_of _ (has_length 0 1024 n.name) is in
    let name : has_length 0 1024 n.name ≡ true = right_of (has_length 0 1024 n.message) _ is in
    rw (within 0 1024 n.message message (lit≤ tt), message, within 0 1024 n.name name (lit≤ tt), name) refl

notes_again : (ns : List FieldNote) → list_all is_note ns ≡ true → notes (map note_data ns) ≡ Ok ns
unfolding notes
notes_again [] are = refl
notes_again (n ∷ ns) are =
    rw (note_again n (left_of (is_note n) (list_all is_note ns) are), notes_again ns (right_of (is_note n) (list_all is_note ns) are)) refl

objects_again : (ns : List FieldNote) → each_in object_in (items_of (map note_data ns)) ≡ Some (map note_data ns)
objects_again [] = refl
objects_again (n ∷ ns) = rw (objects_again ns) refl

error_parts : (message : List ℕ) (errors : List FieldNote) → has_length 0 1024 message ≡ true → list_all is_note errors ≡ true
    → error (error_data (record { message = message; errors = errors })) ≡ Ok (record { message = message; errors = errors })
unfolding error
error_parts message [] is are = rw (within 0 1024 message is (lit≤ tt), is) refl
error_parts message (n ∷ ns) is are =
    rw (within 0 1024 message is (lit≤ tt), is, objects_again ns, notes_again (n ∷ ns) are) refl

notes_depth : (ns : List FieldNote) → items_depth (items_of (map note_data ns)) ≤ 1
notes_depth [] = lit≤ tt
notes_depth (n ∷ ns) = let before : items_depth (items_of (map note_data ns)) ≤ 1 = notes_depth ns in omega (arith, before)

error_depth : (message : List ℕ) (errors : List FieldNote) → depth (error_data (record { message = message; errors = errors })) ≤ 127
error_depth message [] = lit≤ tt
error_depth message (n ∷ ns) = let few : items_depth (items_of (map note_data (n ∷ ns))) ≤ 1 = notes_depth (n ∷ ns) in omega (arith, few)

-- the bytes of an error body are read as that body
pub error_back : (bytes : List ℕ) (value : Data) (e : ErrorBody) → value ≡ error_data e → (depth value ≤ 127 → json_of bytes ≡ Some value) → is_error e ≡ true → record_of error bytes ≡ Ok e
error_back bytes value e is again sound =
    let P : Data → Type 0 = λ x. depth x ≤ 127 → json_of bytes ≡ Some x in
    record_again error bytes (error_data e) (subst P is again (error_depth e.message e.errors)) refl ∙
    error_parts e.message e.errors (left_of _ (list_all is_note e.errors) sound) (right_of (has_length 0 1024 e.message) _ sound)
