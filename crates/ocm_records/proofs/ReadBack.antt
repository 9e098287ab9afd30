-- What is written reads as itself.
use Rattle.std.proofs.Common.{◌≡◌, ◌≤◌, ℕ, ◌&&◌, Bool, true, false, nat_le, List, [], ◌∷◌, map, length, Option, Some, None, Result, Ok, refl, ap, ◌∙◌, sym, arith, true≢false, lit≤, cond, subst}
use Rattle.std.specs.Prelude.{IsUtf8}
use Rattle.std.proofs.lemmas.Str.{is_utf8-from_IsUtf8}
use Rattle.serde_json.specs.Read.{read}
use Rattle.std.proofs.lemmas.Bool.{leb-true, le-leb}
use Rattle.std.specs.List.{list_all}
use Rattle.serde_json.specs.Data.{Data, string, depth}
use Rattle.ocm_records.proofs.WrittenLaws.{words_depth}
use Rattle.serde_json.specs.Find.{as_str}
use Rattle.serde_json.specs.View.{items_of}
use Rattle.ocm_json.specs.Json.{each_in, json_of, object_in}
use Rattle.ocm_types.specs.Texts.{has_length, is_text, is_allowed}
use Rattle.ocm_types.specs.Rights.{is_any, words_of, perms_from}
use Rattle.ocm_types.specs.declared.letters.Offer.{Offer}
use Rattle.ocm_records.specs.Kinds.{most_bytes, rights_in}
use Rattle.ocm_records.specs.Rows.{record_of}
use Rattle.ocm_records.specs.Offers.{offer, access}
use Rattle.ocm_records.specs.Written.{offer_data}
use Rattle.ocm_records.specs.Sound.{IsOffer}
use Rattle.ocm_records.specs.declared.faults.RecordFault.{RecordFault}

-- the texts of a list of texts
pub texts_again : (ws : List (List ℕ)) → each_in as_str (items_of (map string ws)) ≡ Some ws
texts_again [] = refl
texts_again (w ∷ ws) = rw (texts_again ws) refl

pub granted_again : (r w s : Bool) → is_any (record { read = r; write = w; share = s }) ≡ true
    → perms_from (rights_in (words_of (record { read = r; write = w; share = s }))) ≡ Some (record { read = r; write = w; share = s })
granted_again true true true any = refl
granted_again true true false any = refl
granted_again true false true any = refl
granted_again true false false any = refl
granted_again false true true any = refl
granted_again false true false any = refl
granted_again false false true any = refl
granted_again false false false any = absurd (true≢false (sym any))

pub left_of : (a b : Bool) → (a && b) ≡ true → a ≡ true
left_of true b e = refl
left_of false b e = e

pub right_of : (a b : Bool) → (a && b) ≡ true → b ≡ true
right_of true b e = e
right_of false b e = absurd (true≢false (sym e))

pub both_of : (a b : Bool) → a ≡ true → b ≡ true → (a && b) ≡ true
both_of true b e f = f
both_of false b e f = e

-- a text of few bytes is one that a record may have
pub fits : (high : ℕ) (excluded : Option ℕ) (s : List ℕ) → is_text high excluded s ≡ true → high ≤ most_bytes → has_length 0 most_bytes s ≡ true
fits high excluded s is within =
    let few : length s ≤ high = leb-true (length s) high (right_of (nat_le 1 (length s)) _ (left_of (has_length 1 high s) (list_all (is_allowed excluded) s) is)) in
    let least : 0 ≤ length s = omega arith in
    let most : length s ≤ most_bytes = omega (arith, few, within) in
    both_of _ _ (le-leb 0 (length s) least) (le-leb (length s) most_bytes most)

-- an offer, written and read, is the same offer
pub offer_again : (o : Offer) → IsOffer o → offer (offer_data o) ≡ Ok o
unfolding offer access
offer_again o sound =
    rw (
      sound.with.fits,
      sound.with.read,
      fits 1024 None o.name sound.name (lit≤ tt),
      sound.name,
      fits 255 None o.id sound.id (lit≤ tt),
      sound.id,
      sound.owner.fits,
      sound.owner.read,
      sound.sender.fits,
      sound.sender.read,
      fits 255 (Some 58) o.secret sound.secret (lit≤ tt),
      sound.secret,
      texts_again (words_of o.perms),
      granted_again o.perms.read o.perms.write o.perms.share sound.perms,
    )
    refl

-- bytes that are the JSON of an object are read by the table of that object
pub record_again : {A : Type 0} → (table : Data → Result A RecordFault) (bytes : List ℕ) (d : Data) → json_of bytes ≡ Some d → object_in d ≡ Some d → record_of table bytes ≡ table d
record_again table bytes d is one = rw (is, one) refl

-- the bytes of a JSON text are that text's value
pub json_again : (bytes text : List ℕ) (d : Data) → bytes ≡ text → IsUtf8 text → read text ≡ Some d → json_of bytes ≡ Some d
json_again bytes text d same utf8 is = rw same (ap (λ b. cond b (read text) None) (is_utf8-from_IsUtf8 text utf8) ∙ is)

offer_depth : (o : Offer) → depth (offer_data o) ≤ 127
offer_depth o = rw (words_depth o.perms.read o.perms.write o.perms.share) (lit≤ tt)

-- the bytes of an offer are read as that offer
pub offer_back : (bytes : List ℕ) (d : Data) (o : Offer) → d ≡ offer_data o → (depth d ≤ 127 → json_of bytes ≡ Some d) → IsOffer o → record_of offer bytes ≡ Ok o
offer_back bytes d o is again sound =
    let P : Data → Type 0 = λ x. depth x ≤ 127 → json_of bytes ≡ Some x in
    record_again offer bytes (offer_data o) (subst P is again (offer_depth o)) refl ∙ offer_again o sound
