-- The record of a letter is short, and is read as that letter.
use Rattle.std.proofs.Common.{◌≡◌, ℕ, ◌≤◌, true, List, [], ◌∷◌, ◌++◌, map, length, Option, Some, None, IsUtf8, codes, refl, arith, lit≤, leb-true}
use Rattle.std.specs.Prelude.{nat_le}
use Rattle.json.proofs.Printed.Utf8.{are_ascii, IsUtf8-are_ascii}
use Rattle.std.specs.List.{AllByRecursion}
use Rattle.serde_json.specs.Data.{Data, string, depth, object, number, unsigned, Members}
use Rattle.serde_json.specs.Read.{of_json, of_items}
use Rattle.serde_json.specs.View.{items_of}
use Rattle.serde_json.specs.Written.{compact_text, outline, items_outline}
use Rattle.serde_json.proofs.Numbers.{number_of-decimal}
use Rattle.ocm_json.specs.Json.{json_of}
use Rattle.ocm_types.specs.Rights.{words_of}
use Rattle.ocm_types.specs.declared.addresses.Address.{Address}
use Rattle.ocm_types.specs.declared.rights.Rights.{Rights}
use Rattle.ocm_types.specs.declared.letters.Letter.TheVariants as letters
use Rattle.ocm_types.specs.declared.letters.Notice.{Notice}
use Rattle.ocm_types.specs.declared.letters.Notice.TheVariants as notices
use Rattle.ocm_types.specs.declared.letters.Offer.{Offer}
use Rattle.ocm_records.specs.Sound.{ReadsAsItself, HasMarks, IsOffer, IsNotice, AddressIf}
use Rattle.ocm_records.specs.Written.{access_data, protocol_data, later_members, offer_data, secret_member, accepted_members, request_members, change_members, told_data, notice_data}
use Rattle.ocm_records.proofs.ReadBack.{offer_back}
use Rattle.ocm_records.proofs.NoticesBack.{notice_back}
use Rattle.ocm_law_posts.specs.Letters.{user_if, notice_texts, texts}
use Rattle.ocm_law_posts.specs.Posts.{LettersAreReadBack}
use Rattle.ocm_law_posts.proofs.Spelled.{text-short, text-read}
use Rattle.ocm_law_posts.proofs.Fitting.{Fits, MembersFit, text-few, string-fits, literal-fits, object-fits, nothing-fits, member-fits, roomy, roomy-members, perms-fit, address-fits, address_if-fits, perms_if-fit}

-- ---- offers

access-fits : (secret : List ℕ) (perms : Rights) → IsUtf8 secret → length secret ≤ 255 → Fits (access_data secret perms) 2000
access-fits secret perms utf8 few =
    roomy 2000 (lit≤ tt)
    (object-fits
    (member-fits (codes "permissions") refl (perms-fit perms)
    (member-fits (codes "sharedSecret") refl (string-fits 255 utf8 few)
    (member-fits (codes "uri") refl (literal-fits (codes "/dav/") refl) nothing-fits))))

protocol-fits : (secret : List ℕ) (perms : Rights) → IsUtf8 secret → length secret ≤ 255 → Fits (protocol_data secret perms) 2200
protocol-fits secret perms utf8 few =
    roomy 2200 (lit≤ tt)
    (object-fits
    (member-fits (codes "name") refl (literal-fits (codes "multi") refl)
    (member-fits (codes "webdav") refl (access-fits secret perms utf8 few) nothing-fits)))

later-fits : (o : Offer) → IsOffer o → IsUtf8 o.with.user → IsUtf8 o.sender.user → MembersFit (later_members o) 4200
later-fits o sound with sender =
    roomy-members 4200 (lit≤ tt)
    (member-fits (codes "resourceType") refl (literal-fits (codes "file") refl)
    (member-fits (codes "sender") refl (address-fits o.sender sound.sender sender)
    (member-fits (codes "shareType") refl (literal-fits (codes "user") refl)
    (member-fits (codes "shareWith") refl (address-fits o.with sound.with with) nothing-fits))))

offer-fits : (o : Offer) → IsOffer o → AllByRecursion IsUtf8 (texts (letters.Offer o)) → Fits (offer_data o) 65536
offer-fits o sound utf8 =
    roomy 65536 (lit≤ tt)
    (object-fits
    (member-fits (codes "name") refl (string-fits 1024 utf8.0 (text-few 1024 None o.name sound.name))
    (member-fits (codes "owner") refl (address-fits o.owner sound.owner utf8.1.1.1.1.0)
    (member-fits (codes "protocol") refl (protocol-fits o.secret o.perms utf8.1.1.0 (text-few 255 (Some 58) o.secret sound.secret))
    (member-fits (codes "providerId") refl (string-fits 255 utf8.1.0 (text-few 255 None o.id sound.id))
    (later-fits o sound utf8.1.1.1.0 utf8.1.1.1.1.1.0))))))

-- texts go in as they stand
texts-same : (ws : List (List ℕ)) → of_items (items_outline (items_of (map string ws))) ≡ Some (items_of (map string ws))
texts-same [] = refl
texts-same (w ∷ ws) = rw (texts-same ws) refl

offer-same : (o : Offer) → of_json (outline (offer_data o)) ≡ Some (offer_data o)
offer-same o = rw (texts-same (words_of o.perms)) refl

-- ---- notifications

secret-fits : (secret : List ℕ) → IsUtf8 secret → length secret ≤ 255 → MembersFit (secret_member secret) 1700
secret-fits secret utf8 few = roomy-members 1700 (lit≤ tt) (member-fits (codes "sharedSecret") refl (string-fits 255 utf8 few) nothing-fits)

told-fits : (event id : List ℕ) (inner : Members) → are_ascii event ≡ true → length event ≤ 32 → IsUtf8 id → length id ≤ 255 → MembersFit inner 8000
    → Fits (told_data event id (object inner)) 65536
told-fits event id inner ascii short utf8 few rest =
    roomy 65536 (lit≤ tt)
    (object-fits
    (member-fits (codes "notification") refl (object-fits rest)
    (member-fits (codes "notificationType") refl (string-fits 32 (IsUtf8-are_ascii event ascii) short)
    (member-fits (codes "providerId") refl (string-fits 255 utf8 few)
    (member-fits (codes "resourceType") refl (literal-fits (codes "file") refl) nothing-fits)))))

secret-told : (secret : List ℕ) → IsUtf8 secret → length secret ≤ 255 → MembersFit (secret_member secret) 8000
secret-told secret utf8 few = roomy-members 8000 (lit≤ tt) (secret-fits secret utf8 few)

id-few : (id secret : List ℕ) → HasMarks id secret → length id ≤ 255
id-few id secret marks = text-few 255 None id marks.has_id

secret-few : (id secret : List ℕ) → HasMarks id secret → length secret ≤ 255
secret-few id secret marks = text-few 255 (Some 58) secret marks.has_secret

-- texts of two lists
left-utf8 : (xs ys : List (List ℕ)) → AllByRecursion IsUtf8 (xs ++ ys) → AllByRecursion IsUtf8 xs
left-utf8 [] ys h = tt
left-utf8 (x ∷ xs) ys h = (h.0, left-utf8 xs ys h.1)

right-utf8 : (xs ys : List (List ℕ)) → AllByRecursion IsUtf8 (xs ++ ys) → AllByRecursion IsUtf8 ys
right-utf8 [] ys h = h
right-utf8 (x ∷ xs) ys h = right-utf8 xs ys h.1

accepted-fits : (secret : List ℕ) (owner with : Option Address) (perms : Option Rights) → IsUtf8 secret → length secret ≤ 255 → AddressIf owner → AddressIf with → AllByRecursion IsUtf8 (user_if owner ++ user_if with)
    → MembersFit (accepted_members secret owner with perms) 8000
accepted-fits secret owner with perms utf8 few a b users =
    roomy-members 8000 (lit≤ tt)
    (address_if-fits (codes "owner") owner refl a (left-utf8 (user_if owner) (user_if with) users)
    (perms_if-fit (codes "permissions") perms refl
    (address_if-fits (codes "shareWith") with refl b (right-utf8 (user_if owner) (user_if with) users) (secret-fits secret utf8 few))))

request-fits : (secret : List ℕ) (with : Address) (sender_id : List ℕ) (perms : Option Rights) → IsUtf8 secret → length secret ≤ 255 → ReadsAsItself with → IsUtf8 with.user → IsUtf8 sender_id → length sender_id ≤ 64
    → MembersFit (request_members secret with sender_id perms) 8000
request-fits secret with sender_id perms utf8 few a user id short =
    roomy-members 8000 (lit≤ tt)
    (perms_if-fit (codes "permissions") perms refl
    (member-fits (codes "senderId") refl (string-fits 64 id short)
    (member-fits (codes "shareWith") refl (address-fits with a user) (secret-fits secret utf8 few))))

serial-fits : (serial : ℕ) → nat_le serial 4294967295 ≡ true → Fits (number (unsigned serial)) 20
serial-fits serial low = record { spelled = omega (arith, leb-true serial 4294967295 low); few = lit≤ tt }

change-fits : (secret : List ℕ) (serial : ℕ) (perms : Rights) → IsUtf8 secret → length secret ≤ 255 → nat_le serial 4294967295 ≡ true → MembersFit (change_members secret serial perms) 8000
change-fits secret serial perms utf8 few low =
    roomy-members 8000 (lit≤ tt)
    (member-fits (codes "permissions") refl (perms-fit perms)
    (member-fits (codes "serial") refl (serial-fits serial low) (secret-fits secret utf8 few)))

notice-fits : (n : Notice) → IsNotice n → AllByRecursion IsUtf8 (notice_texts n) → Fits (notice_data n) 65536
notice-fits (notices.Accepted id secret owner with perms) sound utf8 =
    told-fits (codes "SHARE_ACCEPTED") id _ refl (lit≤ tt) utf8.0 (id-few id secret sound.0) (accepted-fits secret owner with perms utf8.1.0 (secret-few id secret sound.0) sound.1 sound.2 utf8.1.1)
notice-fits (notices.Declined id secret) sound utf8 = told-fits (codes "SHARE_DECLINED") id _ refl (lit≤ tt) utf8.0 (id-few id secret sound) (secret-told secret utf8.1.0 (secret-few id secret sound))
notice-fits (notices.Unshared id secret) sound utf8 = told-fits (codes "SHARE_UNSHARED") id _ refl (lit≤ tt) utf8.0 (id-few id secret sound) (secret-told secret utf8.1.0 (secret-few id secret sound))
notice-fits (notices.ReshareRequest id secret with sender_id perms) sound utf8 =
    told-fits (codes "REQUEST_RESHARE") id _ refl (lit≤ tt) utf8.0 (id-few id secret sound.0)
    (request-fits secret with sender_id perms utf8.1.0 (secret-few id secret sound.0) sound.1 utf8.1.1.0 utf8.1.1.1.0 (text-few 64 None sender_id sound.2))
notice-fits (notices.ReshareUndo id secret) sound utf8 = told-fits (codes "RESHARE_UNDO") id _ refl (lit≤ tt) utf8.0 (id-few id secret sound) (secret-told secret utf8.1.0 (secret-few id secret sound))
notice-fits (notices.Changed id secret serial perms) sound utf8 =
    told-fits (codes "RESHARE_CHANGE_PERMISSION") id _ refl (lit≤ tt) utf8.0 (id-few id secret sound.0) (change-fits secret serial perms utf8.1.0 (secret-few id secret sound.0) sound.1)

accepted-same : (id secret : List ℕ) (owner with : Option Address) (perms : Option Rights)
    → of_json (outline (notice_data (notices.Accepted id secret owner with perms))) ≡ Some (notice_data (notices.Accepted id secret owner with perms))
accepted-same id secret None None None = refl
accepted-same id secret None (Some with) None = refl
accepted-same id secret (Some owner) None None = refl
accepted-same id secret (Some owner) (Some with) None = refl
accepted-same id secret None None (Some perms) = rw (texts-same (words_of perms)) refl
accepted-same id secret None (Some with) (Some perms) = rw (texts-same (words_of perms)) refl
accepted-same id secret (Some owner) None (Some perms) = rw (texts-same (words_of perms)) refl
accepted-same id secret (Some owner) (Some with) (Some perms) = rw (texts-same (words_of perms)) refl

request-same : (id secret : List ℕ) (with : Address) (sender_id : List ℕ) (perms : Option Rights)
    → of_json (outline (notice_data (notices.ReshareRequest id secret with sender_id perms))) ≡ Some (notice_data (notices.ReshareRequest id secret with sender_id perms))
request-same id secret with sender_id None = refl
request-same id secret with sender_id (Some perms) = rw (texts-same (words_of perms)) refl

notice-same : (n : Notice) → IsNotice n → of_json (outline (notice_data n)) ≡ Some (notice_data n)
notice-same (notices.Accepted id secret owner with perms) sound = accepted-same id secret owner with perms
notice-same (notices.Declined id secret) sound = refl
notice-same (notices.Unshared id secret) sound = refl
notice-same (notices.ReshareRequest id secret with sender_id perms) sound = request-same id secret with sender_id perms
notice-same (notices.ReshareUndo id secret) sound = refl
notice-same (notices.Changed id secret serial perms) sound = rw (number_of-decimal serial (omega (arith, leb-true serial 4294967295 sound.1)), texts-same (words_of perms)) refl

-- ---- letters

-- a value that fits is read from its own text
pub record Carried (d : Data) : Type 0 where
  pub short : length (compact_text d) ≤ 65536
  pub back : depth d ≤ 127 → json_of (compact_text d) ≡ Some d

pub carried : (d : Data) → Fits d 65536 → of_json (outline d) ≡ Some d → Carried d
carried d h same = record { short = omega (arith, text-short d h.spelled, h.few); back = λ shallow. text-read d h.spelled same shallow }

pub letter-back : LettersAreReadBack
letter-back (letters.Offer o) h =
    let c = carried (offer_data o) (offer-fits o h.parts h.utf8) (offer-same o) in
    (c.short, offer_back (compact_text (offer_data o)) (offer_data o) o refl c.back h.parts)
letter-back (letters.Notice n) h =
    let c = carried (notice_data n) (notice-fits n h.parts h.utf8) (notice-same n h.parts) in
    (c.short, notice_back (compact_text (notice_data n)) (notice_data n) n refl c.back h.parts h.counted)
