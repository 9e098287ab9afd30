-- Notifications that are written read as themselves.
use Rattle.std.proofs.Common.{◌≡◌, ◌≤◌, ℕ, true, nat_le, List, Option, Some, None, Ok, refl, ◌∙◌, arith, lit≤, subst}
use Rattle.serde_json.specs.Data.{Data, depth, members_depth}
use Rattle.ocm_json.specs.Json.{json_of, object_in}
use Rattle.ocm_types.specs.Texts.{is_sender_id}
use Rattle.ocm_types.specs.Rights.{is_any, words_of}
use Rattle.ocm_types.specs.declared.addresses.Address.{Address}
use Rattle.ocm_types.specs.declared.rights.Rights.{Rights}
use Rattle.ocm_types.specs.declared.letters.Notice.{Notice}
use Rattle.ocm_types.specs.declared.letters.Notice.TheVariants as notices
use Rattle.ocm_records.specs.Rows.{record_of}
use Rattle.ocm_records.specs.Notices.{notice, accepted, reshare_request, changed}
use Rattle.ocm_records.specs.Sound.{ReadsAsItself, HasMarks, IsNotice, AddressIf, PermsIf, is_numbered}
use Rattle.ocm_records.specs.Written.{notice_data, accepted_members, request_members}
use Rattle.ocm_records.proofs.ReadBack.{fits, texts_again, granted_again, record_again}
use Rattle.ocm_records.proofs.WrittenLaws.{words_depth}

-- a request
request_again : (id secret : List ℕ) (with : Address) (sender_id : List ℕ) (perms : Option Rights) → HasMarks id secret → ReadsAsItself with → is_sender_id sender_id ≡ true → PermsIf perms
    → notice (notice_data (notices.ReshareRequest id secret with sender_id perms)) ≡ Ok (notices.ReshareRequest id secret with sender_id perms)
unfolding notice reshare_request
request_again id secret with sender_id None m a s c =
    rw
    (fits 255 None id m.has_id (lit≤ tt), m.has_id, fits 255 (Some 58) secret m.has_secret (lit≤ tt), m.has_secret, a.fits, a.read, fits 64 None sender_id s (lit≤ tt), s)
    refl
request_again id secret with sender_id (Some perms) m a s c =
    rw
    (fits 255 None id m.has_id (lit≤ tt), m.has_id, fits 255 (Some 58) secret m.has_secret (lit≤ tt), m.has_secret, a.fits, a.read, fits 64 None sender_id s (lit≤ tt), s, texts_again (words_of perms), granted_again perms.read perms.write perms.share c)
    refl

-- a change
change_again : (id secret : List ℕ) (serial : ℕ) (perms : Rights) → HasMarks id secret → nat_le 1 serial ≡ true → nat_le serial 4294967295 ≡ true → is_any perms ≡ true
    → notice (notice_data (notices.Changed id secret serial perms)) ≡ Ok (notices.Changed id secret serial perms)
unfolding notice changed
change_again id secret serial perms m low high c =
    rw
    (fits 255 None id m.has_id (lit≤ tt), m.has_id, fits 255 (Some 58) secret m.has_secret (lit≤ tt), m.has_secret, low, high, texts_again (words_of perms), granted_again perms.read perms.write perms.share c)
    refl

-- how a recipient understood an offer
accepted_again : (id secret : List ℕ) (owner with : Option Address) (perms : Option Rights) → HasMarks id secret → AddressIf owner → AddressIf with → PermsIf perms
    → notice (notice_data (notices.Accepted id secret owner with perms)) ≡ Ok (notices.Accepted id secret owner with perms)
unfolding notice accepted
accepted_again id secret None None None m a b c =
    rw
    (fits 255 None id m.has_id (lit≤ tt), m.has_id, fits 255 (Some 58) secret m.has_secret (lit≤ tt), m.has_secret)
    refl
accepted_again id secret None None (Some perms) m a b c =
    rw
    (fits 255 None id m.has_id (lit≤ tt), m.has_id, fits 255 (Some 58) secret m.has_secret (lit≤ tt), m.has_secret, texts_again (words_of perms), granted_again perms.read perms.write perms.share c)
    refl
accepted_again id secret None (Some with) None m a b c =
    rw
    (fits 255 None id m.has_id (lit≤ tt), m.has_id, fits 255 (Some 58) secret m.has_secret (lit≤ tt), m.has_secret, b.fits, b.read)
    refl
accepted_again id secret None (Some with) (Some perms) m a b c =
    rw
    (fits 255 None id m.has_id (lit≤ tt), m.has_id, fits 255 (Some 58) secret m.has_secret (lit≤ tt), m.has_secret, b.fits, b.read, texts_again (words_of perms), granted_again perms.read perms.write perms.share c)
    refl
accepted_again id secret (Some owner) None None m a b c =
    rw
    (fits 255 None id m.has_id (lit≤ tt), m.has_id, fits 255 (Some 58) secret m.has_secret (lit≤ tt), m.has_secret, a.fits, a.read)
    refl
accepted_again id secret (Some owner) None (Some perms) m a b c =
    rw
    (fits 255 None id m.has_id (lit≤ tt), m.has_id, fits 255 (Some 58) secret m.has_secret (lit≤ tt), m.has_secret, a.fits, a.read, texts_again (words_of perms), granted_again perms.read perms.write perms.share c)
    refl
accepted_again id secret (Some owner) (Some with) None m a b c =
    rw
    (fits 255 None id m.has_id (lit≤ tt), m.has_id, fits 255 (Some 58) secret m.has_secret (lit≤ tt), m.has_secret, a.fits, a.read, b.fits, b.read)
    refl
accepted_again id secret (Some owner) (Some with) (Some perms) m a b c =
    rw
    (fits 255 None id m.has_id (lit≤ tt), m.has_id, fits 255 (Some 58) secret m.has_secret (lit≤ tt), m.has_secret, a.fits, a.read, b.fits, b.read, texts_again (words_of perms), granted_again perms.read perms.write perms.share c)
    refl

-- a notification, written and read, is the same notification
pub notice_again : (n : Notice) → IsNotice n → is_numbered n ≡ true → notice (notice_data n) ≡ Ok n
unfolding notice
notice_again (notices.Accepted id secret owner with perms) sound numbered = accepted_again id secret owner with perms sound.0 sound.1 sound.2 sound.3
notice_again (notices.Declined id secret) sound numbered = rw (fits 255 None id sound.has_id (lit≤ tt), sound.has_id, fits 255 (Some 58) secret sound.has_secret (lit≤ tt), sound.has_secret) refl
notice_again (notices.Unshared id secret) sound numbered = rw (fits 255 None id sound.has_id (lit≤ tt), sound.has_id, fits 255 (Some 58) secret sound.has_secret (lit≤ tt), sound.has_secret) refl
notice_again (notices.ReshareRequest id secret with sender_id perms) sound numbered = request_again id secret with sender_id perms sound.0 sound.1 sound.2 sound.3
notice_again (notices.ReshareUndo id secret) sound numbered = rw (fits 255 None id sound.has_id (lit≤ tt), sound.has_id, fits 255 (Some 58) secret sound.has_secret (lit≤ tt), sound.has_secret) refl
notice_again (notices.Changed id secret serial perms) sound numbered = change_again id secret serial perms sound.0 numbered sound.1 sound.2

-- a notification nests a few levels deep
accepted_depth : (secret : List ℕ) (owner with : Option Address) (perms : Option Rights) → members_depth (accepted_members secret owner with perms) ≤ 1
accepted_depth secret None None None = lit≤ tt
accepted_depth secret None (Some with) None = lit≤ tt
accepted_depth secret (Some owner) None None = lit≤ tt
accepted_depth secret (Some owner) (Some with) None = lit≤ tt
accepted_depth secret None None (Some perms) = rw (words_depth perms.read perms.write perms.share) (lit≤ tt)
accepted_depth secret None (Some with) (Some perms) = rw (words_depth perms.read perms.write perms.share) (lit≤ tt)
accepted_depth secret (Some owner) None (Some perms) = rw (words_depth perms.read perms.write perms.share) (lit≤ tt)
accepted_depth secret (Some owner) (Some with) (Some perms) = rw (words_depth perms.read perms.write perms.share) (lit≤ tt)

request_depth : (secret : List ℕ) (with : Address) (sender_id : List ℕ) (perms : Option Rights) → members_depth (request_members secret with sender_id perms) ≤ 1
request_depth secret with sender_id None = lit≤ tt
request_depth secret with sender_id (Some perms) = rw (words_depth perms.read perms.write perms.share) (lit≤ tt)

notice_depth : (n : Notice) → depth (notice_data n) ≤ 127
notice_depth (notices.Accepted id secret owner with perms) = let few : members_depth (accepted_members secret owner with perms) ≤ 1 = accepted_depth secret owner with perms in omega (arith, few)
notice_depth (notices.Declined id secret) = lit≤ tt
notice_depth (notices.Unshared id secret) = lit≤ tt
notice_depth (notices.ReshareRequest id secret with sender_id perms) = let few : members_depth (request_members secret with sender_id perms) ≤ 1 = request_depth secret with sender_id perms in omega (arith, few)
notice_depth (notices.ReshareUndo id secret) = lit≤ tt
notice_depth (notices.Changed id secret serial perms) = rw (words_depth perms.read perms.write perms.share) (lit≤ tt)

object_again : (n : Notice) → object_in (notice_data n) ≡ Some (notice_data n)
object_again (notices.Accepted id secret owner with perms) = refl
object_again (notices.Declined id secret) = refl
object_again (notices.Unshared id secret) = refl
object_again (notices.ReshareRequest id secret with sender_id perms) = refl
object_again (notices.ReshareUndo id secret) = refl
object_again (notices.Changed id secret serial perms) = refl

-- the bytes of a notification are read as that notification
pub notice_back : (bytes : List ℕ) (value : Data) (n : Notice) → value ≡ notice_data n → (depth value ≤ 127 → json_of bytes ≡ Some value) → IsNotice n → is_numbered n ≡ true → record_of notice bytes ≡ Ok n
notice_back bytes value n is again sound numbered =
    let P : Data → Type 0 = λ x. depth x ≤ 127 → json_of bytes ≡ Some x in
    record_again notice bytes (notice_data n) (subst P is again (notice_depth n)) (object_again n) ∙ notice_again n sound numbered
