-- What is written has no float and nests a few levels deep.
use Rattle.std.proofs.Common.{◌≡◌, ℕ, Bool, true, false, List, [], ◌∷◌, ◌++◌, map, codes, Option, Some, None, refl}
use Rattle.serde_json.specs.Data.{Data, Members, string, member, no_members, put, items_depth}
use Rattle.serde_json.specs.View.{items_of}
use Rattle.serde_json.specs.Written.{has_float, items_have_float, members_have_float}
use Rattle.ocm_types.specs.Rights.{word_if}
use Rattle.ocm_types.specs.declared.rights.Rights.{Rights}
use Rattle.ocm_types.specs.declared.addresses.Address.{Address}
use Rattle.ocm_types.specs.declared.letters.Offer.{Offer}
use Rattle.ocm_types.specs.declared.letters.Notice.{Notice}
use Rattle.ocm_types.specs.declared.letters.Notice.TheVariants.{Accepted, Declined, Unshared, ReshareRequest, ReshareUndo, Changed}
use Rattle.ocm_records.specs.declared.values.Discovery.{Discovery}
use Rattle.ocm_records.specs.declared.values.ErrorBody.{ErrorBody}
use Rattle.ocm_records.specs.declared.values.FieldNote.{FieldNote}
use Rattle.ocm_records.specs.Written.{address_data, perms_data, note_data, member_if, data_if, put_if, offer_data, accepted_members, request_members, notice_data, types_data, discovery_data, notes_data, error_data}

words_no_float : (r w s : Bool) → items_have_float (items_of (map string (word_if r (codes "read") ++ word_if w (codes "write") ++ word_if s (codes "share")))) ≡ false
words_no_float true true true = refl
words_no_float true true false = refl
words_no_float true false true = refl
words_no_float true false false = refl
words_no_float false true true = refl
words_no_float false true false = refl
words_no_float false false true = refl
words_no_float false false false = refl

-- permissions are written without a float
pub perms_no_float : (rights : Rights) → has_float (perms_data rights) ≡ false
perms_no_float rights = words_no_float rights.read rights.write rights.share

pub words_depth : (r w s : Bool) → items_depth (items_of (map string (word_if r (codes "read") ++ word_if w (codes "write") ++ word_if s (codes "share")))) ≡ 0
words_depth true true true = refl
words_depth true true false = refl
words_depth true false true = refl
words_depth true false false = refl
words_depth false true true = refl
words_depth false true false = refl
words_depth false false true = refl
words_depth false false false = refl

pub words_in_order : (r w s : Bool) → (([] ++ map string (word_if r (codes "read"))) ++ map string (word_if w (codes "write"))) ++ map string (word_if s (codes "share"))
    ≡ map string (word_if r (codes "read") ++ word_if w (codes "write") ++ word_if s (codes "share"))
words_in_order true true true = refl
words_in_order true true false = refl
words_in_order true false true = refl
words_in_order true false false = refl
words_in_order false true true = refl
words_in_order false true false = refl
words_in_order false false true = refl
words_in_order false false false = refl

-- members that are added from the last key to the first stand in order
pub accepted_in_order : (o p w : Option Data) (s : Data)
    → put_if (codes "owner") o (put_if (codes "permissions") p (put_if (codes "shareWith") w (member (codes "sharedSecret") s no_members)))
    ≡ member_if (codes "owner") o (member_if (codes "permissions") p (member_if (codes "shareWith") w (member (codes "sharedSecret") s no_members)))
accepted_in_order None None None s = refl
accepted_in_order None None (Some w) s = refl
accepted_in_order None (Some p) None s = refl
accepted_in_order None (Some p) (Some w) s = refl
accepted_in_order (Some o) None None s = refl
accepted_in_order (Some o) None (Some w) s = refl
accepted_in_order (Some o) (Some p) None s = refl
accepted_in_order (Some o) (Some p) (Some w) s = refl

-- the same of a request
pub request_in_order : (p : Option Data) (i w s : Data)
    → put_if (codes "permissions") p (put (codes "senderId") i (put (codes "shareWith") w (member (codes "sharedSecret") s no_members)))
    ≡ member_if (codes "permissions") p (member (codes "senderId") i (member (codes "shareWith") w (member (codes "sharedSecret") s no_members)))
request_in_order None i w s = refl
request_in_order (Some p) i w s = refl

-- a member that may be absent has no float where its value has none
member_no_float : (k : List ℕ) (o : Option Rights) (ms : Members) → members_have_float ms ≡ false → members_have_float (member_if k (data_if perms_data o) ms) ≡ false
member_no_float k None ms e = e
member_no_float k (Some rights) ms e = rw (perms_no_float rights) e

address_no_float : (k : List ℕ) (o : Option Address) (ms : Members) → members_have_float ms ≡ false → members_have_float (member_if k (data_if address_data o) ms) ≡ false
address_no_float k None ms e = e
address_no_float k (Some a) ms e = e

-- each record is written without a float
pub offer_no_float : (o : Offer) → has_float (offer_data o) ≡ false
offer_no_float o = rw (perms_no_float o.perms) refl

accepted_no_float : (secret : List ℕ) (owner with : Option Address) (perms : Option Rights) → members_have_float (accepted_members secret owner with perms) ≡ false
accepted_no_float secret owner with perms =
    address_no_float (codes "owner") owner _
    (member_no_float (codes "permissions") perms _
    (address_no_float (codes "shareWith") with _ refl))

request_no_float : (secret : List ℕ) (with : Address) (sender_id : List ℕ) (perms : Option Rights) → members_have_float (request_members secret with sender_id perms) ≡ false
request_no_float secret with sender_id perms = member_no_float (codes "permissions") perms _ refl

pub notice_no_float : (n : Notice) → has_float (notice_data n) ≡ false
notice_no_float (Accepted id secret owner with perms) = rw (accepted_no_float secret owner with perms) refl
notice_no_float (Declined id secret) = refl
notice_no_float (Unshared id secret) = refl
notice_no_float (ReshareRequest id secret with sender_id perms) = rw (request_no_float secret with sender_id perms) refl
notice_no_float (ReshareUndo id secret) = refl
notice_no_float (Changed id secret serial perms) = rw (perms_no_float perms) refl

types_no_float : (webdav : Option (List ℕ)) → has_float (types_data webdav) ≡ false
types_no_float None = refl
types_no_float (Some path) = refl

pub discovery_no_float : (d : Discovery) → has_float (discovery_data d) ≡ false
discovery_no_float d = rw (types_no_float d.webdav) refl

notes_no_float : (ns : List FieldNote) → items_have_float (items_of (map note_data ns)) ≡ false
notes_no_float [] = refl
notes_no_float (n ∷ ns) = notes_no_float ns

noted_no_float : (ns : List FieldNote) → members_have_float (member_if (codes "validationErrors") (notes_data ns) no_members) ≡ false
noted_no_float [] = refl
noted_no_float (n ∷ ns) = rw (notes_no_float ns) refl

pub error_no_float : (e : ErrorBody) → has_float (error_data e) ≡ false
error_no_float e = noted_no_float e.errors
