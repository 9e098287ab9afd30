-- Error bodies that can be written, and the statuses of refusals.
use Rattle.std.proofs.Common.{ℕ, ◌≤◌, ◌<◌, ◌^◌, List, ◌++◌, length, IsTrue, IsSome, decimal, refl, arith, length-append, lit≤, lit<}
use Rattle.std.proofs.lemmas.Bool.{and_from, le-leb}
use Rattle.std.proofs.lemmas.Fmt.{length-decimal-le}
use Rattle.http.specs.StatusCode.{reason_phrase}
use Rattle.ocm_types.specs.Texts.{has_length}
use Rattle.ocm_entry.specs.declared.refusals.AddressField.TheVariants as addresses
use Rattle.ocm_entry.specs.declared.refusals.Why.{Why}
use Rattle.ocm_entry.specs.declared.refusals.Why.TheVariants.{Unauthorized, NotPermitted, RootStays, UnknownShare, ShareClosed, NotFound, NotAllowed, ParentMissing, WrongPhase, UserExists, Collision, BodyRefused, Limit, SenderIdReused, NotOurHost, UnknownUser, OwnHost, SamePlace, Occupied}
use Rattle.ocm_entry.specs.Refusals.{status_of}
use Rattle.ocm_records.specs.Documents.{is_error}
use Rattle.ocm_records.specs.Fields.{name_of}
use Rattle.ocm_records.specs.declared.faults.Field.{Field}
use Rattle.ocm_records.specs.declared.faults.Field.TheVariants as fields
use Rattle.ocm_dav_pages.specs.Errors.{plain, noted, refusal}

-- a short message
pub plain_is_error : (message : List ℕ) → length message ≤ 1024 → IsTrue (is_error (plain message))
plain_is_error message short = and_from _ _ (and_from _ _ (le-leb 0 (length message) (omega arith)) (le-leb (length message) 1024 short)) refl

-- some words and a number behind them
pub count_short : (words : List ℕ) (n : ℕ) → length words ≤ 64 → n < 2 ^ 64 → length (words ++ decimal n) ≤ 1024
count_short words n short fits =
    let digits = length-decimal-le 20 n (omega arith) (omega arith) fits in
    simp length-append (omega arith)

-- a short reason and a short name
pub noted_is_error : (reason name : List ℕ) → IsTrue (has_length 0 1024 reason) → IsTrue (has_length 0 1024 name) → IsTrue (is_error (noted reason name))
noted_is_error reason name short fits = and_from _ _ refl (and_from _ _ (and_from _ _ short fits) refl)

-- the name of each field is short
pub name_fits : (field : Field) → IsTrue (has_length 0 1024 (name_of field))
name_fits fields.ShareWith = refl
name_fits fields.Name = refl
name_fits fields.ProviderId = refl
name_fits fields.Owner = refl
name_fits fields.Sender = refl
name_fits fields.ShareType = refl
name_fits fields.ResourceType = refl
name_fits fields.Protocol = refl
name_fits fields.Options = refl
name_fits fields.Webdav = refl
name_fits fields.SharedSecret = refl
name_fits fields.Permissions = refl
name_fits fields.NotificationType = refl
name_fits fields.Notification = refl
name_fits fields.SenderId = refl
name_fits fields.Serial = refl
name_fits fields.Enabled = refl
name_fits fields.ApiVersion = refl
name_fits fields.EndPoint = refl
name_fits fields.ResourceTypes = refl
name_fits fields.Protocols = refl
name_fits fields.Message = refl
name_fits fields.ValidationErrors = refl
name_fits fields.Command = refl
name_fits fields.Path = refl
name_fits fields.With = refl
name_fits fields.Number = refl
name_fits fields.Until = refl

-- what is told of each refusal can be written
pub refusal_is_error : (why : Why) → IsTrue (is_error (refusal why))
refusal_is_error Unauthorized = refl
refusal_is_error NotPermitted = refl
refusal_is_error RootStays = refl
refusal_is_error UnknownShare = refl
refusal_is_error ShareClosed = refl
refusal_is_error NotFound = refl
refusal_is_error NotAllowed = refl
refusal_is_error ParentMissing = refl
refusal_is_error WrongPhase = refl
refusal_is_error UserExists = refl
refusal_is_error Collision = refl
refusal_is_error BodyRefused = refl
refusal_is_error (Limit which) = refl
refusal_is_error SenderIdReused = refl
refusal_is_error NotOurHost = refl
refusal_is_error UnknownUser = refl
refusal_is_error (OwnHost addresses.ShareWith) = refl
refusal_is_error (OwnHost addresses.Owner) = refl
refusal_is_error SamePlace = refl
refusal_is_error Occupied = refl

-- the status of each has three digits, and a phrase
pub refusal_low : (why : Why) → 100 ≤ status_of why
refusal_low Unauthorized = lit≤ tt
refusal_low NotPermitted = lit≤ tt
refusal_low RootStays = lit≤ tt
refusal_low UnknownShare = lit≤ tt
refusal_low ShareClosed = lit≤ tt
refusal_low NotFound = lit≤ tt
refusal_low NotAllowed = lit≤ tt
refusal_low ParentMissing = lit≤ tt
refusal_low WrongPhase = lit≤ tt
refusal_low UserExists = lit≤ tt
refusal_low Collision = lit≤ tt
refusal_low BodyRefused = lit≤ tt
refusal_low (Limit which) = lit≤ tt
refusal_low SenderIdReused = lit≤ tt
refusal_low NotOurHost = lit≤ tt
refusal_low UnknownUser = lit≤ tt
refusal_low (OwnHost field) = lit≤ tt
refusal_low SamePlace = lit≤ tt
refusal_low Occupied = lit≤ tt

pub refusal_high : (why : Why) → status_of why < 1000
refusal_high Unauthorized = lit< tt
refusal_high NotPermitted = lit< tt
refusal_high RootStays = lit< tt
refusal_high UnknownShare = lit< tt
refusal_high ShareClosed = lit< tt
refusal_high NotFound = lit< tt
refusal_high NotAllowed = lit< tt
refusal_high ParentMissing = lit< tt
refusal_high WrongPhase = lit< tt
refusal_high UserExists = lit< tt
refusal_high Collision = lit< tt
refusal_high BodyRefused = lit< tt
refusal_high (Limit which) = lit< tt
refusal_high SenderIdReused = lit< tt
refusal_high NotOurHost = lit< tt
refusal_high UnknownUser = lit< tt
refusal_high (OwnHost field) = lit< tt
refusal_high SamePlace = lit< tt
refusal_high Occupied = lit< tt

pub refusal_has_phrase : (why : Why) → IsSome (reason_phrase (status_of why))
refusal_has_phrase Unauthorized = refl
refusal_has_phrase NotPermitted = refl
refusal_has_phrase RootStays = refl
refusal_has_phrase UnknownShare = refl
refusal_has_phrase ShareClosed = refl
refusal_has_phrase NotFound = refl
refusal_has_phrase NotAllowed = refl
refusal_has_phrase ParentMissing = refl
refusal_has_phrase WrongPhase = refl
refusal_has_phrase UserExists = refl
refusal_has_phrase Collision = refl
refusal_has_phrase BodyRefused = refl
refusal_has_phrase (Limit which) = refl
refusal_has_phrase SenderIdReused = refl
refusal_has_phrase NotOurHost = refl
refusal_has_phrase UnknownUser = refl
refusal_has_phrase (OwnHost field) = refl
refusal_has_phrase SamePlace = refl
refusal_has_phrase Occupied = refl

pub ruleset refusals = (refusal_low, refusal_high, refusal_has_phrase, refusal_is_error)
