use Rattle.std.specs.Prelude.{ℕ, List, codes}
use Rattle.ocm_entry.specs.declared.refusals.Why.{Why}
use Rattle.ocm_entry.specs.declared.refusals.Why.TheVariants.{Unauthorized, NotPermitted, RootStays, UnknownShare, ShareClosed, NotFound, NotAllowed, ParentMissing, WrongPhase, UserExists, Collision, BodyRefused, Limit, SenderIdReused, NotOurHost, UnknownUser, OwnHost, SamePlace, Occupied}

-- the status of a refusal, after RFC 9110 section 15 and RFC 4918 section 11
abbrev pub status_of : Why → ℕ
status_of Unauthorized = 401
status_of NotPermitted = 403
status_of RootStays = 403
status_of UnknownShare = 403
status_of ShareClosed = 403
status_of NotFound = 404
status_of NotAllowed = 405
status_of ParentMissing = 409
status_of WrongPhase = 409
status_of UserExists = 409
status_of Collision = 409
status_of BodyRefused = 415
status_of (Limit which) = 507
status_of SenderIdReused = 400
status_of NotOurHost = 400
status_of UnknownUser = 400
status_of (OwnHost field) = 400
status_of SamePlace = 403
status_of Occupied = 412

-- the words of a refusal
abbrev pub message_of : Why → List ℕ
message_of Unauthorized = codes "unauthorized"
message_of NotPermitted = codes "not permitted"
message_of RootStays = codes "root stays"
message_of UnknownShare = codes "unknown share"
message_of ShareClosed = codes "share closed"
message_of NotFound = codes "not found"
message_of NotAllowed = codes "not allowed"
message_of ParentMissing = codes "parent missing"
message_of WrongPhase = codes "wrong phase"
message_of UserExists = codes "user exists"
message_of Collision = codes "collision"
message_of BodyRefused = codes "body refused"
message_of (Limit which) = codes "limit reached"
message_of SenderIdReused = codes "senderId reused"
message_of NotOurHost = codes "not our host"
message_of UnknownUser = codes "unknown user"
message_of (OwnHost field) = codes "own host"
message_of SamePlace = codes "same place"
message_of Occupied = codes "occupied"
