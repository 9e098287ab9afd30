-- When a request for files is served, and when it is refused.
use Rattle.std.specs.Prelude.{◌≡◌, ℕ, List, [], ◌++◌, true, false, Some}
use Rattle.ocm_entry.specs.declared.entries.Entry.{Entry}
use Rattle.ocm_entry.specs.declared.refusals.Why.TheVariants as why
use Rattle.ocm_entry.specs.declared.replies.Reply.{Reply}
use Rattle.ocm_entry.specs.declared.replies.Reply.TheVariants as replies
use Rattle.ocm_entry.specs.declared.rows.Place.{Place}
use Rattle.ocm_entry.specs.declared.rows.Share.{Share}
use Rattle.ocm_entry.specs.declared.rows.User.{User}
use Rattle.ocm_rules.specs.Numbers.{at_number}
use Rattle.ocm_rules.specs.Users.{users}
use Rattle.ocm_rules.specs.Messages.{view_of}
use Rattle.ocm_rules.specs.Answers.{refused}
use Rattle.ocm_rules.specs.History.{kept}
use Rattle.ocm_law_sessions.specs.Sessions.{IsToldReply, fault_in, fits, would_change}
use Rattle.ocm_law_served.specs.Requests.{FileRequest, ask_with, table_reply}
use Rattle.ocm_law_served.specs.Links.{IsOpenChain, all_grant}

-- a secret is the key of the user of this number
abbrev pub IsKeyOf : List Entry → List ℕ → ℕ → Type 0
IsKeyOf g secret user = (u : User) × (at_number (users g) user ≡ Some u) × (u.key ≡ secret)

-- a user's own `/`, and the `/` of a share's guest
abbrev pub root_of_user : ℕ → Place
root_of_user user = record { user = user; path = [] }

abbrev pub root_of_guest : Share → Place
root_of_guest m = record { user = m.owner; path = m.root }

-- Who may use a secret after these kept entries, with which `/`: the user whose key it is; or the guest of the share that it
-- names, where every link from that share up to its owner is open.
pub data IsHeld (host : List ℕ) (g : List Entry) (secret : List ℕ) (root : Place) : Type 0 where
  ByUser : (user : ℕ) → IsKeyOf g secret user → root ≡ root_of_user user → IsHeld host g secret root
  ByGuest : (i : ℕ) (m : Share) (chain : List ℕ) → m.secret ≡ secret → root ≡ root_of_guest m → IsOpenChain host g i m chain
      → IsHeld host g secret root

-- A secret grants a request to who has this `/`: it is a user's key; or every link from the share that it names up to the
-- owner is open, and grants the request.
pub data IsGranted (host : List ℕ) (g : List Entry) (secret : List ℕ) (request : FileRequest) (root : Place) : Type 0 where
  ToUser : (user : ℕ) → IsKeyOf g secret user → root ≡ root_of_user user → IsGranted host g secret request root
  ToGuest : (i : ℕ) (m : Share) (chain : List ℕ) → m.secret ≡ secret → root ≡ root_of_guest m → IsOpenChain host g i m chain
      → all_grant host g request chain ≡ true → IsGranted host g secret request root

-- every link from the share that a secret names up to the owner is open, but not each of them grants the request
pub data IsShort (host : List ℕ) (g : List Entry) (secret : List ℕ) (request : FileRequest) : Type 0 where
  OfRights : (i : ℕ) (m : Share) (chain : List ℕ) → m.secret ≡ secret → IsOpenChain host g i m chain
      → all_grant host g request chain ≡ false → IsShort host g secret request

-- nobody may use a secret: it is no user's key, and names no share of which every link up to the owner is open
abbrev pub IsUnheld : List ℕ → List Entry → List ℕ → Type 0
IsUnheld host g secret = (root : Place) → IsHeld host g secret root → ⊥

-- A request that is granted to who has this `/` is told what its method's own table says; or, where that would change
-- something, what the session says of a change: `stopped` after a disk fault, that the journal is full where the change
-- does not fit, or a disk fault.
abbrev pub IsServed : List ℕ → ℕ → List Entry → List Entry → List ℕ → FileRequest → Place → Reply → Type 0
IsServed host area k h secret request root reply =
    IsToldReply (would_change host (h ++ k) (ask_with secret request)) (fault_in h) (fits host area (h ++ k) (ask_with secret request))
    (table_reply (view_of host (kept host (h ++ k))) root request) reply

-- How a request for files is answered after the calls h of a session that opened to k.
pub data IsAnsweredSo (host : List ℕ) (area : ℕ) (k h : List Entry) (secret : List ℕ) (request : FileRequest) (reply : Reply) : Type 0 where
  Served : (root : Place) → IsGranted host (kept host (h ++ k)) secret request root
      → IsServed host area k h secret request root reply → IsAnsweredSo host area k h secret request reply
  NotPermitted : IsShort host (kept host (h ++ k)) secret request → reply ≡ refused why.NotPermitted
      → IsAnsweredSo host area k h secret request reply
  Unauthorized : IsUnheld host (kept host (h ++ k)) secret → reply ≡ refused why.Unauthorized
      → IsAnsweredSo host area k h secret request reply
  OutOfMemory : reply ≡ replies.NoMemory → IsAnsweredSo host area k h secret request reply
