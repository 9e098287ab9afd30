use Rattle.std.specs.Prelude.{◌≡◌, ℕ, true, Some}
use Rattle.ocm_entry.specs.declared.rows.Share.{Share}
use Rattle.ocm_entry.specs.declared.rows.Request.{Request}
use Rattle.ocm_incoming.specs.declared.rows.Record.{Record}
use Rattle.ocm_rules.specs.Numbers.{at_number}
use Rattle.ocm_rules.specs.Views.{is_live_in, record_of_user, request_of_user, share_of_owner}
use Rattle.ocm_rules.specs.State.{State, asked_in, view_in}
use Rattle.ocm_tables.specs.Changes.{IsRecord, IsRequest, IsShare}

-- the share of this number is this, belongs to this user, and is live
pub record IsLiveShare (st : State) (user id : ℕ) (share : Share) : Type 0 where
  pub owned : share_of_owner (view_in st) user id ≡ Some share
  pub live : is_live_in (view_in st) id ≡ true
  pub found : at_number (view_in st).shares id ≡ Some share
  pub there : IsShare st id

-- the received offer of this number is this, and is for this user
pub record IsOwnRecord (st : State) (user number : ℕ) (received : Record) : Type 0 where
  pub owned : record_of_user (view_in st) user number ≡ Some received.offer
  pub found : at_number (view_in st).offers number ≡ Some received.offer
  pub phase : (view_in st).phase number ≡ received.phase
  pub there : IsRecord st number

-- the request of this number is this, and is about this received offer of this user
pub record IsOwnRequest (st : State) (user r : ℕ) (request : Request) (received : Record) : Type 0 where
  pub owned : request_of_user (view_in st) user r ≡ Some (asked_in request)
  pub found : at_number (view_in st).requests r ≡ Some (asked_in request)
  pub offer : at_number (view_in st).offers request.received ≡ Some received.offer
  pub state : (view_in st).state r ≡ request.state
  pub there : IsRequest st r
