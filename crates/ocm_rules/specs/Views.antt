use Rattle.std.specs.Prelude.{ℕ, List, filter, count_by, nat_eq, Bool, true, false, not, ◌&&◌, if◌then◌else◌, Option, Some, None, option_and_then, option_map}
use Rattle.ocm_types.specs.declared.letters.Offer.{Offer}
use Rattle.ocm_types.specs.declared.phases.Phase.{Phase}
use Rattle.ocm_types.specs.declared.phases.RequestPhase.{RequestPhase}
use Rattle.ocm_types.specs.declared.rights.Rights.{Rights}
use Rattle.ocm_types.specs.Rights.{is_any}
use Rattle.ocm_entry.specs.declared.asks.Ask.{Ask}
use Rattle.ocm_entry.specs.declared.asks.Ask.TheVariants.{Local}
use Rattle.ocm_entry.specs.declared.asks.Cmd.TheVariants as commands
use Rattle.ocm_entry.specs.declared.entries.Entry.{Entry}
use Rattle.ocm_entry.specs.declared.rows.User.{User}
use Rattle.ocm_entry.specs.declared.rows.Share.{Share}
use Rattle.ocm_entry.specs.declared.rows.Place.{Place}
use Rattle.ocm_entry.specs.declared.rows.Standing.{Standing}
use Rattle.ocm_entry.specs.declared.rows.Node.{Node}
use Rattle.ocm_entry.specs.declared.rows.Grant.{Grant}
use Rattle.ocm_rules.specs.declared.rows.Message.{Message}
use Rattle.ocm_rules.specs.Equal.{same_rights}
use Rattle.ocm_rules.specs.Numbers.{same_text, at_number, numbers}
use Rattle.ocm_rules.specs.Users.{users, name_of}
use Rattle.ocm_rules.specs.Shares.{moment, goes_on, is_live_among, effective_among, perms_among, made}
use Rattle.ocm_rules.specs.Holders.{holder_among, grant_of}
use Rattle.ocm_rules.specs.Files.{at, nodes}
use Rattle.ocm_rules.specs.Settlements.{is_settled}
use Rattle.ocm_rules.specs.Offers.{offers, phase_among, Told, told}
use Rattle.ocm_rules.specs.Requests.{Reshare, requests, state_among}

-- whether an ask is a command to limit a share
abbrev pub is_limit : Ask → Bool
is_limit (Local key (commands.Limit id perms)) = true
is_limit _ = false

-- how many of the kept entries limited a share
abbrev pub limits : List Entry → ℕ
limits g = count_by (λ (e : Entry). is_limit e.ask) g

-- all that is read of a history: the users, the shares, which of them go on and with which permissions, the files, the received offers, the requests, the messages
pub record View : Type 0 where
  pub host : List ℕ
  pub moment : ℕ
  pub users : List User
  pub shares : List Share
  pub goes_on : ℕ → Bool
  pub perms : ℕ → Rights
  pub limits : ℕ
  pub stands : Place → Option Standing
  pub nodes : List Node
  pub offers : List Offer
  pub phase : ℕ → Phase
  pub told : ℕ → Told
  pub requests : List Reshare
  pub state : ℕ → RequestPhase
  pub messages : List Message
  pub is_settled : ℕ → Bool

-- what is read of a list of kept entries, where these messages were sent
abbrev pub view_with : List ℕ → List Entry → List Message → View
view_with host g messages = record {
  host = host;
  moment = moment g;
  users = users g;
  shares = made host g;
  goes_on = goes_on g;
  perms = perms_among (made host g) g;
  limits = limits g;
  stands = at host g;
  nodes = nodes host g;
  offers = offers g;
  phase = phase_among messages g;
  told = told g;
  requests = requests g;
  state = state_among messages g;
  messages = messages;
  is_settled = is_settled g;
}

-- ---- what follows from it

-- whether a share is live
abbrev pub is_live_in : View → ℕ → Bool
is_live_in v i = is_live_among v.shares v.goes_on i

-- what a share lets its guest do
abbrev pub effective_in : View → ℕ → Rights
effective_in v i = effective_among v.shares v.perms i

-- what the holder of a secret may do
abbrev pub grant_in : View → List ℕ → Option Grant
grant_in v secret = grant_of (is_live_in v) (effective_in v) (holder_among v.users v.shares secret)

-- whether a share would be live, were this one closed
abbrev pub is_live_without : View → ℕ → ℕ → Bool
is_live_without v closed i = is_live_among v.shares (λ link. v.goes_on link && not (nat_eq link closed)) i

-- the shares that are live, and would not be were this one closed, ascending
abbrev pub cut_by : View → ℕ → List ℕ
cut_by v closed = filter (λ i. is_live_in v i && not (is_live_without v closed i)) (numbers v.shares)

-- what a share would let its guest do, were this one limited to these permissions
abbrev pub effective_with : View → ℕ → Rights → ℕ → Rights
effective_with v limited perms i = effective_among v.shares (λ link. if nat_eq link limited then perms else v.perms link) i

-- whether the guest of this share is told, were that one limited to these permissions: the share is live, and its guest may do something afterwards, and something else than before
abbrev pub is_told : View → ℕ → Rights → ℕ → Bool
is_told v limited perms i =
    is_live_in v i && is_any (effective_with v limited perms i) && not (same_rights (effective_with v limited perms i) (effective_in v i))

-- the shares whose guests are told, were this one limited to these permissions, ascending
abbrev pub told_by_limit : View → ℕ → Rights → List ℕ
told_by_limit v limited perms = filter (is_told v limited perms) (numbers v.shares)

-- the share of this number, where its owner is this user
abbrev pub share_of_owner : View → ℕ → ℕ → Option Share
share_of_owner v user id = option_and_then (λ (share : Share). if nat_eq share.owner user then Some share else None) (at_number v.shares id)

-- whether a received offer is for this user
abbrev pub is_for : View → ℕ → Offer → Bool
is_for v user offer = same_text offer.with.user (name_of v.users user)

-- the record of this number, where it is for this user
abbrev pub record_of_user : View → ℕ → ℕ → Option Offer
record_of_user v user number = option_and_then (λ (offer : Offer). if is_for v user offer then Some offer else None) (at_number v.offers number)

-- the request of this number, where its record is for this user
abbrev pub request_of_user : View → ℕ → ℕ → Option Reshare
request_of_user v user r =
    option_and_then (λ (request : Reshare). option_map (λ offer. request) (record_of_user v user request.received)) (at_number v.requests r)
