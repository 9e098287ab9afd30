use Rattle.std.specs.Prelude.{◌≡◌, ◌≤◌, ◌+◌, ◌-◌, ◌*◌, ◌^◌, ℕ, All, List, length, Bool, true, false, ◌&&◌, is_some}
use Rattle.std.specs.Option.{option_map_or}
use Rattle.std.specs.List.{list_all}
use Rattle.ocm_entry.specs.Proper.{is_short}
use Rattle.ocm_types.specs.declared.letters.Offer.{Offer}
use Rattle.ocm_entry.specs.declared.rows.User.{User}
use Rattle.ocm_entry.specs.declared.rows.Request.{Request}
use Rattle.ocm_incoming.specs.declared.rows.Record.{Record}
use Rattle.ocm_chain.specs.Lists.{ProbeCounts}
use Rattle.ocm_rules.specs.declared.rows.Told.{Told}
use Rattle.ocm_rules.specs.declared.rows.ReceivedRow.{ReceivedRow}
use Rattle.ocm_rules.specs.declared.rows.ShareRow.{ShareRow}
use Rattle.ocm_rules.specs.Numbers.{at_number, same_text}
use Rattle.ocm_rules.specs.State.{State}
use Rattle.ocm_law_origins.specs.Origins.{Origin}
use Rattle.ocm_tables.specs.Joined.{joined}

-- for how many more of each there is room without memory
pub record Rooms : Type 0 where
  pub users : ℕ
  pub shares : ℕ
  pub files : ℕ
  pub records : ℕ
  pub told : ℕ
  pub messages : ℕ

-- what callers see of a server's tables: the lists, the room, how many changes there were, and by which of them each node stands
pub record ServerLists : Type 0 where
  pub state : State
  pub room : Rooms
  pub entries : ℕ
  pub origins : List Origin

-- the row of a received offer, and what its guest was told
abbrev pub received_row : Record → Told → ReceivedRow
received_row received told = record { offer = received.offer; phase = received.phase; told = told }

-- the rows of the received offers, each with what its guest was told
abbrev pub received_rows : List Record → List Told → List ReceivedRow
received_rows records told = joined received_row records told

-- the received offer of a row, with its phase
abbrev pub record_in : ReceivedRow → Record
record_in row = record { offer = row.offer; phase = row.phase }

-- whether a share belongs to a user, and its root is short enough to be joined with the path of an ask
abbrev pub is_owned : List User → ShareRow → Bool
is_owned users row = is_short row.share.root && is_some (at_number users row.share.owner)

-- what the tables keep together: one telling for each received offer, shares of users with short roots, and nodes by changes that were made
pub record IsServer (users : List User) (shares : List ShareRow) (records : List Record) (told : List Told) (entries : ℕ) (origins : List Origin) : Type 0 where
  pub each_told : length told ≡ length records
  pub owned : list_all (is_owned users) shares ≡ true
  pub made : All (λ (origin : Origin). origin.number ≤ entries) origins

-- what it costs to find and grant the holder of a secret, where there are so many shares, by what was counted before and after: at most b places of the index of secrets, where 2 to the power of b is at most one more than twice the shares, and at most one row
pub record GrantCost (shares : ℕ) (old new : ProbeCounts) : Type 0 where
  pub index : 2 ^ (new.index - old.index) ≤ 2 * shares + 1
  pub rows : new.rows ≤ old.rows + 1
  pub onward : (old.index ≤ new.index) × (old.rows ≤ new.rows)

-- whether the offer of this number is for a user of this name
abbrev pub is_offer_for : List Offer → List ℕ → ℕ → Bool
is_offer_for offers name n = option_map_or (λ (offer : Offer). same_text offer.with.user name) (at_number offers n) false

-- whether the request of this number is about an offer for a user of this name
abbrev pub is_request_for : List Offer → List Request → List ℕ → ℕ → Bool
is_request_for offers requests name r = option_map_or (λ (request : Request). is_offer_for offers name request.received) (at_number requests r) false
