use Rattle.std.specs.Prelude.{ℕ, List, [], Bool, ◌&&◌, ◌||◌, if◌then◌else◌, Option, Some, None}
use Rattle.std.specs.Option.{option_map_or}
use Rattle.ocm_types.specs.declared.rights.Rights.{Rights}
use Rattle.ocm_types.specs.Rights.{all_rights}
use Rattle.ocm_entry.specs.declared.asks.Method.{Method}
use Rattle.ocm_entry.specs.declared.asks.Method.TheVariants.{Get, Head, Put, Delete, Mkcol, List0, List1}
use Rattle.ocm_entry.specs.declared.entries.Entry.{Entry}
use Rattle.ocm_entry.specs.declared.rows.User.{User}
use Rattle.ocm_entry.specs.declared.rows.Share.{Share}
use Rattle.ocm_entry.specs.declared.rows.Place.{Place}
use Rattle.ocm_entry.specs.declared.rows.Grant.{Grant}
use Rattle.ocm_rules.specs.Numbers.{at_number}
use Rattle.ocm_rules.specs.Users.{users, user_of_key}
use Rattle.ocm_rules.specs.Shares.{made, share_of_secret}

-- who holds a secret: nobody, the user of a number, or the guest of a share with its number
pub data Holder : Type 0 where
  Nobody : Holder
  Account : ℕ → Holder
  Guest : ℕ → Share → Holder

-- the guest of the share of this number
abbrev pub guest_of : List Share → ℕ → Holder
guest_of ms i = option_map_or (Guest i) (at_number ms i) Nobody

-- the user whose key it is, or the guest of the share whose secret it is
abbrev pub holder_among : List User → List Share → List ℕ → Holder
holder_among us ms secret = option_map_or Account (user_of_key us secret) (option_map_or (guest_of ms) (share_of_secret ms secret) Nobody)

-- who holds a secret after a list of kept entries
abbrev pub holder : List ℕ → List Entry → List ℕ → Holder
holder host g secret = holder_among (users g) (made host g) secret

-- the place of a holder's `/`: a user's own root, or the root of the share
abbrev pub root_of : Holder → Option Place
root_of Nobody = None
root_of (Account number) = Some (record { user = number; path = [] })
root_of (Guest i share) = Some (record { user = share.owner; path = share.root })

-- the place of the `/` of the holder of a secret
abbrev pub root_among : List User → List Share → List ℕ → Option Place
root_among us ms secret = root_of (holder_among us ms secret)

-- what a holder may do, where these shares are live and these are their rights: a user may do all, and by a share that is not live nothing is granted
abbrev pub grant_of : (ℕ → Bool) → (ℕ → Rights) → Holder → Option Grant
grant_of live rights Nobody = None
grant_of live rights (Account number) = Some (record { root = record { user = number; path = [] }; rights = all_rights })
grant_of live rights (Guest i share) = if live i then Some (record { root = record { user = share.owner; path = share.root }; rights = rights i }) else None

-- whether rights suffice for a method
abbrev pub permits : Rights → Method → Bool
permits rights Get = rights.read
permits rights Head = rights.read
permits rights List0 = rights.read
permits rights List1 = rights.read
permits rights Put = rights.write
permits rights Delete = rights.write
permits rights Mkcol = rights.write

-- whether rights suffice for a copy, which reads and writes, or for a move, which writes alone
abbrev pub permits_carry : Rights → Bool → Bool
permits_carry rights moving = rights.write && (moving || rights.read)
