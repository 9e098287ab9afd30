use Rattle.std.specs.Prelude.{ℕ, ◌+◌, List, [], ◌∷◌, ◌++◌, length, map, reverse, nat_eq, nat_le, Bool, false, not, ◌&&◌, if◌then◌else◌, Option, Some, None, is_some, unwrap_or, option_map, option_and_then}
use Rattle.std.specs.List.{list_any, list_all}
use Rattle.std.specs.Option.{option_map_or}
use Rattle.ocm_texts.specs.Hex.{hex}
use Rattle.ocm_texts.specs.Decimal.{decimal_of}
use Rattle.ocm_types.specs.declared.addresses.Address.{Address}
use Rattle.ocm_types.specs.declared.letters.Notice.TheVariants as notices
use Rattle.ocm_types.specs.declared.rights.Rights.{Rights}
use Rattle.ocm_types.specs.Rights.{all_rights, both}
use Rattle.ocm_entry.specs.declared.asks.Ask.{Ask}
use Rattle.ocm_entry.specs.declared.asks.Ask.TheVariants.{Local, Notice, Tick}
use Rattle.ocm_entry.specs.declared.asks.Cmd.TheVariants as commands
use Rattle.ocm_entry.specs.declared.entries.Entry.{Entry}
use Rattle.ocm_entry.specs.declared.rows.User.{User}
use Rattle.ocm_entry.specs.declared.rows.Share.{Share}
use Rattle.ocm_rules.specs.Numbers.{same_text, added, number_of, at_number, is_number, latest}
use Rattle.ocm_rules.specs.Users.{users, user_of_key, name_of}

-- the number of the share that an owner's mark (`providerId`) names: its decimal text
abbrev pub named : List ℕ → Option ℕ
named id = decimal_of id

-- no rights
abbrev pub no_rights : Rights
no_rights = record { read = false; write = false; share = false }

-- the address of a user of this host
abbrev pub address_of : List ℕ → List User → ℕ → Address
address_of host us number = record { user = name_of us number; host = host }

-- ---- the time

-- the clock of a tick
abbrev pub clock_of : Ask → Option ℕ
clock_of (Tick clock) = Some clock
clock_of _ = None

-- the moment after a list of kept entries: the clock of the last tick, and 0 before the first
abbrev pub moment : List Entry → ℕ
moment g = unwrap_or (latest (λ (e : Entry). clock_of e.ask) g) 0

-- ---- what ends a share

-- the number of the share that a kept ask closes
abbrev pub closed_by : Ask → Option ℕ
closed_by (Local key (commands.Unshare id)) = Some id
closed_by (Notice (notices.Declined id secret) fresh) = named id
closed_by (Notice (notices.ReshareUndo id secret) fresh) = named id
closed_by _ = None

-- whether one of the kept entries closed this share
abbrev pub is_closed : List Entry → ℕ → Bool
is_closed g i = list_any (λ (e : Entry). is_number i (closed_by e.ask)) g

-- the end that a kept ask gives this share
abbrev pub end_by : ℕ → Ask → Option ℕ
end_by i (Local key (commands.Expire id until)) = if nat_eq id i then Some until else None
end_by i _ = None

-- the end of a share, where it has one: that of the last command to end it at a moment
abbrev pub until : List Entry → ℕ → Option ℕ
until g i = latest (λ (e : Entry). end_by i e.ask) g

-- whether a share's end has come
abbrev pub is_over : List Entry → ℕ → Bool
is_over g i = option_map_or (λ end. nat_le end (moment g)) (until g i) false

-- whether a link goes on: no entry closed this share, and its end has not come
abbrev pub goes_on : List Entry → ℕ → Bool
goes_on g i = not (is_closed g i) && not (is_over g i)

-- ---- the chain from a share up to the owner

-- the number of a share and those of all above it, where the shares stand newest first; a parent is older than its child
abbrev pub links_among : List Share → ℕ → List ℕ
links_among [] i = []
links_among (share ∷ older) i =
    if nat_eq i (length older + 1) then i ∷ option_map_or (links_among older) share.parent [] else links_among older i

-- the number of a share and those of all above it, up to the one that the owner made
abbrev pub links : List Share → ℕ → List ℕ
links ms i = links_among (reverse ms) i

-- a share is live: it is there, and it and each above it go on
abbrev pub is_live_among : List Share → (ℕ → Bool) → ℕ → Bool
is_live_among ms on i = is_some (at_number ms i) && list_all on (links ms i)

-- what each of these links permits
abbrev pub permitted : (ℕ → Rights) → List ℕ → Rights
permitted perms [] = all_rights
permitted perms (i ∷ above) = both (perms i) (permitted perms above)

-- what a share lets its guest do: its own permissions, cut down to those of every share above it
abbrev pub effective_among : List Share → (ℕ → Rights) → ℕ → Rights
effective_among ms perms i = permitted perms (links ms i)

-- ---- permissions

-- the permissions to which a kept ask limits this share
abbrev pub limit_by : ℕ → Ask → Option Rights
limit_by i (Local key (commands.Limit id perms)) = if nat_eq id i then Some perms else None
limit_by i _ = None

-- what was granted when the share of this number was made
abbrev pub granted_to : List Share → ℕ → Rights
granted_to ms i = option_map_or (λ (share : Share). share.granted) (at_number ms i) no_rights

-- the permissions of a share, where these are the shares: those of its last limit, else what was granted
abbrev pub perms_among : List Share → List Entry → ℕ → Rights
perms_among ms g i = unwrap_or (latest (λ (e : Entry). limit_by i e.ask) g) (granted_to ms i)

-- ---- the shares

-- the share of an owner's own command: without a parent, and sent by the owner
abbrev pub own_share : List ℕ → List User → ℕ → List (List ℕ) → Address → Rights → List ℕ → Share
own_share host us owner path with perms fresh = record {
  owner = owner;
  root = path;
  parent = None;
  with = with;
  sender = address_of host us owner;
  secret = hex fresh;
  granted = perms;
  sender_id = None;
  asked = None;
}

-- a share below the one of this number: of the same owner and root, sent by the parent's guest, and with the permissions that were asked, or where none were with the parent's rights
abbrev pub child_share : ℕ → Share → Rights → Address → List ℕ → Option Rights → List ℕ → Share
child_share number parent rights with sender_id asked fresh = record {
  owner = parent.owner;
  root = parent.root;
  parent = Some number;
  with = with;
  sender = parent.with;
  secret = hex fresh;
  granted = unwrap_or asked rights;
  sender_id = Some sender_id;
  asked = asked;
}

-- the share that a kept ask makes on this host, where these are the users and the shares before it and this is what each share lets its guest do
abbrev pub share_by : List ℕ → List User → List Share → (ℕ → Rights) → Ask → Option Share
share_by host us ms rights (Local key (commands.Share path with perms fresh)) =
    option_map (λ owner. own_share host us owner path with perms fresh) (user_of_key us key)
share_by host us ms rights (Notice (notices.ReshareRequest id secret with sender_id asked) fresh) =
    option_and_then (λ number. option_map (λ (parent : Share). child_share number parent (rights number) with sender_id asked fresh) (at_number ms number)) (named id)
share_by host us ms rights _ = None

-- these shares, and behind them the one that an entry makes after the kept ones before it
abbrev pub made_after : List ℕ → List Entry → Ask → List Share → List Share
made_after host before ask ms = added ms (share_by host (users before) ms (effective_among ms (perms_among ms before)) ask)

-- the shares after a list of kept entries, the oldest first; they are numbered from 1
abbrev pub made : List ℕ → List Entry → List Share
made host [] = []
made host (e ∷ before) = made_after host before e.ask (made host before)

-- the permissions of a share after a list of kept entries
abbrev pub perms : List ℕ → List Entry → ℕ → Rights
perms host g i = perms_among (made host g) g i

-- what a share lets its guest do after a list of kept entries
abbrev pub effective : List ℕ → List Entry → ℕ → Rights
effective host g i = effective_among (made host g) (perms host g) i

-- whether a share is live after a list of kept entries
abbrev pub is_live : List ℕ → List Entry → ℕ → Bool
is_live host g i = is_live_among (made host g) (goes_on g) i

-- ---- secrets

-- the keys of the users and the secrets of the shares
abbrev pub used_among : List User → List Share → List (List ℕ)
used_among us ms = map (λ (u : User). u.key) us ++ map (λ (m : Share). m.secret) ms

-- the keys and the secrets after a list of kept entries
abbrev pub used : List ℕ → List Entry → List (List ℕ)
used host g = used_among (users g) (made host g)

-- whether a secret is a key or a secret already
abbrev pub is_used : List User → List Share → List ℕ → Bool
is_used us ms secret = list_any (λ s. same_text s secret) (used_among us ms)

-- whether this is the share's secret
abbrev pub has_secret : List ℕ → Share → Bool
has_secret secret share = same_text share.secret secret

-- the number of the share with this secret
abbrev pub share_of_secret : List Share → List ℕ → Option ℕ
share_of_secret ms secret = number_of (has_secret secret) ms
