use Rattle.std.specs.Prelude.{◌≡◌, ℕ, ◌≤◌, List, filter, map, nat_eq, Bool, true, false, not, ◌&&◌, if◌then◌else◌, Option, Some, None, option_and_then, option_map}
use Rattle.std.specs.Option.{option_map_or}
use Rattle.ocm_types.specs.declared.rights.Rights.{Rights}
use Rattle.ocm_types.specs.declared.rights.Need.{Need}
use Rattle.ocm_types.specs.Rights.{is_any, has}
use Rattle.ocm_entry.specs.declared.rows.Share.{Share}
use Rattle.ocm_rules.specs.declared.rows.ShareRow.{ShareRow}
use Rattle.ocm_rules.specs.Equal.{same_rights}
use Rattle.ocm_rules.specs.Numbers.{at_number, numbers}
use Rattle.ocm_rules.specs.Shares.{no_rights, is_live_among, effective_among, share_of_secret}
use Rattle.ocm_rules.specs.State.{row_goes_on}
use Rattle.ocm_chain.specs.declared.answers.Access.{Access}
use Rattle.ocm_chain.specs.declared.answers.Access.TheVariants.{Granted, Closed, Denied}
use Rattle.ocm_chain.specs.declared.answers.Change.{Change}

-- the moment, the shares with what became of them, numbered from 1, and how many more can be made without memory
pub record ChainLists : Type 0 where
  pub moment : ℕ
  pub shares : List ShareRow
  pub room : ℕ

-- how many steps were taken at the index of secrets, and how many at the rows
pub record ProbeCounts : Type 0 where
  pub index : ℕ
  pub rows : ℕ

-- the shares as they were made
abbrev pub made_of : List ShareRow → List Share
made_of shares = map (λ (row : ShareRow). row.share) shares

-- a parent, where there is one, is one of the first shares
abbrev pub IsAmongFirst : ℕ → Option ℕ → Type 0
IsAmongFirst n parent = (p : ℕ) → parent ≡ Some p → (1 ≤ p) × (p ≤ n)

-- whether the share of this number goes on itself: it was not closed, and its end has not come
abbrev pub goes_on_at : ℕ → List ShareRow → ℕ → Bool
goes_on_at moment shares i = option_map_or (row_goes_on moment) (at_number shares i) true

-- the permissions of the share of this number
abbrev pub perms_at : List ShareRow → ℕ → Rights
perms_at shares i = option_map_or (λ (row : ShareRow). row.perms) (at_number shares i) no_rights

-- whether a share is live: it is there, and it and each above it go on
abbrev pub is_live_at : ℕ → List ShareRow → ℕ → Bool
is_live_at moment shares i = is_live_among (made_of shares) (goes_on_at moment shares) i

-- what a share lets its guest do: its own permissions, cut down to those of every share above it
abbrev pub effective_at : List ShareRow → ℕ → Rights
effective_at shares i = effective_among (made_of shares) (perms_at shares) i

-- what is answered to one who needs a right, by whether the share is live and what it lets its guest do
abbrev pub access_by : Bool → Rights → Need → Access
access_by live rights need = if live then (if has rights need then Granted else Denied) else Closed

-- the share of this number, where it is live, and what it lets its guest do
abbrev pub guest_at : ℕ → List ShareRow → ℕ → Option (Share × Rights)
guest_at moment shares i = if is_live_at moment shares i then option_map (λ (share : Share). (share, effective_at shares i)) (at_number (made_of shares) i) else None

-- the live share with this secret, and what it lets its guest do
abbrev pub guest_with : ℕ → List ShareRow → List ℕ → Option (Share × Rights)
guest_with moment shares secret = option_and_then (guest_at moment shares) (share_of_secret (made_of shares) secret)

-- whether a share would be live, were this one closed
abbrev pub is_live_without : ℕ → List ShareRow → ℕ → ℕ → Bool
is_live_without moment shares closed i = is_live_among (made_of shares) (λ link. goes_on_at moment shares link && not (nat_eq link closed)) i

-- the shares that are live, and would not be were this one closed, ascending
abbrev pub cut_by : ℕ → List ShareRow → ℕ → List ℕ
cut_by moment shares closed = filter (λ i. is_live_at moment shares i && not (is_live_without moment shares closed i)) (numbers (made_of shares))

-- what a share would let its guest do, were this one limited to these permissions
abbrev pub effective_with : List ShareRow → ℕ → Rights → ℕ → Rights
effective_with shares limited rights i = effective_among (made_of shares) (λ link. if nat_eq link limited then rights else perms_at shares link) i

-- whether the guest of this share is told, were that one limited to these permissions: the share is live, and its guest may do something afterwards, and something else than before
abbrev pub is_told : ℕ → List ShareRow → ℕ → Rights → ℕ → Bool
is_told moment shares limited rights i =
    is_live_at moment shares i && is_any (effective_with shares limited rights i) && not (same_rights (effective_with shares limited rights i) (effective_at shares i))

-- the shares whose guests are told, were this one limited to these permissions, ascending
abbrev pub told_by_limit : ℕ → List ShareRow → ℕ → Rights → List ℕ
told_by_limit moment shares limited rights = filter (is_told moment shares limited rights) (numbers (made_of shares))

-- what these guests are told: each share's number with what it would let its guest do
abbrev pub changes_by : ℕ → List ShareRow → ℕ → Rights → List Change
changes_by moment shares limited rights = map (λ i. record { id = i; perms = effective_with shares limited rights i }) (told_by_limit moment shares limited rights)

-- whether the share of this number is of this user's files
abbrev pub is_owned_by : List ShareRow → ℕ → ℕ → Bool
is_owned_by shares owner i = option_map_or (λ (share : Share). nat_eq share.owner owner) (at_number (made_of shares) i) false

-- the shares of a user's files, ascending
abbrev pub owned_by : List ShareRow → ℕ → List ℕ
owned_by shares owner = filter (is_owned_by shares owner) (numbers (made_of shares))
