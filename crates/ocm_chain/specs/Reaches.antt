use Rattle.std.specs.Prelude.{◌≡◌, ℕ, suc, ◌<◌, ◌≤◌, List, [], ◌∷◌, length, map, min, nat_le, slice_get, Bool, true, false, not, ◌&&◌, Option, Some, None}
use Rattle.std.specs.List.{list_all}
use Rattle.std.specs.Option.{option_map_or}
use Rattle.ocm_limits.specs.Limits.{most_shares}
use Rattle.ocm_types.specs.declared.rights.Rights.{Rights}
use Rattle.ocm_types.specs.Rights.{all_rights, both}
use Rattle.ocm_entry.specs.declared.rows.Share.{Share}
use Rattle.ocm_rules.specs.declared.rows.ShareRow.{ShareRow}
use Rattle.ocm_rules.specs.Numbers.{at_number, number_of}
use Rattle.ocm_rules.specs.Shares.{permitted, links, share_of_secret}
use Rattle.ocm_rules.specs.Answers.{is_for_request}
use Rattle.ocm_chain.specs.declared.reaches.Reach.{Reach}
use Rattle.ocm_chain.specs.declared.reaches.Row.{Row}
use Rattle.ocm_chain.specs.declared.secrets.SecretEntry.{SecretEntry}
use Rattle.ocm_chain.specs.declared.requests.RequestEntry.{RequestEntry}
use Rattle.ocm_chain.specs.Lists.{made_of, perms_at, IsAmongFirst}
use Rattle.ocm_chain.specs.Indexes.{number_with, number_for}

-- ---- what is left of a share by itself and those above it

-- the earlier of two ends, where there are any
abbrev pub least : Option ℕ → Option ℕ → Option ℕ
least None b = b
least (Some a) None = Some a
least (Some a) (Some b) = Some (min a b)

-- what a share without links leaves
abbrev pub whole : Reach
whole = record { live = true; effective = all_rights; end = None }

-- what is left below a share with these values of its own, where this is left above it
abbrev pub reach_of : Bool → Rights → Option ℕ → Reach → Reach
reach_of closed perms end above = record { live = not closed && above.live; effective = both perms above.effective; end = least end above.end }

-- whether the share of this number was closed
abbrev pub is_closed_at : List ShareRow → ℕ → Bool
is_closed_at shares i = option_map_or (λ (row : ShareRow). row.closed) (at_number shares i) false

-- the end that was set for the share of this number
abbrev pub end_at : List ShareRow → ℕ → Option ℕ
end_at shares i = option_map_or (λ (row : ShareRow). row.end) (at_number shares i) None

-- the earliest end that was set for one of these
abbrev pub end_along : List ShareRow → List ℕ → Option ℕ
end_along shares [] = None
end_along shares (i ∷ above) = least (end_at shares i) (end_along shares above)

-- what these links leave: whether none of them was closed, what all of them permit, and the earliest of their ends
abbrev pub reach_along : List ShareRow → List ℕ → Reach
reach_along shares ns = record {
  live = list_all (λ i. not (is_closed_at shares i)) ns;
  effective = permitted (perms_at shares) ns;
  end = end_along shares ns;
}

-- what is left at the share of this number
abbrev pub reach_at : List ShareRow → ℕ → Reach
reach_at shares i = reach_along shares (links (made_of shares) i)

-- what is left above a share with this parent
abbrev pub reach_above : List ShareRow → Option ℕ → Reach
reach_above shares parent = option_map_or (reach_at shares) parent whole

-- whether what is left goes on at this moment
abbrev pub reach_goes_on : ℕ → Reach → Bool
reach_goes_on moment reach = reach.live && not (option_map_or (λ end. nat_le end moment) reach.end false)

-- ---- rows

-- the rows without what is left
abbrev pub owns : List Row → List ShareRow
owns rows = map (λ (row : Row). row.own) rows

-- each parent is an earlier number
abbrev pub AreLower : List ShareRow → Type 0
AreLower shares = (k : ℕ) (row : ShareRow) → slice_get shares k ≡ Some row → IsAmongFirst k row.share.parent

-- the first rows tell what is left at their shares
abbrev pub AreRight : List Row → ℕ → Type 0
AreRight rows n = (k : ℕ) (row : Row) → k < n → slice_get rows k ≡ Some row → row.reach ≡ reach_at (owns rows) (suc k)

-- and those from an index on
abbrev pub AreRightFrom : List Row → ℕ → Type 0
AreRightFrom rows n = (k : ℕ) (row : Row) → n ≤ k → slice_get rows k ≡ Some row → row.reach ≡ reach_at (owns rows) (suc k)

-- no share has this parent
abbrev pub IsChildless : List Share → ℕ → Type 0
IsChildless made id = (k : ℕ) (share : Share) → slice_get made k ≡ Some share → share.parent ≡ Some id → ⊥

-- which rows say that a share was made directly below them
abbrev pub marks_of : List Row → List Bool
marks_of rows = map (λ (row : Row). row.is_parent) rows

-- a share that is not marked is no share's parent
abbrev pub AreMarked : List Share → List Bool → Type 0
AreMarked made marks = (id : ℕ) → at_number marks id ≡ Some false → IsChildless made id

-- the row of this number is there and tells what is left at its share
abbrev pub IsRightAt : List Row → ℕ → Type 0
IsRightAt rows i = (row : Row) × (at_number rows i ≡ Some row) × (row.reach ≡ reach_at (owns rows) i)

-- rows in which each parent is earlier and marked, and that all tell what is left
pub record AreRows (rows : List Row) : Type 0 where
  pub few : length rows ≤ most_shares
  pub lower : AreLower (owns rows)
  pub right : AreRight rows (length rows)
  pub marks : AreMarked (made_of (owns rows)) (marks_of rows)

-- what callers see of the rows, and how many more can be added without memory
pub record RowLists : Type 0 where
  pub shares : List ShareRow
  pub room : ℕ

-- ---- the chain

-- the indexes of these shares: by secret, and of each request the first that was made for it
pub record IsChain (made : List Share) (secrets : List SecretEntry) (requests : List RequestEntry) (owners : List ℕ) : Type 0 where
  pub by_secret : (secret : List ℕ) → number_with secrets secret ≡ share_of_secret made secret
  pub as_many : length secrets ≡ length made
  pub no_more : length requests ≤ length made
  pub by_request : (parent : ℕ) (sender_id : List ℕ) → number_for requests parent sender_id ≡ number_of (is_for_request parent sender_id) made
  pub by_owner : owners ≡ map (λ (share : Share). share.owner) made
