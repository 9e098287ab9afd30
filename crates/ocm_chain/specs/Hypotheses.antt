use Rattle.std.specs.Prelude.{◌≡◌, ℕ, suc, List, [], ◌∷◌, length, map, slice_get, Bool, false, not, ◌&&◌, Option, Some, None, if◌then◌else◌}
use Rattle.std.specs.Option.{option_map_or}
use Rattle.ocm_types.specs.declared.rights.Rights.{Rights}
use Rattle.ocm_types.specs.Rights.{is_any, perms_from}
use Rattle.ocm_rules.specs.declared.rows.ShareRow.{ShareRow}
use Rattle.ocm_rules.specs.Equal.{same_rights}
use Rattle.ocm_rules.specs.Numbers.{at_number}
use Rattle.ocm_rules.specs.Shares.{no_rights}
use Rattle.ocm_rules.specs.State.{changed_at}
use Rattle.ocm_chain.specs.declared.reaches.Reach.{Reach}
use Rattle.ocm_chain.specs.declared.reaches.Row.{Row}
use Rattle.ocm_chain.specs.declared.answers.Change.{Change}
use Rattle.ocm_chain.specs.Reaches.{reach_at, reach_goes_on}

-- the shares, were the one of this number closed or not and its permissions these
abbrev pub with_own : List ShareRow → ℕ → Rights → Bool → List ShareRow
with_own shares id rights closed = changed_at id (λ (row : ShareRow). record row { perms = rights; closed = closed }) shares

-- what is left at each of the first shares
abbrev pub AreReaches : List ShareRow → List Reach → ℕ → Type 0
AreReaches shares reaches n = (length reaches ≡ n) × ((k : ℕ) (reach : Reach) → slice_get reaches k ≡ Some reach → reach ≡ reach_at shares (suc k))

-- whether what is left at the share of this number goes on
abbrev pub reach_goes_on_at : ℕ → List Reach → ℕ → Bool
reach_goes_on_at moment reaches i = option_map_or (reach_goes_on moment) (at_number reaches i) false

-- what is left of its permissions
abbrev pub effective_of : List Reach → ℕ → Rights
effective_of reaches i = option_map_or (λ (reach : Reach). reach.effective) (at_number reaches i) no_rights

-- whether what is left before goes on, and what is left after doesn't
abbrev pub is_cut_by : ℕ → Reach → Reach → Bool
is_cut_by moment before after = reach_goes_on moment before && not (reach_goes_on moment after)

-- whether a share goes on before and not after
abbrev pub is_cut_among : ℕ → List Reach → List Reach → ℕ → Bool
is_cut_among moment before after i = reach_goes_on_at moment before i && not (reach_goes_on_at moment after i)

-- whether a share goes on, and its guest may do something else after than before
abbrev pub is_other_by : ℕ → Reach → Reach → Bool
is_other_by moment before after = reach_goes_on moment before && not (same_rights after.effective before.effective)

-- the rights that are told, where these are any and others than before
abbrev pub told_by : ℕ → Reach → Reach → Option Rights
told_by moment before after = if is_other_by moment before after then perms_from after.effective else None

-- whether a share goes on, and its guest may do something after, and something else than before
abbrev pub is_told_among : ℕ → List Reach → List Reach → ℕ → Bool
is_told_among moment before after i =
    reach_goes_on_at moment before i && is_any (effective_of after i) && not (same_rights (effective_of after i) (effective_of before i))

-- what the guest of a share may do after
abbrev pub change_among : List Reach → ℕ → Change
change_among after i = record { id = i; perms = effective_of after i }

-- what the guest of one share is told, where that is anything
abbrev pub change_alone : ℕ → Option Rights → List Change
change_alone id None = []
change_alone id (Some rights) = record { id = id; perms = rights } ∷ []

-- what is left, row by row
abbrev pub reaches_of : List Row → List Reach
reaches_of rows = map (λ (row : Row). row.reach) rows
