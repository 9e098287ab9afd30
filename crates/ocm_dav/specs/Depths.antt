-- What the fields `depth` and `overwrite` of a request tell (RFC 4918 sections 10.2 and 10.6).
use Rattle.std.specs.Prelude.{ℕ, Bool, true, false, List, codes, bytes_eq, if◌then◌else◌, Option, Some, None}
use Rattle.ocm_dav.specs.Fields.{is_word}
use Rattle.ocm_dav.specs.declared.depths.Depth.{Depth}
use Rattle.ocm_dav.specs.declared.depths.Depth.TheVariants.{Zero, One, Infinity}

-- the depth that a value tells, if it tells one
abbrev pub told_depth : List ℕ → Option Depth
told_depth value =
    if bytes_eq value (codes "0") then Some Zero
    else if bytes_eq value (codes "1") then Some One
    else if is_word (codes "infinity") value then Some Infinity
    else None

-- the depth that a field tells; without one it is infinity
abbrev pub depth_of : Option (List ℕ) → Option Depth
depth_of None = Some Infinity
depth_of (Some value) = told_depth value

-- whether a value allows to overwrite, if it says so
abbrev pub told_overwrite : List ℕ → Option Bool
told_overwrite value =
    if bytes_eq value (codes "T") then Some true
    else if bytes_eq value (codes "F") then Some false
    else None

-- whether a field allows to overwrite; without one it is allowed
abbrev pub overwrite_of : Option (List ℕ) → Option Bool
overwrite_of None = Some true
overwrite_of (Some value) = told_overwrite value
