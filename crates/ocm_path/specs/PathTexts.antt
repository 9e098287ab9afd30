-- The text of a path, read as it stands: no byte of it is escaped.
use Rattle.std.specs.Prelude.{ℕ, Bool, ◌&&◌, ◌==◌, nat_le, List, [], ◌∷◌, length, if◌then◌else◌, Option, Some, None}
use Rattle.std.specs.List.{list_all, slice_split}
use Rattle.ocm_limits.specs.Limits.{most_asked_path_bytes}
use Rattle.ocm_path.specs.Paths.{Segments, is_slash, is_segment}

-- a piece, if it is a segment
abbrev pub if_segment : List ℕ → Option (List ℕ)
if_segment piece = if is_segment piece then Some piece else None

-- pieces, if each is a segment
abbrev pub if_segments : Segments → Option Segments
if_segments pieces = if list_all is_segment pieces then Some pieces else None

-- whether these are the segments of a path whose text has `len` bytes, at most 1,024
abbrev pub are_segments : ℕ → Segments → Bool
are_segments len segments = nat_le len most_asked_path_bytes && list_all is_segment segments

-- what stands after the first `/`: nothing at the root, else segments between `/`
abbrev pub below_slash : List ℕ → Option Segments
below_slash [] = Some []
below_slash (b ∷ below) =
    if are_segments (length (47 ∷ b ∷ below)) (slice_split is_slash (b ∷ below)) then Some (slice_split is_slash (b ∷ below)) else None

-- the path whose text this is: `/` for the root, else at most 1,024 bytes, with a segment after each `/`
abbrev pub path_with_text : List ℕ → Option Segments
path_with_text [] = None
path_with_text (b ∷ below) = if b == 47 then below_slash below else None
