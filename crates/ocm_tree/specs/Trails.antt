use Rattle.std.specs.Prelude.{ℕ, ◌+◌, ◌*◌, ◌%◌, ◌≡◌, ◌≤◌, List, slice_get, true}
use Rattle.std.specs.Option.{option_map_or}
use Rattle.ocm_path.specs.Paths.{Segments}
use Rattle.ocm_entry.specs.declared.rows.Place.{Place}
use Rattle.ocm_rules.specs.Files.{is_at_or_above}
use Rattle.ocm_tree.specs.Tags.{mix_all}
use Rattle.ocm_tree.specs.declared.trails.Span.{Span}

-- a number below 256 for a segment
abbrev pub digit_of : List ℕ → ℕ
digit_of segment = mix_all 0 segment % 256

-- the number of the segment of this index, and this one where the path ends before it
abbrev pub digit_at : ℕ → Segments → ℕ → ℕ
digit_at missing path index = option_map_or digit_of (slice_get path index) missing

-- the user and the numbers of the first four segments, as one number of 64 bits
abbrev pub trail_of : ℕ → ℕ → Segments → ℕ
trail_of missing user path = (((user * 256 + digit_at missing path 0) * 256 + digit_at missing path 1) * 256 + digit_at missing path 2) * 256 + digit_at missing path 3

-- the trail of a place
abbrev pub place_trail : Place → ℕ
place_trail place = trail_of 0 place.user place.path

-- whether the trails of all places at and below this one lie in a span
abbrev pub IsSpan : Span → Place → Type 0
IsSpan span above = (place : Place) → is_at_or_above above place ≡ true → (span.least ≤ place_trail place) × (place_trail place ≤ span.most)
