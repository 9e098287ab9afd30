use Rattle.std.proofs.Common.{◌≡◌, ℕ, zero, suc, ◌-◌, ◌≤◌, List, [], ◌∷◌, ◌++◌, length, drop, Bool, true, false, ◌&&◌, refl, sym, ap, ◌∙◌, arith}
use Rattle.std.specs.Prelude.{Option, Some, None, nat_le, slice_get}
use Rattle.std.specs.Option.{option_map_or}
use Rattle.std.proofs.lemmas.Bool.Decides.{nat_tests}
use Rattle.std.proofs.lemmas.List.{take-append-drop}
use Rattle.ocm_path.specs.Paths.{Segments}
use Rattle.ocm_entry.specs.declared.rows.Place.{Place}
use Rattle.ocm_rules.specs.Files.{same_place, is_at_or_above, parent_of}
use Rattle.ocm_rules.proofs.Places.{same_place-equal, above-split, above-from}
use Rattle.ocm_tree.specs.declared.trails.Span.{Span}
use Rattle.ocm_tree.specs.Trails.{digit_of, digit_at, trail_of, place_trail, IsSpan}

-- the number of a segment that a path begins with is that of the longer path too, and the number of a further one lies between the least and the greatest
digit-between : (above rest : Segments) (k : ℕ) → (digit_at 0 above k ≤ digit_at 0 (above ++ rest) k) × (digit_at 0 (above ++ rest) k ≤ digit_at 255 above k)
digit-between [] rest k = by_segment (slice_get rest k)
  where
    by_segment : (segment : Option (List ℕ)) → (0 ≤ option_map_or digit_of segment 0) × (option_map_or digit_of segment 0 ≤ 255)
    by_segment None = (omega arith, omega arith)
    by_segment (Some s) = (omega arith, omega arith)
digit-between (s ∷ above) rest zero = (omega arith, omega arith)
digit-between (s ∷ above) rest (suc k) = digit-between above rest k

trail-between : (user : ℕ) (above rest : Segments) → (trail_of 0 user above ≤ trail_of 0 user (above ++ rest)) × (trail_of 0 user (above ++ rest) ≤ trail_of 255 user above)
trail-between user above rest =
    let first = digit-between above rest 0 in
    let second = digit-between above rest 1 in
    let third = digit-between above rest 2 in
    let fourth = digit-between above rest 3 in
    (omega (arith, first, second, third, fourth), omega (arith, first, second, third, fourth))

-- the trails of a path that ends, continued by the least and the greatest numbers, are the span of all below
pub span-of : (span : Span) (above : Place) → span.least ≡ trail_of 0 above.user above.path → span.most ≡ trail_of 255 above.user above.path → IsSpan span above
span-of span above least most = λ place inside.
    let split = above-split above place inside in
    let rest = drop (length above.path) place.path in
    let between = trail-between above.user above.path rest in
    let same : place_trail place ≡ trail_of 0 above.user (above.path ++ rest) = ap (λ u. trail_of 0 u place.path) (sym split.0) ∙ ap (trail_of 0 above.user) split.1 in
    (omega (arith, between, same, least), omega (arith, between, same, most))

-- what lies in the collection of another place lies below that collection
beside-below : (place other : Place) → same_place (parent_of place) (parent_of other) ≡ true → is_at_or_above (parent_of other) place ≡ true
beside-below place other h =
    let e : parent_of place ≡ parent_of other = same_place-equal (parent_of place) (parent_of other) h in
    let n = length place.path - 1 in
    above-from (parent_of other) place (drop n place.path) (sym (ap (λ (p : Place). p.user) e)) (sym (take-append-drop n place.path) ∙ ap (λ path. path ++ drop n place.path) (ap (λ (p : Place). p.path) e))

-- what has a trail outside a span does not lie at or below its place
pub outside : (span : Span) (above place : Place) → IsSpan span above → (nat_le span.least (place_trail place) && nat_le (place_trail place) span.most) ≡ false → false ≡ is_at_or_above above place
outside span above place is h = by_test (is_at_or_above above place) refl
  where
    by_test : (b : Bool) → is_at_or_above above place ≡ b → false ≡ b
    by_test true e = let both = is place e in absurd (grind (arith, nat_tests, h, both))
    by_test false e = refl

-- and what has one outside the span of the collection of a place does not lie in that collection
pub outside-beside : (span : Span) (other place : Place) → IsSpan span (parent_of other) → (nat_le span.least (place_trail place) && nat_le (place_trail place) span.most) ≡ false → false ≡ same_place (parent_of place) (parent_of other)
outside-beside span other place is h = by_test (same_place (parent_of place) (parent_of other)) refl
  where
    by_test : (b : Bool) → same_place (parent_of place) (parent_of other) ≡ b → false ≡ b
    by_test true e = outside span (parent_of other) place is h ∙ beside-below place other e
    by_test false e = refl
