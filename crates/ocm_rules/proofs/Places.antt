use Rattle.std.proofs.Common.{◌≡◌, ℕ, ◌++◌, length, drop, true, refl, sym, ap, ◌∙◌}
use Rattle.std.specs.Prelude.{nat_eq}
use Rattle.std.specs.Bool.{Decides}
use Rattle.std.specs.Cmp.Lexicographic.{pointwise_decides, bytes_decides}
use Rattle.std.proofs.lemmas.Bool.Decides.{Decides-eqb, Decides-and, Decides-like}
use Rattle.std.proofs.lemmas.Slice.Eq.{starts_is}
use Rattle.std.proofs.Math.Seq.{drop-append_seam}
use Rattle.ocm_path.specs.Paths.{Segments, same_path, is_above}
use Rattle.ocm_entry.specs.declared.rows.Place.{Place}
use Rattle.ocm_rules.specs.Files.{same_place, is_at_or_above, moved, rest_below}
use Rattle.ocm_rules.proofs.Lists.{both_pass}

-- paths compare equal exactly where they are the same
path-Decides : (a b : Segments) → Decides (same_path a b) (a ≡ b)
path-Decides a b = pointwise_decides bytes_decides a b

abbrev place_of : ℕ → Segments → Place
place_of user path = record { user = user; path = path }

place_of-equal : (u v : ℕ) (p q : Segments) → u ≡ v → p ≡ q → place_of u p ≡ place_of v q
place_of-equal u v p q e f = rw (e, f) refl

-- places compare equal exactly where they are the same
pub same_place-Decides : (a b : Place) → Decides (same_place a b) (a ≡ b)
same_place-Decides a b =
    let both = Decides-and (nat_eq a.user b.user) (same_path a.path b.path) (Decides-eqb a.user b.user) (path-Decides a.path b.path) in
    let from : (a.user ≡ b.user) × (a.path ≡ b.path) → a ≡ b = λ e. place_of-equal a.user b.user a.path b.path e.0 e.1 in
    let to : a ≡ b → (a.user ≡ b.user) × (a.path ≡ b.path) = λ e. (ap (λ (p : Place). p.user) e, ap (λ (p : Place). p.path) e) in
    Decides-like (same_place a b) from to both

pub same_place-refl : (a : Place) → same_place a a ≡ true
same_place-refl a = (same_place-Decides a a).1 refl

pub same_place-equal : (a b : Place) → same_place a b ≡ true → a ≡ b
same_place-equal a b t = (same_place-Decides a b).0 t

-- a place lies at or below another where the other's path begins its own
pub above-split : (above place : Place) → is_at_or_above above place ≡ true → (above.user ≡ place.user) × (place.path ≡ above.path ++ drop (length above.path) place.path)
above-split above place h =
    let both = both_pass (nat_eq above.user place.user) (is_above above.path place.path) h in
    ((Decides-eqb above.user place.user).0 both.0, (starts_is bytes_decides place.path above.path (is_above above.path place.path) refl).0 both.1)

pub above-from : (above place : Place) (rest : Segments) → above.user ≡ place.user → place.path ≡ above.path ++ rest → is_at_or_above above place ≡ true
above-from above place rest e f =
    let user = (Decides-eqb above.user place.user).1 e in
    let path = (starts_is bytes_decides place.path above.path (is_above above.path place.path) refl).1 rest f in
    rw (user, path) refl

-- what was carried from a place lies where it is looked for: the place that was moved is this one exactly where this one, moved back, is that place
pub moved-there : (from to old place : Place) → is_at_or_above from old ≡ true → same_place (moved from to old) place ≡ true → (is_at_or_above to place ≡ true) × (moved to from place ≡ old)
moved-there from to old place inside same =
    let split = above-split from old inside in
    let e : moved from to old ≡ place = same_place-equal (moved from to old) place same in
    let user : to.user ≡ place.user = ap (λ (p : Place). p.user) e in
    let path : place.path ≡ to.path ++ rest_below from old = sym (ap (λ (p : Place). p.path) e) in
    let rest : drop (length to.path) place.path ≡ rest_below from old = rw path (drop-append_seam to.path (rest_below from old)) in
    (above-from to place (rest_below from old) user path, place_of-equal from.user old.user (from.path ++ rest_below to place) old.path split.0 (ap (λ r. from.path ++ r) rest ∙ sym split.1))

pub moved-back : (from to old place : Place) → is_at_or_above to place ≡ true → same_place old (moved to from place) ≡ true → (is_at_or_above from old ≡ true) × (same_place (moved from to old) place ≡ true)
moved-back from to old place inside same =
    let split = above-split to place inside in
    let e : old ≡ moved to from place = same_place-equal old (moved to from place) same in
    let user : from.user ≡ old.user = sym (ap (λ (p : Place). p.user) e) in
    let path : old.path ≡ from.path ++ rest_below to place = ap (λ (p : Place). p.path) e in
    let rest : drop (length from.path) old.path ≡ rest_below to place = rw path (drop-append_seam from.path (rest_below to place)) in
    let there : moved from to old ≡ place = place_of-equal to.user place.user (to.path ++ rest_below from old) place.path split.0 (ap (λ r. to.path ++ r) rest ∙ sym split.1) in
    (above-from from old (rest_below to place) user path, (same_place-Decides (moved from to old) place).1 there)
