use Rattle.std.proofs.Common.{◌≡◌, ℕ, List, [], ◌∷◌, ◌++◌, map, Bool, true, false, refl, sym, ap, ◌∙◌}
use Rattle.std.specs.Prelude.{Option, Some, None, filter, nat_eq, not, ◌||◌, if◌then◌else◌}
use Rattle.std.specs.List.{AllByRecursion, list_any}
use Rattle.std.proofs.lemmas.Bool.Decides.{same_from_decides, Decides-eqb, Decides-like}
use Rattle.std.proofs.lemmas.List.{map-append}
use Rattle.std.proofs.lemmas.List.Elements.{filter-append}
use Rattle.ocm_entry.specs.declared.rows.Place.{Place}
use Rattle.ocm_entry.specs.declared.rows.Node.{Node}
use Rattle.ocm_rules.specs.Files.{Act, Placed, Gone, Carried, same_place, is_at_or_above, moved}
use Rattle.ocm_rules.specs.Lean.{stays_at, placed_at, places_after, are_somewhere}
use Rattle.ocm_rules.specs.State.{node_at, EachOnce}
use Rattle.ocm_rules.proofs.Places.{same_place-Decides, same_place-equal}
use Rattle.ocm_law_origins.specs.Origins.{Origin, is_from, with_origin, copied, origins_after}
use Rattle.ocm_law_origins.proofs.Beside.{AllBeside, Anyhow, origin_by_place, carried_origin}

-- the places of the origins with this number
abbrev pub numbered : ℕ → List Origin → List Place
numbered k os = map (λ (o : Origin). o.place) (filter (is_from k) os)

-- whether something comes from an entry
pub numbered-somewhere : (k : ℕ) (os : List Origin) → are_somewhere (numbered k os) ≡ list_any (is_from k) os
numbered-somewhere k [] = refl
numbered-somewhere k (o ∷ os) = by_test (numbered-somewhere k os) (is_from k o)
  where
    by_test : are_somewhere (numbered k os) ≡ list_any (is_from k) os
        → (b : Bool) → are_somewhere (map (λ (o : Origin). o.place) (if b then o ∷ filter (is_from k) os else filter (is_from k) os)) ≡ (b || list_any (is_from k) os)
    by_test rest true = refl
    by_test rest false = rest

-- ---- what stays and what is carried

numbered-append : (k : ℕ) (os ps : List Origin) → numbered k (os ++ ps) ≡ numbered k os ++ numbered k ps
numbered-append k os ps = ap (map (λ (o : Origin). o.place)) (filter-append (is_from k) os ps) ∙ map-append (λ (o : Origin). o.place) (filter (is_from k) os) (filter (is_from k) ps)

numbered-filter : (keep : Place → Bool) (k : ℕ) (os : List Origin) → numbered k (filter (origin_by_place keep) os) ≡ filter keep (numbered k os)
numbered-filter keep k [] = refl
numbered-filter keep k (o ∷ os) = by_tests (numbered-filter keep k os) (keep o.place) refl (is_from k o) refl
  where
    by_tests : numbered k (filter (origin_by_place keep) os) ≡ filter keep (numbered k os)
        → (b : Bool) → keep o.place ≡ b → (c : Bool) → is_from k o ≡ c
        → numbered k (if b then o ∷ filter (origin_by_place keep) os else filter (origin_by_place keep) os)
        ≡ filter keep (map (λ (o : Origin). o.place) (if c then o ∷ filter (is_from k) os else filter (is_from k) os))
    by_tests rest true hb true hc = rw (hc, hb) (ap (λ ps. o.place ∷ ps) rest)
    by_tests rest true hb false hc = rw hc rest
    by_tests rest false hb true hc = rw hb rest
    by_tests rest false hb false hc = rest

numbered-carried : (from to : Place) (k : ℕ) (os : List Origin) → numbered k (map (carried_origin from to) os) ≡ map (moved from to) (numbered k os)
numbered-carried from to k [] = refl
numbered-carried from to k (o ∷ os) = by_test (numbered-carried from to k os) (is_from k o)
  where
    others : List Origin
    others = filter (is_from k) (map (carried_origin from to) os)

    by_test : numbered k (map (carried_origin from to) os) ≡ map (moved from to) (numbered k os)
        → (b : Bool) → map (λ (o : Origin). o.place) (if b then carried_origin from to o ∷ others else others)
        ≡ map (moved from to) (map (λ (o : Origin). o.place) (if b then o ∷ filter (is_from k) os else filter (is_from k) os))
    by_test rest true = ap (λ ps. moved from to o.place ∷ ps) rest
    by_test rest false = rest

numbered-copied : (from to : Place) (k : ℕ) (os : List Origin) → numbered k (copied from to os) ≡ map (moved from to) (filter (is_at_or_above from) (numbered k os))
numbered-copied from to k os =
    numbered-carried from to k (filter (origin_by_place (is_at_or_above from)) os) ∙ ap (map (moved from to)) (numbered-filter (is_at_or_above from) k os)

numbered-moved : (from to : Place) (moving : Bool) (k : ℕ) (os : List Origin)
    → numbered k (origins_after (Some (Carried from to moving)) k os) ≡ places_after (Some (Carried from to moving)) (numbered k os)
numbered-moved from to moving k os =
    numbered-append k (filter (origin_by_place (stays_at from to moving)) os) (copied from to os)
    ∙ ap (λ ps. ps ++ numbered k (copied from to os)) (numbered-filter (stays_at from to moving) k os)
    ∙ ap (λ ps. filter (stays_at from to moving) (numbered k os) ++ ps) (numbered-copied from to k os)

-- ---- what is put

same_place-turned : (a b : Place) → same_place a b ≡ same_place b a
same_place-turned a b =
    same_from_decides (same_place a b) (same_place b a) (same_place-Decides a b)
    (let back : b ≡ a → a ≡ b = λ e. sym e in let forth : a ≡ b → b ≡ a = λ e. sym e in Decides-like (same_place b a) back forth (same_place-Decides b a))

number-turned : (k n : ℕ) → nat_eq n k ≡ nat_eq k n
number-turned k n =
    same_from_decides (nat_eq n k) (nat_eq k n) (Decides-eqb n k)
    (let back : k ≡ n → n ≡ k = λ e. sym e in let forth : n ≡ k → k ≡ n = λ e. sym e in Decides-like (nat_eq k n) back forth (Decides-eqb k n))

-- where nothing stands at a place, no origin is at it
numbered-absent : (k : ℕ) (place : Place) (os : List Origin) (ns : List Node) → AllBeside Anyhow os ns → node_at ns place ≡ None
    → filter (λ p. not (same_place place p)) (numbered k os) ≡ numbered k os
numbered-absent k place [] ns h absent = refl
numbered-absent k place (o ∷ os) [] h absent = absurd h
numbered-absent k place (o ∷ os) (n ∷ ns) h absent = by_place (numbered-absent k place os ns h.1) (same_place n.place place) refl absent
  where
    keep : Place → Bool
    keep p = not (same_place place p)

    by_place : (node_at ns place ≡ None → filter keep (numbered k os) ≡ numbered k os)
        → (b : Bool) → same_place n.place place ≡ b → (if b then Some n.standing else node_at ns place) ≡ None
        → filter keep (numbered k (o ∷ os)) ≡ numbered k (o ∷ os)
    by_place rest true hb g = absurd (cc)
    by_place rest false hb g = by_number (rest g) (is_from k o)
      where
        other : same_place place o.place ≡ false
        other = ap (same_place place) h.0.0 ∙ same_place-turned place n.place ∙ hb

        by_number : filter keep (numbered k os) ≡ numbered k os
            → (c : Bool) → filter keep (map (λ (o : Origin). o.place) (if c then o ∷ filter (is_from k) os else filter (is_from k) os))
            ≡ map (λ (o : Origin). o.place) (if c then o ∷ filter (is_from k) os else filter (is_from k) os)
        by_number same true = rw other (ap (λ ps. o.place ∷ ps) same)
        by_number same false = same

-- what another entry put no longer stands where something is put
numbered-with : (k : ℕ) (os : List Origin) (ns : List Node) (o : Origin) → AllBeside Anyhow os ns → EachOnce ns → is_from k o ≡ false
    → numbered k (with_origin os o) ≡ filter (λ p. not (same_place o.place p)) (numbered k os)
numbered-with k [] ns o h once e = rw e refl
numbered-with k (p ∷ os) [] o h once e = absurd h
numbered-with k (p ∷ os) (n ∷ ns) o h once e = by_tests (numbered-with k os ns o h.1 once.1 e) (same_place p.place o.place) refl (is_from k p) refl
  where
    keep : Place → Bool
    keep q = not (same_place o.place q)

    turned : (b : Bool) → same_place p.place o.place ≡ b → same_place o.place p.place ≡ b
    turned b hb = same_place-turned o.place p.place ∙ hb

    absent : same_place p.place o.place ≡ true → node_at ns o.place ≡ None
    absent hb = ap (node_at ns) (sym (same_place-equal p.place o.place hb) ∙ h.0.0) ∙ once.0

    by_tests : numbered k (with_origin os o) ≡ filter keep (numbered k os)
        → (b : Bool) → same_place p.place o.place ≡ b → (c : Bool) → is_from k p ≡ c
        → numbered k (if b then o ∷ os else p ∷ with_origin os o) ≡ filter keep (map (λ (o : Origin). o.place) (if c then p ∷ filter (is_from k) os else filter (is_from k) os))
    by_tests rest true hb true hc = let same = turned true hb in rw (e, same) (sym (numbered-absent k o.place os ns h.1 (absent hb)))
    by_tests rest true hb false hc = rw e (sym (numbered-absent k o.place os ns h.1 (absent hb)))
    by_tests rest false hb true hc = let other = turned false hb in rw (hc, other) (ap (λ ps. p.place ∷ ps) rest)
    by_tests rest false hb false hc = rw hc rest

-- no origin has this number
abbrev pub NoneIsFrom : ℕ → List Origin → Type 0
NoneIsFrom k os = AllByRecursion (λ (o : Origin). is_from k o ≡ false) os

numbered-none : (k : ℕ) (os : List Origin) → NoneIsFrom k os → numbered k os ≡ []
numbered-none k [] none = refl
numbered-none k (o ∷ os) none = let first : is_from k o ≡ false = none.0 in rw first (numbered-none k os none.1)

numbered-new : (k : ℕ) (os : List Origin) (o : Origin) → NoneIsFrom k os → is_from k o ≡ true → numbered k (with_origin os o) ≡ o.place ∷ []
numbered-new k [] o none e = rw e refl
numbered-new k (p ∷ os) o none e = by_test (numbered-new k os o none.1 e) (same_place p.place o.place)
  where
    first : is_from k p ≡ false
    first = none.0

    by_test : numbered k (with_origin os o) ≡ o.place ∷ [] → (b : Bool) → numbered k (if b then o ∷ os else p ∷ with_origin os o) ≡ o.place ∷ []
    by_test rest true = rw e (ap (λ ps. o.place ∷ ps) (numbered-none k os none.1))
    by_test rest false = let older = first in rw older rest

-- ---- all acts

-- where something stands that another entry put, after something was done
pub numbered-older : (act : Option Act) (number k : ℕ) (os : List Origin) (ns : List Node) → AllBeside Anyhow os ns → EachOnce ns → nat_eq k number ≡ false
    → numbered k (origins_after act number os) ≡ places_after act (numbered k os)
numbered-older None number k os ns h once other = refl
numbered-older (Some (Placed there standing)) number k os ns h once other =
    numbered-with k os ns (record { place = there; number = number }) h once (number-turned k number ∙ other)
numbered-older (Some (Gone there)) number k os ns h once other = numbered-filter (λ p. not (is_at_or_above there p)) k os
numbered-older (Some (Carried from to moving)) number k os ns h once other = numbered-moved from to moving k os

-- where something stands that the last entry put
pub numbered-last : (act : Option Act) (number k : ℕ) (os : List Origin) → NoneIsFrom k os → nat_eq k number ≡ true
    → numbered k (origins_after act number os) ≡ placed_at act
numbered-last None number k os none own = numbered-none k os none
numbered-last (Some (Placed there standing)) number k os none own = numbered-new k os (record { place = there; number = number }) none (number-turned k number ∙ own)
numbered-last (Some (Gone there)) number k os none own =
    numbered-filter (λ p. not (is_at_or_above there p)) k os ∙ ap (filter (λ p. not (is_at_or_above there p))) (numbered-none k os none)
numbered-last (Some (Carried from to moving)) number k os none own = numbered-moved from to moving k os ∙ ap (places_after (Some (Carried from to moving))) (numbered-none k os none)
