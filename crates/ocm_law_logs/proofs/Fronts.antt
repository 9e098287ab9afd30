-- The shortest prefix of a list with so many entries that are no tick.
use Rattle.std.proofs.Common.{◌≡◌, ℕ, ◌+◌, ◌<◌, ◌≤◌, List, [], ◌∷◌, Bool, true, false, refl, sym, ap, ◌∙◌, arith}
use Rattle.std.specs.Prelude.{Option, Some, None, ◌&&◌, not, if◌then◌else◌, nat_eq, count_by, option_map, unwrap_or}
use Rattle.std.specs.Option.{option_or}
use Rattle.std.proofs.lemmas.Bool.{eqb-true, eq-eqb, ne_eqb}
use Rattle.ocm_entry.specs.declared.entries.Entry.{Entry}
use Rattle.ocm_rules.specs.History.{kept, changes}
use Rattle.ocm_rules.specs.Lean.{emptied_unless}
use Rattle.ocm_entry.specs.Ticks.{is_tick}
use Rattle.ocm_rules.proofs.Lists.{count_by-cons}
use Rattle.ocm_law_lean.proofs.Thin.{thin_cons, thin-count}
use Rattle.ocm_access_log.specs.Truth.{if_counts, prefix_at, end_of}
use Rattle.ocm_law_logs.proofs.Bare.{no_body, bare}
use Rattle.ocm_law_logs.proofs.Growing.{IsKept, of_kept}

-- ---- the number of entries that are no tick

abbrev counted : Entry → Bool
counted e = not (is_tick e.ask)

abbrev pub tally : List Entry → ℕ
tally l = count_by counted l

pub tally-tick : (e : Entry) (l : List Entry) → is_tick e.ask ≡ true → tally (e ∷ l) ≡ tally l
tally-tick e l tick = count_by-cons counted e l ∙ ap (λ b. if not b then tally l + 1 else tally l) tick

pub tally-other : (e : Entry) (l : List Entry) → is_tick e.ask ≡ false → tally (e ∷ l) ≡ tally l + 1
tally-other e l other = count_by-cons counted e l ∙ ap (λ b. if not b then tally l + 1 else tally l) other

pub tally-grows : (e : Entry) (l : List Entry) → tally l ≤ tally (e ∷ l)
tally-grows e l = cases (is_tick e.ask) refl
  where
    cases : (b : Bool) → is_tick e.ask ≡ b → tally l ≤ tally (e ∷ l)
    cases true tick = let same = tally-tick e l tick in omega arith
    cases false other = let more = tally-other e l other in omega arith

-- ---- fronts

-- a list with so many entries that are no tick
abbrev pub if_tally : ℕ → List Entry → Option (List Entry)
if_tally place l = if nat_eq (tally l) place then Some l else None

-- the shortest prefix with so many
abbrev pub front : ℕ → List Entry → Option (List Entry)
front place [] = if_tally place []
front place (e ∷ before) = option_or (front place before) (if_tally place (e ∷ before))

-- the list up to where the place is over
abbrev pub finish : ℕ → List Entry → List Entry
finish place l = unwrap_or (front (place + 1) l) l

or-none : (o : Option (List Entry)) → option_or o None ≡ o
or-none None = refl
or-none (Some q) = refl

pub own : (l : List Entry) → if_tally (tally l) l ≡ Some l
own l = let same : nat_eq (tally l) (tally l) ≡ true = eq-eqb (tally l) (tally l) refl in rw same refl

-- a list has a prefix with its own number
pub front-own : (l : List Entry) → (q : List Entry) × (front (tally l) l ≡ Some q)
front-own [] = ([], own [])
front-own (e ∷ before) = cases (front (tally (e ∷ before)) before)
  where
    cases : (o : Option (List Entry)) → (q : List Entry) × (option_or o (if_tally (tally (e ∷ before)) (e ∷ before)) ≡ Some q)
    cases None = (e ∷ before, own (e ∷ before))
    cases (Some q) = (q, refl)

-- and none with more
pub front-none : (place : ℕ) (l : List Entry) → tally l < place → front place l ≡ None
front-none place [] few = let other : nat_eq (tally []) place ≡ false = ne_eqb (tally []) place (λ same. absurd (omega arith)) in rw other refl
front-none place (e ∷ before) few =
    let grows = tally-grows e before in
    let other : nat_eq (tally (e ∷ before)) place ≡ false = ne_eqb (tally (e ∷ before)) place (λ same. absurd (omega arith)) in
    let nothing = front-none place before (omega arith) in
    rw (nothing, other) refl

-- no shortest prefix ends with a tick
pub front-tick : (place : ℕ) (e : Entry) (before : List Entry) → is_tick e.ask ≡ true → front place (e ∷ before) ≡ front place before
front-tick place e before tick = cases (nat_eq (tally (e ∷ before)) place) refl
  where
    cases : (b : Bool) → nat_eq (tally (e ∷ before)) place ≡ b → option_or (front place before) (if b then Some (e ∷ before) else None) ≡ front place before
    cases true is =
        let there = front-own before in
        let same : front place before ≡ Some there.0 = ap (λ n. front n before) (sym (eqb-true (tally (e ∷ before)) place is) ∙ tally-tick e before tick) ∙ there.1 in
        rw same refl
    cases false is = or-none (front place before)

-- ---- of bare lists

map-or : (a b : Option (List Entry)) → option_map (bare false) (option_or a b) ≡ option_or (option_map (bare false) a) (option_map (bare false) b)
map-or None b = refl
map-or (Some q) b = refl

map-if : (b : Bool) (l : List Entry) → option_map (bare false) (if b then Some l else None) ≡ (if b then Some (bare false l) else None)
map-if true l = refl
map-if false l = refl

-- the prefix of the bare list is the bare prefix
pub front-bare : (place : ℕ) (first : Bool) (l : List Entry) → front place (bare first l) ≡ option_map (bare false) (front place l)
front-bare place first [] = sym (map-if (nat_eq (tally []) place) [])
front-bare place first (e ∷ before) = cases (front-bare place (is_tick e.ask) before) first (is_tick e.ask) refl
  where
    rest : List Entry
    rest = bare (is_tick e.ask) before

    Older : Type 0
    Older = front place rest ≡ option_map (bare false) (front place before)

    stays : Older → front place (emptied_unless false e ∷ rest) ≡ option_map (bare false) (front place (e ∷ before))
    stays older =
        ap (λ o. option_or o (if_tally place (emptied_unless false e ∷ rest))) older
        ∙ ap (λ n. option_or (option_map (bare false) (front place before)) (if nat_eq n place then Some (emptied_unless false e ∷ rest) else None)) (thin-count no_body false (e ∷ before))
        ∙ sym (map-or (front place before) (if_tally place (e ∷ before))
        ∙ ap (λ o. option_or (option_map (bare false) (front place before)) o) (map-if (nat_eq (tally (e ∷ before)) place) (e ∷ before)))

    cases : Older → (f b : Bool) → is_tick e.ask ≡ b → front place (thin_cons (f && b) (emptied_unless false e) rest) ≡ option_map (bare false) (front place (e ∷ before))
    cases older true true tick = older ∙ ap (λ o. option_map (bare false) o) (sym (front-tick place e before tick))
    cases older true false other = stays older
    cases older false b is = stays older

unwrap-map : (o : Option (List Entry)) (l : List Entry) → bare false (unwrap_or o l) ≡ unwrap_or (option_map (bare false) o) (bare false l)
unwrap-map None l = refl
unwrap-map (Some q) l = refl

pub finish-bare : (place : ℕ) (l : List Entry) → bare false (finish place l) ≡ finish place (bare false l)
finish-bare place l = unwrap-map (front (place + 1) l) l ∙ ap (λ o. unwrap_or o (bare false l)) (sym (front-bare (place + 1) false l))

-- ---- of what is kept

-- the prefixes of what is kept are all kept
pub prefix-front : (host : List ℕ) (place : ℕ) (g : List Entry) → prefix_at host place (kept host g) ≡ front place (kept host g)
prefix-front host place g = of_kept (λ l. prefix_at host place l ≡ front place l) host g step refl
  where
    step : (e : Entry) (l : List Entry) → IsKept host e l → prefix_at host place l ≡ front place l → prefix_at host place (e ∷ l) ≡ front place (e ∷ l)
    step e l is older =
        let again : kept host (e ∷ l) ≡ e ∷ l = ap (λ b. if changes host b e then e ∷ b else b) is.0 ∙ ap (λ b. if b then e ∷ l else l) is.1 in
        ap (λ o. option_or o (if_counts host place (e ∷ l))) older
        ∙ ap (λ x. option_or (front place l) (if nat_eq (tally x) place then Some (e ∷ l) else None)) again

pub end-finish : (host : List ℕ) (place : ℕ) (g : List Entry) → end_of host place (kept host g) ≡ finish place (kept host g)
end-finish host place g = ap (λ o. unwrap_or o (kept host g)) (prefix-front host (place + 1) g)
