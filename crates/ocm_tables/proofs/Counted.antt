use Rattle.std.proofs.Common.{◌≡◌, ◌≢◌, ℕ, ◌+◌, ◌^◌, ◌<◌, ◌≤◌, List, [], ◌∷◌, Bool, true, false, refl, sym, ap, ◌∙◌, arith}
use Rattle.std.specs.Prelude.{Option, Some, None, nat_eq, if◌then◌else◌, All, filter, not, min}
use Rattle.std.proofs.lemmas.Bool.Decides.{nat_tests}
use Rattle.std.proofs.lemmas.List.Elements.{All-filter, All-append, All-cons, All-tail}
use Rattle.ocm_entry.specs.declared.rows.Place.{Place}
use Rattle.ocm_entry.specs.declared.rows.Standing.{Standing}
use Rattle.ocm_entry.specs.declared.rows.Node.{Node}
use Rattle.ocm_rules.specs.Files.{Act, Placed, Gone, Carried, same_place, is_at_or_above, moved, with_node, nodes_after}
use Rattle.ocm_rules.specs.State.{node_at}
use Rattle.ocm_rules.proofs.Places.{same_place-refl}
use Rattle.ocm_rules.proofs.Nodes.{node_at-with_node}
use Rattle.ocm_tables.specs.declared.changes.TableChange.{TableChange}
use Rattle.ocm_tables.specs.declared.changes.TableChange.TheVariants as changes
use Rattle.ocm_tables.specs.Changes.{entries_after, file_act, is_kept}
use Rattle.ocm_law_origins.specs.Origins.{Origin, with_origin, copied, origin_stays, origins_after, put_of, body_from}

-- all these nodes stand by changes up to one of this number
abbrev pub AreMade : ℕ → List Origin → Type 0
AreMade entries origins = All (λ (o : Origin). o.number ≤ entries) origins

made-with : (entries : ℕ) (origin : Origin) (os : List Origin) → origin.number ≤ entries → AreMade entries os → AreMade entries (with_origin os origin)
made-with entries origin [] last made = All-cons (λ (o : Origin). o.number ≤ entries) origin [] last made
made-with entries origin (o ∷ os) last made = by_test (made-with entries origin os last (All-tail (λ (x : Origin). x.number ≤ entries) o os made)) (same_place o.place origin.place)
  where
    by_test : AreMade entries (with_origin os origin) → (b : Bool) → AreMade entries (if b then origin ∷ os else o ∷ with_origin os origin)
    by_test rest true = All-cons (λ (x : Origin). x.number ≤ entries) origin os last (All-tail (λ (x : Origin). x.number ≤ entries) o os made)
    by_test rest false = All-cons (λ (x : Origin). x.number ≤ entries) o (with_origin os origin) (made 0 o (omega arith)) rest

copied-one : (from to : Place) (o : Origin) (os : List Origin) (b : Bool) → is_at_or_above from o.place ≡ b →
    copied from to (o ∷ os) ≡ (if b then (let copy : Origin = record { place = moved from to o.place; number = o.number } in copy) ∷ copied from to os else copied from to os)
copied-one from to o os true h = rw h refl
copied-one from to o os false h = rw h refl

made-copied : (entries : ℕ) (from to : Place) (os : List Origin) → AreMade entries os → AreMade entries (copied from to os)
made-copied entries from to [] made = made
made-copied entries from to (o ∷ os) made =
    rw (copied-one from to o os (is_at_or_above from o.place) refl) (by_test (made-copied entries from to os (All-tail (λ (x : Origin). x.number ≤ entries) o os made)) (is_at_or_above from o.place))
  where
    by_test : AreMade entries (copied from to os) → (b : Bool) → AreMade entries (if b then (let copy : Origin = record { place = moved from to o.place; number = o.number } in copy) ∷ copied from to os else copied from to os)
    by_test rest true = All-cons (λ (x : Origin). x.number ≤ entries) (record { place = moved from to o.place; number = o.number }) (copied from to os) (made 0 o (omega arith)) rest
    by_test rest false = rest

-- what stands by changes stands so once the last one is made
pub made-after : (act : Option Act) (entries : ℕ) (os : List Origin) → AreMade entries os → AreMade entries (origins_after act entries os)
made-after None entries os made = made
made-after (Some (Placed there standing)) entries os made = made-with entries (record { place = there; number = entries }) os (omega arith) made
made-after (Some (Gone there)) entries os made = All-filter (λ (o : Origin). not (is_at_or_above there o.place)) (λ (o : Origin). o.number ≤ entries) os made
made-after (Some (Carried from to moving)) entries os made =
    All-append (λ (o : Origin). o.number ≤ entries) (filter (origin_stays from to moving) os) (copied from to os)
    (All-filter (origin_stays from to moving) (λ (o : Origin). o.number ≤ entries) os made) (made-copied entries from to os made)

-- more changes
pub made-later : (entries later : ℕ) (os : List Origin) → entries ≤ later → AreMade entries os → AreMade later os
made-later entries later os more made k d l = let first = made k d l in omega (arith, more, first)

-- where nothing is put, the number of a change plays no part
pub number-apart : (act : Option Act) (n m : ℕ) (os : List Origin) → put_of act ≡ None → origins_after act n os ≡ origins_after act m os
number-apart None n m os h = refl
number-apart (Some (Placed there standing)) n m os h = absurd (cc)
number-apart (Some (Gone there)) n m os h = refl
number-apart (Some (Carried from to moving)) n m os h = refl

body-own : (nodes : List Node) (place : Place) (entries number : ℕ) (os : List Origin) → entries < number → AreMade entries os →
    body_from nodes (with_origin os (record { place = place; number = number })) number ≡ node_at nodes place
body-own nodes place entries number [] later made = let own : nat_eq number number ≡ true = grind (arith, nat_tests) in rw own refl
body-own nodes place entries number (o ∷ os) later made =
    by_test (body-own nodes place entries number os later (All-tail (λ (x : Origin). x.number ≤ entries) o os made)) (same_place o.place place)
  where
    by_test : body_from nodes (with_origin os (record { place = place; number = number })) number ≡ node_at nodes place → (b : Bool) →
        body_from nodes (if b then (let origin : Origin = record { place = place; number = number } in origin) ∷ os else o ∷ with_origin os (record { place = place; number = number })) number ≡ node_at nodes place
    by_test rest true = let own : nat_eq number number ≡ true = grind (arith, nat_tests) in rw own refl
    by_test rest false =
        let older : o.number ≤ entries = made 0 o (omega arith) in
        let other : nat_eq o.number number ≡ false = grind (arith, nat_tests, older, later) in
        rw other rest

-- a change's own number is that of what it puts
pub own-standing : (act : Option Act) (standing : Standing) (nodes : List Node) (os : List Origin) (entries number : ℕ) → entries < number → AreMade entries os → put_of act ≡ Some standing →
    Some standing ≡ body_from (nodes_after act nodes) (origins_after act number os) number
own-standing None standing nodes os entries number later made h = absurd (cc)
own-standing (Some (Placed there put)) standing nodes os entries number later made h =
    let node : Node = record { place = there; standing = put } in
    let stands : node_at (with_node nodes node) there ≡ Some put = node_at-with_node nodes node there ∙ rw (same_place-refl there) refl in
    sym h ∙ sym (body-own (with_node nodes node) there entries number os later made ∙ stands)
own-standing (Some (Gone there)) standing nodes os entries number later made h = absurd (cc)
own-standing (Some (Carried from to moving)) standing nodes os entries number later made h = absurd (cc)

some-none : (s : Standing) → (let none : Option Standing = None in none) ≡ Some s → ⊥
some-none s h = cc

-- what stands by a change that is not the one about to be made, or that puts nothing
pub others-standing : (act : Option Act) (nodes : List Node) (os : List Origin) (number next : ℕ) (result : Option Standing) →
    ((later : ℕ) → later ≢ number → result ≡ body_from (nodes_after act nodes) (origins_after act later os) number) → (if nat_eq number next then put_of act else None) ≡ None →
    result ≡ body_from (nodes_after act nodes) (origins_after act next os) number
others-standing act nodes os number next result h own = by_test (nat_eq number next) refl own
  where
    by_test : (b : Bool) → nat_eq number next ≡ b → (if b then put_of act else None) ≡ None → result ≡ body_from (nodes_after act nodes) (origins_after act next os) number
    by_test true e g =
        let other : number + 1 ≢ number = λ (same : number + 1 ≡ number). omega arith in
        h (number + 1) other ∙ ap (λ l. body_from (nodes_after act nodes) l number) (number-apart act (number + 1) next os g)
    by_test false e g = h next (λ same. grind (arith, nat_tests))

-- what a change puts has no other number than its own
pub own-number : (act : Option Act) (number next : ℕ) (standing : Standing) → (if nat_eq number next then put_of act else None) ≡ Some standing → (number ≡ next) × (put_of act ≡ Some standing)
own-number act number next standing h = by_test (nat_eq number next) refl h
  where
    by_test : (b : Bool) → nat_eq number next ≡ b → (if b then put_of act else None) ≡ Some standing → (number ≡ next) × (put_of act ≡ Some standing)
    by_test true e g = (grind (arith, nat_tests), g)
    by_test false e g = absurd (some-none standing g)

-- a change that puts something is kept
kept-put : (change : TableChange) (standing : Standing) → put_of (file_act change) ≡ Some standing → is_kept change ≡ true
kept-put changes.Nothing standing h = absurd (some-none standing h)
kept-put change standing h = refl

-- what is put by the next change stands by it, where the count still rises
pub next-standing : (change : TableChange) (number entries : ℕ) (standing : Standing) (nodes : List Node) (os : List Origin) → AreMade entries os → entries < 18446744073709551615 →
    number ≡ entries_after entries change → put_of (file_act change) ≡ Some standing → Some standing ≡ body_from (nodes_after (file_act change) nodes) (origins_after (file_act change) (entries_after entries change) os) number
next-standing change number entries standing nodes os made few is put =
    let kept = kept-put change standing put in
    let rises : entries_after entries change ≡ entries + 1 = ap (λ b. if b then min (entries + 1) 18446744073709551615 else entries) kept ∙ omega arith in
    let later : entries < entries_after entries change = omega (arith, rises) in
    own-standing (file_act change) standing nodes os entries (entries_after entries change) later made put
    ∙ ap (body_from (nodes_after (file_act change) nodes) (origins_after (file_act change) (entries_after entries change) os)) (sym is)

-- the count does not fall
pub counts-up : (entries : ℕ) (change : TableChange) → entries < 2 ^ 64 → entries ≤ entries_after entries change
counts-up entries change fits = by_test (is_kept change)
  where
    by_test : (b : Bool) → entries ≤ (if b then min (entries + 1) 18446744073709551615 else entries)
    by_test true = omega (arith, fits)
    by_test false = omega arith
