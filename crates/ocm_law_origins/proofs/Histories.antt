use Rattle.std.proofs.Common.{◌≡◌, ℕ, ◌+◌, ◌≤◌, List, [], ◌∷◌, ◌++◌, length, Bool, true, false, refl, sym, ap, ◌∙◌, arith, length-append}
use Rattle.std.specs.Prelude.{Option, Some, None, nat_eq, if◌then◌else◌}
use Rattle.std.specs.List.{All, AllZip, list_any}
use Rattle.std.proofs.lemmas.Bool.{ne_eqb, eq-eqb, eqb-true}
use Rattle.std.proofs.lemmas.List.Elements.{All-from_recursion}
use Rattle.ocm_entry.specs.declared.entries.Entry.{Entry}
use Rattle.ocm_entry.specs.declared.rows.Place.{Place}
use Rattle.ocm_entry.specs.declared.rows.Standing.{Standing}
use Rattle.ocm_rules.specs.Files.{Act, Placed, act_after, nodes}
use Rattle.ocm_rules.specs.Lean.{placed_at, places_after, places_of, are_somewhere, still_stands}
use Rattle.ocm_rules.proofs.Once.{once-nodes}
use Rattle.ocm_law_origins.specs.Origins.{Origin, is_from, origins, origins_after, put_of, put_by, HaveSamePlaces, IsOriginOf}
use Rattle.ocm_law_origins.proofs.Beside.{AllBeside, beside-weaker, beside-all, places-beside, beside-places, beside-after}
use Rattle.ocm_law_origins.proofs.Numbered.{numbered, NoneIsFrom, numbered-somewhere, numbered-older, numbered-last}

-- ---- what entries put

put-older : (host : List ℕ) (e : Entry) (l : List Entry) (k : ℕ) → k ≤ length l → put_by host (e ∷ l) k ≡ put_by host l k
put-older host e l k le = let other : nat_eq k (length l + 1) ≡ false = ne_eqb k (length l + 1) (λ same. absurd (omega arith)) in rw other refl

put-last : (host : List ℕ) (e : Entry) (l : List Entry) → put_by host (e ∷ l) (length l + 1) ≡ put_of (act_after host l e.ask)
put-last host e l = let same : nat_eq (length l + 1) (length l + 1) ≡ true = eq-eqb (length l + 1) (length l + 1) refl in rw same refl

-- an entry has the number of those before it and one more
pub put-at : (host : List ℕ) (later before : List Entry) (e : Entry) → put_by host (later ++ e ∷ before) (length before + 1) ≡ put_of (act_after host before e.ask)
put-at host [] before e = put-last host e before
put-at host (f ∷ later) before e =
    put-older host f (later ++ e ∷ before) (length before + 1) (omega (arith, length-append later (e ∷ before))) ∙ put-at host later before e

-- ---- the origins of a history

-- an origin's number is that of an entry that put what stands
abbrev Told : List ℕ → List Entry → ℕ → Standing → Type 0
Told host g k standing = (1 ≤ k) × (k ≤ length g) × (put_by host g k ≡ Some standing)

origins-told : (host : List ℕ) (g : List Entry) → AllBeside (Told host g) (origins host g) (nodes host g)
origins-told host [] = tt
origins-told host (e ∷ before) =
    beside-after (Told host (e ∷ before)) (act_after host before e.ask) (length before + 1) (origins host before) (nodes host before) put
    (beside-weaker (Told host before) (Told host (e ∷ before)) further (origins host before) (nodes host before) (origins-told host before))
  where
    put : (there : Place) (standing : Standing) → act_after host before e.ask ≡ Some (Placed there standing) → Told host (e ∷ before) (length before + 1) standing
    put there standing is = (omega arith, omega arith, put-last host e before ∙ ap put_of is)

    further : (k : ℕ) (standing : Standing) → Told host before k standing → Told host (e ∷ before) k standing
    further k standing h = (h.0, (let le : k ≤ length before = h.1 in omega arith), put-older host e before k h.1 ∙ h.2)

pub origins-places : (host : List ℕ) (g : List Entry) → HaveSamePlaces (origins host g) (nodes host g)
origins-places host g = places-beside (Told host g) (origins host g) (nodes host g) (origins-told host g)

pub origins-put : (host : List ℕ) (g : List Entry) → AllZip (IsOriginOf (put_by host g)) (origins host g) (nodes host g)
origins-put host g =
    beside-weaker (Told host g) (λ k standing. put_by host g k ≡ Some standing) (λ k standing h. h.2) (origins host g) (nodes host g) (origins-told host g)

pub origins-earlier : (host : List ℕ) (g : List Entry) → All (λ (o : Origin). (1 ≤ o.number) × (o.number ≤ length g)) (origins host g)
origins-earlier host g =
    All-from_recursion (λ (o : Origin). (1 ≤ o.number) × (o.number ≤ length g)) (origins host g)
    (beside-all (Told host g) (λ k. (1 ≤ k) × (k ≤ length g)) (λ k standing h. (h.0, h.1)) (origins host g) (nodes host g) (origins-told host g))

-- no origin has the number of an entry to come
origins-none : (host : List ℕ) (g : List Entry) (k : ℕ) → nat_eq k (length g + 1) ≡ true → NoneIsFrom k (origins host g)
origins-none host g k own = beside-all (Told host g) (λ j. nat_eq j k ≡ false) (λ j standing h. other j h.1) (origins host g) (nodes host g) (origins-told host g)
  where
    other : (j : ℕ) → j ≤ length g → nat_eq j k ≡ false
    other j le = ne_eqb j k (λ same. let is : k ≡ length g + 1 = eqb-true k (length g + 1) own in absurd (omega arith))

-- where what an entry put stands
pub origins-numbered : (host : List ℕ) (g : List Entry) (k : ℕ) → places_of host g k ≡ numbered k (origins host g)
origins-numbered host [] k = refl
origins-numbered host (e ∷ before) k = by_test (origins-numbered host before k) (nat_eq k (length before + 1)) refl
  where
    act : Option Act
    act = act_after host before e.ask

    by_test : places_of host before k ≡ numbered k (origins host before) → (b : Bool) → nat_eq k (length before + 1) ≡ b
        → (if b then placed_at act else places_after act (places_of host before k)) ≡ numbered k (origins_after act (length before + 1) (origins host before))
    by_test older true own = sym (numbered-last act (length before + 1) k (origins host before) (origins-none host before k own) own)
    by_test older false other =
        ap (places_after act) older
        ∙ sym (numbered-older act (length before + 1) k (origins host before) (nodes host before) (beside-places (origins host before) (nodes host before) (origins-places host before)) (once-nodes host before) other)

pub origins-still : (host : List ℕ) (g : List Entry) (k : ℕ) → still_stands host g k ≡ list_any (is_from k) (origins host g)
origins-still host g k = ap are_somewhere (origins-numbered host g k) ∙ numbered-somewhere k (origins host g)

-- what does nothing to files does nothing to the origins
pub origins-same : (host : List ℕ) (before : List Entry) (e : Entry) → act_after host before e.ask ≡ None → origins host (e ∷ before) ≡ origins host before
origins-same host before e is = ap (λ act. origins_after act (length before + 1) (origins host before)) is
