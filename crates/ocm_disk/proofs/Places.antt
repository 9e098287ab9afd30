-- A host's place, by its index.
use Rattle.std.proofs.Common.{◌≡◌, ◌<◌, ◌≤◌, ◌==◌, ◌||◌, ℕ, zero, suc, List, [], ◌∷◌, length, get_or, set, Bool, true, false, cond, Option, Some, None, refl, sym, ◌∙◌, ap, arith, if◌then◌else◌, is_none, position, is_some}
use Rattle.std.specs.List.{list_any, position_or_len}
use Rattle.std.proofs.lemmas.Bool.{eq-eqb, ne_eqb}
use Rattle.std.proofs.lemmas.List.{set-get_or}
use Rattle.std.proofs.lemmas.List.Quantifiers.{position-Some}
use Rattle.std.proofs.lemmas.List.Sums.{fails_before_first}
use Rattle.ocm_limits.specs.Limits.{most_servers}
use Rattle.ocm_disk.specs.Memory.{DiskState}
use Rattle.ocm_disk.specs.Shelf.{is_of, has_place, disk_of, is_vacant, with_disk, refusal, IsTold}
use Rattle.ocm_disk.specs.declared.shelf.ShelfPlace.{ShelfPlace}
use Rattle.ocm_disk.specs.declared.shelf.ShelfFault.{ShelfFault}
use Rattle.ocm_disk.specs.declared.shelf.ShelfFault.TheVariants.{Taken, Full, NoMemory}

-- the place of this index is the first of this host
record IsFirst (host : List ℕ) (places : List ShelfPlace) (at : ℕ) (d : ShelfPlace) : Type 0 where
  pub within : at < length places
  pub here : is_of host (get_or places at d) ≡ true
  pub before : (k : ℕ) → k < at → is_of host (get_or places k d) ≡ false

-- what stands at the index
pub record StandsAt (host : List ℕ) (places : List ShelfPlace) (at : ℕ) (d : ShelfPlace) : Type 0 where
  pub has : has_place host places ≡ true
  pub disk : disk_of host places ≡ (get_or places at d).disk
  pub vacant : is_vacant host places ≡ is_none (get_or places at d).disk
  pub after : (disk : Option DiskState) → with_disk host disk places ≡ set places at (record { host = (get_or places at d).host; disk = disk })

behind : (host : List ℕ) (place : ShelfPlace) (places : List ShelfPlace) (at : ℕ) (d : ShelfPlace) → IsFirst host (place ∷ places) (suc at) d → IsFirst host places at d
behind host place places at d first = record {
  within = omega (arith, first.within);
  here = first.here;
  before = λ k h. first.before (suc k) (omega (arith, h));
}

stands : (host : List ℕ) (places : List ShelfPlace) (at : ℕ) (d : ShelfPlace) → IsFirst host places at d → StandsAt host places at d
stands host [] at d first = absurd (let w = first.within in omega (arith, w))
stands host (place ∷ places) zero d first = record {
  has = ap (λ (b : Bool). b || list_any (is_of host) places) first.here;
  disk = ap (λ (b : Bool). if b then place.disk else disk_of host places) first.here;
  vacant = ap (λ (b : Bool). if b then is_none place.disk else is_vacant host places) first.here;
  after = λ disk. ap (λ (b : Bool). if b then record { host = place.host; disk = disk } ∷ places else place ∷ with_disk host disk places) first.here;
}
stands host (place ∷ places) (suc at) d first =
    let rest = stands host places at d (behind host place places at d first) in
    let other : is_of host place ≡ false = first.before zero (omega arith) in
    record {
      has = ap (λ (b : Bool). b || list_any (is_of host) places) other ∙ rest.has;
      disk = ap (λ (b : Bool). if b then place.disk else disk_of host places) other ∙ rest.disk;
      vacant = ap (λ (b : Bool). if b then is_none place.disk else is_vacant host places) other ∙ rest.vacant;
      after = λ disk. ap (λ (b : Bool). if b then record { host = place.host; disk = disk } ∷ places else place ∷ with_disk host disk places) other ∙ ap (λ (l : List ShelfPlace). place ∷ l) (rest.after disk);
    }

pub stands_at : (host : List ℕ) (places : List ShelfPlace) (at : ℕ) (d : ShelfPlace) → position (is_of host) places ≡ Some at → StandsAt host places at d
stands_at host places at d found =
    let first = position-Some (is_of host) places at d found in
    stands host places at d (record { within = first.0; here = first.1; before = first.2 })

-- no place is the host's
pub record StandsNowhere (host : List ℕ) (places : List ShelfPlace) : Type 0 where
  pub has : has_place host places ≡ false
  pub disk : disk_of host places ≡ None
  pub vacant : is_vacant host places ≡ false
  pub after : (disk : Option DiskState) → with_disk host disk places ≡ places

nowhere : (host : List ℕ) (places : List ShelfPlace) → ((k : ℕ) (d : ShelfPlace) → k < length places → is_of host (get_or places k d) ≡ false) → StandsNowhere host places
nowhere host [] none = record { has = refl; disk = refl; vacant = refl; after = λ disk. refl }
nowhere host (place ∷ places) none =
    let rest = nowhere host places (λ k d h. none (suc k) d (omega (arith, h))) in
    let other : is_of host place ≡ false = none zero place (omega arith) in
    record {
      has = ap (λ (b : Bool). b || list_any (is_of host) places) other ∙ rest.has;
      disk = ap (λ (b : Bool). if b then place.disk else disk_of host places) other ∙ rest.disk;
      vacant = ap (λ (b : Bool). if b then is_none place.disk else is_vacant host places) other ∙ rest.vacant;
      after = λ disk. ap (λ (b : Bool). if b then record { host = place.host; disk = disk } ∷ places else place ∷ with_disk host disk places) other ∙ ap (λ (l : List ShelfPlace). place ∷ l) (rest.after disk);
    }

past : {X : Type 0} (p : X → Bool) (xs : List X) → position p xs ≡ None → length xs ≤ position_or_len p xs
past p xs none = grind (arith, none)

pub stands_nowhere : (host : List ℕ) (places : List ShelfPlace) → position (is_of host) places ≡ None → StandsNowhere host places
stands_nowhere host places none =
    let le = past (is_of host) places none in
    nowhere host places (λ k d h. fails_before_first (is_of host) places k d (omega (arith, h, le)))

-- whether there is a place is whether it has an index
pub has_place-position : (host : List ℕ) (places : List ShelfPlace) (found : Option ℕ) → found ≡ position (is_of host) places → has_place host places ≡ is_some found
has_place-position host places None e = (stands_nowhere host places (sym e)).has
has_place-position host places (Some at) e = (stands_at host places at (record { host = []; disk = None }) (sym e)).has

never : (has full : Bool) → cond has (Some Taken) (cond full (Some Full) None) ≡ Some NoMemory → ⊥
never true full e = (cc)
never false true e = (cc)
never false false e = (cc)

-- a refusal is told as it is
pub told : (host : List ℕ) (places : List ShelfPlace) (fault : ShelfFault) → refusal host places ≡ Some fault → IsTold fault (refusal host places)
told host places Taken e = e
told host places Full e = e
told host places NoMemory e = absurd (never (has_place host places) (length places == most_servers) e)

pub refused_taken : (host : List ℕ) (places : List ShelfPlace) → has_place host places ≡ true → Some Taken ≡ refusal host places
refused_taken host places has = sym (ap (λ (b : Bool). if b then Some Taken else (if length places == most_servers then Some Full else None)) has)

pub refused_full : (host : List ℕ) (places : List ShelfPlace) → has_place host places ≡ false → length places ≡ most_servers → Some Full ≡ refusal host places
refused_full host places has full =
    sym (ap (λ (b : Bool). if b then Some Taken else (if length places == most_servers then Some Full else None)) has
    ∙ ap (λ (b : Bool). if b then Some Full else None) (eq-eqb (length places) most_servers full))

pub not_refused : (host : List ℕ) (places : List ShelfPlace) → has_place host places ≡ false → (length places ≡ most_servers → ⊥) → None ≡ refusal host places
not_refused host places has free =
    sym (ap (λ (b : Bool). if b then Some Taken else (if length places == most_servers then Some Full else None)) has
    ∙ ap (λ (b : Bool). if b then Some Full else None) (ne_eqb (length places) most_servers free))

-- the place of the host is filled, or stays
pub filled : (host : List ℕ) (places : List ShelfPlace) (at : ℕ) (old new : ShelfPlace) (disk : DiskState) (empty : Bool) → StandsAt host places at old → old ≡ get_or places at old
    → new ≡ (if empty then record { host = old.host; disk = Some disk } else old)
    → set places at new ≡ (if empty then with_disk host (Some disk) places else places)
filled host places at old new disk true here place is =
    ap (set places at) is ∙ ap (λ (p : ShelfPlace). set places at (record { host = p.host; disk = Some disk })) place ∙ sym (here.after (Some disk))
filled host places at old new disk false here place is =
    ap (set places at) (is ∙ place) ∙ set-get_or places at old
