-- A place that is added to a shelf, and the disk that is put into it.
use Rattle.std.proofs.Common.{◌≡◌, ◌||◌, ◌==◌, ℕ, List, [], ◌∷◌, ◌++◌, length, Bool, true, false, if◌then◌else◌, Option, Some, None, refl, ◌∙◌, ap, bytes_eq, is_none}
use Rattle.std.specs.List.{list_any}
use Rattle.std.proofs.lemmas.Slice.Eq.{bytes_eq-Decides}
use Rattle.ocm_limits.specs.Limits.{most_servers}
use Rattle.ocm_disk.specs.Memory.{DiskState}
use Rattle.ocm_disk.specs.Shelf.{has_place, is_of, is_vacant, refusal, with_disk}
use Rattle.ocm_disk.specs.declared.shelf.ShelfPlace.{ShelfPlace}
use Rattle.ocm_disk.specs.declared.shelf.ShelfFault.{ShelfFault}
use Rattle.ocm_disk.specs.declared.shelf.ShelfFault.TheVariants.{Taken, Full}

own_place : (host : List ℕ) → bytes_eq host host ≡ true
own_place host = (bytes_eq-Decides host host).1 refl

-- the host has no place yet
unplaced : (host : List ℕ) (places : List ShelfPlace) → refusal host places ≡ None → has_place host places ≡ false
unplaced host places none = first_none (has_place host places) (if length places == most_servers then Some Full else None) none
  where
    first_none : (taken : Bool) (rest : Option ShelfFault) → (if taken then Some Taken else rest) ≡ None → taken ≡ false
    first_none true rest e = absurd (cc)
    first_none false rest e = refl

apart : (a b : Bool) → (a || b) ≡ false → (a ≡ false) × (b ≡ false)
apart true b e = absurd (cc)
apart false b e = (refl, e)

with_last : (host : List ℕ) (old new : Option DiskState) (places : List ShelfPlace) → has_place host places ≡ false
    → with_disk host new (places ++ record { host = host; disk = old } ∷ []) ≡ places ++ record { host = host; disk = new } ∷ []
with_last host old new [] none = ap (λ (b : Bool). if b then record { host = host; disk = new } ∷ [] else record { host = host; disk = old } ∷ []) (own_place host)
with_last host old new (place ∷ places) none =
    let each = apart (is_of host place) (list_any (is_of host) places) none in
    ap (λ (b : Bool). if b then record { host = place.host; disk = new } ∷ (places ++ record { host = host; disk = old } ∷ []) else place ∷ with_disk host new (places ++ record { host = host; disk = old } ∷ [])) each.0
    ∙ ap (λ l. place ∷ l) (with_last host old new places each.1)

vacant_last : (host : List ℕ) (places : List ShelfPlace) → has_place host places ≡ false → is_vacant host (places ++ record { host = host; disk = None } ∷ []) ≡ true
vacant_last host [] none = ap (λ (b : Bool). if b then true else false) (own_place host)
vacant_last host (place ∷ places) none =
    let each = apart (is_of host place) (list_any (is_of host) places) none in
    ap (λ (b : Bool). if b then is_none place.disk else is_vacant host (places ++ record { host = host; disk = None } ∷ [])) each.0 ∙ vacant_last host places each.1

-- a place is made, its disk is taken out, and another is put in
pub put_on : (host : List ℕ) (disk empty : DiskState) (old added taken put : List ShelfPlace) (held : Bool) → refusal host old ≡ None → added ≡ old ++ record { host = host; disk = Some empty } ∷ []
    → taken ≡ with_disk host None added → held ≡ is_vacant host taken → put ≡ (if held then with_disk host (Some disk) taken else taken)
    → put ≡ old ++ record { host = host; disk = Some disk } ∷ []
put_on host disk empty old added taken put held free add take vacant fill =
    let none = unplaced host old free in
    let out : taken ≡ old ++ record { host = host; disk = None } ∷ [] = take ∙ ap (with_disk host None) add ∙ with_last host (Some empty) None old none in
    let room : held ≡ true = vacant ∙ ap (is_vacant host) out ∙ vacant_last host old none in
    fill ∙ ap (λ (b : Bool). if b then with_disk host (Some disk) taken else taken) room ∙ ap (with_disk host (Some disk)) out ∙ with_last host None (Some disk) old none
