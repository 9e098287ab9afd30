-- What a crash may leave of a disk in memory behind a write and a cut.
use Rattle.std.proofs.Common.{◌≡◌, ◌≤◌, ◌+◌, ◌++◌, inl, inr, ℕ, List, length, take, drop, replicate, refl, sym, ◌∙◌, ap, arith, subst}
use Rattle.std.proofs.lemmas.List.{length-replicate}
use Rattle.ocm_disk.specs.Disk.{Torn, Cut}
use Rattle.ocm_disk.specs.Memory.{ImagesState}
use Rattle.ocm_disk.specs.Past.{Leaves}
use Rattle.ocm_disk.proofs.Changes.{torn_same, torn_written, cut_same, cut_taken}

pub leaves_written : (place : ℕ) (bytes : List ℕ) (old new : ImagesState) → place ≤ length old.seen → length old.torn ≡ length old.seen
    → new.seen ≡ take place old.seen ++ bytes ++ drop (place + length bytes) old.seen
    → new.torn ≡ take place old.torn ++ replicate (length bytes) 238 ++ drop (place + length bytes) old.torn
    → new.synced ≡ old.synced
    → (c : List ℕ) → Leaves new c → (d : List ℕ) × Leaves old d × Torn place (length bytes) d c
leaves_written place bytes old new fits level seen torn synced c (inl is) =
    (old.seen, inl refl, subst (Torn place (length bytes) old.seen) (sym (is ∙ seen)) (torn_written place (length bytes) old.seen bytes fits refl))
leaves_written place bytes old new fits level seen torn synced c (inr (inl is)) =
    (c, inr (inl (is ∙ synced)), torn_same place (length bytes) c)
leaves_written place bytes old new fits level seen torn synced c (inr (inr is)) =
    (old.torn, inr (inr refl), subst (Torn place (length bytes) old.torn) (sym (is ∙ torn)) (torn_written place (length bytes) old.torn (replicate (length bytes) 238) (omega (arith, fits, level)) (length-replicate (length bytes) 238)))

pub leaves_cut : (n : ℕ) (old new : ImagesState) → new.seen ≡ take n old.seen → new.torn ≡ take n old.torn → new.synced ≡ old.synced
    → (c : List ℕ) → Leaves new c → (d : List ℕ) × Leaves old d × Cut n d c
leaves_cut n old new seen torn synced c (inl is) =
    (old.seen, inl refl, subst (Cut n old.seen) (sym (is ∙ seen)) (cut_taken n old.seen))
leaves_cut n old new seen torn synced c (inr (inl is)) = (c, inr (inl (is ∙ synced)), cut_same n c)
leaves_cut n old new seen torn synced c (inr (inr is)) =
    (old.torn, inr (inr refl), subst (Cut n old.torn) (sym (is ∙ torn)) (cut_taken n old.torn))

-- the same from images that are told another way
pub leaves_cut_as : (n : ℕ) (inside old new : ImagesState) → inside ≡ old → new.seen ≡ take n inside.seen → new.torn ≡ take n inside.torn → new.synced ≡ inside.synced
    → (c : List ℕ) → Leaves new c → (d : List ℕ) × Leaves old d × Cut n d c
leaves_cut_as n inside old new same seen torn synced =
    subst (λ (images : ImagesState). (c : List ℕ) → Leaves new c → (d : List ℕ) × Leaves images d × Cut n d c) same (leaves_cut n inside new seen torn synced)

pub leaves_written_as : (place : ℕ) (bytes : List ℕ) (inside old new : ImagesState) → inside ≡ old → place ≤ length old.seen → length inside.torn ≡ length inside.seen
    → new.seen ≡ take place inside.seen ++ bytes ++ drop (place + length bytes) inside.seen
    → new.torn ≡ take place inside.torn ++ replicate (length bytes) 238 ++ drop (place + length bytes) inside.torn
    → new.synced ≡ inside.synced
    → (c : List ℕ) → Leaves new c → (d : List ℕ) × Leaves old d × Torn place (length bytes) d c
leaves_written_as place bytes inside old new same fits level seen torn synced =
    subst (λ (images : ImagesState). (c : List ℕ) → Leaves new c → (d : List ℕ) × Leaves images d × Torn place (length bytes) d c) same
    (leaves_written place bytes inside new (omega (arith, ap (λ (images : ImagesState). length images.seen) same, fits)) level seen torn synced)
