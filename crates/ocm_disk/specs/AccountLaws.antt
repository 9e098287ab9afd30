-- What holds of each account of a file.
use Rattle.std.specs.Prelude.{◌≡◌, ◌≤◌, ◌<◌, ◌⊎◌, ℕ, ◌+◌, ◌-◌, min, max, List, [], ◌∷◌, ◌++◌, length, take, drop, replicate, Bool, true, false, if◌then◌else◌}
use mathlib.Core.Logic.{inl, inr}
use mathlib.Core.Path.{refl}
use Rattle.std.proofs.Common.{arith}
use Rattle.std.proofs.lemmas.List.{take_at, drop_at, take-take, length-take, length-drop, length-replicate}
use Rattle.std.proofs.Common.{length-append, append_assoc, sym, ◌∙◌, ap, subst}
use Rattle.ocm_disk.specs.Disk.{Torn, Cut}
use Rattle.ocm_disk.specs.Accounts.{fitted, put_at, stand_at, shown, at_sync, ruined_since, MayLeave, MightLeave}
use Rattle.ocm_disk.specs.declared.accounts.FileStep.{FileStep}
use Rattle.ocm_disk.specs.declared.accounts.FileStep.TheVariants.{Opened, Read, Wrote, WroteInPart, Shortened, ShortenedInPart, Synced}

torn_same : (place n : ℕ) (c : List ℕ) → Torn place n c c
torn_same place n c = record { before = refl; after = refl; no_shorter = omega arith; no_longer = omega arith }

torn_written : (place n : ℕ) (old bytes : List ℕ) → place ≤ length old → length bytes ≡ n → Torn place n old (take place old ++ bytes ++ drop (place + n) old)
torn_written place n old bytes fits long =
    let front : length (take place old) ≡ place = omega (arith, length-take place old) in
    let both : length (take place old ++ bytes) ≡ place + n = omega (arith, length-append (take place old) bytes, front, long) in
    let all : length (take place old ++ bytes ++ drop (place + n) old) ≡ place + n + (length old - (place + n)) = omega (arith, length-append (take place old ++ bytes) (drop (place + n) old), length-drop (place + n) old, both) in
    record {
      before = ap (take place) (append_assoc (take place old) bytes (drop (place + n) old)) ∙ take_at (take place old) (bytes ++ drop (place + n) old) place front;
      after = drop_at (take place old ++ bytes) (drop (place + n) old) (place + n) both;
      no_shorter = omega (arith, all);
      no_longer = omega (arith, all, fits);
    }

cut_same : (n : ℕ) (c : List ℕ) → Cut n c c
cut_same n c = record { before = refl; no_shorter = omega arith; no_longer = omega arith }

cut_taken : (n : ℕ) (old : List ℕ) → Cut n old (take n old)
cut_taken n old = record {
  before = take-take n n old (omega arith);
  no_shorter = omega (arith, length-take n old);
  no_longer = omega (arith, length-take n old);
}

-- how long it is once bytes are put into it
pub length-put_at : (place : ℕ) (bytes old : List ℕ) → length (put_at place bytes old) ≡ max (length old) (min place (length old) + length bytes)
length-put_at place bytes old =
    let p : ℕ = min place (length old) in
    let front : length (take p old) ≡ p = omega (arith, length-take p old) in
    let both : length (take p old ++ bytes) ≡ p + length bytes = omega (arith, length-append (take p old) bytes, front) in
    let all : length (put_at place bytes old) ≡ length (take p old ++ bytes) + length (drop (p + length bytes) old) = length-append (take p old ++ bytes) (drop (p + length bytes) old) in
    omega (arith, all, both, length-drop (p + length bytes) old)

-- to put bytes into it is to write them in part
pub torn_put : (place : ℕ) (bytes old : List ℕ) → Torn (min place (length old)) (length bytes) old (put_at place bytes old)
torn_put place bytes old = torn_written (min place (length old)) (length bytes) old bytes (omega arith) refl

length-either : (b : Bool) (x y z w : List ℕ) → length x ≡ length z → length y ≡ length w → length (if b then x else y) ≡ length (if b then z else w)
length-either true x y z w same other = same
length-either false x y z w same other = other

-- with `ee` in place of some bytes it is as long
pub length-ruined_since : (steps : List FileStep) → length (ruined_since steps) ≡ length (shown steps)
length-ruined_since [] = refl
length-ruined_since (Opened len held ∷ steps) = refl
length-ruined_since (Read place held ∷ steps) =
    length-either (stand_at place held.bytes (shown steps)) (ruined_since steps) (put_at place held.bytes (ruined_since steps)) (shown steps) (put_at place held.bytes (shown steps)) (length-ruined_since steps)
    (omega (arith, length-put_at place held.bytes (ruined_since steps), length-put_at place held.bytes (shown steps), length-ruined_since steps))
length-ruined_since (Wrote place held ∷ steps) =
    omega (arith, length-put_at place (replicate (length held.bytes) 238) (ruined_since steps), length-put_at place held.bytes (shown steps), length-replicate {A = ℕ} (length held.bytes) 238, length-ruined_since steps)
length-ruined_since (WroteInPart place n ∷ steps) = length-ruined_since steps
length-ruined_since (Shortened len ∷ steps) = omega (arith, length-take len (ruined_since steps), length-take len (shown steps), length-ruined_since steps)
length-ruined_since (ShortenedInPart len ∷ steps) = length-ruined_since steps
length-ruined_since (Synced ∷ steps) = refl

either_left : (b : Bool) (P : List ℕ → Type 0) (put : List ℕ → List ℕ) (x : List ℕ) → P x → ((b ≡ true) × P (if b then x else put x)) ⊎ ((b ≡ false) × (d : List ℕ) × P d × ((if b then x else put x) ≡ put d))
either_left true P put x p = inl (refl, p)
either_left false P put x p = inr (refl, x, p, refl)

-- a crash may leave what it holds
pub leaves_shown : (steps : List FileStep) → MayLeave steps (shown steps)
leaves_shown [] = refl
leaves_shown (Opened len held ∷ steps) = refl
leaves_shown (Read place held ∷ steps) = either_left (stand_at place held.bytes (shown steps)) (MayLeave steps) (put_at place held.bytes) (shown steps) (leaves_shown steps)
leaves_shown (Wrote place held ∷ steps) = (shown steps, leaves_shown steps, torn_put place held.bytes (shown steps))
leaves_shown (WroteInPart place n ∷ steps) = (shown steps, leaves_shown steps, torn_same (min place (length (shown steps))) n (shown steps))
leaves_shown (Shortened len ∷ steps) = (shown steps, leaves_shown steps, cut_taken len (shown steps))
leaves_shown (ShortenedInPart len ∷ steps) = (shown steps, leaves_shown steps, cut_same len (shown steps))
leaves_shown (Synced ∷ steps) = refl

-- ... what it held at the last sync
pub leaves_at_sync : (steps : List FileStep) → MayLeave steps (at_sync steps)
leaves_at_sync [] = refl
leaves_at_sync (Opened len held ∷ steps) = refl
leaves_at_sync (Read place held ∷ steps) = either_left (stand_at place held.bytes (shown steps)) (MayLeave steps) (put_at place held.bytes) (at_sync steps) (leaves_at_sync steps)
leaves_at_sync (Wrote place held ∷ steps) = (at_sync steps, leaves_at_sync steps, torn_same (min place (length (shown steps))) (length held.bytes) (at_sync steps))
leaves_at_sync (WroteInPart place n ∷ steps) = (at_sync steps, leaves_at_sync steps, torn_same (min place (length (shown steps))) n (at_sync steps))
leaves_at_sync (Shortened len ∷ steps) = (at_sync steps, leaves_at_sync steps, cut_same len (at_sync steps))
leaves_at_sync (ShortenedInPart len ∷ steps) = (at_sync steps, leaves_at_sync steps, cut_same len (at_sync steps))
leaves_at_sync (Synced ∷ steps) = refl

-- ... and what it holds, with `ee` in place of each byte written since
pub leaves_ruined : (steps : List FileStep) → MayLeave steps (ruined_since steps)
leaves_ruined [] = refl
leaves_ruined (Opened len held ∷ steps) = refl
leaves_ruined (Read place held ∷ steps) = either_left (stand_at place held.bytes (shown steps)) (MayLeave steps) (put_at place held.bytes) (ruined_since steps) (leaves_ruined steps)
leaves_ruined (Wrote place held ∷ steps) =
    let ee : List ℕ = replicate (length held.bytes) 238 in
    let old : List ℕ = ruined_since steps in
    let n : length ee ≡ length held.bytes = length-replicate (length held.bytes) 238 in
    let torn : Torn (min place (length (shown steps))) (length held.bytes) old (put_at place ee old) =
    subst (λ k. Torn (min place (length (shown steps))) k old (put_at place ee old)) n (subst (λ k. Torn (min place k) (length ee) old (put_at place ee old)) (length-ruined_since steps) (torn_put place ee old)) in
    (old, leaves_ruined steps, torn)
leaves_ruined (WroteInPart place n ∷ steps) = (ruined_since steps, leaves_ruined steps, torn_same (min place (length (shown steps))) n (ruined_since steps))
leaves_ruined (Shortened len ∷ steps) = (ruined_since steps, leaves_ruined steps, cut_taken len (ruined_since steps))
leaves_ruined (ShortenedInPart len ∷ steps) = (ruined_since steps, leaves_ruined steps, cut_same len (ruined_since steps))
leaves_ruined (Synced ∷ steps) = refl

-- this moment is one of those since an earlier one
pub might_now : (steps : List FileStep) (t : ℕ) (c : List ℕ) → t ≤ length steps → MayLeave steps c → MightLeave steps t c
might_now [] t c le now = (le, now)
might_now (step ∷ steps) t c le now = inl (le, now)

too_late : (steps : List FileStep) (t : ℕ) (c : List ℕ) → length steps < t → MightLeave steps t c → ⊥
too_late [] t c late left = omega (arith, late, left.0)
too_late (step ∷ steps) t c late (inl now) = omega (arith, late, now.0)
too_late (step ∷ steps) t c late (inr was) = too_late steps t c (omega (arith, late)) was

-- since this moment there is no other
pub only_now : (steps : List FileStep) (c : List ℕ) → MightLeave steps (length steps) c → MayLeave steps c
only_now [] c left = left.1
only_now (step ∷ steps) c (inl now) = now.1
only_now (step ∷ steps) c (inr was) = absurd (too_late steps (length (step ∷ steps)) c (omega arith) was)
