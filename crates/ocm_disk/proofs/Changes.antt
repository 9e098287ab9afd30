-- Writes and cuts are writes and cuts that were made in part, and two of a kind are one.
use Rattle.std.proofs.Common.{◌≡◌, ◌≤◌, ◌+◌, ◌-◌, ◌++◌, ℕ, List, length, take, drop, refl, sym, ◌∙◌, ap, arith, length-append, append_assoc, subst}
use Rattle.std.proofs.lemmas.List.{take_at, drop_at, length-take, length-drop, take-take}
use Rattle.ocm_disk.specs.Disk.{Holds, Torn, Cut, Follows, Only}

pub torn_same : (place n : ℕ) (c : List ℕ) → Torn place n c c
torn_same place n c = record { before = refl; after = refl; no_shorter = omega arith; no_longer = omega arith }

pub torn_twice : (place n : ℕ) (a b c : List ℕ) → Torn place n a b → Torn place n b c → Torn place n a c
torn_twice place n a b c first second = record {
  before = second.before ∙ first.before;
  after = second.after ∙ first.after;
  no_shorter = omega (arith, first.no_shorter, second.no_shorter);
  no_longer = omega (arith, first.no_longer, second.no_longer);
}

pub torn_written : (place n : ℕ) (old bytes : List ℕ) → place ≤ length old → length bytes ≡ n → Torn place n old (take place old ++ bytes ++ drop (place + n) old)
torn_written place n old bytes fits long =
    let front : length (take place old) ≡ place = omega (arith, length-take place old) in
    let both : length (take place old ++ bytes) ≡ place + n = omega (arith, length-append (take place old) bytes, front, long) in
    let all : length (take place old ++ bytes ++ drop (place + n) old) ≡ place + n + (length old - (place + n)) = omega (arith, length-append (take place old ++ bytes) (drop (place + n) old), length-drop (place + n) old, both) in
    record {
      before = ap (take place) (append_assoc (take place old) bytes (drop (place + n) old)) ∙ take_at (take place old) (bytes ++ drop (place + n) old) place front;
      after = drop_at (take place old ++ bytes) (drop (place + n) old) (place + n) both;
      no_shorter = omega (arith, all);
      no_longer = omega (arith, all, fits);
    }

-- what holds the bytes is old, written in part
pub holds_torn : (place : ℕ) (old bytes new : List ℕ) → place ≤ length old → Holds old place bytes new → Torn place (length bytes) old new
holds_torn place old bytes new fits holds =
    subst (Torn place (length bytes) old) (sym holds) (torn_written place (length bytes) old bytes fits refl)

pub cut_same : (n : ℕ) (c : List ℕ) → Cut n c c
cut_same n c = record { before = refl; no_shorter = omega arith; no_longer = omega arith }

pub cut_twice : (n : ℕ) (a b c : List ℕ) → Cut n a b → Cut n b c → Cut n a c
cut_twice n a b c first second = record {
  before = second.before ∙ first.before;
  no_shorter = omega (arith, first.no_shorter, second.no_shorter);
  no_longer = omega (arith, first.no_longer, second.no_longer);
}

pub cut_taken : (n : ℕ) (old : List ℕ) → Cut n old (take n old)
cut_taken n old = record {
  before = take-take n n old (omega arith);
  no_shorter = omega (arith, length-take n old);
  no_longer = omega (arith, length-take n old);
}

-- from a disk that a crash leaves as it is, a step leaves one step
pub only_then : (step : List ℕ → List ℕ → Type 0) (disk : List ℕ) (old new : List ℕ → Type 0) → Only disk old → Follows step old new → (c : List ℕ) → new c → step disk c
only_then step disk old new settled follows c left =
    let from = follows c left in
    subst (λ (d : List ℕ). step d c) (settled from.0 from.1) from.2
