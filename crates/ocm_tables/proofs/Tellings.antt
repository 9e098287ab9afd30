use Rattle.std.proofs.Common.{◌≡◌, ℕ, zero, suc, ◌+◌, ◌<◌, List, [], ◌∷◌, ◌++◌, length, take, Bool, true, false, ◌||◌, refl, sym, ap, ◌∙◌, nat_eq, if◌then◌else◌, slice_get, slice_index_or, IsSome}
use Rattle.std.specs.List.{list_any}
use Rattle.std.proofs.lemmas.Cmp.{nat_eq_equiv}
use Rattle.std.proofs.lemmas.List.{take_more}
use Rattle.std.proofs.lemmas.List.Folds.{list_any-append}
use Rattle.ocm_rules.specs.declared.rows.Told.{Told}
use Rattle.ocm_rules.specs.Numbers.{at_number}
use Rattle.ocm_rules.specs.State.{map_numbered, changed_at}
use Rattle.ocm_rules.proofs.Steps.{map_numbered-same}
use Rattle.ocm_tables.specs.Changes.{told_all}

-- nobody is told
pub told_all-none : (new : Told) (ts : List Told) → ts ≡ told_all [] new ts
told_all-none new ts = sym (map_numbered-same (λ n old. if list_any (nat_eq n) [] then new else old) 1 ts (λ j t. refl))

numbered-get : {X : Type 0} (f : ℕ → X → X) (k : ℕ) (xs : List X) (i : ℕ) → IsSome (slice_get xs i) → IsSome (slice_get (map_numbered f k xs) i)
numbered-get f k [] i e = absurd (cc)
numbered-get f k (x ∷ xs) zero e = refl
numbered-get f k (x ∷ xs) (suc i) e = numbered-get f (k + 1) xs i e

-- those that are there stay there
pub told_all-there : (numbers : List ℕ) (new : Told) (ts : List Told) (n : ℕ) → IsSome (at_number ts n) → IsSome (at_number (told_all numbers new ts) n)
told_all-there numbers new ts zero e = absurd (cc)
told_all-there numbers new ts (suc i) e = numbered-get (λ n old. if list_any (nat_eq n) numbers then new else old) 1 ts i e

told-step : (a b : Bool) (new t : Told) → (if b then new else (if a then new else t)) ≡ (if a || (b || false) then new else t)
told-step true true new t = refl
told-step true false new t = refl
told-step false true new t = refl
told-step false false new t = refl

told-more : (numbers : List ℕ) (n : ℕ) (new : Told) (k : ℕ) (ts : List Told)
    → map_numbered (λ j t. if nat_eq n j then new else t) k (map_numbered (λ j t. if list_any (nat_eq j) numbers then new else t) k ts)
    ≡ map_numbered (λ j t. if list_any (nat_eq j) (numbers ++ n ∷ []) then new else t) k ts
told-more numbers n new k [] = refl
told-more numbers n new k (t ∷ ts) =
    let both = list_any-append (nat_eq k) numbers (n ∷ []) in
    let turned = nat_eq_equiv.symm n k in
    let first = told-step (list_any (nat_eq k) numbers) (nat_eq k n) new t in
    let rest = told-more numbers n new (k + 1) ts in
    rw (both, turned, first, rest) refl

-- one more is told
pub told_all-more : (numbers : List ℕ) (i : ℕ) (new : Told) (ts : List Told) → i < length numbers
    → changed_at (slice_index_or numbers i 0) (λ t. new) (told_all (take i numbers) new ts) ≡ told_all (take (i + 1) numbers) new ts
told_all-more numbers i new ts within =
    told-more (take i numbers) (slice_index_or numbers i 0) new 1 ts ∙ ap (λ ns. told_all ns new ts) (sym (take_more numbers i 0 within))

numbered-length : {X : Type 0} (f : ℕ → X → X) (k : ℕ) (xs : List X) → length (map_numbered f k xs) ≡ length xs
numbered-length f k [] = refl
numbered-length f k (x ∷ xs) = let rest = numbered-length f (k + 1) xs in ap suc rest

-- there are as many as before
pub told_all-length : (numbers : List ℕ) (new : Told) (ts : List Told) → length (told_all numbers new ts) ≡ length ts
told_all-length numbers new ts = numbered-length (λ n old. if list_any (nat_eq n) numbers then new else old) 1 ts
