use Rattle.std.proofs.Common.{◌≡◌, ℕ, zero, suc, ◌+◌, List, [], ◌∷◌, ◌++◌, map, length, Bool, true, false, Some, None, refl, sym, ap, arith, if◌then◌else◌, nat_eq, slice_get}
use Rattle.std.specs.Option.{option_map_or}
use Rattle.ocm_rules.specs.Numbers.{at_number}
use Rattle.ocm_rules.specs.State.{map_numbered, changed_at}
use Rattle.ocm_tables.specs.Joined.{joined}

-- what the first list alone tells
pub joined-map : {A B C D : Type 0} (f : A → B → C) (g : C → D) (h : A → D) (xs : List A) (ys : List B) → length ys ≡ length xs → ((x : A) (y : B) → g (f x y) ≡ h x) → map g (joined f xs ys) ≡ map h xs
joined-map f g h [] ys e same = refl
joined-map f g h (x ∷ xs) [] e same = absurd (cc)
joined-map f g h (x ∷ xs) (y ∷ ys) e same = let first = same x y in let rest = joined-map f g h xs ys (omega (arith, e)) same in rw (first, rest) refl

-- there are as many
pub joined-length : {A B C : Type 0} (f : A → B → C) (xs : List A) (ys : List B) → length ys ≡ length xs → length (joined f xs ys) ≡ length xs
joined-length f [] ys e = refl
joined-length f (x ∷ xs) [] e = absurd (cc)
joined-length f (x ∷ xs) (y ∷ ys) e = let rest = joined-length f xs ys (omega (arith, e)) in omega (arith, rest)

joined-get_first : {A B C D : Type 0} (f : A → B → C) (g : C → D) (h : A → D) (d : D) (xs : List A) (ys : List B) (i : ℕ) → length ys ≡ length xs → ((x : A) (y : B) → g (f x y) ≡ h x)
    → option_map_or g (slice_get (joined f xs ys) i) d ≡ option_map_or h (slice_get xs i) d
joined-get_first f g h d [] ys i e same = refl
joined-get_first f g h d (x ∷ xs) [] i e same = absurd (cc)
joined-get_first f g h d (x ∷ xs) (y ∷ ys) zero e same = same x y
joined-get_first f g h d (x ∷ xs) (y ∷ ys) (suc i) e same = joined-get_first f g h d xs ys i (omega (arith, e)) same

-- what is read of the first list at a number
pub joined-first : {A B C D : Type 0} (f : A → B → C) (g : C → D) (h : A → D) (d : D) (xs : List A) (ys : List B) (n : ℕ) → length ys ≡ length xs → ((x : A) (y : B) → g (f x y) ≡ h x)
    → option_map_or g (at_number (joined f xs ys) n) d ≡ option_map_or h (at_number xs n) d
joined-first f g h d xs ys zero e same = refl
joined-first f g h d xs ys (suc i) e same = joined-get_first f g h d xs ys i e same

joined-get_second : {A B C D : Type 0} (f : A → B → C) (g : C → D) (h : B → D) (d : D) (xs : List A) (ys : List B) (i : ℕ) → length ys ≡ length xs → ((x : A) (y : B) → g (f x y) ≡ h y)
    → option_map_or g (slice_get (joined f xs ys) i) d ≡ option_map_or h (slice_get ys i) d
joined-get_second f g h d [] [] i e same = refl
joined-get_second f g h d [] (y ∷ ys) i e same = absurd (cc)
joined-get_second f g h d (x ∷ xs) [] i e same = absurd (cc)
joined-get_second f g h d (x ∷ xs) (y ∷ ys) zero e same = same x y
joined-get_second f g h d (x ∷ xs) (y ∷ ys) (suc i) e same = joined-get_second f g h d xs ys i (omega (arith, e)) same

-- what is read of the second list at a number
pub joined-second : {A B C D : Type 0} (f : A → B → C) (g : C → D) (h : B → D) (d : D) (xs : List A) (ys : List B) (n : ℕ) → length ys ≡ length xs → ((x : A) (y : B) → g (f x y) ≡ h y)
    → option_map_or g (at_number (joined f xs ys) n) d ≡ option_map_or h (at_number ys n) d
joined-second f g h d xs ys zero e same = refl
joined-second f g h d xs ys (suc i) e same = joined-get_second f g h d xs ys i e same

-- one more in both
pub joined-push : {A B C : Type 0} (f : A → B → C) (xs : List A) (ys : List B) (x : A) (y : B) → length ys ≡ length xs → joined f (xs ++ x ∷ []) (ys ++ y ∷ []) ≡ joined f xs ys ++ f x y ∷ []
joined-push f [] [] x y e = refl
joined-push f [] (b ∷ ys) x y e = absurd (cc)
joined-push f (a ∷ xs) [] x y e = absurd (cc)
joined-push f (a ∷ xs) (b ∷ ys) x y e = ap (λ rest. f a b ∷ rest) (joined-push f xs ys x y (omega (arith, e)))

branch : {A C : Type 0} (make : A → C) (c : A → A) (d : C → C) (b : Bool) (x : A) → d (make x) ≡ make (c x) → make (if b then c x else x) ≡ (if b then d (make x) else make x)
branch make c d true x e = sym e
branch make c d false x e = refl

joined-changed_first : {A B C : Type 0} (f : A → B → C) (c : A → A) (d : C → C) (n k : ℕ) (xs : List A) (ys : List B) → ((x : A) (y : B) → d (f x y) ≡ f (c x) y)
    → joined f (map_numbered (λ j x. if nat_eq n j then c x else x) k xs) ys ≡ map_numbered (λ j r. if nat_eq n j then d r else r) k (joined f xs ys)
joined-changed_first f c d n k [] ys same = refl
joined-changed_first f c d n k (x ∷ xs) [] same = refl
joined-changed_first f c d n k (x ∷ xs) (y ∷ ys) same =
    let first = branch (λ a. f a y) c d (nat_eq n k) x (same x y) in
    let rest = joined-changed_first f c d n (k + 1) xs ys same in
    rw (first, rest) refl

-- one of the first list changed
pub joined-change_first : {A B C : Type 0} (f : A → B → C) (c : A → A) (d : C → C) (n : ℕ) (xs : List A) (ys : List B) → ((x : A) (y : B) → d (f x y) ≡ f (c x) y)
    → joined f (changed_at n c xs) ys ≡ changed_at n d (joined f xs ys)
joined-change_first f c d n xs ys same = joined-changed_first f c d n 1 xs ys same

joined-changed_second : {A B C : Type 0} (f : A → B → C) (c : B → B) (d : C → C) (n k : ℕ) (xs : List A) (ys : List B) → ((x : A) (y : B) → d (f x y) ≡ f x (c y))
    → joined f xs (map_numbered (λ j y. if nat_eq n j then c y else y) k ys) ≡ map_numbered (λ j r. if nat_eq n j then d r else r) k (joined f xs ys)
joined-changed_second f c d n k [] ys same = refl
joined-changed_second f c d n k (x ∷ xs) [] same = refl
joined-changed_second f c d n k (x ∷ xs) (y ∷ ys) same =
    let first = branch (λ b. f x b) c d (nat_eq n k) y (same x y) in
    let rest = joined-changed_second f c d n (k + 1) xs ys same in
    rw (first, rest) refl

-- one of the second list changed
pub joined-change_second : {A B C : Type 0} (f : A → B → C) (c : B → B) (d : C → C) (n : ℕ) (xs : List A) (ys : List B) → ((x : A) (y : B) → d (f x y) ≡ f x (c y))
    → joined f xs (changed_at n c ys) ≡ changed_at n d (joined f xs ys)
joined-change_second f c d n xs ys same = joined-changed_second f c d n 1 xs ys same

-- all of the first list changed
pub joined-map_first : {A B C : Type 0} (f : A → B → C) (c : A → A) (d : C → C) (xs : List A) (ys : List B) → ((x : A) (y : B) → f (c x) y ≡ d (f x y)) → joined f (map c xs) ys ≡ map d (joined f xs ys)
joined-map_first f c d [] ys same = refl
joined-map_first f c d (x ∷ xs) [] same = refl
joined-map_first f c d (x ∷ xs) (y ∷ ys) same = let first = same x y in let rest = joined-map_first f c d xs ys same in rw (first, rest) refl

map_numbered-length : {X Y : Type 0} (f : ℕ → X → Y) (n : ℕ) (xs : List X) → length (map_numbered f n xs) ≡ length xs
map_numbered-length f n [] = refl
map_numbered-length f n (x ∷ xs) = let rest = map_numbered-length f (n + 1) xs in omega (arith, rest)

-- there are as many when one is changed
pub changed_at-length : {X : Type 0} (n : ℕ) (c : X → X) (xs : List X) → length (changed_at n c xs) ≡ length xs
changed_at-length n c xs = map_numbered-length (λ j x. if nat_eq n j then c x else x) 1 xs

slice_get-mapped : {X Y : Type 0} (f : X → Y) (xs : List X) (i : ℕ) → slice_get (map f xs) i ≡ option_map_or (λ x. Some (f x)) (slice_get xs i) None
slice_get-mapped f [] i = refl
slice_get-mapped f (x ∷ xs) zero = refl
slice_get-mapped f (x ∷ xs) (suc i) = slice_get-mapped f xs i

-- the one of a number, of a list whose items are changed
pub at_number-map : {X Y : Type 0} (f : X → Y) (xs : List X) (n : ℕ) → at_number (map f xs) n ≡ option_map_or (λ x. Some (f x)) (at_number xs n) None
at_number-map f xs zero = refl
at_number-map f xs (suc i) = slice_get-mapped f xs i

-- the second list changed, each item by its number
pub joined-numbered_second : {A B C : Type 0} (f : A → B → C) (c : ℕ → B → B) (d : ℕ → C → C) (k : ℕ) (xs : List A) (ys : List B) → ((j : ℕ) (x : A) (y : B) → f x (c j y) ≡ d j (f x y)) → joined f xs (map_numbered c k ys) ≡ map_numbered d k (joined f xs ys)
joined-numbered_second f c d k [] ys same = refl
joined-numbered_second f c d k (x ∷ xs) [] same = refl
joined-numbered_second f c d k (x ∷ xs) (y ∷ ys) same = let first = same k x y in let rest = joined-numbered_second f c d (k + 1) xs ys same in rw (first, rest) refl
