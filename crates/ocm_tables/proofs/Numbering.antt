use Rattle.std.proofs.Common.{◌≡◌, ℕ, zero, suc, ◌+◌, ◌≤◌, ◌<◌, inl, inr, List, [], ◌∷◌, length, Bool, true, false, cond, Option, Some, None, refl, sym, ap, ◌∙◌, arith}
use Rattle.std.specs.Prelude.{◌||◌, is_some, map, slice_get, IsSome, IfSome, option_map}
use Rattle.std.specs.List.{list_any}
use Rattle.std.proofs.lemmas.List.Folds.{list_any-append}
use Rattle.std.proofs.lemmas.Option.{slice_get_cases}
use Rattle.ocm_entry.specs.declared.rows.User.{User}
use Rattle.ocm_entry.specs.declared.rows.Share.{Share}
use Rattle.ocm_rules.specs.Numbers.{same_text, number_from, number_of, at_number}
use Rattle.ocm_rules.specs.Users.{user_of_key, has_key}
use Rattle.ocm_rules.specs.Shares.{share_of_secret, is_used}

found-step : (b : Bool) (n : ℕ) (o : Option ℕ) (any : Bool) → is_some o ≡ any → is_some (cond b (Some n) o) ≡ (b || any)
found-step true n o any e = refl
found-step false n o any e = e

-- one has a number exactly where one passes
number_from-found : {X : Type 0} (p : X → Bool) (n : ℕ) (xs : List X) → is_some (number_from p n xs) ≡ list_any p xs
number_from-found p n [] = refl
number_from-found p n (x ∷ xs) = found-step (p x) n _ _ (number_from-found p (n + 1) xs)

any_of-texts : {X : Type 0} (text : X → List ℕ) (s : List ℕ) (xs : List X) → list_any (λ t. same_text t s) (map text xs) ≡ list_any (λ x. same_text (text x) s) xs
any_of-texts text s [] = refl
any_of-texts text s (x ∷ xs) = ap (λ any. same_text (text x) s || any) (any_of-texts text s xs)

-- a secret is used exactly where a user or a share is found by it
pub used_found : (users : List User) (shares : List Share) (secret : List ℕ) → is_used users shares secret ≡ (is_some (user_of_key users secret) || is_some (share_of_secret shares secret))
used_found users shares secret =
    let keys = any_of-texts (λ (u : User). u.key) secret users in
    let secrets = any_of-texts (λ (m : Share). m.secret) secret shares in
    let by_key = number_from-found (λ (u : User). same_text u.key secret) 1 users in
    let by_secret = number_from-found (λ (m : Share). same_text m.secret secret) 1 shares in
    list_any-append (λ s. same_text s secret) (map (λ (u : User). u.key) users) (map (λ (m : Share). m.secret) shares) ∙ rw (keys, secrets, by_key, by_secret) refl

none-found : (a b : Option ℕ) → (is_some a || is_some b) ≡ false → (a ≡ None) × (b ≡ None)
none-found None None e = (refl, refl)
none-found None (Some j) e = absurd (cc)
none-found (Some i) b e = absurd (cc)

-- no user and no share is found by a secret that is not used
pub unused : (users : List User) (shares : List Share) (secret : List ℕ) → is_used users shares secret ≡ false → (user_of_key users secret ≡ None) × (share_of_secret shares secret ≡ None)
unused users shares secret e = none-found (user_of_key users secret) (share_of_secret shares secret) (sym (used_found users shares secret) ∙ e)

within-get : {X : Type 0} (xs : List X) (i : ℕ) → IsSome (slice_get xs i) → suc i ≤ length xs
within-get [] i e = absurd (cc)
within-get (x ∷ xs) zero e = omega arith
within-get (x ∷ xs) (suc i) e = let rest = within-get xs i e in omega (arith, rest)

-- a number of one that is there is one of the list's
pub number-within : {X : Type 0} (xs : List X) (n : ℕ) → IsSome (at_number xs n) → (1 ≤ n) × (n ≤ length xs)
number-within xs zero e = absurd (cc)
number-within xs (suc i) e = (omega arith, within-get xs i e)

-- a parent that is there is an earlier number
pub parent-within : {X : Type 0} (xs : List X) (parent : Option ℕ) → IfSome parent (λ p. IsSome (at_number xs p)) → (p : ℕ) → parent ≡ Some p → (1 ≤ p) × (p ≤ length xs)
parent-within xs None there p e = absurd (cc)
parent-within xs (Some q) there p e = let same : q ≡ p = cc in rw (← same) (number-within xs q there)

-- the number of one that was found is one of the list
number_from-within : {X : Type 0} (p : X → Bool) (xs : List X) (k n : ℕ) → number_from p k xs ≡ Some n → (k ≤ n) × (n < k + length xs)
number_from-within p [] k n e = absurd (cc)
number_from-within p (x ∷ xs) k n e =
    let goal : Bool → Type 0 = λ b. cond b (Some k) (number_from p (k + 1) xs) ≡ Some n → (k ≤ n) × (n < k + length (x ∷ xs)) in
    let cases : (b : Bool) → goal b = λ b. elim b as goal [
      | true ↦ (λ h. let same : k ≡ n = cc in (omega (arith, same), omega (arith, same)))
      | false ↦ (λ h. let later = number_from-within p xs (k + 1) n h in (omega (arith, later.0), omega (arith, later.1)))
    ] in
    cases (p x) e

some_at : {X : Type 0} (xs : List X) (i : ℕ) → i < length xs → IsSome (slice_get xs i)
some_at xs i h =
    elim ((slice_get_cases xs i).1) [
      | inl found ↦ ap (λ o. is_some o) found.2
      | inr past ↦ absurd (omega (arith, h, past.0))
    ]

-- the number of one that was found has one
IsSome-at_number : {X : Type 0} (p : X → Bool) (xs : List X) (n : ℕ) → number_of p xs ≡ Some n → IsSome (at_number xs n)
IsSome-at_number p xs zero e = let within = number_from-within p xs 1 0 e in absurd (omega (arith, within.0))
IsSome-at_number p xs (suc i) e = let within = number_from-within p xs 1 (suc i) e in some_at xs i (omega (arith, within.1))

-- the number that a key has is that of a user
pub IfSome-account : (us : List User) (key : List ℕ) (found : Option ℕ) → found ≡ user_of_key us key → IfSome found (λ n. IsSome (at_number us n))
IfSome-account us key None e = tt
IfSome-account us key (Some n) e = IsSome-at_number (has_key key) us n (sym e)

get-there : {X : Type 0} (xs : List X) (i : ℕ) → suc i ≤ length xs → IsSome (slice_get xs i)
get-there [] i e = absurd (omega (arith, e))
get-there (x ∷ xs) zero e = refl
get-there (x ∷ xs) (suc i) e = get-there xs i (omega (arith, e))

get-past : {X : Type 0} (xs : List X) (i : ℕ) → length xs ≤ i → slice_get xs i ≡ None
get-past [] i e = refl
get-past (x ∷ xs) zero e = absurd (omega (arith, e))
get-past (x ∷ xs) (suc i) e = get-past xs i (omega (arith, e))

numbered-some : {X : Type 0} (o : Option X) (n : ℕ) → IsSome o → option_map (λ (found : ℕ × X). found.0) (option_map (λ x. (n, x)) o) ≡ Some n
numbered-some None n e = absurd (cc)
numbered-some (Some x) n e = refl

-- the number of one that is there
pub numbered-there : {X : Type 0} (xs : List X) (n : ℕ) → 1 ≤ n → n ≤ length xs → option_map (λ (found : ℕ × X). found.0) (option_map (λ x. (n, x)) (at_number xs n)) ≡ Some n
numbered-there xs zero low high = absurd (omega (arith, low))
numbered-there xs (suc i) low high = numbered-some (slice_get xs i) (suc i) (get-there xs i high)

-- and of one that is not
pub numbered-past : {X : Type 0} (xs : List X) (n : ℕ) → length xs < n → option_map (λ (found : ℕ × X). found.0) (option_map (λ x. (n, x)) (at_number xs n)) ≡ None
numbered-past xs zero past = absurd (omega (arith, past))
numbered-past xs (suc i) past = let none = get-past xs i (omega (arith, past)) in rw none refl

pub numbered-zero : {X : Type 0} (xs : List X) → option_map (λ (found : ℕ × X). found.0) (option_map (λ x. (0, x)) (at_number xs 0)) ≡ None
numbered-zero xs = refl
