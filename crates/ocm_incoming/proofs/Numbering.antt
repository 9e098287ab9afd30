use Rattle.std.proofs.Common.{◌≡◌, ℕ, suc, ◌+◌, ◌<◌, List, [], ◌∷◌, ◌++◌, length, take, get_or, ap, ◌∙◌, arith, Bool, true, false, cond}
use Rattle.std.proofs.Math.Seq.{take-suc}
use Rattle.std.proofs.lemmas.List.{length-take-le}
use Rattle.ocm_incoming.specs.Groups.{numbers_from, numbers_where}

cond-append : (b : Bool) (n : ℕ) (longer shorter last : List ℕ) → longer ≡ shorter ++ last → cond b (n ∷ longer) longer ≡ cond b (n ∷ shorter) shorter ++ last
cond-append true n longer shorter last e = ap (λ xs. n ∷ xs) e
cond-append false n longer shorter last e = e

-- the numbers of those that pass, with one more at the end of the list
pub numbers_from-push : {X : Type 0} (p : X → Bool) (n : ℕ) (xs : List X) (x : X) (last : ℕ) → last ≡ n + length xs → numbers_from p n (xs ++ x ∷ []) ≡ numbers_from p n xs ++ cond (p x) (last ∷ []) []
numbers_from-push p n [] x last e = let same : n ≡ last = omega arith in ap (λ m. cond (p x) (m ∷ []) []) same
numbers_from-push p n (y ∷ ys) x last e = cond-append (p y) n _ _ _ (numbers_from-push p (n + 1) ys x last (omega arith))

pub numbers_where-push : {X : Type 0} (p : X → Bool) (xs : List X) (x : X) (last : ℕ) → last ≡ length xs + 1 → numbers_where p (xs ++ x ∷ []) ≡ numbers_where p xs ++ cond (p x) (last ∷ []) []
numbers_where-push p xs x last e = numbers_from-push p 1 xs x last (omega arith)

-- the last of a front passes
pub numbers_where-last : {X : Type 0} (p : X → Bool) (xs : List X) (i n : ℕ) (d : X) → n ≡ i + 1 → i < length xs → p (get_or xs i d) ≡ true → numbers_where p (take n xs) ≡ numbers_where p (take i xs) ++ n ∷ []
numbers_where-last p xs i n d e h t =
    let next : n ≡ suc i = omega arith in
    let front : take n xs ≡ take i xs ++ get_or xs i d ∷ [] = rw next (take-suc xs i d h) in
    let shown : n ≡ length (take i xs) + 1 = omega (arith, length-take-le i xs) in
    ap (numbers_where p) front ∙ (numbers_where-push p (take i xs) (get_or xs i d) n shown ∙ ap (λ b. numbers_where p (take i xs) ++ cond b (n ∷ []) []) t)
