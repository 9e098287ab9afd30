use Rattle.std.proofs.Common.{◌≡◌, ℕ, ◌+◌, List, [], ◌∷◌, ◌++◌, length, Bool, true, false, cond, Option, Some, None, refl, sym, ap, subst, ◌∙◌, arith}
use Rattle.std.specs.Prelude.{◌||◌}
use Rattle.std.specs.List.{list_any}
use Rattle.std.proofs.lemmas.List.Folds.{list_any-append}
use Rattle.std.proofs.lemmas.Slice.Eq.{bytes_eq-Decides}
use Rattle.ocm_rules.specs.Numbers.{same_text, number_from, number_of}

-- what the first option holds, or else what the second does
abbrev or_else : {X : Type 0} → Option X → Option X → Option X
or_else None o = o
or_else (Some x) o = Some x

or_else-none : {X : Type 0} (o : Option X) → or_else o None ≡ o
or_else-none None = refl
or_else-none (Some x) = refl

number_from-step : (b : Bool) (n : ℕ) (longer shorter last : Option ℕ) → longer ≡ or_else shorter last → cond b (Some n) longer ≡ or_else (cond b (Some n) shorter) last
number_from-step true n longer shorter last e = refl
number_from-step false n longer shorter last e = e

-- the first that passes in a list with one more at its end
number_from-push : {X : Type 0} (p : X → Bool) (n : ℕ) (xs : List X) (x : X) (last : ℕ) → last ≡ n + length xs → number_from p n (xs ++ x ∷ []) ≡ or_else (number_from p n xs) (cond (p x) (Some last) None)
number_from-push p n [] x last e = let same : n ≡ last = omega arith in ap (λ m. cond (p x) (Some m) None) same
number_from-push p n (y ∷ ys) x last e = number_from-step (p y) n _ _ _ (number_from-push p (n + 1) ys x last (omega arith))

newest : (b : Bool) (number : ℕ) (old : Option ℕ) → (b ≡ true → old ≡ None) → cond b (Some number) old ≡ or_else old (cond b (Some number) None)
newest true number old h = rw (h refl) refl
newest false number old h = sym (or_else-none old)

-- one more at the end, under a text that none before it has: an index finds it by that text, and each other as before
pub indexed-push : {X : Type 0} (text : X → List ℕ) (xs : List X) (x : X) (key s : List ℕ) (number : ℕ) (found : Option ℕ) → key ≡ text x → number ≡ length xs + 1 → found ≡ number_of (λ y. same_text (text y) s) xs → number_of (λ y. same_text (text y) key) xs ≡ None → cond (same_text key s) (Some number) found ≡ number_of (λ y. same_text (text y) s) (xs ++ x ∷ [])
indexed-push {X} text xs x key s number found e n f fresh =
    let pushed = number_from-push (λ y. same_text (text y) s) 1 xs x number (omega arith) in
    let absent : same_text (text x) s ≡ true → number_of (λ y. same_text (text y) s) xs ≡ None = λ t.
    let P : List ℕ → Type 0 = λ k. number_of (λ y. same_text (text y) k) xs ≡ None in
    subst P (e ∙ (bytes_eq-Decides (text x) s).0 t) fresh in
    rw (e, f) (newest (same_text (text x) s) number (number_of (λ y. same_text (text y) s) xs) absent ∙ sym pushed)

or_at_end : (b o : Bool) → cond b true o ≡ (o || (b || false))
or_at_end true true = refl
or_at_end true false = refl
or_at_end false true = refl
or_at_end false false = refl

-- one more at the end: a set has its text, and each other as before
pub member-push : {X : Type 0} (text : X → List ℕ) (xs : List X) (x : X) (name s : List ℕ) (had : Bool) → name ≡ text x → had ≡ list_any (λ y. same_text (text y) s) xs → cond (same_text name s) true had ≡ list_any (λ y. same_text (text y) s) (xs ++ x ∷ [])
member-push text xs x name s had e h =
    rw (e, h) (or_at_end (same_text (text x) s) (list_any (λ y. same_text (text y) s) xs) ∙ sym (list_any-append (λ y. same_text (text y) s) xs (x ∷ [])))
