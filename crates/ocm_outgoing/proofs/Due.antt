use Rattle.std.proofs.Common.{◌≡◌, ◌≢◌, ℕ, ◌+◌, ◌<◌, ◌≤◌, List, [], ◌∷◌, Bool, true, false, Option, Some, refl, sym, ap, subst, ◌∙◌, arith, ◌⊎◌, ⊎_elim}
use Rattle.std.specs.Prelude.{map, filter, filter_map}
use Rattle.std.proofs.lemmas.Bool.{false≢true}
use Rattle.std.proofs.lemmas.Bool.Decides.{nat_tests}
use Rattle.ocm_types.specs.declared.letters.Numbered.{Numbered}
use Rattle.ocm_rules.specs.declared.rows.Message.{Message}
use Rattle.ocm_rules.specs.Messages.{numbered_from, as_sent}
use Rattle.ocm_outgoing.proofs.Counts.{Lists}

-- ---- the numbers in order give the messages in order

pub weaker : (flag : ℕ → Bool) (n : ℕ) (xs : List ℕ) → flag n ≡ false → Lists flag n xs → Lists flag (n + 1) xs
weaker flag n [] off is = λ k h. is k (omega (arith, h))
weaker flag n (x ∷ xs) off is = (more, is.1, (λ k low high. is.2 k (omega (arith, low)) high), is.3)
  where
    differs : n ≢ x
    differs same = false≢true (sym off ∙ (ap flag same ∙ is.1))

    more : n + 1 ≤ x
    more = omega (arith, is.0, differs)

skip : {X : Type 0} (p : X → Bool) (x : X) (xs : List X) → p x ≡ false → filter p (x ∷ xs) ≡ filter p xs
skip p x xs e = rw e refl

take_one : {X : Type 0} (p : X → Bool) (x : X) (xs : List X) → p x ≡ true → filter p (x ∷ xs) ≡ x ∷ filter p xs
take_one p x xs e = rw e refl

give : {X Y : Type 0} (f : X → Option Y) (x : X) (y : Y) (xs : List X) → f x ≡ Some y → filter_map f (x ∷ xs) ≡ y ∷ filter_map f xs
give f x y xs e = rw e refl

-- what is said of each of these messages by its number
abbrev pub Agrees : (ℕ × Message → Bool) → (ℕ → Bool) → (ℕ → Option Numbered) → ℕ → List Message → Type 0
Agrees p flag get n [] = (k : ℕ) → n ≤ k → flag k ≡ false
Agrees p flag get n (m ∷ ms) = (p (n, m) ≡ flag n) × (get n ≡ Some (as_sent (n, m))) × Agrees p flag get (n + 1) ms

at-or-above : (n x : ℕ) → n ≤ x → (n ≡ x) ⊎ (n < x)
at-or-above n x h = grind (arith, nat_tests)

selected-here : (p : ℕ × Message → Bool) (flag : ℕ → Bool) (get : ℕ → Option Numbered) (n : ℕ) (m : Message) (ms : List Message) (x : ℕ) (xs : List ℕ) → Agrees p flag get n (m ∷ ms) → Lists flag n (x ∷ xs) → n ≡ x → filter_map get xs ≡ map as_sent (filter p (numbered_from (n + 1) ms)) → filter_map get (x ∷ xs) ≡ map as_sent (filter p (numbered_from n (m ∷ ms)))
selected-here p flag get n m ms x xs agrees is same rest =
    let found : get x ≡ Some (as_sent (n, m)) = ap get (sym same) ∙ agrees.1 in
    give get x (as_sent (n, m)) xs found ∙ (ap (λ ys. as_sent (n, m) ∷ ys) rest ∙ sym (ap (map as_sent) (take_one p (n, m) (numbered_from (n + 1) ms) (agrees.0 ∙ (ap flag same ∙ is.1)))))

-- the numbers that pass, in order, give the messages that pass
pub selected : (p : ℕ × Message → Bool) (flag : ℕ → Bool) (get : ℕ → Option Numbered) (n : ℕ) (ms : List Message) (xs : List ℕ) → Agrees p flag get n ms → Lists flag n xs → filter_map get xs ≡ map as_sent (filter p (numbered_from n ms))
selected p flag get n [] [] agrees is = refl
selected p flag get n [] (x ∷ xs) agrees is = absurd (false≢true (sym (agrees x is.0) ∙ is.1))
selected p flag get n (m ∷ ms) [] agrees is =
    let off : flag n ≡ false = is n (omega arith) in
    selected p flag get (n + 1) ms [] agrees.2 (weaker flag n [] off is) ∙ sym (ap (map as_sent) (skip p (n, m) (numbered_from (n + 1) ms) (agrees.0 ∙ off)))
selected p flag get n (m ∷ ms) (x ∷ xs) agrees is = ⊎_elim
    (λ same. selected-here p flag get n m ms x xs agrees is same (selected p flag get (n + 1) ms xs agrees.2 (subst (λ (n : ℕ). Lists flag (n + 1) xs) (sym same) is.3)))
    (λ low. let off : flag n ≡ false = is.2 n (omega arith) low in
    selected p flag get (n + 1) ms (x ∷ xs) agrees.2 (weaker flag n (x ∷ xs) off is) ∙ sym (ap (map as_sent) (skip p (n, m) (numbered_from (n + 1) ms) (agrees.0 ∙ off))))
    (at-or-above n x is.0)
