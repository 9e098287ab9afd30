use Rattle.std.proofs.Common.{◌≡◌, ℕ, zero, suc, ◌<◌, ◌≤◌, List, [], ◌∷◌, length, get_or, Some, None, refl, sym, ap, arith}
use Rattle.std.specs.Prelude.{slice_get}

-- what is found at an index
pub got : {X : Type 0} (xs : List X) (i : ℕ) (x : X) → i < length xs → x ≡ get_or xs i x → slice_get xs i ≡ Some x
got [] i x l h = absurd (omega arith)
got (y ∷ xs) zero x l h = ap Some (sym h)
got (y ∷ xs) (suc i) x l h = got xs i x (omega arith) h

-- nothing is found past the end
pub missed : {X : Type 0} (xs : List X) (i : ℕ) → length xs ≤ i → slice_get xs i ≡ None
missed [] i l = refl
missed (y ∷ xs) zero l = absurd (omega arith)
missed (y ∷ xs) (suc i) l = missed xs i (omega arith)
