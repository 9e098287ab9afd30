-- Several words of a line read together.
use Rattle.std.specs.Prelude.{ℕ, List, Option, Some}
use Rattle.ocm_script.specs.Words.{◌>>=◌, ended, next}

-- the next two words, as one of a kind and one of another, and what follows them
unfoldable pub next_two : {A B : Type 0} → (List ℕ → Option A) → (List ℕ → Option B) → Option (List ℕ) → Option ((A × B) × Option (List ℕ))
next_two first second rest = do
  x ← next first rest
  y ← next second x.1
  Some ((x.0, y.0), y.1)

-- the next word, as one of a kind, where the line ends behind it
unfoldable pub last : {A : Type 0} → (List ℕ → Option A) → Option (List ℕ) → Option A
last kind rest = do
  x ← next kind rest
  _ ← ended x.1
  Some x.0

-- the next two words, as one of a kind and one of another, where the line ends behind them
unfoldable pub last_two : {A B : Type 0} → (List ℕ → Option A) → (List ℕ → Option B) → Option (List ℕ) → Option (A × B)
last_two first second rest = do
  x ← next first rest
  y ← last second x.1
  Some (x.0, y)
