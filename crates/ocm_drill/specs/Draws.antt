-- The draws of a drill: the states of a linear congruential generator, the first of which is the drill's number.
use Rattle.std.specs.Prelude.{ℕ, ◌+◌, ◌*◌, ◌/◌, ◌%◌, ◌^◌}

-- the state after a draw
unfoldable pub state_after : ℕ → ℕ
state_after state = (state * 6364136223846793005 + 1442695040888963407) % 2 ^ 64

-- what is made by draws from a state, and the state after them
abbrev pub Drawn : Type 0 → Type 0
Drawn A = ℕ → A × ℕ

-- a draw below a number: the upper 31 bits of the state after it, modulo that number
unfoldable pub pick : ℕ → Drawn ℕ
pick below = λ state. (state_after state / 2 ^ 33 % below, state_after state)

-- what is made without a draw
abbrev pub give : {A : Type 0} → A → Drawn A
give made = λ state. (made, state)

-- one drawing after another
infixl 10 ◌>>=◌
abbrev pub ◌>>=◌ : {A B : Type 0} → Drawn A → (A → Drawn B) → Drawn B
first >>= next = λ state. next (first state).0 (first state).1
