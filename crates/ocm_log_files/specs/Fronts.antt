-- How a file begins that has lines of a log.
use Rattle.std.specs.Prelude.{◌≡◌, ◌⊎◌, ◌<◌, ◌^◌, ℕ, List, ◌∷◌, ◌++◌, codes, decimal, nat_eq, false, All, ⊤}

-- bytes are a front of some that are such
abbrev pub IsBegun : (List ℕ → Type 0) → List ℕ → Type 0
IsBegun Whole bytes = (rest : List ℕ) × Whole (bytes ++ rest)

-- such a word, a space, and then what is such
abbrev pub Follows : (List ℕ → Type 0) → (List ℕ → Type 0) → List ℕ → Type 0
Follows Word Rest bytes = (word rest : List ℕ) × Word word × Rest rest × (bytes ≡ word ++ 32 ∷ rest)

-- a decimal of a number below 2^64
abbrev pub IsNumber : List ℕ → Type 0
IsNumber word = (number : ℕ) × (number < 2 ^ 64) × (word ≡ decimal number)

-- the word of a read
abbrev pub IsMethod : List ℕ → Type 0
IsMethod word = (word ≡ codes "get") ⊎ ((word ≡ codes "head") ⊎ ((word ≡ codes "list0") ⊎ (word ≡ codes "list1")))

-- the word of a read, a space, and anything
abbrev pub IsRead : List ℕ → Type 0
IsRead = Follows IsMethod (λ _. ⊤)

-- a place, a moment and the word of a read, each with a space behind it, and anything
abbrev pub IsLogged : List ℕ → Type 0
IsLogged = Follows IsNumber (Follows IsNumber IsRead)

-- a byte does not stand in bytes
abbrev pub Lacks : ℕ → List ℕ → Type 0
Lacks separator bytes = All (λ b. nat_eq b separator ≡ false) bytes
