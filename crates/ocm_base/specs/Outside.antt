use Rattle.std.specs.Prelude.{◌≡◌, ℕ, ◌+◌, ◌-◌, ◌^◌, ◌≤◌, min, List, [], ◌++◌, length, take, Option, IfSome, option_map}

-- one more, of a count that is kept as a u64: it ends at 2^64 - 1, and stands there
abbrev pub raised : ℕ → ℕ
raised count = min (count + 1) (2 ^ 64 - 1)

-- a count of faults rose, or stands at the end of a u64
abbrev pub Rose : ℕ → ℕ → Type 0
Rose old new = raised old ≤ new

-- the bytes were added to what is held, where that is told
abbrev pub Appends : Option (List ℕ) → Option (List ℕ) → List ℕ → Type 0
Appends old new bytes = new ≡ option_map (λ held. held ++ bytes) old

-- the bytes were taken from the front of what is left, where that is told
abbrev pub Takes : Option (List ℕ) → Option (List ℕ) → List ℕ → Type 0
Takes old new bytes = old ≡ option_map (λ rest. bytes ++ rest) new

-- some of the bytes, from their front on, were added
abbrev pub AppendsPart : Option (List ℕ) → Option (List ℕ) → List ℕ → Type 0
AppendsPart old new bytes = (n : ℕ) × (n ≤ length bytes) × Appends old new (take n bytes)

-- some bytes were added at the end, maybe none
abbrev pub AppendsSome : Option (List ℕ) → Option (List ℕ) → Type 0
AppendsSome old new = (bytes : List ℕ) × Appends old new bytes

-- some bytes were taken from the front of what is left, maybe none
abbrev pub TakesSome : Option (List ℕ) → Option (List ℕ) → Type 0
TakesSome old new = (bytes : List ℕ) × Takes old new bytes

-- what a source tells: the bytes that it has left, and those that it gave so far, each where it knows them
pub record Flow : Type 0 where
  pub left : Option (List ℕ)
  pub received : Option (List ℕ)

abbrev pub flow : Option (List ℕ) → Option (List ℕ) → Flow
flow left received = record { left = left; received = received }

-- these bytes came: they were taken from the front of what is left, and added to what was received, where these are told
abbrev pub Came : Flow → Flow → List ℕ → Type 0
Came old new bytes = Takes old.left new.left bytes × Appends old.received new.received bytes

-- nothing is left, where that is told
abbrev pub IsDry : Flow → Type 0
IsDry flow = IfSome flow.left (λ rest. rest ≡ [])
