-- The account of a file: what it holds, and what a crash may leave of it, by what was done to it. The newest step stands first.
use Rattle.std.specs.Prelude.{◌≡◌, ◌≤◌, ◌⊎◌, ℕ, ◌+◌, min, List, [], ◌∷◌, ◌++◌, length, take, drop, replicate, Bool, true, false, bytes_eq, if◌then◌else◌}
use Rattle.ocm_disk.specs.Disk.{Torn, Cut}
use Rattle.ocm_disk.specs.declared.accounts.FileStep.{FileStep}
use Rattle.ocm_disk.specs.declared.accounts.FileStep.TheVariants.{Opened, Read, Wrote, WroteInPart, Shortened, ShortenedInPart, Synced}

-- so many bytes of these, and zeros where they are fewer
abbrev pub fitted : ℕ → List ℕ → List ℕ
fitted len bytes = take len (bytes ++ replicate len 0)

-- bytes over what stands from a place on, and past the end
abbrev pub put_at : ℕ → List ℕ → List ℕ → List ℕ
put_at place bytes old = take (min place (length old)) old ++ bytes ++ drop (min place (length old) + length bytes) old

-- whether these bytes stand from a place on
abbrev pub stand_at : ℕ → List ℕ → List ℕ → Bool
stand_at place bytes all = bytes_eq bytes (take (length bytes) (drop place all))

-- What the file holds. Where a read gave what did not stand there, the account goes on with what it gave, here and below.
abbrev pub shown : List FileStep → List ℕ
shown [] = []
shown (Opened len held ∷ steps) = fitted len held.bytes
shown (Read place held ∷ steps) = if stand_at place held.bytes (shown steps) then shown steps else put_at place held.bytes (shown steps)
shown (Wrote place held ∷ steps) = put_at place held.bytes (shown steps)
shown (WroteInPart place n ∷ steps) = shown steps
shown (Shortened len ∷ steps) = take len (shown steps)
shown (ShortenedInPart len ∷ steps) = shown steps
shown (Synced ∷ steps) = shown steps

-- each read gave what stood there
abbrev pub AreFaithful : List FileStep → Type 0
AreFaithful [] = Unit {0}
AreFaithful (Opened len held ∷ steps) = Unit {0}
AreFaithful (Read place held ∷ steps) = (stand_at place held.bytes (shown steps) ≡ true) × AreFaithful steps
AreFaithful (Wrote place held ∷ steps) = AreFaithful steps
AreFaithful (WroteInPart place n ∷ steps) = AreFaithful steps
AreFaithful (Shortened len ∷ steps) = AreFaithful steps
AreFaithful (ShortenedInPart len ∷ steps) = AreFaithful steps
AreFaithful (Synced ∷ steps) = AreFaithful steps

-- what it held at the last successful sync
abbrev pub at_sync : List FileStep → List ℕ
at_sync [] = []
at_sync (Opened len held ∷ steps) = fitted len held.bytes
at_sync (Read place held ∷ steps) = if stand_at place held.bytes (shown steps) then at_sync steps else put_at place held.bytes (at_sync steps)
at_sync (Wrote place held ∷ steps) = at_sync steps
at_sync (WroteInPart place n ∷ steps) = at_sync steps
at_sync (Shortened len ∷ steps) = at_sync steps
at_sync (ShortenedInPart len ∷ steps) = at_sync steps
at_sync (Synced ∷ steps) = shown steps

-- what it holds, with `ee` in place of each byte that was written since that sync
abbrev pub ruined_since : List FileStep → List ℕ
ruined_since [] = []
ruined_since (Opened len held ∷ steps) = fitted len held.bytes
ruined_since (Read place held ∷ steps) = if stand_at place held.bytes (shown steps) then ruined_since steps else put_at place held.bytes (ruined_since steps)
ruined_since (Wrote place held ∷ steps) = put_at place (replicate (length held.bytes) 238) (ruined_since steps)
ruined_since (WroteInPart place n ∷ steps) = ruined_since steps
ruined_since (Shortened len ∷ steps) = take len (ruined_since steps)
ruined_since (ShortenedInPart len ∷ steps) = ruined_since steps
ruined_since (Synced ∷ steps) = shown steps

-- What a crash may leave of it. It was synced when it was opened.
abbrev pub MayLeave : List FileStep → List ℕ → Type 0
MayLeave [] c = c ≡ []
MayLeave (Opened len held ∷ steps) c = c ≡ fitted len held.bytes
MayLeave (Read place held ∷ steps) c =
    ((stand_at place held.bytes (shown steps) ≡ true) × MayLeave steps c) ⊎ ((stand_at place held.bytes (shown steps) ≡ false) × (d : List ℕ) × MayLeave steps d × (c ≡ put_at place held.bytes d))
MayLeave (Wrote place held ∷ steps) c = (d : List ℕ) × MayLeave steps d × Torn (min place (length (shown steps))) (length held.bytes) d c
MayLeave (WroteInPart place n ∷ steps) c = (d : List ℕ) × MayLeave steps d × Torn (min place (length (shown steps))) n d c
MayLeave (Shortened len ∷ steps) c = (d : List ℕ) × MayLeave steps d × Cut len d c
MayLeave (ShortenedInPart len ∷ steps) c = (d : List ℕ) × MayLeave steps d × Cut len d c
MayLeave (Synced ∷ steps) c = c ≡ shown steps

-- what a crash at the moment of number t, or at a later one, might have left
abbrev pub MightLeave : List FileStep → ℕ → List ℕ → Type 0
MightLeave [] t c = (t ≤ 0) × MayLeave [] c
MightLeave (step ∷ steps) t c = ((t ≤ length (step ∷ steps)) × MayLeave (step ∷ steps) c) ⊎ MightLeave steps t c
