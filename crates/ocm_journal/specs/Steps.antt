-- What two writes with a sync behind each may leave.
use Rattle.std.specs.Prelude.{◌≡◌, ◌≤◌, ◌⊎◌, ℕ, List, [], ◌∷◌, length, replicate}
use Rattle.ocm_disk.specs.Disk.{Holds, Torn}
use Rattle.ocm_disk.specs.declared.disk.Disk.{Ghosts}

-- new is old after a text was written and then one byte
abbrev pub Switched : List ℕ → ℕ → List ℕ → ℕ → ℕ → List ℕ → Type 0
Switched old place text switch byte new = (mid : List ℕ) × Holds old place text mid × Holds mid switch (byte ∷ []) new

-- what a crash leaves while a text is written, or while the byte is written behind which the text stands whole
abbrev pub InSwitch : List ℕ → ℕ → List ℕ → ℕ → List ℕ → Type 0
InSwitch old place text switch new = Torn place (length text) old new ⊎ ((mid : List ℕ) × Holds old place text mid × Torn switch 1 mid new)

-- what a disk holds where a text was to be written and synced, and so many of these two calls passed, but not both
pub record PutCutShort {D : Type 0} (disk : Ghosts D) (left : ℕ) (old : List ℕ) (place : ℕ) (text : List ℕ) (now : D) : Type 0 where
  pub none : left ≡ 0 → (disk.seen now ≡ old) × (disk.synced now ≡ old) × (disk.torn now ≡ old)
  pub one : left ≡ 1 → Holds old place text (disk.seen now) × (disk.synced now ≡ old) × Holds old place (replicate (length text) 238) (disk.torn now)

-- what a disk holds where a text and then one byte were to be written, with a sync behind each, and so many of these
-- four calls passed, but not all
pub record SwitchCutShort {D : Type 0} (disk : Ghosts D) (left : ℕ) (old : List ℕ) (place : ℕ) (text : List ℕ) (switch byte : ℕ) (now : D) : Type 0 where
  pub few : left ≤ 2 → Torn place (length text) old (disk.seen now) × Torn place (length text) old (disk.synced now) × Torn place (length text) old (disk.torn now)
  pub three : left ≡ 3 → Switched old place text switch byte (disk.seen now) × Holds old place text (disk.synced now) × Switched old place text switch 238 (disk.torn now)
