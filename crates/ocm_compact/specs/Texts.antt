-- The records in form 2 of the asks of a list that are neither ticks nor for files.
use Rattle.std.specs.Prelude.{◌<◌, ◌^◌, ℕ, List, [], ◌∷◌, ◌++◌, if◌then◌else◌, ⊤}
use Rattle.ocm_entry.specs.declared.asks.Ask.{Ask}
use Rattle.ocm_entry_bytes.specs.Spells.{Fits}
use Rattle.ocm_law_alike.specs.Others.{Dated, is_aside}
unfoldable pub use Rattle.ocm_compact_candidates.specs.Dated.{dated_text}

-- the records of asks with their moments, which stand newest first: the oldest first
abbrev pub dated_texts : List Dated → List (List ℕ)
dated_texts [] = []
dated_texts (dated ∷ before) = dated_texts before ++ dated_text dated.moment dated.ask ∷ []

-- these records, and behind them that of an ask at a moment, where it is neither a tick nor for files
abbrev pub noted : ℕ → Ask → List (List ℕ) → List (List ℕ)
noted clock ask texts = if is_aside ask then texts else texts ++ dated_text clock ask ∷ []

-- each of these asks is read back from its record
abbrev pub AllFit : List Dated → Type 0
AllFit [] = ⊤
AllFit (dated ∷ before) = (dated.moment < 2 ^ 64) × Fits dated.ask × AllFit before
