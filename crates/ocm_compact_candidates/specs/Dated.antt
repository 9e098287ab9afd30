-- The records in form 2 of asks.
use Rattle.std.specs.Prelude.{ℕ, List, ◌++◌}
use Rattle.ocm_entry.specs.declared.asks.Ask.{Ask}
use Rattle.ocm_entry_bytes.specs.Spells.{eight_bytes, spelling}

-- the record in form 2 of an ask at a moment
unfoldable pub dated_text : ℕ → Ask → List ℕ
dated_text clock ask = eight_bytes clock ++ spelling ask
