-- What records say has spellings.
use Rattle.std.proofs.Common.{◌≡◌, ℕ, List, sym, Option, Some, None}
use Rattle.std.specs.Prelude.{IfSome}
use Rattle.ocm_entry_bytes.specs.Spells.{AreBytes}
use Rattle.ocm_entry_bytes.proofs.Whole.{has_spelling-fits}
use Rattle.ocm_journal_records.specs.declared.stamps.Stamped.{Stamped}
use Rattle.ocm_journal_records.specs.declared.stamps.Stamped.TheVariants as stamps
use Rattle.ocm_journal_records.specs.Stamps.{stamped_of}
use Rattle.ocm_law_sessions.proofs.Spelling.{FitsStamped, stamped-fits}
use Rattle.ocm_compact.specs.Replays.{HasSpelledAsk}

spelled-said : (said : Stamped) → FitsStamped said → HasSpelledAsk said
spelled-said (stamps.Bare ask) fits = has_spelling-fits ask fits
spelled-said (stamps.Moment clock) fits = tt
spelled-said (stamps.Timed clock ask) fits = has_spelling-fits ask fits.1

pub spelled-read : (form : ℕ) (bytes : List ℕ) (said : Option Stamped) → AreBytes bytes → said ≡ stamped_of form bytes → IfSome said HasSpelledAsk
spelled-read form bytes None are is = tt
spelled-read form bytes (Some said) are is = spelled-said said (stamped-fits form bytes said are (sym is))
