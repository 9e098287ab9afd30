-- Shares that have ended.
use Rattle.std.specs.Prelude.{◌≡◌, ℕ, List, false, Some}
use Rattle.ocm_entry.specs.declared.rows.Share.{Share}
use Rattle.ocm_rules.specs.Numbers.{at_number}
use Rattle.ocm_rules.specs.Shares.{is_live, made}
use Rattle.ocm_law_world.specs.World.{Session, World, kept_at}

-- the share of this number is there, at the server of this host, and is not live
abbrev pub IsEnded : World → List ℕ → ℕ → Share → Type 0
IsEnded w host i m = (s : Session) × (w.session host ≡ Some s) × (at_number (made host (kept_at host s)) i ≡ Some m) × (is_live host (kept_at host s) i ≡ false)
