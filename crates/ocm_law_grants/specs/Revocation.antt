use Rattle.std.specs.Prelude.{ℕ, List, nat_eq, Bool}
use Rattle.std.specs.List.{list_any}
use Rattle.ocm_entry.specs.declared.entries.Entry.{Entry}
use Rattle.ocm_rules.specs.Shares.{made, links}

-- whether a share is the first one or lies below it, after these kept entries
abbrev pub is_at_or_below : List ℕ → List Entry → ℕ → ℕ → Bool
is_at_or_below host g above i = list_any (nat_eq above) (links (made host g) i)
