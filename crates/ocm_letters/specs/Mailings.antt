use Rattle.std.specs.Prelude.{ℕ, List, filter_map, option_map}
use Rattle.ocm_entry.specs.declared.rows.Share.{Share}
use Rattle.ocm_rules.specs.declared.rows.Message.{Message}
use Rattle.ocm_rules.specs.Numbers.{at_number}
use Rattle.ocm_rules.specs.Messages.{changed}
use Rattle.ocm_letters.specs.declared.mailings.NewPerms.{NewPerms}

-- a message for each of these shares, that its guest has these permissions now, by the change of this serial
abbrev pub changed_to_guests : List Share → ℕ → List NewPerms → List Message
changed_to_guests ms serial told = filter_map (λ (new : NewPerms). option_map (changed serial new.perms new.id) (at_number ms new.id)) told
