use Rattle.std.proofs.Common.{◌≡◌, ℕ, List, [], ◌∷◌, refl}
use Rattle.std.specs.Prelude.{map}
use Rattle.ocm_entry.specs.declared.rows.Share.{Share}
use Rattle.ocm_types.specs.declared.rights.Rights.{Rights}
use Rattle.ocm_rules.specs.Messages.{to_guests, changed}
use Rattle.ocm_letters.specs.Mailings.{changed_to_guests}

-- a message for each share of a list, with the permissions that a function gives
pub changed_to_guests-each : (ms : List Share) (serial : ℕ) (perms : ℕ → Rights) (ids : List ℕ)
    → changed_to_guests ms serial (map (λ id. record { id = id; perms = perms id }) ids) ≡ to_guests ms (λ id. changed serial (perms id) id) ids
changed_to_guests-each ms serial perms [] = refl
changed_to_guests-each ms serial perms (id ∷ ids) = rw (changed_to_guests-each ms serial perms ids) refl

-- all of them
pub ruleset each_rules = (changed_to_guests-each)
