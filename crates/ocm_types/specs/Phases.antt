use Rattle.std.specs.Prelude.{ℕ, List, codes}
use Rattle.ocm_types.specs.declared.phases.Phase.{Phase}
use Rattle.ocm_types.specs.declared.phases.Phase.TheVariants.{Pending, Accepting, Confirmed, Refused, Declined, Removed}

-- the phase of a received offer, in one word
abbrev pub phase_word : Phase → List ℕ
phase_word Pending = codes "pending"
phase_word Accepting = codes "accepting"
phase_word Confirmed = codes "confirmed"
phase_word Refused = codes "refused"
phase_word Declined = codes "declined"
phase_word Removed = codes "removed"
