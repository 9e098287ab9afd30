-- How many messages a server sends at most: two for each share, each received offer and each request, and those that tell changed permissions.
use Rattle.std.specs.Prelude.{ℕ, ◌+◌, List, [], ◌∷◌, if◌then◌else◌}
use Rattle.ocm_types.specs.declared.phases.Phase.{Phase}
use Rattle.ocm_types.specs.declared.phases.Phase.TheVariants as phases
use Rattle.ocm_types.specs.declared.phases.RequestPhase.{RequestPhase}
use Rattle.ocm_types.specs.declared.phases.RequestPhase.TheVariants as states
use Rattle.ocm_entry.specs.declared.entries.Entry.{Entry}
use Rattle.ocm_rules.specs.Numbers.{numbers}
use Rattle.ocm_rules.specs.Shares.{is_live, made}
use Rattle.ocm_rules.specs.Offers.{offers}
use Rattle.ocm_rules.specs.Requests.{requests}
use Rattle.ocm_rules.specs.Messages.{change_count, out, phase, state}

-- the sum of what each of these numbers counts
abbrev pub total : (ℕ → ℕ) → List ℕ → ℕ
total count [] = 0
total count (n ∷ ns) = count n + total count ns

-- how many messages are about a share at most, those of changed permissions aside: its offer, and where it is live no more, its end
abbrev pub share_messages : List ℕ → List Entry → ℕ → ℕ
share_messages host g i = if is_live host g i then 1 else 2

-- how many messages are about a received offer of this phase at most: that it was taken, and that it was declined
abbrev pub record_messages : Phase → ℕ
record_messages phases.Pending = 0
record_messages phases.Declined = 2
record_messages phases.Removed = 2
record_messages _ = 1

-- how many messages are about a request of this state at most: the request, and that it is taken back
abbrev pub request_messages : RequestPhase → ℕ
request_messages states.Undone = 2
request_messages _ = 1

-- how many messages are about shares, received offers and requests at most after these kept entries
abbrev pub about_shares : List ℕ → List Entry → ℕ
about_shares host g = total (share_messages host g) (numbers (made host g))

abbrev pub about_records : List ℕ → List Entry → ℕ
about_records host g = total (λ n. record_messages (phase host g n)) (numbers (offers g))

abbrev pub about_requests : List ℕ → List Entry → ℕ
about_requests host g = total (λ r. request_messages (state host g r)) (numbers (requests g))

-- how many messages these kept entries sent at most
abbrev pub counted_messages : List ℕ → List Entry → ℕ
counted_messages host g = about_shares host g + about_records host g + about_requests host g + change_count (out host g)
