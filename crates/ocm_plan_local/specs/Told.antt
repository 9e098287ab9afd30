use Rattle.std.specs.Prelude.{ℕ, Option, option_map}
use Rattle.ocm_types.specs.declared.letters.Offer.{Offer}
use Rattle.ocm_types.specs.declared.rights.Rights.{Rights}
use Rattle.ocm_chain.specs.declared.answers.Change.{Change}
use Rattle.ocm_entry.specs.declared.listings.Line.{Line}
use Rattle.ocm_entry.specs.declared.listings.Line.TheVariants as lines
use Rattle.ocm_entry.specs.declared.rows.Request.{Request}
use Rattle.ocm_letters.specs.declared.mailings.NewPerms.{NewPerms}
use Rattle.ocm_rules.specs.Answers.{record_line, share_line}
use Rattle.ocm_rules.specs.Numbers.{at_number}
use Rattle.ocm_rules.specs.State.{State, view_in}

-- what the guest of a share is told that may do something else
abbrev pub new_perms : Change → NewPerms
new_perms change = record { id = change.id; perms = change.perms }

-- an offer with the permissions that its guest was told
abbrev pub told_offer : Offer → Rights → Offer
told_offer offer perms = record offer { perms = perms }

-- the line of the share, of the received offer, of the request of this number, whoever's it is
abbrev pub share_told : State → ℕ → Option Line
share_told st id = option_map (share_line (view_in st) id) (at_number (view_in st).shares id)

abbrev pub record_told : State → ℕ → Option Line
record_told st n = option_map (record_line (view_in st) n) (at_number (view_in st).offers n)

abbrev pub request_told : State → ℕ → Option Line
request_told st r = option_map (λ (request : Request). lines.Request r request.received request.with request.perms request.state) (at_number st.requests r)
