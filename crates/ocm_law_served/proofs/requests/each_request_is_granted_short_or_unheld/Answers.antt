use Rattle.std.proofs.Common.{ℕ, List}
use Rattle.std.specs.Prelude.{◌⊎◌}
use mathlib.Core.Logic.{inl, inr}
use Rattle.ocm_entry.specs.declared.entries.Entry.{Entry}
use Rattle.ocm_entry.specs.declared.rows.Place.{Place}
use Rattle.ocm_rules.specs.History.{kept}
use Rattle.ocm_rules.proofs.Kept.{kept-answered}
use Rattle.ocm_law_served.specs.Requests.{FileRequest}
use Rattle.ocm_law_served.specs.Served.{IsGranted, IsShort, IsUnheld}
use Rattle.ocm_law_served.proofs.Granting.{Granted, Short, Standing, Unheld, granted-held, granted-suffices, held-once, short-unheld, stands}
use Rattle.ocm_law_served.proofs.requests.each_request_is_granted_short_or_unheld.Goals as goal

one_of : (host : List ℕ) (g : List Entry) (secret : List ℕ) (request : FileRequest) → Standing host g secret request → ((root : Place) × IsGranted host g secret request root) ⊎ (IsShort host g secret request ⊎ IsUnheld host g secret)
one_of host g secret request (Granted root granted) = inl (root, granted)
one_of host g secret request (Short short) = inr (inl short)
one_of host g secret request (Unheld unheld none) = inr (inr unheld)

pub returns-clause-some : goal.returns-clause-some
returns-clause-some c = λ host g secret request legal. one_of host (kept host g) secret request (stands host (kept host g) secret request (kept-answered host g legal))

pub returns-clause-granted : goal.returns-clause-granted
returns-clause-granted c = λ host g secret request root legal granted. (granted-held host (kept host g) secret request root granted, granted-suffices host (kept host g) secret request root (kept-answered host g legal) granted)

pub returns-clause-short : goal.returns-clause-short
returns-clause-short c = λ host g secret request legal short unheld. short-unheld host (kept host g) secret request short unheld

pub returns-clause-one : goal.returns-clause-one
returns-clause-one c = λ host g secret root other legal one two. held-once host (kept host g) secret root other (kept-answered host g legal) one two
