use Rattle.std.proofs.Common.{◌≡◌, ◌∷◌, [], sym, subst, Some}
use Rattle.ocm_rules.proofs.Searches.{some-same}
use Rattle.ocm_rules.specs.Cases.{offer_to_bob, our_host}
use Rattle.ocm_rules.specs.Numbers.{at_number}
use Rattle.ocm_rules.specs.Shares.{made}
use Rattle.ocm_law_world.proofs.Reached.{nothing-there}
use Rattle.ocm_script_run.specs.Servers.{Server, new_server}
use Rattle.ocm_law_runs.specs.Standing.{IsMade, kept_at}
use Rattle.ocm_law_runs.specs.Wrong.{forged_at_bob}
use Rattle.ocm_law_runs.proofs.wrong.an_acceptance_confirms_nothing.Goals as goal

unmade : IsMade (new_server our_host ∷ forged_at_bob ∷ []) offer_to_bob → ⊥
unmade (owner, is, m) =
    let P : Server → Type 0 = λ s. at_number (made our_host (kept_at our_host s)) m.id ≡ Some m.share in
    nothing-there m.id m.share (subst P (sym (some-same (new_server our_host) owner is)) m.made)

pub returns-clause-unmade : goal.returns-clause-unmade
returns-clause-unmade c = unmade
