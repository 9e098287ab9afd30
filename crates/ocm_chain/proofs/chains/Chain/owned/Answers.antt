use Rattle.std.proofs.Common.{◌≡◌, ℕ, List, subst}
use Rattle.std.specs.Prelude.{IfOk}
use Rattle.ocm_chain.proofs.OwnNumbers.{owned-numbers}
use Rattle.ocm_chain.proofs.chains.Chain.owned.Goals as goal

pub returns-clause-owned : goal.returns-clause-owned
returns-clause-owned g c =
    let P : List ℕ → Type 0 = λ ns. IfOk c.owned.result (λ list. list ≡ ns) in
    rw (← c.self.view_is) (subst P (owned-numbers c.self.inside.rows.shares c.self.inside.owners.owners c.args.owner c.self.invariant.by_owner) c.owned.ensures.owned)
