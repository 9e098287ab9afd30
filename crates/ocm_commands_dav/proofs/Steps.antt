-- The steps of a task put together.
use mathlib.Core.Logic.{inl, inr}
use Rattle.std.proofs.Common.{◌≡◌, ◌⊎◌, ℕ, List, ◌++◌, Option, Result, Ok, Err, refl, subst}
use Rattle.ocm_pump.proofs.Additions.{adds_more}
use Rattle.ocm_pump.specs.Exchanges.{AddsSome}
use Rattle.ocm_pump.specs.declared.exchanges.Exchange.{Exchange}
use Rattle.ocm_davclient.specs.Client.{Access, Finds}
use Rattle.ocm_davclient.specs.declared.faults.ClientFault.{ClientFault}
use Rattle.ocm_commands_dav.specs.Exchanges.{Calls, Does, DoesAsked, Works, called, unfound}
use Rattle.ocm_commands_dav.specs.Words.{Asks}
use Rattle.ocm_commands_dav.specs.declared.tasks.Task.{Task}

-- the search that found nothing
pub searched : (old new : Option (List Exchange)) (task : Task) (body : List ℕ) (found : Result Access ClientFault) (fault : ClientFault)
    → found ≡ Err fault → AddsSome old new (λ added. Finds task.host task.secret added found)
    → AddsSome old new (λ added. Works task body added (Err fault))
searched old new task body found fault same made =
    (made.0, made.1, unfound fault (subst (λ (f : Result Access ClientFault). Finds task.host task.secret made.0 f) same made.2) refl)

-- the search, and then the call
pub worked : (old between new : Option (List Exchange)) (task : Task) (body : List ℕ) (found : Result Access ClientFault) (client : Access) (answer : Result (List ℕ) ClientFault)
    → found ≡ Ok client → AddsSome old between (λ added. Finds task.host task.secret added found)
    → AddsSome between new (λ added. Calls client task.verb task.path body added answer)
    → AddsSome old new (λ added. Works task body added answer)
worked old between new task body found client answer same first later = (
  later.0 ++ first.0,
  adds_more old between new first.0 later.0 first.1 later.1,
  called first.0 later.0 client (subst (λ (f : Result Access ClientFault). Finds task.host task.secret first.0 f) same first.2) later.2 refl,
)

-- one of two, where the first is not
pub past : {A B C : Type 0} → (A → ⊥) → (B → C) → A ⊎ B → C
past none next (inl a) = absurd (none a)
past none next (inr b) = next b

-- what was done of a task was asked for
pub asked : {D : Type 0} → (words : List (List ℕ)) (task : Task) (left rest : Option (List ℕ)) (old new : Option (List Exchange)) → Asks words task
    → D ⊎ ((answer : Result (List ℕ) ClientFault) × Does task left rest old new answer)
    → D ⊎ ((answer : Result (List ℕ) ClientFault) × DoesAsked words left rest old new answer)
asked words task left rest old new asks (inl d) = inl d
asked words task left rest old new asks (inr (answer, does)) = inr (answer, (task, asks, does))
