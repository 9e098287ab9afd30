use Rattle.std.proofs.Common.{◌≡◌, ℕ, List, Option, Result, Some, inl, inr, subst}
use Rattle.ocm_pump.specs.declared.exchanges.Exchange.{Exchange}
use Rattle.ocm_davclient.specs.declared.faults.ClientFault.{ClientFault}
use Rattle.ocm_commands_dav.specs.Exchanges.{DoesAsked}
use Rattle.ocm_net_adapters.specs.Dials.{DialTold}
use Rattle.ocm_commands_network.proofs.remotes.run_remote.Goals as goal

-- what was done over a dial that had told this much, if it is that much
done_from : (words : List (List ℕ)) (left rest : Option (List ℕ)) (told that_told : DialTold) (after : List Exchange) (answer : Result (List ℕ) ClientFault)
    → told ≡ that_told → DoesAsked words left rest (Some told.exchanges) (Some after) answer → DoesAsked words left rest (Some that_told.exchanges) (Some after) answer
done_from words left rest told that_told after answer e d = subst (λ (b : DialTold). DoesAsked words left rest (Some b.exchanges) (Some after) answer) e d

pub returns-clause-read_for_put : goal.returns-clause-read_for_put
returns-clause-read_for_put g c =
    λ either. elim either [
      | inl fault ↦ (c.remote-end.ensures.read_fault fault).0
      | inr long ↦ (c.remote-end.ensures.too_long long).0
    ]

pub returns-clause-too_long : goal.returns-clause-too_long
returns-clause-too_long g c = λ long. (c.remote-end.ensures.too_long long).1

pub returns-clause-told : goal.returns-clause-told
returns-clause-told g c = λ is.
    let e = c.remote-end.ensures.exact is in
    (e.0, c.remote-end.new.dial.book.exchanges, done_from _ _ _ _ _ _ _ c.new-dial.ensures e.1, e.2, e.3)

pub returns-clause-part : goal.returns-clause-part
returns-clause-part g c = λ is. elim (c.remote-end.ensures.part is) [
  | inl other ↦ inl other
  | inr e ↦ inr (e.0, c.remote-end.new.dial.book.exchanges, done_from _ _ _ _ _ _ _ c.new-dial.ensures e.1, e.2)
]
