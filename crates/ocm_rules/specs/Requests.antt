use Rattle.std.specs.Prelude.{ℕ, List, [], ◌∷◌, nat_eq, Bool, false, if◌then◌else◌, Option, Some, None}
use Rattle.std.specs.List.{list_any}
use Rattle.ocm_types.specs.declared.addresses.Address.{Address}
use Rattle.ocm_types.specs.declared.phases.RequestPhase.{RequestPhase}
use Rattle.ocm_types.specs.declared.phases.RequestPhase.TheVariants.{Asked, Granted, Refused, Undone}
use Rattle.ocm_types.specs.declared.rights.Rights.{Rights}
use Rattle.ocm_entry.specs.declared.asks.Ask.{Ask}
use Rattle.ocm_entry.specs.declared.asks.Ask.TheVariants.{Local}
use Rattle.ocm_entry.specs.declared.asks.Cmd.TheVariants as commands
use Rattle.ocm_entry.specs.declared.entries.Entry.{Entry}
use Rattle.ocm_rules.specs.declared.rows.Message.{Message}
use Rattle.ocm_rules.specs.declared.rows.Subject.TheVariants.{Request}
use Rattle.ocm_rules.specs.Numbers.{added}
use Rattle.ocm_rules.specs.Settlements.{Settlement, is_success, wants_id, outcome}

-- a guest's request to share a received share further: the number of the record, the recipient, and what is asked for
pub record Reshare : Type 0 where
  pub received : ℕ
  pub with : Address
  pub perms : Option Rights

-- the request that a kept ask makes
abbrev pub request_by : Ask → Option Reshare
request_by (Local key (commands.Reshare number with perms)) = Some (record { received = number; with = with; perms = perms })
request_by _ = None

-- the requests after a list of kept entries, the oldest first; they are numbered from 1
abbrev pub requests : List Entry → List Reshare
requests [] = []
requests (e ∷ before) = added (requests before) (request_by e.ask)

-- whether an ask takes the request of this number back
abbrev pub undoes : ℕ → Ask → Bool
undoes r (Local key (commands.Undo request)) = nat_eq request r
undoes r _ = false

-- whether the request of this number was taken back
abbrev pub is_undone : List Entry → ℕ → Bool
is_undone g r = list_any (λ (e : Entry). undoes r e.ask) g

-- the state of a request that was answered with this status and id
abbrev pub answered_state : ℕ → Option (List ℕ) → RequestPhase
answered_state status (Some child) = if is_success status then Granted child else Refused
answered_state status None = Refused

-- the state of a request that was not taken back, by how its message was settled
abbrev pub settled_state : Option Settlement → RequestPhase
settled_state (Some s) = answered_state s.status s.id
settled_state None = Asked

-- the state of the request of this number, where these messages were sent
abbrev pub state_among : List Message → List Entry → ℕ → RequestPhase
state_among messages g r = if is_undone g r then Undone else settled_state (outcome messages g wants_id (Request r))

-- the child that was made for a request
abbrev pub child_of : RequestPhase → Option (List ℕ)
child_of (Granted child) = Some child
child_of _ = None
