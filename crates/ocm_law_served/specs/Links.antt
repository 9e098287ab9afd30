-- The links from a share up to its owner, and what each of them has to grant.
use Rattle.std.specs.Prelude.{◌≡◌, ◌<◌, ℕ, List, [], ◌∷◌, Bool, false, ⊤, Option, Some, None}
use Rattle.std.specs.List.{list_all, AllByRecursion}
use Rattle.ocm_entry.specs.declared.entries.Entry.{Entry}
use Rattle.ocm_entry.specs.declared.rows.Share.{Share}
use Rattle.ocm_rules.specs.Numbers.{at_number}
use Rattle.ocm_rules.specs.Shares.{is_closed, made, moment, perms, until}
use Rattle.ocm_law_served.specs.Requests.{FileRequest, suffices}

-- a share is open after these kept entries: none of them closed it, and the moment is below its end, where it has one
abbrev pub IsOpen : List Entry → ℕ → Type 0
IsOpen g i = (is_closed g i ≡ false) × ((end : ℕ) → until g i ≡ Some end → moment g < end)

-- These numbers lead from a share up to its owner. The first is that of the share, and each further one is that of the
-- parent of the share before it; the last share has no parent, and all are this owner's.
abbrev pub LeadsUp : List Share → ℕ → Option ℕ → List ℕ → Type 0
LeadsUp ms owner None [] = ⊤
LeadsUp ms owner None (i ∷ above) = ⊥
LeadsUp ms owner (Some first) [] = ⊥
LeadsUp ms owner (Some first) (i ∷ above) =
    (i ≡ first) × (m : Share) × (at_number ms first ≡ Some m) × (m.owner ≡ owner) × LeadsUp ms owner m.parent above

-- a chain of open links from the share of this number, which is this one, up to its owner
abbrev pub IsOpenChain : List ℕ → List Entry → ℕ → Share → List ℕ → Type 0
IsOpenChain host g i m chain =
    (at_number (made host g) i ≡ Some m) × LeadsUp (made host g) m.owner (Some i) chain × AllByRecursion (IsOpen g) chain

-- whether the permissions of each of these shares suffice for a request
abbrev pub all_grant : List ℕ → List Entry → FileRequest → List ℕ → Bool
all_grant host g request chain = list_all (λ i. suffices request (perms host g i)) chain
