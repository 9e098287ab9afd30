use Rattle.std.specs.Prelude.{◌≡◌, ℕ, List, Bool, true, false, Some}
use Rattle.ocm_path.specs.Paths.{Segments}
use Rattle.ocm_entry.specs.declared.asks.Ask.TheVariants as asks
use Rattle.ocm_entry.specs.declared.asks.Method.{Method}
use Rattle.ocm_entry.specs.declared.rows.Grant.{Grant}
use Rattle.ocm_entry.specs.declared.rows.Place.{Place}
use Rattle.ocm_rules.specs.Answers.{carries_root}
use Rattle.ocm_rules.specs.Files.{below}
use Rattle.ocm_rules.specs.Holders.{permits, permits_carry}
use Rattle.ocm_rules.specs.State.{State, view_in}
use Rattle.ocm_rules.specs.Views.{grant_in}
use Rattle.ocm_plan.specs.Plans.{Plan, Plans}

-- this is the plan for a method at a place that has this path below the root of one who may do it there
abbrev pub PlansMethod : State → Method → Place → Segments → List ℕ → Plan → Type 0
PlansMethod st method place path body plan =
    (secret : List ℕ) (grant : Grant) → grant_in (view_in st) secret ≡ Some grant → permits grant.rights method ≡ true → place ≡ below grant.root path
    → Plans st (asks.Dav secret method path body) plan

-- this is the plan for such a method that takes no body
abbrev pub PlansBodiless : State → Method → Place → Segments → Plan → Type 0
PlansBodiless st method place path plan = (body : List ℕ) → PlansMethod st method place path body plan

-- this is the plan for a copy or move between two places, for one who may do it there
abbrev pub PlansCarry : State → Place → Place → Bool → Bool → Plan → Type 0
PlansCarry st from to moving overwrite plan =
    (secret : List ℕ) (grant : Grant) (source target : Segments) → grant_in (view_in st) secret ≡ Some grant → permits_carry grant.rights moving ≡ true → carries_root source target moving ≡ false
    → from ≡ below grant.root source → to ≡ below grant.root target
    → Plans st (asks.Carry secret source target moving overwrite) plan
