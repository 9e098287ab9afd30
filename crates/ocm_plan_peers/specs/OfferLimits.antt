use Rattle.std.specs.Prelude.{ℕ, ◌+◌, List, length, nat_lt, if◌then◌else◌, Option, Some, None}
use Rattle.ocm_limits.specs.Limits.{most_pending, most_records}
use Rattle.ocm_types.specs.declared.phases.Which.{Which}
use Rattle.ocm_types.specs.declared.phases.Which.TheVariants as limits
use Rattle.ocm_rules.specs.Answers.{pending_count}
use Rattle.ocm_rules.specs.Views.{View}

-- the first limit that one more received offer for a user of this name would pass
abbrev pub limit_of_offer : View → List ℕ → Option Which
limit_of_offer v name =
    if nat_lt most_pending (pending_count v name + 1) then Some limits.Pending
    else (if nat_lt most_records (length v.offers + 1) then Some limits.Records
    else None)
