use Rattle.std.specs.Prelude.{ℕ, List}
use Rattle.ocm_rules.specs.declared.rows.Told.{Told}

-- what each guest was last told, numbered from 1, and how many more can be added without memory
pub record BoardLists : Type 0 where
  pub told : List Told
  pub room : ℕ
