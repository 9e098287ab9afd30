use Rattle.std.specs.Prelude.{◌≡◌, ℕ, ◌≤◌, List, length}
use Rattle.std.specs.HashMap as map
use Rattle.std.specs.HashMap.{HashMap}
use Rattle.std.specs.HashSet as set
use Rattle.std.specs.HashSet.{HashSet}
use Rattle.std.specs.declared.hash.FoldHasher.{FoldHasher}
use Rattle.std.specs.declared.hash.BuildHasherDefault.{BuildHasherDefault}
use Rattle.ocm_limits.specs.Limits.{most_users}
use Rattle.ocm_entry.specs.declared.rows.User.{User}
use Rattle.ocm_rules.specs.Numbers.{same_text}
use Rattle.ocm_rules.specs.Users.{user_of_key, is_taken}

-- the users of a server, numbered from 1, and how many more can be added without memory
pub record UserLists : Type 0 where
  pub users : List User
  pub room : ℕ

-- the index has the number of the user with each key, and the set has the names that are taken
pub record IsUserIndex (rows : List User) (by_key : HashMap (List ℕ) ℕ (BuildHasherDefault FoldHasher)) (names : HashSet (List ℕ) (BuildHasherDefault FoldHasher)) : Type 0 where
  pub few : length rows ≤ most_users
  pub keys : (s : List ℕ) → map.get same_text by_key s ≡ user_of_key rows s
  pub taken : (s : List ℕ) → set.contains same_text names s ≡ is_taken rows s
