use Rattle.std.specs.Prelude.{ℕ, List, [], ◌∷◌, Bool, Option, Some, None}
use Rattle.std.specs.List.{list_any}
use Rattle.std.specs.Option.{option_map_or}
use Rattle.ocm_entry.specs.declared.asks.Ask.{Ask}
use Rattle.ocm_entry.specs.declared.asks.Ask.TheVariants.{AddUser}
use Rattle.ocm_entry.specs.declared.replies.Reply.{Reply}
use Rattle.ocm_entry.specs.declared.replies.Reply.TheVariants.{Key}
use Rattle.ocm_entry.specs.declared.entries.Entry.{Entry}
use Rattle.ocm_entry.specs.declared.rows.User.{User}
use Rattle.ocm_rules.specs.Numbers.{same_text, added, number_of, at_number}

-- the user that a kept entry adds, whose key is the one that was answered
abbrev pub user_by : Ask → Reply → Option User
user_by (AddUser name fresh) (Key key) = Some (record { name = name; key = key })
user_by _ _ = None

-- the users after a list of kept entries, the oldest first; they are numbered from 1
abbrev pub users : List Entry → List User
users [] = []
users (e ∷ before) = added (users before) (user_by e.ask e.reply)

-- whether this is the user's key
abbrev pub has_key : List ℕ → User → Bool
has_key key user = same_text user.key key

-- the number of the user with this key
abbrev pub user_of_key : List User → List ℕ → Option ℕ
user_of_key us key = number_of (has_key key) us

-- whether a user has this name
abbrev pub is_taken : List User → List ℕ → Bool
is_taken us name = list_any (λ (u : User). same_text u.name name) us

-- the name of the user of this number
abbrev pub name_of : List User → ℕ → List ℕ
name_of us number = option_map_or (λ (u : User). u.name) (at_number us number) []
