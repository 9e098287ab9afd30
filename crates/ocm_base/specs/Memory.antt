use Rattle.std.specs.Prelude.{ℕ, ◌-◌, List, Bool, nat_eq, min, length, slice_get, unwrap_or}
use Rattle.std.specs.List.{list_any}

-- a source in memory: the bytes that it has left, how many a call gives at most, the numbers of the calls
-- that fail, and how many calls and faults it has had
pub record SourceState : Type 0 where
  pub left : List ℕ
  pub piece : ℕ
  pub fails : List ℕ
  pub calls : ℕ
  pub faults : ℕ

-- a source in memory that never fails: the bytes that it has left, and how many a call gives at most
pub record PureState : Type 0 where
  pub left : List ℕ
  pub piece : ℕ

-- a sink in memory: the bytes that it took, how many a call takes at most, the numbers of the calls that fail,
-- how many calls and faults it has had, and how many more bytes it has room for
pub record SinkState : Type 0 where
  pub taken : List ℕ
  pub piece : ℕ
  pub fails : List ℕ
  pub calls : ℕ
  pub faults : ℕ
  pub room : ℕ

-- whether the call of this number is one of those that fail
abbrev pub is_listed : List ℕ → ℕ → Bool
is_listed fails call = list_any (λ listed. nat_eq listed call) fails

-- a clock in memory: the values that it gives in turn, and those that it gave, oldest first
pub record ClockState : Type 0 where
  pub values : List ℕ
  pub given : List ℕ

-- what a clock of these values gives after so many: the next one, the last one from then on, 0 where there is none
abbrev pub value_at : List ℕ → ℕ → ℕ
value_at values count = unwrap_or (slice_get values (min count (length values - 1))) 0
