use Rattle.std.proofs.Common.{◌≡◌, ℕ, zero, suc, List, [], ◌∷◌, true, Option, Some, None, refl, ap, ◌∙◌, arith}
use Rattle.std.specs.Prelude.{nat_eq, slice_get, map, option_map}
use Rattle.std.specs.Option.{option_map_or}
use Rattle.std.proofs.lemmas.Bool.Decides.{nat_tests}
use Rattle.ocm_rules.specs.declared.rows.Message.{Message}
use Rattle.ocm_rules.specs.declared.rows.SentRow.{SentRow}
use Rattle.ocm_rules.specs.Numbers.{at_number}
use Rattle.ocm_rules.specs.Messages.{as_sent}
use Rattle.ocm_outgoing.specs.declared.rows.Sent.{Sent}
use Rattle.ocm_outgoing.specs.Lists.{message_at, numbered_at, subject_at}
use Rattle.ocm_outgoing.specs.Threads.{row_of, rows_of, HaveNumbers}

slice_get-map : {X Y : Type 0} (f : X → Y) (xs : List X) (i : ℕ) → slice_get (map f xs) i ≡ option_map f (slice_get xs i)
slice_get-map f [] zero = refl
slice_get-map f [] (suc i) = refl
slice_get-map f (x ∷ xs) zero = refl
slice_get-map f (x ∷ xs) (suc i) = slice_get-map f xs i

-- the one of a number, in a list that is mapped
pub at_number-map : {X Y : Type 0} (f : X → Y) (xs : List X) (i : ℕ) → at_number (map f xs) i ≡ option_map f (at_number xs i)
at_number-map f xs zero = refl
at_number-map f xs (suc i) = slice_get-map f xs i

-- the message of a number
pub message_at-rows : (rows : List Sent) (m : ℕ) → message_at (rows_of rows) m ≡ option_map (λ (row : Sent). (row_of row).message) (at_number rows m)
message_at-rows rows zero = refl
message_at-rows rows (suc m) = slice_get-map (λ (row : SentRow). row.message) (rows_of rows) m ∙ (ap (option_map (λ (row : SentRow). row.message)) (slice_get-map row_of rows m) ∙ twice (slice_get rows m))
  where
    twice : (found : Option Sent) → option_map (λ (row : SentRow). row.message) (option_map row_of found) ≡ option_map (λ (row : Sent). (row_of row).message) found
    twice None = refl
    twice (Some row) = refl

numbered-row : (m : ℕ) (found : Option Sent) → option_map_or (λ (row : Sent). nat_eq row.numbered.number m) found true ≡ true → option_map (λ message. as_sent (m, message)) (option_map (λ (row : Sent). (row_of row).message) found) ≡ option_map (λ (row : Sent). row.numbered) found
numbered-row m None e = refl
numbered-row m (Some row) e =
    let same : m ≡ row.numbered.number = grind (arith, nat_tests) in
    ap (λ n. Some (record { number = n; to = row.numbered.to; letter = row.numbered.letter })) same

-- the message of a number as it is sent is the one that its row holds
pub numbered_found : (rows : List Sent) (m : ℕ) → HaveNumbers rows → numbered_at (rows_of rows) m ≡ option_map (λ (row : Sent). row.numbered) (at_number rows m)
numbered_found rows m numbers = ap (option_map (λ message. as_sent (m, message))) (message_at-rows rows m) ∙ numbered-row m (at_number rows m) (numbers m)

subject-row : (found : Option Sent) → option_map (λ (message : Message). message.subject) (option_map (λ (row : Sent). (row_of row).message) found) ≡ option_map (λ (row : Sent). row.subject) found
subject-row None = refl
subject-row (Some row) = refl

-- what the message of a number is about is what its row says
pub subject_found : (rows : List Sent) (m : ℕ) → subject_at (rows_of rows) m ≡ option_map (λ (row : Sent). row.subject) (at_number rows m)
subject_found rows m = ap (option_map (λ (message : Message). message.subject)) (message_at-rows rows m) ∙ subject-row (at_number rows m)
