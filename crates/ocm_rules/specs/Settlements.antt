use Rattle.std.specs.Prelude.{ℕ, List, nat_eq, nat_le, Bool, true, false, not, ◌&&◌, ◌||◌, if◌then◌else◌, Option, Some, None, is_some, option_and_then}
use Rattle.ocm_types.specs.declared.letters.Letter.{Letter}
use Rattle.ocm_types.specs.declared.letters.Letter.TheVariants as letters
use Rattle.ocm_types.specs.declared.letters.Notice.TheVariants as notices
use Rattle.ocm_entry.specs.declared.asks.Ask.{Ask}
use Rattle.ocm_entry.specs.declared.asks.Ask.TheVariants.{Settle}
use Rattle.ocm_entry.specs.declared.entries.Entry.{Entry}
use Rattle.ocm_rules.specs.declared.rows.Message.{Message}
use Rattle.ocm_rules.specs.declared.rows.Subject.{Subject}
use Rattle.ocm_rules.specs.declared.rows.Subject.TheVariants as subjects
use Rattle.ocm_rules.specs.Numbers.{number_of, latest}

-- how a message was answered: the status, and the id that came with it
pub record Settlement : Type 0 where
  pub status : ℕ
  pub id : Option (List ℕ)

-- how an ask settles this message
abbrev pub settled_by : ℕ → Ask → Option Settlement
settled_by m (Settle number status id) = if nat_eq number m then Some (record { status = status; id = id }) else None
settled_by m _ = None

-- how a message was settled, where it is
abbrev pub settlement : List Entry → ℕ → Option Settlement
settlement g m = latest (λ (e : Entry). settled_by m e.ask) g

-- whether a message is settled
abbrev pub is_settled : List Entry → ℕ → Bool
is_settled g m = is_some (settlement g m)

-- a status that says yes: 200 to 299
abbrev pub is_success : ℕ → Bool
is_success status = nat_le 200 status && nat_le status 299

-- a status that says no: 400 to 499
abbrev pub is_refusal : ℕ → Bool
is_refusal status = nat_le 400 status && nat_le status 499

-- whether a letter asks to share further, which wants an id in its answer
abbrev pub wants_id : Letter → Bool
wants_id (letters.Notice (notices.ReshareRequest id secret with sender_id perms)) = true
wants_id _ = false

-- whether a status, with or without an id, settles a letter
abbrev pub settles : Letter → ℕ → Option (List ℕ) → Bool
settles letter status id = is_refusal status || (is_success status && (not (wants_id letter) || is_some id))

-- whether two messages are about the same
abbrev pub same_subject : Subject → Subject → Bool
same_subject (subjects.Share i) (subjects.Share j) = nat_eq i j
same_subject (subjects.Received i) (subjects.Received j) = nat_eq i j
same_subject (subjects.Request i) (subjects.Request j) = nat_eq i j
same_subject _ _ = false

-- whether a letter says that a share was taken
abbrev pub is_acceptance : Letter → Bool
is_acceptance (letters.Notice (notices.Accepted id secret owner with perms)) = true
is_acceptance _ = false

-- how the first such message about this was settled
abbrev pub outcome : List Message → List Entry → (Letter → Bool) → Subject → Option Settlement
outcome messages g is_letter subject = option_and_then (settlement g) (number_of (λ (m : Message). is_letter m.letter && same_subject m.subject subject) messages)
