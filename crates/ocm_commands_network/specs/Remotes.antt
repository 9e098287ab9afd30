-- What `dav` tells of an answer. It asks over a dial that it makes and lets go, so it tells nobody which exchanges were made: there are some.
use Rattle.std.specs.Prelude.{◌≡◌, ◌⊎◌, ℕ, List, [], Option, Some}
use Rattle.ocm_base.specs.Outside.{Appends, AppendsPart}
use Rattle.ocm_commands_dav.specs.Answers.{end_of, text_of}
use Rattle.ocm_commands_dav.specs.Exchanges.{DoesAsked}
use Rattle.ocm_commands_dav.specs.Words.{IsOther}
use Rattle.ocm_commands_dav.specs.declared.ends.End.{End}

-- The words ask for a task, which was done, with its body read by what a source had left and has left, and by all exchanges of a dial. The end is
-- that of the answer, and what was written is the text of the answer.
abbrev pub TellsAnswer : List (List ℕ) → Option (List ℕ) → Option (List ℕ) → End → Option (List ℕ) → Option (List ℕ) → Type 0
TellsAnswer words left rest end old new =
    (answer : _) × (made : _) × DoesAsked words left rest (Some []) (Some made) answer × (end ≡ end_of answer) × Appends old new (text_of answer)

-- the words ask for no task, or only a part of the text of such an answer was written
abbrev pub TellsPart : List (List ℕ) → Option (List ℕ) → Option (List ℕ) → Option (List ℕ) → Option (List ℕ) → Type 0
TellsPart words left rest old new =
    IsOther words ⊎ ((answer : _) × (made : _) × DoesAsked words left rest (Some []) (Some made) answer × AppendsPart old new (text_of answer))
