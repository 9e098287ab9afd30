use Rattle.std.proofs.Common.{arith}
use Rattle.std.specs.String.{string_bytes}
use Rattle.std.proofs.lemmas.Bool.{ltb-false, ltb-true}
use Rattle.std.proofs.lemmas.List.{length-map}
use Rattle.std.proofs.lemmas.Option.{none-some}
use Rattle.ocm_serve_options.specs.Plans.{texts}
use Rattle.ocm_commands_files.proofs.Spellings.{at_least_one, at_most_three}
use Rattle.ocm_commands_files.proofs.words.Command.read.Goals.{in_default-via-then-words-lt1, in_default-via-else-words-lt1+else-words-lt2+else-words-lt3+else-words-lt4}
use Rattle.ocm_commands_files.proofs.words.Command.read.Goals as goal

pub returns-in_default-clause-read : goal.returns-in_default-clause-read
returns-in_default-clause-read c =
    λ command. (
      λ none. absurd (none-some command none),
      λ are. absurd (elim c.in_default.branch [
        | in_default-via-then-words-lt1 w ↦ omega (arith, ltb-true, ltb-false, at_least_one command (texts c.args.words.now) are, length-map c.args.words.now string_bytes)
        | in_default-via-else-words-lt1+else-words-lt2+else-words-lt3+else-words-lt4 w ↦ omega (arith, ltb-true, ltb-false, at_most_three command (texts c.args.words.now) are, length-map c.args.words.now string_bytes)
      ]),
    )
