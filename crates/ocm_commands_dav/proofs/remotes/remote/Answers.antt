use mathlib.Core.Logic.{inl}
use Rattle.std.proofs.Common.{map}
use Rattle.std.specs.String.{string_bytes}
use Rattle.ocm_commands_dav.proofs.Steps.{asked, past}
use Rattle.ocm_commands_dav.proofs.remotes.remote.Goals as goal

pub returns-in-Ok-clause-other_words : goal.returns-in-Ok-clause-other_words
returns-in-Ok-clause-other_words g c = λ other. absurd (other c.in-Ok.task c.in-Ok.ensures.ok)

pub returns-in-Ok-clause-part_of_usage : goal.returns-in-Ok-clause-part_of_usage
returns-in-Ok-clause-part_of_usage g c = λ other. absurd (other c.in-Ok.task c.in-Ok.ensures.ok)

pub returns-in-Ok-clause-unread : goal.returns-in-Ok-clause-unread
returns-in-Ok-clause-unread g c = λ none. c.run.ensures.unread (λ put. none (c.in-Ok.task, c.in-Ok.ensures.ok, put))

pub returns-in-Ok-clause-unasked : goal.returns-in-Ok-clause-unasked
returns-in-Ok-clause-unasked g c = past (λ other. other c.in-Ok.task c.in-Ok.ensures.ok) c.run.ensures.unasked

pub returns-in-Ok-clause-memory : goal.returns-in-Ok-clause-memory
returns-in-Ok-clause-memory g c =
    λ memory. asked (map (λ word. string_bytes word) c.args.words.now) c.in-Ok.task (g.S.Source.left c.args.source.now) (g.S.Source.left c.run.new.source) (g.N.Dial.exchanges c.args.dial.now) (g.N.Dial.exchanges c.run.new.dial) c.in-Ok.ensures.ok (c.run.ensures.memory memory)

pub returns-in-Err-clause-usage : goal.returns-in-Err-clause-usage
returns-in-Err-clause-usage g c = λ usage. c.in-Err.ensures.other (c.refuse.ensures.usage usage)

pub returns-in-Err-clause-part : goal.returns-in-Err-clause-part
returns-in-Err-clause-part g c = λ failed. inl (c.in-Err.ensures.other (c.refuse.ensures.part_of_usage failed).0)
