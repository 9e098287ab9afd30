use Rattle.std.proofs.Common.{ap, ◌∙◌}
use Rattle.ocm_script_run.specs.Servers.{Server}
use Rattle.ocm_script_run.proofs.Talking.{calls-added, same-base, same-host}
use Rattle.ocm_script_run.proofs.laws.a_connection_adds_the_calls_of_its_talk.Goals as goal

pub returns-clause-calls : goal.returns-clause-calls
returns-clause-calls c = λ config line number place fresh bytes text server after talk. ap (λ (s : Server). s.calls) talk.is_after ∙ calls-added server talk.calls

pub returns-clause-base : goal.returns-clause-base
returns-clause-base c = λ config line number place fresh bytes text server after talk. ap (λ (s : Server). s.base) talk.is_after ∙ same-base server talk.calls

pub returns-clause-host : goal.returns-clause-host
returns-clause-host c = λ config line number place fresh bytes text server after talk. ap (λ (s : Server). s.host) talk.is_after ∙ same-host server talk.calls
