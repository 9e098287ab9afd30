use Rattle.std.proofs.Common.{ap, subst, refl, ◌∙◌, ◌≡◌, true, List, Result, Ok, Err}
use Rattle.std.specs.Prelude.{IfOk}
use Rattle.clap.specs.Words.{App, HasMatchesOf, Text, fault_of, found_of, is_simple, is_simple_and_free, matches_of, rows_of, FailsBy}
use Rattle.clap.specs.declared.error.Error.{Error}
use Rattle.clap.specs.declared.parser.matches.ArgMatches.{ArgMatches}
use Rattle.clap.proofs.OnLiterals.{clap_on_literals}
use Rattle.ocm_serve_options.specs.Plans.{serve, texts}
use Rattle.ocm_serve_options.proofs.reading.read_matches.Goals as goal

free : is_simple_and_free serve ≡ true
unfolding clap_on_literals
free = refl

simple : is_simple serve ≡ true
unfolding clap_on_literals
simple = refl

-- the matches of a simple command are those of each command that is equal to it
matches_by : (a b : App) (words : List Text) (r : Result ArgMatches Error) → a ≡ b → is_simple b ≡ true → IfOk r (HasMatchesOf a words) → IfOk r (λ m. rows_of (found_of m) ≡ matches_of b words)
matches_by a b words (Ok m) same is h = (h (ap is_simple same ∙ is)).0 ∙ ap (λ (x : App). matches_of x words) same
matches_by a b words (Err error) same is h = tt

pub returns-clause-ok : goal.returns-clause-ok
returns-clause-ok c = matches_by _ serve (texts c.args.words.now) c.try_get_matches_from.result c.in_ok-command.ensures simple c.try_get_matches_from.ensures.matches

pub returns-clause-kinds : goal.returns-clause-kinds
returns-clause-kinds c = subst (λ (a : App). FailsBy (fault_of a (texts c.args.words.now)) c.try_get_matches_from.result) c.in_ok-command.ensures (c.try_get_matches_from.ensures.kinds (ap is_simple_and_free c.in_ok-command.ensures ∙ free))
