use Rattle.ocm_access_log.specs.Lines.{line_of}
use Rattle.ocm_access_log.proofs.WordCuts.{last_word}
use Rattle.ocm_access_log.proofs.lines.cut_words.Goals as goal

pub returns : goal.returns
unfolding line_of
returns c =
    rw (c.in_ok-place.ensures, c.in_ok-moment.ensures, c.in_ok-method.ensures, c.in_ok-secret.ensures, c.in_ok-path.ensures) (last_word _ _ _ _ _ _)
