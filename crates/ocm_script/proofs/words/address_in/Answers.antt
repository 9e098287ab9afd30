use Rattle.ocm_script.specs.Words.{address_in}
use Rattle.ocm_script.proofs.words.address_in.Goals as goal

pub returns : goal.returns
unfolding address_in
returns c = c.read_canonical.ensures
