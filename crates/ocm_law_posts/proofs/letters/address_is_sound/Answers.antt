use Rattle.ocm_law_posts.proofs.Fitting.{reads_itself}
use Rattle.ocm_law_posts.proofs.letters.address_is_sound.Goals as goal

pub returns-clause-sound : goal.returns-clause-sound
returns-clause-sound c = reads_itself c.args.address.now c.as_str.ensures.is c.text-host.ensures.canonical
