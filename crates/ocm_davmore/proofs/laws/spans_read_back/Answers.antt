use Rattle.ocm_davmore.proofs.RangeForms.{reads_back, sound, written}
use Rattle.ocm_davmore.proofs.laws.spans_read_back.Goals as goal

pub returns-clause-read : goal.returns-clause-read
returns-clause-read c = reads_back

pub returns-clause-sound : goal.returns-clause-sound
returns-clause-sound c = sound

pub returns-clause-written : goal.returns-clause-written
returns-clause-written c = written
