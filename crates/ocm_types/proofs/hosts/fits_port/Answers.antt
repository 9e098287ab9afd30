use Rattle.std.proofs.Common.{◌∙◌}
use Rattle.ocm_types.proofs.HostReading.{fits_port-parse}
use Rattle.ocm_types.proofs.hosts.fits_port.Goals as goal

pub returns : goal.returns
returns c = c.is_ok.ensures.value ∙ fits_port-parse c.args.digits.now c.parse.result c.parse.ensures.value.0 c.requires.digits c.requires.some
