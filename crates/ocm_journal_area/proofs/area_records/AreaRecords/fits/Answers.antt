use Rattle.std.proofs.Common.{arith}
use Rattle.ocm_journal_area.specs.Areas.{records_in}
use Rattle.ocm_journal_area.proofs.Adding.{fits-size}
use Rattle.ocm_journal_area.proofs.area_records.AreaRecords.fits.Goals as goal

pub returns-clause-fits : goal.returns-clause-fits
returns-clause-fits c = fits-size c.self.inside.text.items (records_in c.self.inside.text.items) c.args.self.now c.args.area c.len.result c.self.invariant.1 c.self.view_is (omega arith)
