use Rattle.std.proofs.Common.{rules}
use Rattle.ocm_entry_bytes.specs.Spells.{AreBytes}
use Rattle.ocm_history_records.proofs.Asking.{proper-read}
use Rattle.ocm_history_records.proofs.reading.read_proper.Goals as goal

pub returns-clause-proper : goal.returns-clause-proper
returns-clause-proper c =
    let bytes_are : AreBytes c.args.bytes.now = search rules in
    proper-read c.args.form c.args.bytes.now c.in_ok-said.said bytes_are c.in_ok-said.ensures
