use Rattle.std.proofs.Common.{rules}
use Rattle.ocm_entry_bytes.specs.Spells.{AreBytes}
use Rattle.ocm_compact.proofs.Asking.{spelled-read}
use Rattle.ocm_compact.proofs.replays.read_spelled.Goals as goal

pub returns-clause-spelled : goal.returns-clause-spelled
returns-clause-spelled c =
    let bytes_are : AreBytes c.args.bytes.now = search rules in
    spelled-read c.args.form c.args.bytes.now c.in_ok-said.said bytes_are c.in_ok-said.ensures
