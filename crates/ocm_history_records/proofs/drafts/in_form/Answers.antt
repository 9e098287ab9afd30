use Rattle.std.proofs.Common.{ap, length, arith}
use Rattle.ocm_entry_bytes.proofs.Lengths.{spelled_len}
use Rattle.ocm_history_records.proofs.drafts.in_form.Goals as goal

pub of-requires : goal.of-requires
of-requires c = let len = spelled_len c.args.ask.now c.in_ok-text.text c.in_ok-text.ensures in omega (arith, ap length c.as_slice.ensures, len.1)
