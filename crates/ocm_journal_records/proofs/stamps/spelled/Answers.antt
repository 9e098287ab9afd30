use Rattle.std.proofs.Common.{sym, ap, Result}
use Rattle.std.specs.Result.{result_ok}
use Rattle.ocm_entry.specs.declared.asks.Ask.{Ask}
use Rattle.ocm_entry_bytes.specs.declared.entry_faults.EntryFault.{EntryFault}
use Rattle.ocm_journal_records.proofs.Asks.{spelled-none}
use Rattle.ocm_journal_records.specs.Stamps.{spelled}
use Rattle.ocm_journal_records.proofs.stamps.spelled.Goals as goal

pub returns-in-Ok : goal.returns-in-Ok
unfolding spelled
returns-in-Ok c = sym (ap (λ (r : Result Ask EntryFault). result_ok r) c.in-Ok.ensures.exact)

pub returns-in-Err : goal.returns-in-Err
returns-in-Err c = spelled-none c.args.bytes.now c.in-Err.fault c.no_ask.result c.in-Err.ensures.exact c.no_ask.ensures
