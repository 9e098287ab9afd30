use Rattle.std.proofs.Common.{◌≡◌, drop}
use Rattle.ocm_journal_records.specs.Stamps.{refused_from}
use Rattle.ocm_logcheck.proofs.refusing.first_refused.Given as goal

abbrev pub invariant-loop-record : goal.invariant-loop-record
invariant-loop-record l = refused_from l.form 0 l.records ≡ refused_from l.form l.moment (drop l.record-index l.records)
