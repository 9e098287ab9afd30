-- What a change makes of its journal once its record was appended.
use Rattle.std.proofs.Common.{◌≡◌, ◌∙◌, ℕ, refl, ap}
use Rattle.std.specs.Prelude.{Err, Ok, Result}
use Rattle.ocm_disk.specs.declared.disk.Disk.{Ghosts}
use Rattle.ocm_history_records.specs.declared.drafts.Draft.{Draft}
use Rattle.ocm_history.specs.declared.histories.History.{History}
use Rattle.ocm_history.specs.Histories.{home_of}
use Rattle.ocm_journal.specs.declared.appending.AppendFault.{AppendFault}
use Rattle.ocm_journal.specs.declared.appending.AppendFault.TheVariants as appends
use Rattle.ocm_journal.specs.declared.journal.Journal.{Journal}
use Rattle.ocm_journal.specs.Journals.{disk_of, form_of}
use Rattle.ocm_plan.specs.Plans.{Plan}
use Rattle.ocm_rules.proofs.Lists.{not_both}
use Rattle.ocm_store.specs.declared.write_faults.WriteFault.TheVariants as write_faults
use Rattle.ocm_store.specs.Appends.{IsAppended, Writes}
use Rattle.ocm_store.proofs.Journaling.{appended, appended-moments, behind-after_fault, failed-append, grown-behind, passed-append}

-- this fault of an append
pub failed-is : (result : Result (Unit {0}) AppendFault) (fault other : AppendFault) → result ≡ Err fault → fault ≡ other → result ≡ Err other
failed-is result fault other is same = is ∙ ap Err same

module _ {D : Type 0} (disk : Ghosts D) (history : History) (plan : Plan) (draft : Draft) (old new : Journal D disk) where
  -- behind the other records
  pub writes-behind : IsAppended disk old new draft.written (Ok tt) → Writes disk history plan draft old new (Ok tt)
  writes-behind a = record {
    written = λ tells g ask change w. appended disk history g ask plan (form_of old) draft change old new refl a.shape.1 w (a.acknowledged tells (home_of history) w.records w.holds);
    unwritten = λ tells g w. tt;
    any_moment = λ tells g ask change w. appended-moments disk history g ask plan (form_of old) draft change old new draft.written refl refl w (a.any_moment tells (home_of history) w.records w.holds);
    not_full = λ g ask change fits wrong. absurd (cc);
    fault = tt;
    count = a.count;
    stopped = a.stopped;
    area = a.shape.0;
    made = λ left. (a.calls left, λ pass. passed-append (Ok tt) refl (a.passes left pass));
    not_made = tt;
    fewer = λ left few burnt. a.fewer left few burnt;
    passes = λ calls pass. tt;
    live = λ tells g ask live change h.
        grown-behind disk history g ask plan (form_of old) draft change old new live refl h a.shape (λ full. let wrong = a.full.1 full in absurd (cc)) (a.acknowledged tells (home_of history) live.records h.holds);
    still = λ tells label live h. tt;
    after_fault = λ tells g ask live left change w h stopped pass burnt. absurd (not_both _ stopped a.stopped);
  }

  -- where the disk failed
  pub writes-failed : (n : ℕ) → IsAppended disk old new draft.written (Err (appends.DiskFault n)) → Writes disk history plan draft old new (Err (write_faults.DiskFault n))
  writes-failed n a = record {
    written = λ tells g ask change w. tt;
    unwritten = λ tells g w none. absurd none;
    any_moment = λ tells g ask change w. appended-moments disk history g ask plan (form_of old) draft change old new draft.written refl refl w (a.any_moment tells (home_of history) w.records w.holds);
    not_full = λ g ask change fits wrong. absurd (cc);
    fault = a.fault;
    count = tt;
    stopped = a.stopped;
    area = a.shape.0;
    made = tt;
    not_made = λ none. absurd none;
    fewer = λ left few burnt. refl;
    passes = λ calls pass. absurd (failed-append (appends.DiskFault n) n refl (a.passes calls pass));
    live = λ tells g ask live change h. tt;
    still = λ tells label live h none. absurd none;
    after_fault = λ tells g ask live left change w h stopped pass burnt.
        behind-after_fault disk history g ask plan (form_of old) draft change old (disk_of new) live left refl h w (λ full. let wrong = a.full.1 full in absurd (cc))
        (a.after_fault tells (home_of history) live.records left h.holds stopped pass burnt);
  }
