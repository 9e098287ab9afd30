use Rattle.std.proofs.Common.{◌≡◌, ◌≤◌, ℕ, List, length, take, drop}
use Rattle.ocm_entry.specs.declared.asks.Ask.{Ask}
use Rattle.ocm_entry.specs.declared.entries.Entry.{Entry}
use Rattle.ocm_journal_image.specs.Layout.{AreRecords}
use Rattle.ocm_history_records.specs.declared.drafts.Draft.{Draft}
use Rattle.ocm_history.specs.Changes.{IsChange}
use Rattle.ocm_history.specs.Histories.{home_of}
use Rattle.ocm_history_records.specs.Kept.{lean_asks}
use Rattle.ocm_history.specs.Kept.{bodies_with}
use Rattle.ocm_history.proofs.histories.History.lean_records.Given as goal

abbrev pub invariant-loop-kept : goal.invariant-loop-kept
invariant-loop-kept l = record {
  left : l.left ≡ drop l.number l.self.records.items;
  within : l.number ≤ length l.self.records.items;
  sizes : AreRecords l.texts;
  lean : (g : List Entry) (ask : Ask) (form : ℕ) (draft : Draft) → IsChange l.self g ask l.planned form draft → l.texts ≡ lean_asks (bodies_with (home_of l.self) g ask) 1 (take l.number l.self.records.items);
}

abbrev pub decreases-loop-kept : goal.decreases-loop-kept
decreases-loop-kept l = length l.left
