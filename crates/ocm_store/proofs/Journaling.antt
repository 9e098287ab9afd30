-- What a journal has once a change is written, and what a crash leaves of it.
use Rattle.std.proofs.Common.{◌≡◌, ◌⊎◌, inl, inr, ℕ, ◌+◌, ◌<◌, ◌==◌, List, [], ◌∷◌, ◌++◌, length, Bool, true, false, refl, sym, ap, ◌∙◌, subst, arith, Some}
use Rattle.std.specs.Prelude.{◌&&◌, not, nat_le, IfErr, IsErrOf, IsOk, OnOk, Result, Ok, Err}
use Rattle.std.proofs.lemmas.Bool.Decides.{nat_tests}
use Rattle.ocm_disk.specs.Disk.{LeavesOnly}
use Rattle.ocm_disk.specs.declared.disk.Disk.{Ghosts}
use Rattle.ocm_entry.specs.declared.asks.Ask.{Ask}
use Rattle.ocm_entry.specs.declared.entries.Entry.{Entry}
use Rattle.ocm_history_records.specs.declared.drafts.Draft.{Draft}
use Rattle.ocm_history.specs.declared.histories.History.{History}
use Rattle.ocm_history.specs.Changes.{FitsInto, IsChange}
use Rattle.ocm_history.specs.Histories.{home_of}
use Rattle.ocm_history.proofs.Memories.{change-would, with_change}
use Rattle.ocm_journal_image.specs.Layout.{IsImage, blocks_size}
use Rattle.ocm_journal_image.proofs.OneImage.{one_image}
use Rattle.ocm_journal.specs.AfterFaults.{AfterFault}
use Rattle.ocm_journal.specs.declared.appending.AppendFault.{AppendFault}
use Rattle.ocm_journal.specs.declared.appending.AppendFault.TheVariants as appends
use Rattle.ocm_journal.specs.declared.journal.Journal.{Journal}
use Rattle.ocm_journal.specs.declared.renewing.RenewFault.{RenewFault}
use Rattle.ocm_journal.specs.declared.renewing.RenewFault.TheVariants as renewals
use Rattle.ocm_journal.specs.Journals.{IsBeforeOrAfter, IsFullFor, IsImageWith, IsOldOrNew, SameShape, StandsFor, area_of, disk_of, first_is_live, form_of}
use Rattle.ocm_journal.specs.LiveAreas.{HasLive, LiveArea, has_room, written_in}
use Rattle.ocm_journal.proofs.Moving.{weaker}
use Rattle.ocm_law_lean.proofs.Answered.{lean-goes_on, lean-lean}
use Rattle.ocm_plan.specs.Plans.{Plan}
use Rattle.ocm_rules.specs.History.{IsLegal, kept}
use Rattle.ocm_rules.specs.Lean.{lean}
use Rattle.ocm_law_sessions.specs.Readings.{opened}
use Rattle.ocm_law_sessions.specs.Sessions.{heard}
use Rattle.ocm_law_sessions.specs.Written.{IsSpelled, record_of, records_of}
use Rattle.ocm_law_sessions.proofs.Appending.{change-opens, record-same}
use Rattle.ocm_law_sessions.proofs.Entries.{answered-kept, answered-legal}
use Rattle.ocm_law_sessions.proofs.Opening.{opened-answered}
use Rattle.ocm_law_sessions.proofs.Rereading.{lean-opens}
use Rattle.ocm_law_sessions.proofs.Replying.{kept-changed}
use Rattle.ocm_law_sessions.proofs.Spelling.{lean-spelled}
use Rattle.ocm_store.specs.Acts.{IsWithOrWithout}
use Rattle.ocm_store.specs.Growing.{OpensLive, grown_by, switches_to_second}
use Rattle.ocm_store.specs.Stores.{IsWritten}

-- ---- room

module _ {D : Type 0} (disk : Ghosts D) where
  -- a record that does not pass the end of the live area has room there
  room-there : (host : List ℕ) (live : LiveArea) (old : Journal D disk) (r : List ℕ) → HasLive disk host live old → (IsFullFor old (length r) → ⊥) → has_room (area_of old) live r ≡ true
  room-there host live old r h room = by_test (has_room (area_of old) live r) refl
    where
      by_test : (b : Bool) → has_room (area_of old) live r ≡ b → has_room (area_of old) live r ≡ true
      by_test true is = is
      by_test false is =
          let gate = h.holds.gate in
          let test : nat_le (2 + blocks_size live.records + (5 + length r)) old.area ≡ false = is in
          let over : old.start + old.area < old.gate + length r + 6 = grind (arith, nat_tests) in
          absurd (room over)

  -- and one that does has none
  full-there : (host : List ℕ) (live : LiveArea) (old : Journal D disk) (r : List ℕ) → HasLive disk host live old → IsFullFor old (length r) → has_room (area_of old) live r ≡ false
  full-there host live old r h full = by_test (has_room (area_of old) live r) refl
    where
      by_test : (b : Bool) → has_room (area_of old) live r ≡ b → has_room (area_of old) live r ≡ false
      by_test false is = is
      by_test true is =
          let gate = h.holds.gate in
          let over : old.start + old.area < old.gate + length r + 6 = full in
          let test : nat_le (2 + blocks_size live.records + (5 + length r)) old.area ≡ true = is in
          absurd (grind (arith, nat_tests))

  -- the records of a live area open to what the journal opens to
  pub live-opens : (host : List ℕ) (g : List Entry) (old : Journal D disk) (live : LiveArea) → HasLive disk host live old → (w : IsWritten disk host g old) → opened host live.form live.records ≡ Some w.list
  live-opens host g old live h w =
      let one = one_image (disk.seen (disk_of old)) host host (area_of old) (area_of old) (form_of old) (form_of old) w.records live.records w.holds.image h.holds.image in
      ap (λ f. opened host f live.records) (sym h.form) ∙ ap (λ rs. opened host (form_of old) rs) (sym one.3) ∙ w.opens

  -- what stands on a disk is told in other words
  pub after-map : (left : ℕ) (b other : Bool) (P Q R S : List ℕ → Type 0) (now : D) → b ≡ other → ((c : List ℕ) → P c → Q c) → ((c : List ℕ) → R c → S c) → AfterFault disk left b P R now → AfterFault disk left other Q S now
  after-map left b other P Q R S now same before after a = record {
    few = λ le. (let h = a.few le in (before _ h.0, before _ h.1, before _ h.2));
    three = λ is. (let h = a.three is in (after _ h.0, before _ h.1));
    three_torn_before = λ is no. before _ (a.three_torn_before is (same ∙ no));
    three_torn_after = λ is yes. after _ (a.three_torn_after is (same ∙ yes));
  }

module _ {D : Type 0} (disk : Ghosts D) (history : History) (g : List Entry) (ask : Ask) (plan : Plan) (form : ℕ) (draft : Draft) (change : IsChange history g ask plan form draft) where
  -- what was written before leaves the history without the change
  unchanged-leaves : (old : Journal D disk) (area : ℕ) (w : IsWritten disk (home_of history) g old) (c : List ℕ) → IsImage (home_of history) area (form_of old) w.records c → IsWithOrWithout (home_of history) area g ask c
  unchanged-leaves old area w c image =
      (w.list, (form_of old, w.records, image, w.opens), answered-legal (home_of history) w.list (opened-answered (home_of history) (form_of old) w.records w.list w.opens), inl w.same)

  -- ---- appended

  -- with its record, the records open to the list with the change
  appended-opens : (records : List (List ℕ)) (list : List Entry) → opened (home_of history) form records ≡ Some list → lean (home_of history) list ≡ lean (home_of history) g → IsSpelled list
      → opened (home_of history) form (records ++ draft.written ∷ []) ≡ Some (heard (home_of history) g ask ∷ list)
  appended-opens records list opens same spelled =
      ap (λ r. opened (home_of history) form (records ++ r ∷ []))
      (change.drafted.text ∙ sym (record-same (home_of history) form list g (heard (home_of history) g ask) (answered-kept (home_of history) list (opened-answered (home_of history) form records list opens)) same))
      ∙ change-opens (home_of history) form records list g ask opens same (change-would history g ask plan form draft change) (change.spelled, spelled)

  pub appended : (old new : Journal D disk) → form_of old ≡ form → form_of new ≡ form_of old → (w : IsWritten disk (home_of history) g old) → StandsFor disk (home_of history) (w.records ++ draft.written ∷ []) new
      → IsWritten disk (home_of history) (with_change history g ask) new
  appended old new own kept_form w holds = record {
    records = w.records ++ draft.written ∷ [];
    list = heard (home_of history) g ask ∷ w.list;
    holds = holds;
    opens = ap (λ f. opened (home_of history) f (w.records ++ draft.written ∷ [])) (kept_form ∙ own) ∙ appended-opens w.records w.list (ap (λ f. opened (home_of history) f w.records) (sym own) ∙ w.opens) w.same w.spelled;
    same = lean-goes_on (home_of history) (heard (home_of history) g ask) w.list g w.same;
    spelled = (change.spelled, w.spelled);
  }

  pub append-leaves : (old : Journal D disk) (area : ℕ) → form_of old ≡ form → (w : IsWritten disk (home_of history) g old) → (c : List ℕ) → IsBeforeOrAfter (home_of history) area form w.records draft.written c → IsWithOrWithout (home_of history) area g ask c
  append-leaves old area own w c (inl image) = unchanged-leaves old area w c (subst (λ f. IsImage (home_of history) area f w.records c) (sym own) image)
  append-leaves old area own w c (inr image) =
      let opens = appended-opens w.records w.list (ap (λ f. opened (home_of history) f w.records) (sym own) ∙ w.opens) w.same w.spelled in (
        heard (home_of history) g ask ∷ w.list,
        (form, w.records ++ draft.written ∷ [], image, opens),
        answered-legal (home_of history) (heard (home_of history) g ask ∷ w.list) (opened-answered (home_of history) form (w.records ++ draft.written ∷ []) (heard (home_of history) g ask ∷ w.list) opens),
        inr (lean-goes_on (home_of history) (heard (home_of history) g ask) w.list g w.same),
      )

  -- ---- written anew

  grown-legal : IsLegal (home_of history) (with_change history g ask)
  grown-legal = (inl refl, change.memory.lists.legal)

  grown-spelled : IsSpelled (lean (home_of history) (with_change history g ask))
  grown-spelled = lean-spelled (home_of history) (with_change history g ask)
      (subst IsSpelled (sym (kept-changed (home_of history) g ask (change-would history g ask plan form draft change))) (change.spelled, change.memory.spelled))

  renewed-opens : opened (home_of history) 2 (records_of (lean (home_of history) (with_change history g ask))) ≡ Some (lean (home_of history) (with_change history g ask))
  renewed-opens = lean-opens (home_of history) (with_change history g ask) grown-legal grown-spelled

  pub renewed : (new : Journal D disk) (records : List (List ℕ)) → records ≡ records_of (lean (home_of history) (with_change history g ask)) → form_of new ≡ 2 → StandsFor disk (home_of history) records new
      → IsWritten disk (home_of history) (with_change history g ask) new
  renewed new records are second holds = record {
    records = records;
    list = lean (home_of history) (with_change history g ask);
    holds = holds;
    opens = ap (λ f. opened (home_of history) f records) second ∙ ap (opened (home_of history) 2) are ∙ renewed-opens;
    same = lean-lean (home_of history) (with_change history g ask) grown-legal;
    spelled = grown-spelled;
  }

  pub renew-leaves : (old : Journal D disk) (area : ℕ) (records : List (List ℕ)) → records ≡ records_of (lean (home_of history) (with_change history g ask)) → (w : IsWritten disk (home_of history) g old)
      → (c : List ℕ) → IsOldOrNew (home_of history) area (form_of old) w.records records c → IsWithOrWithout (home_of history) area g ask c
  renew-leaves old area records are w c (inl image) = unchanged-leaves old area w c image
  renew-leaves old area records are w c (inr image) =
      let opens = ap (opened (home_of history) 2) are ∙ renewed-opens in (
        lean (home_of history) (with_change history g ask),
        (2, records, image, opens),
        answered-legal (home_of history) (lean (home_of history) (with_change history g ask)) (opened-answered (home_of history) 2 records (lean (home_of history) (with_change history g ask)) opens),
        inr (lean-lean (home_of history) (with_change history g ask) grown-legal),
      )

  -- what fits is not too much for an area
  pub renew-fits : (area : ℕ) (records : List (List ℕ)) → records ≡ records_of (lean (home_of history) (with_change history g ask)) → FitsInto area history g ask → area < 2 + blocks_size records → ⊥
  renew-fits area records are fits over =
      let same = ap blocks_size are in
      let test : nat_le (2 + blocks_size (records_of (lean (home_of history) (with_change history g ask)))) area ≡ true = fits in
      grind (arith, nat_tests)

  -- ---- the live area

  -- the record that is written of a change
  record-is : (live : LiveArea) → form ≡ live.form → draft.written ≡ record_of live.form (kept (home_of history) g) (heard (home_of history) g ask)
  record-is live same = change.drafted.text ∙ ap (λ f. record_of f (kept (home_of history) g) (heard (home_of history) g ask)) same

  has-room : (old : Journal D disk) (live : LiveArea) → form_of old ≡ form → HasLive disk (home_of history) live old → (IsFullFor old (length draft.written) → ⊥)
      → has_room (area_of old) live (record_of live.form (kept (home_of history) g) (heard (home_of history) g ask)) ≡ true
  has-room old live own h room = ap (has_room (area_of old) live) (sym (record-is live (sym own ∙ h.form))) ∙ room-there disk (home_of history) live old draft.written h room

  no-room : (old : Journal D disk) (live : LiveArea) → form_of old ≡ form → HasLive disk (home_of history) live old → IsFullFor old (length draft.written)
      → has_room (area_of old) live (record_of live.form (kept (home_of history) g) (heard (home_of history) g ask)) ≡ false
  no-room old live own h full = ap (has_room (area_of old) live) (sym (record-is live (sym own ∙ h.form))) ∙ full-there disk (home_of history) live old draft.written h full

  -- behind the others
  pub grown-behind : (old new : Journal D disk) (live : LiveArea) → form_of old ≡ form → HasLive disk (home_of history) live old → SameShape old new → (IsFullFor old (length draft.written) → ⊥)
      → StandsFor disk (home_of history) (live.records ++ draft.written ∷ []) new → HasLive disk (home_of history) (grown_by (home_of history) (area_of old) g ask live) new
  grown-behind old new live own h shape room holds =
      subst (λ b. HasLive disk (home_of history) (written_in b live (record_of live.form (kept (home_of history) g) (heard (home_of history) g ask)) (records_of (lean (home_of history) (heard (home_of history) g ask ∷ g)))) new)
      (sym (has-room old live own h room))
      (record {
        first = ap (λ s. s == 512) shape.2 ∙ h.first;
        form = shape.1 ∙ h.form;
        holds = subst (λ b. StandsFor disk (home_of history) (live.records ++ b ∷ []) new) (record-is live (sym own ∙ h.form)) holds;
      })

  -- into the other area
  pub grown-anew : (old new : Journal D disk) (live : LiveArea) → form_of old ≡ form → HasLive disk (home_of history) live old → IsFullFor old (length draft.written)
      → HasLive disk (home_of history) (written_in false live [] (records_of (lean (home_of history) (heard (home_of history) g ask ∷ g)))) new → HasLive disk (home_of history) (grown_by (home_of history) (area_of old) g ask live) new
  grown-anew old new live own h full anew =
      subst (λ b. HasLive disk (home_of history) (written_in b live (record_of live.form (kept (home_of history) g) (heard (home_of history) g ask)) (records_of (lean (home_of history) (heard (home_of history) g ask ∷ g)))) new)
      (sym (no-room old live own h full)) anew

  -- an image of what was there
  pub before-live : (old : Journal D disk) (live : LiveArea) (h : HasLive disk (home_of history) live old) (w : IsWritten disk (home_of history) g old) (c : List ℕ)
      → IsImageWith (first_is_live old) (home_of history) (area_of old) (form_of old) live.records c → OpensLive (home_of history) (area_of old) g live c
  before-live old live h w c image =
      (subst (λ (z : Bool × ℕ). IsImageWith z.0 (home_of history) (area_of old) z.1 live.records c) (λ i. (h.first i, h.form i)) image, (w.list, live-opens disk (home_of history) g old live h w, w.same))

  -- and with the record behind it
  pub behind-live : (old : Journal D disk) (live : LiveArea) → form_of old ≡ form → (h : HasLive disk (home_of history) live old) (w : IsWritten disk (home_of history) g old) → (IsFullFor old (length draft.written) → ⊥) → (c : List ℕ)
      → IsImageWith (first_is_live old) (home_of history) (area_of old) (form_of old) (live.records ++ draft.written ∷ []) c
      → OpensLive (home_of history) (area_of old) (heard (home_of history) g ask ∷ g) (grown_by (home_of history) (area_of old) g ask live) c
  behind-live old live own h w room c image =
      let r = record-is live (sym own ∙ h.form) in
      let opens = ap (λ f. opened (home_of history) f live.records) (sym own ∙ h.form) ∙ live-opens disk (home_of history) g old live h w in
      let grown_opens = ap (λ f. opened (home_of history) f (live.records ++ record_of live.form (kept (home_of history) g) (heard (home_of history) g ask) ∷ [])) (sym (sym own ∙ h.form))
      ∙ ap (λ b. opened (home_of history) form (live.records ++ b ∷ [])) (sym r) ∙ appended-opens live.records w.list opens w.same w.spelled in
      let grown_image = subst (λ (z : Bool × ℕ × List ℕ). IsImageWith z.0 (home_of history) (area_of old) z.1 (live.records ++ z.2 ∷ []) c) (λ i. (h.first i, h.form i, r i)) image in
      subst (λ b. OpensLive (home_of history) (area_of old) (heard (home_of history) g ask ∷ g) (written_in b live (record_of live.form (kept (home_of history) g) (heard (home_of history) g ask)) (records_of (lean (home_of history) (heard (home_of history) g ask ∷ g)))) c)
      (sym (has-room old live own h room))
      (grown_image, (heard (home_of history) g ask ∷ w.list, grown_opens, lean-goes_on (home_of history) (heard (home_of history) g ask) w.list g w.same))

  -- and of all that is written anew
  pub anew-live : (old : Journal D disk) (live : LiveArea) (records : List (List ℕ)) → records ≡ records_of (lean (home_of history) (with_change history g ask)) → HasLive disk (home_of history) live old → (c : List ℕ)
      → IsImageWith (not (first_is_live old)) (home_of history) (area_of old) 2 records c
      → OpensLive (home_of history) (area_of old) (heard (home_of history) g ask ∷ g) (written_in false live [] (records_of (lean (home_of history) (heard (home_of history) g ask ∷ g)))) c
  anew-live old live records are h c image = (
    subst (λ (z : Bool × List (List ℕ)). IsImageWith (not z.0) (home_of history) (area_of old) 2 z.1 c) (λ i. (h.first i, are i)) image,
    (lean (home_of history) (with_change history g ask), renewed-opens, lean-lean (home_of history) (with_change history g ask) grown-legal),
  )

  -- what stands on the disk where its calls ended within a change that goes behind the others
  pub behind-after_fault : (old : Journal D disk) (now : D) (live : LiveArea) (left : ℕ) → form_of old ≡ form → HasLive disk (home_of history) live old → IsWritten disk (home_of history) g old → (IsFullFor old (length draft.written) → ⊥)
      → AfterFault disk left false (IsImageWith (first_is_live old) (home_of history) (area_of old) (form_of old) live.records)
      (IsImageWith (first_is_live old) (home_of history) (area_of old) (form_of old) (live.records ++ draft.written ∷ [])) now
      → AfterFault disk left (switches_to_second (home_of history) (area_of old) g ask live) (OpensLive (home_of history) (area_of old) g live)
      (OpensLive (home_of history) (area_of old) (heard (home_of history) g ask ∷ g) (grown_by (home_of history) (area_of old) g ask live)) now
  behind-after_fault old now live left own h w room after =
      after-map disk left _ _ _ _ _ _ now (sym (ap (λ b. not b && live.first) (has-room old live own h room))) (before-live old live h w) (behind-live old live own h w room) after

  -- and one that is written anew
  pub anew-after_fault : (old : Journal D disk) (now : D) (live : LiveArea) (left : ℕ) → form_of old ≡ form → HasLive disk (home_of history) live old → IsFullFor old (length draft.written)
      → AfterFault disk left live.first (OpensLive (home_of history) (area_of old) g live)
      (OpensLive (home_of history) (area_of old) (heard (home_of history) g ask ∷ g) (written_in false live [] (records_of (lean (home_of history) (heard (home_of history) g ask ∷ g))))) now
      → AfterFault disk left (switches_to_second (home_of history) (area_of old) g ask live) (OpensLive (home_of history) (area_of old) g live)
      (OpensLive (home_of history) (area_of old) (heard (home_of history) g ask ∷ g) (grown_by (home_of history) (area_of old) g ask live)) now
  anew-after_fault old now live left own h full after =
      subst (λ b. AfterFault disk left (not b && live.first) (OpensLive (home_of history) (area_of old) g live)
      (OpensLive (home_of history) (area_of old) (heard (home_of history) g ask ∷ g) (written_in b live (record_of live.form (kept (home_of history) g) (heard (home_of history) g ask)) (records_of (lean (home_of history) (heard (home_of history) g ask ∷ g))))) now)
      (sym (no-room old live own h full)) after

  -- ---- a crash within a call

  pub appended-moments : (old new : Journal D disk) (bytes : List ℕ) → bytes ≡ draft.written → form_of old ≡ form → (w : IsWritten disk (home_of history) g old)
      → LeavesOnly disk.moment disk.left_since (disk_of old) (disk_of new) (IsBeforeOrAfter (home_of history) (area_of old) form w.records bytes)
      → LeavesOnly disk.moment disk.left_since (disk_of old) (disk_of new) (IsWithOrWithout (home_of history) (area_of old) g ask)
  appended-moments old new bytes is own w leaves =
      weaker disk.moment disk.left_since (disk_of old) (disk_of new) (IsBeforeOrAfter (home_of history) (area_of old) form w.records bytes) (IsWithOrWithout (home_of history) (area_of old) g ask) leaves
      (λ c left. append-leaves old (area_of old) own w c (subst (λ b. IsBeforeOrAfter (home_of history) (area_of old) form w.records b c) is left))

  pub renewed-moments : (old new : Journal D disk) (records : List (List ℕ)) → records ≡ records_of (lean (home_of history) (with_change history g ask)) → (w : IsWritten disk (home_of history) g old)
      → LeavesOnly disk.moment disk.left_since (disk_of old) (disk_of new) (IsOldOrNew (home_of history) (area_of old) (form_of old) w.records records)
      → LeavesOnly disk.moment disk.left_since (disk_of old) (disk_of new) (IsWithOrWithout (home_of history) (area_of old) g ask)
  renewed-moments old new records are w leaves =
      weaker disk.moment disk.left_since (disk_of old) (disk_of new) (IsOldOrNew (home_of history) (area_of old) (form_of old) w.records records) (IsWithOrWithout (home_of history) (area_of old) g ask) leaves
      (renew-leaves old (area_of old) records are w)

  -- ---- nothing is written

  pub unchanged-moments : (old : Journal D disk) → ((d : D) (c : List ℕ) → disk.left_since d (disk.moment d) c → disk.may_leave d c) → IsWritten disk (home_of history) g old
      → LeavesOnly disk.moment disk.left_since (disk_of old) (disk_of old) (IsWithOrWithout (home_of history) (area_of old) g ask)
  unchanged-moments old only_now w = record {
    later = omega arith;
    each = λ c left. subst (IsWithOrWithout (home_of history) (area_of old) g ask) (sym (w.holds.durable c (only_now (disk_of old) c left))) (unchanged-leaves old (area_of old) w (disk.seen (disk_of old)) w.holds.image);
    before = λ t c le left. inl left;
  }

-- the same records in the same form
pub still-written : {D : Type 0} (disk : Ghosts D) (host : List ℕ) (g : List Entry) (old new : Journal D disk) (w : IsWritten disk host g old) → form_of new ≡ form_of old → StandsFor disk host w.records new → IsWritten disk host g new
still-written disk host g old new w same holds = record {
  records = w.records;
  list = w.list;
  holds = holds;
  opens = ap (λ f. opened host f w.records) same ∙ w.opens;
  same = w.same;
  spelled = w.spelled;
}

-- ---- the calls that pass

pub passed-append : {X : Type 0} {P : Type 0} (r : Result X AppendFault) → IsOk r → IsErrOf r appends.Full ⊎ (IsOk r × P) → P
passed-append (Ok x) ok (inl wrong) = absurd (cc)
passed-append (Ok x) ok (inr both) = both.1
passed-append (Err fault) ok h = let wrong : false ≡ true = ok in absurd (cc)

pub passed-renew : {X : Type 0} {P : Type 0} (r : Result X RenewFault) → IsOk r → IsErrOf r renewals.Full ⊎ IsErrOf r renewals.NoMemory ⊎ (IsOk r × P) → P
passed-renew (Ok x) ok (inl wrong) = absurd (cc)
passed-renew (Ok x) ok (inr (inl wrong)) = absurd (cc)
passed-renew (Ok x) ok (inr (inr both)) = both.1
passed-renew (Err fault) ok h = let wrong : false ≡ true = ok in absurd (cc)

pub failed-append : {X : Type 0} {P : Type 0} (fault : AppendFault) (count : ℕ) → fault ≡ appends.DiskFault count → IsErrOf {T = X} (Err fault) appends.Full ⊎ (IsOk {T = X} (Err fault) × P) → ⊥
failed-append fault count is (inl wrong) = absurd (cc)
failed-append fault count is (inr both) = let wrong : false ≡ true = both.0 in absurd (cc)

pub failed-renew : {X : Type 0} {P : Type 0} (fault : RenewFault) (count : ℕ) → fault ≡ renewals.DiskFault count → IsErrOf {T = X} (Err fault) renewals.Full ⊎ IsErrOf {T = X} (Err fault) renewals.NoMemory ⊎ (IsOk {T = X} (Err fault) × P) → ⊥
failed-renew fault count is (inl wrong) = absurd (cc)
failed-renew fault count is (inr (inl wrong)) = absurd (cc)
failed-renew fault count is (inr (inr both)) = let wrong : false ≡ true = both.0 in absurd (cc)

-- ---- two parts of a result

pub on-both : {T E P Q R : Type 0} (r : Result T E) → (P → Q → R) → OnOk r P → OnOk r Q → OnOk r R
on-both (Ok x) both p q = both p q
on-both (Err fault) both p q = tt

pub err-both : {T E : Type 0} (r : Result T E) (P Q R : E → Type 0) → ((fault : E) → P fault → Q fault → R fault) → IfErr r P → IfErr r Q → IfErr r R
err-both (Ok x) P Q R both p q = tt
err-both (Err fault) P Q R both p q = both fault p q
