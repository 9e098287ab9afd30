-- What a journal stands for while a record is appended and afterwards.
use Rattle.std.proofs.Common.{◌≡◌, ◌≤◌, ◌<◌, inl, ℕ, ◌+◌, false, List, [], ◌∷◌, ◌++◌, length, Result, Ok, Err, is_err, OnOk, sym, ◌∙◌, ap, subst, arith}
use Rattle.ocm_disk.specs.Disk.{LeavesOnly, Only, Torn}
use Rattle.ocm_disk.specs.declared.disk.Disk.{Ghosts}
use Rattle.ocm_journal_image.specs.Layout.{IsImage, blocks_size, live_start, record_text}
use Rattle.ocm_journal.specs.declared.journal.Journal.{Journal}
use Rattle.ocm_journal.specs.AfterFaults.{AfterFault}
use Rattle.ocm_journal.specs.Steps.{Switched, InSwitch, SwitchCutShort}
use Rattle.ocm_journal.specs.Journals.{IsBeforeOrAfter, IsImageWith, StandsFor, first_is_live}
use Rattle.ocm_journal.proofs.Moving.{weaker}
use Rattle.ocm_journal.proofs.Appended.{in_append, after_append, after_ruin, stays_live, start_at_least}
use Rattle.ocm_journal.proofs.Holding.{whole_is_torn}
use Rattle.ocm_journal.proofs.LiveAreas.{with_start}

-- what holds on Ok, where there was no error
pub on_ok : {T E : Type 0} (r : Result T E) (P : Type 0) → is_err r ≡ false → OnOk r P → P
on_ok (Ok x) P is holds = holds
on_ok (Err e) P is holds = absurd cc

module _ {D : Type 0} (disk : Ghosts D) (label : List ℕ) (records : List (List ℕ)) (old : Journal D disk) (r text : List ℕ) (new : D) (text_is : text ≡ record_text r) (sizes : (1 ≤ length r) × (length r ≤ 2097152)) (fits : old.gate + length r + 6 ≤ old.start + old.area) (inside : old.gate < length (disk.seen old.disk)) (s : StandsFor disk label records old) where
  gate_is : old.gate ≡ live_start old.area s.image.selector + 1 + blocks_size records
  gate_is = omega (arith, s.gate, s.start)

  within : 2 + blocks_size records + (5 + length r) ≤ old.area
  within = omega (arith, s.gate, fits)

  pub append_moments : LeavesOnly disk.moment disk.left_since old.disk new (InSwitch (disk.seen old.disk) (old.gate + 1) text old.gate) → LeavesOnly disk.moment disk.left_since old.disk new (IsBeforeOrAfter label old.area old.form records r)
  append_moments leaves = weaker disk.moment disk.left_since old.disk new _ _ leaves (λ c here. in_append label old.area old.form records (disk.seen old.disk) s.image r old.gate c gate_is inside sizes.0 sizes.1 within (subst (λ (t : List ℕ). InSwitch (disk.seen old.disk) (old.gate + 1) t old.gate c) text_is here))

  pub append_image : (c : List ℕ) → Switched (disk.seen old.disk) (old.gate + 1) text old.gate 1 c → (after : IsImage label old.area old.form (records ++ r ∷ []) c) × (after.selector ≡ s.image.selector)
  append_image c here = after_append label old.area old.form records (disk.seen old.disk) s.image r old.gate c gate_is inside sizes.0 sizes.1 within (subst (λ (t : List ℕ). Switched (disk.seen old.disk) (old.gate + 1) t old.gate 1 c) text_is here)

  in_record : (c : List ℕ) → Torn (old.gate + 1) (length text) (disk.seen old.disk) c → IsImageWith (first_is_live old) label old.area old.form records c
  in_record c torn =
      let stays = stays_live label old.area old.form records (disk.seen old.disk) c (old.gate + 1) (length text) s.image torn (omega (arith, gate_is, start_at_least old.area s.image.selector, s.image.label_size.1)) (inl (omega (arith, gate_is))) in
      with_start label old.area old.form records c old.start stays.0 (ap (λ k. live_start old.area k) stays.1 ∙ s.start)

  -- where so many calls passed
  pub append_after_fault : (left : ℕ) → SwitchCutShort disk left (disk.seen old.disk) (old.gate + 1) text old.gate 1 new → AfterFault disk left false (IsImageWith (first_is_live old) label old.area old.form records) (IsImageWith (first_is_live old) label old.area old.form (records ++ r ∷ [])) new
  append_after_fault left cut = record {
    few = λ few. let t = cut.few few in (in_record (disk.seen new) t.0, in_record (disk.synced new) t.1, in_record (disk.torn new) t.2);
    three = λ three.
        let t = cut.three three in
        let after = append_image (disk.seen new) t.0 in
        (with_start label old.area old.form (records ++ r ∷ []) (disk.seen new) old.start after.0 (ap (λ k. live_start old.area k) after.1 ∙ s.start), in_record (disk.synced new) (whole_is_torn (old.gate + 1) (disk.seen old.disk) text (disk.synced new) t.1 (omega (arith, inside))));
    three_torn_before = λ three shut.
        let t = cut.three three in
        let after = after_ruin label old.area old.form records (disk.seen old.disk) s.image r old.gate 238 (disk.torn new) (omega arith) gate_is inside (subst (λ (x : List ℕ). Switched (disk.seen old.disk) (old.gate + 1) x old.gate 238 (disk.torn new)) text_is t.2) in
        with_start label old.area old.form records (disk.torn new) old.start after.0 (ap (λ k. live_start old.area k) after.1 ∙ s.start);
    three_torn_after = λ three counts. absurd cc;
  }

-- a disk that reads the same and leaves no more stands for the same
pub stands_with : {D : Type 0} (disk : Ghosts D) (label : List ℕ) (records : List (List ℕ)) (old : Journal D disk) (new : D) → disk.seen new ≡ disk.seen old.disk → ((c : List ℕ) → disk.may_leave new c → disk.may_leave old.disk c) → (s : StandsFor disk label records old) → (image : IsImage label old.area old.form records (disk.seen new)) × (live_start old.area image.selector ≡ old.start) × Only (disk.seen new) (disk.may_leave new)
stands_with disk label records old new same fewer s =
    let moved : (image : IsImage label old.area old.form records (disk.seen new)) × (live_start old.area image.selector ≡ old.start) = subst (λ (b : List ℕ). (image : IsImage label old.area old.form records b) × (live_start old.area image.selector ≡ old.start)) (sym same) (s.image, s.start) in
    (moved.0, moved.1, λ c left. s.durable c (fewer c left) ∙ sym same)
