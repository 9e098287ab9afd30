-- What a journal stands for while it is renewed and afterwards.
use Rattle.std.proofs.Common.{◌≡◌, ◌≢◌, ◌≤◌, ◌<◌, ◌==◌, inl, inr, ℕ, ◌+◌, ◌-◌, min, Bool, true, false, not, List, ◌++◌, length, replicate, refl, sym, ◌∙◌, ap, subst, arith, length-append}
use Rattle.std.proofs.lemmas.List.{length-replicate}
use Rattle.std.proofs.lemmas.Bool.{cases_eq, eqb-true}
use Rattle.std.proofs.lemmas.Bool.Decides.{nat_tests}
use Rattle.ocm_disk.specs.Disk.{LeavesOnly, Only, Elapses, Torn}
use Rattle.ocm_disk.specs.declared.disk.Disk.{Ghosts}
use Rattle.ocm_journal_image.specs.Layout.{IsImage, AreRecords, area_text, blocks_size, live_start}
use Rattle.ocm_journal.specs.declared.journal.Journal.{Journal}
use Rattle.ocm_journal.specs.AfterFaults.{AfterFault}
use Rattle.ocm_journal.specs.Steps.{Switched, InSwitch, SwitchCutShort}
use Rattle.ocm_journal.specs.Journals.{IsImageWith, IsOldOrNew, IsOther, StandsFor, first_is_live}
use Rattle.ocm_journal.proofs.Moving.{weaker, still, joined}
use Rattle.ocm_journal.proofs.Appended.{length-area_text}
use Rattle.ocm_journal.proofs.Holding.{whole_is_torn}
use Rattle.ocm_journal.proofs.LiveAreas.{with_start, first_of_other}
use Rattle.ocm_journal.proofs.Renewed.{first_live, in_renewal, after_renewal, after_ruin, live_other}

pub was_true : (b : Bool) → false ≡ not b → b ≡ true
was_true true is = refl
was_true false is = absurd cc

true_false : (b : Bool) → b ≡ true → b ≡ false → ⊥
true_false b true_is false_is = cc

eqb_same : (a b : ℕ) → a ≡ b → (a == b) ≡ true
eqb_same a b is = grind (arith, nat_tests, is)

pub length-renewed : (zeros : ℕ) (ns : List (List ℕ)) (text shown : List ℕ) → shown ≡ text → text ≡ replicate zeros 0 ++ area_text 2 ns 0 → length shown ≡ zeros + (2 + blocks_size ns)
length-renewed zeros ns text shown shown_is is = omega (arith, ap (λ (l : List ℕ). length l) (shown_is ∙ is), length-append (replicate zeros 0) (area_text 2 ns 0), length-replicate {A = ℕ} zeros 0, length-area_text 2 ns 0)

-- which of the areas is the other one
other_is : (area selector start other byte : ℕ) → live_start area selector ≡ start → (start ≡ 512 → (other ≡ 512 + area) × (byte ≡ 2)) → (start ≢ 512 → (other ≡ 512) × (byte ≡ 1)) → IsOther area start other byte
other_is area selector start other byte live second first = elim (cases_eq start 512) [
  | inl low ↦ let s = second low in inl (low, s.0, s.1)
  | inr high ↦ elim (cases_eq selector 1) [
    | inl one ↦ absurd (high (sym live ∙ ap (λ x. live_start area x) one))
    | inr not_one ↦ let f = first high in inr (sym live ∙ live_other area selector not_one, f.0, f.1)
  ]
]

module _ {D : Type 0} (disk : Ghosts D) (label : List ℕ) (before ns : List (List ℕ)) (old : Journal D disk) (mid : D) (other byte place len : ℕ) (text shown : List ℕ) (second : old.start ≡ 512 → (other ≡ 512 + old.area) × (byte ≡ 2)) (first : old.start ≢ 512 → (other ≡ 512) × (byte ≡ 1)) (sizes : AreRecords ns) (fits : 2 + blocks_size ns ≤ old.area) (len_is : len ≡ length (disk.seen old.disk)) (place_is : place ≡ min other len) (inside : old.gate < len) (shown_is : shown ≡ text) (text_is : text ≡ replicate (other - place) 0 ++ area_text 2 ns 0) (same : disk.seen mid ≡ disk.seen old.disk) (s : StandsFor disk label before old) where
  pub renewal_moments : (new : D) → ((c : List ℕ) → disk.left_since old.disk (disk.moment old.disk) c → disk.may_leave old.disk c) → Elapses (disk.moment old.disk) (disk.moment mid) (disk.left_since old.disk) (disk.left_since mid) (disk.may_leave mid) → ((c : List ℕ) → disk.may_leave mid c → disk.may_leave old.disk c) → (Only (disk.seen mid) (disk.may_leave mid) → LeavesOnly disk.moment disk.left_since mid new (InSwitch (disk.seen mid) place shown old.selector)) → LeavesOnly disk.moment disk.left_since old.disk new (IsOldOrNew label old.area old.form before ns)
  renewal_moments new only_now time fewer leaves =
      let P : List ℕ → Type 0 = IsOldOrNew label old.area old.form before ns in
      let start_to = still disk.moment disk.left_since old.disk mid P (disk.may_leave old.disk) (disk.may_leave mid) only_now (λ c left. inl (subst (λ (b : List ℕ). IsImage label old.area old.form before b) (sym (s.durable c left)) s.image)) time fewer in
      let only_mid : Only (disk.seen mid) (disk.may_leave mid) = λ c left. s.durable c (fewer c left) ∙ sym same in
      let rest = weaker disk.moment disk.left_since mid new (InSwitch (disk.seen mid) place shown old.selector) P (leaves only_mid) (λ c here. in_renewal label old.area old.form before (disk.seen old.disk) s.image ns old.start other byte place len s.start (other_is old.area s.image.selector old.start other byte s.start second first) sizes fits len_is place_is (omega (arith, s.gate, inside)) old.selector c s.selector (subst (λ (t : List ℕ). InSwitch (disk.seen old.disk) place t old.selector c) (shown_is ∙ text_is) (subst (λ (b : List ℕ). InSwitch b place shown old.selector c) same here))) in
      joined disk.moment disk.left_since old.disk mid new P start_to rest

  pub renewal_image : (c : List ℕ) → Switched (disk.seen mid) place shown old.selector byte c → (new : IsImage label old.area 2 ns c) × (live_start old.area new.selector ≡ other)
  renewal_image c here = after_renewal label old.area old.form before (disk.seen old.disk) s.image ns old.start other byte place len s.start (other_is old.area s.image.selector old.start other byte s.start second first) sizes fits len_is place_is (omega (arith, s.gate, inside)) old.selector c s.selector (subst (λ (t : List ℕ). Switched (disk.seen old.disk) place t old.selector byte c) (shown_is ∙ text_is) (subst (λ (b : List ℕ). Switched b place shown old.selector byte c) same here))

  at_other : IsOther old.area old.start other byte
  at_other = other_is old.area s.image.selector old.start other byte s.start second first

  in_text : (c : List ℕ) → Torn place (length shown) (disk.seen mid) c → IsImageWith (first_is_live old) label old.area old.form before c
  in_text c torn =
      let stays = first_live label old.area old.form before (disk.seen old.disk) s.image ns old.start other byte place len s.start at_other sizes fits len_is place_is (omega (arith, s.gate, inside)) c (subst (λ (t : List ℕ). Torn place (length t) (disk.seen old.disk) c) (shown_is ∙ text_is) (subst (λ (b : List ℕ). Torn place (length shown) b c) same torn)) in
      with_start label old.area old.form before c old.start stays.0 (ap (λ k. live_start old.area k) stays.1 ∙ s.start)

  with_other : (c : List ℕ) (image : IsImage label old.area 2 ns c) → live_start old.area image.selector ≡ other → IsImageWith (not (first_is_live old)) label old.area 2 ns c
  with_other c image is = subst (λ first. IsImageWith first label old.area 2 ns c) (first_of_other old.area old.start other byte s.image.area_size.0 at_other) (with_start label old.area 2 ns c other image is)

  ruined : (c : List ℕ) → Switched (disk.seen mid) place shown old.selector 238 c → (old.start ≡ 512 → (image : IsImage label old.area 2 ns c) × (live_start old.area image.selector ≡ other)) × (old.start ≢ 512 → (image : IsImage label old.area old.form before c) × (live_start old.area image.selector ≡ old.start))
  ruined c here = after_ruin label old.area old.form before (disk.seen old.disk) s.image ns old.start other byte place len s.start at_other sizes fits len_is place_is (omega (arith, s.gate, inside)) old.selector c s.selector (subst (λ (t : List ℕ). Switched (disk.seen old.disk) place t old.selector 238 c) (shown_is ∙ text_is) (subst (λ (b : List ℕ). Switched b place shown old.selector 238 c) same here))

  -- where so many calls passed
  pub renewal_after_fault : (left : ℕ) (new : D) → SwitchCutShort disk left (disk.seen mid) place shown old.selector byte new → AfterFault disk left (first_is_live old) (IsImageWith (first_is_live old) label old.area old.form before) (IsImageWith (not (first_is_live old)) label old.area 2 ns) new
  renewal_after_fault left new cut =
      let le : place ≤ length (disk.seen mid) = omega (arith, place_is, len_is, ap length same) in
      record {
        few = λ few. let t = cut.few few in (in_text (disk.seen new) t.0, in_text (disk.synced new) t.1, in_text (disk.torn new) t.2);
        three = λ three.
            let t = cut.three three in
            let after = renewal_image (disk.seen new) t.0 in
            (with_other (disk.seen new) after.0 after.1, in_text (disk.synced new) (whole_is_torn place (disk.seen mid) shown (disk.synced new) t.1 le));
        three_torn_before = λ three other_live.
            let t = cut.three three in
            let after = (ruined (disk.torn new) t.2).1 (λ low. absurd (true_false (old.start == 512) (eqb_same old.start 512 low) other_live)) in
            with_start label old.area old.form before (disk.torn new) old.start after.0 after.1;
        three_torn_after = λ three first_live.
            let t = cut.three three in
            let after = (ruined (disk.torn new) t.2).0 (eqb-true _ _ first_live) in
            with_other (disk.torn new) after.0 after.1;
      }
