-- What stands on a disk where a text, and then one byte, were to be written, and a call failed.
use Rattle.std.proofs.Common.{◌≡◌, ◌≤◌, ◌<◌, inl, inr, ℕ, ◌-◌, List, [], ◌∷◌, length, replicate, sym, subst, arith}
use Rattle.std.proofs.lemmas.Bool.{cases_eq}
use Rattle.std.proofs.lemmas.List.{length-replicate}
use Rattle.ocm_disk.specs.Disk.{Torn, Holds}
use Rattle.ocm_disk.specs.declared.disk.Disk.{Ghosts}
use Rattle.ocm_journal.specs.Steps.{PutCutShort, SwitchCutShort}
use Rattle.ocm_journal.proofs.Holding.{whole_is_torn}
use Rattle.ocm_journal.proofs.Moving.{torn_same}

module _ {D : Type 0} (disk : Ghosts D) (place : ℕ) (old text : List ℕ) (le : place ≤ length old) where
  ruined_is_torn : (c : List ℕ) → Holds old place (replicate (length text) 238) c → Torn place (length text) old c
  ruined_is_torn c holds = subst (λ n. Torn place n old c) (length-replicate {A = ℕ} (length text) 238) (whole_is_torn place old (replicate (length text) 238) c holds le)

  same_is_torn : (c : List ℕ) → c ≡ old → Torn place (length text) old c
  same_is_torn c is = subst (λ (x : List ℕ). Torn place (length text) old x) (sym is) (torn_same place (length text) old)

  -- while the text was written
  pub text_cut_short : (left switch byte : ℕ) (now : D) → left < 2 → PutCutShort disk left old place text now → SwitchCutShort disk left old place text switch byte now
  text_cut_short left switch byte now below cut = record {
    few = λ few. elim (cases_eq left 0) [
      | inl none ↦ let t = cut.none none in (same_is_torn (disk.seen now) t.0, same_is_torn (disk.synced now) t.1, same_is_torn (disk.torn now) t.2)
      | inr some ↦
          let t = cut.one (omega (arith, below, some)) in
          (whole_is_torn place old text (disk.seen now) t.0 le, same_is_torn (disk.synced now) t.1, ruined_is_torn (disk.torn now) t.2)
    ];
    three = λ three. absurd (omega (arith, below, three));
  }

  -- while the byte was written
  pub byte_cut_short : (left switch byte : ℕ) (mid now : D) → 2 ≤ left → Holds old place text (disk.seen mid) → PutCutShort disk (left - 2) (disk.seen mid) switch (byte ∷ []) now → SwitchCutShort disk left old place text switch byte now
  byte_cut_short left switch byte mid now least holds cut =
      let whole : Torn place (length text) old (disk.seen mid) = whole_is_torn place old text (disk.seen mid) holds le in
      let torn = λ (x : List ℕ) (is : x ≡ disk.seen mid). subst (λ (y : List ℕ). Torn place (length text) old y) (sym is) whole in
      record {
        few = λ few. let t = cut.none (omega (arith, least, few)) in (torn (disk.seen now) t.0, torn (disk.synced now) t.1, torn (disk.torn now) t.2);
        three = λ three.
            let t = cut.one (omega (arith, three)) in
            ((disk.seen mid, holds, t.0), subst (λ (y : List ℕ). Holds old place text y) (sym t.1) holds, (disk.seen mid, holds, t.2));
      }
