-- The live area of a journal that was loaded.
use Rattle.std.proofs.Common.{◌≡◌, inl, inr, ℕ, List, [], true, refl, sym, ◌∙◌, ap, subst, Option, Some, None, Result, Ok}
use Rattle.std.specs.Prelude.{IsSome, length}
use Rattle.ocm_disk.specs.declared.disk.Disk.{Ghosts}
use Rattle.ocm_journal_image.specs.declared.blanks.Blank.{Blank}
use Rattle.ocm_journal_image.specs.declared.readings.RawRecord.{RawRecord}
use Rattle.ocm_journal_image.specs.Blank.{IsBlank, blank_of}
use Rattle.ocm_journal_image.specs.Layout.{IsImage, contents}
use Rattle.ocm_journal_image.specs.Reading.{header_of}
use Rattle.ocm_journal_image.proofs.OneImage.{blank_is_none, one_image}
use Rattle.ocm_journal.specs.declared.faults.OpenFault.{OpenFault}
use Rattle.ocm_journal.specs.declared.journal.Journal.{Journal}
use Rattle.ocm_journal.specs.Journals.{StandsFor, disk_of, first_is_live, form_of, area_of, selects_first}
use Rattle.ocm_journal.specs.LiveAreas.{BeginsWith, HasLive, LiveArea}
use Rattle.ocm_journal.specs.Openings.{IsMadeAs, opening, records_below, unless_blank}

-- an image is not blank
not_blank : (label : List ℕ) (new area form : ℕ) (records : List (List ℕ)) (bytes : List ℕ) → IsImage label area form records bytes → blank_of label new bytes ≡ None
not_blank label new area form records bytes image = by_blank (blank_of label new bytes) refl
  where
    by_blank : (o : Option Blank) → blank_of label new bytes ≡ o → o ≡ None
    by_blank None is = refl
    by_blank (Some b) is = absurd (blank_is_none bytes label label new area form records (let P : Option Blank → Type 0 = λ o. IsSome o in subst P (sym is) refl) image)

-- blank bytes have no records
no_records : (label : List ℕ) (new : ℕ) (bytes : List ℕ) (raw : List RawRecord) (blank : Blank) → blank_of label new bytes ≡ Some blank → opening label new bytes ≡ Ok raw → raw ≡ []
no_records label new bytes raw blank is opens = empty (sym (ap (λ o. unless_blank o (records_below label bytes (header_of (length bytes) bytes))) is) ∙ opens)
  where
    empty : ◌≡◌ {A = Result (List RawRecord) OpenFault} (Ok []) (Ok raw) → raw ≡ []
    empty e = cc

pub begins : {D : Type 0} (disk : Ghosts D) (label : List ℕ) (new : ℕ) (seen : List ℕ) (raw : List RawRecord) (journal : Journal D disk) (live : LiveArea)
    → opening label new seen ≡ Ok raw → StandsFor disk label (contents raw) journal → (blank_of label new seen ≡ None → disk.seen (disk_of journal) ≡ seen)
    → IsMadeAs label new seen (form_of journal) (area_of journal) → (IsBlank label new seen → first_is_live journal ≡ true) → first_is_live journal ≡ selects_first label (disk.seen (disk_of journal))
    → BeginsWith label new seen live → HasLive disk label live journal
begins disk label new seen raw journal live reads holds same made first selected (inl (area, (image, here))) =
    let is : disk.seen (disk_of journal) ≡ seen = same (not_blank label new area live.form live.records seen image) in
    let one = one_image seen label label journal.area area journal.form live.form (contents raw) live.records (subst (λ b. IsImage label journal.area journal.form (contents raw) b) is holds.image) image in
    record {
      first = selected ∙ ap (selects_first label) is ∙ here;
      form = one.2;
      holds = subst (λ rs. StandsFor disk label rs journal) one.3 holds;
    }
begins disk label new seen raw journal live reads holds same made first selected (inr (blank, is, e)) =
    subst (λ l. HasLive disk label l journal) (sym e)
    (record {
      first = first (let P : Option Blank → Type 0 = λ o. IsSome o in subst P (sym is) refl);
      form = (made blank is).0;
      holds = subst (λ rs. StandsFor disk label rs journal) (ap contents (no_records label new seen raw blank is reads)) holds;
    })
