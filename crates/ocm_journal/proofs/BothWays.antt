-- What bytes open to is what they are an image of.
use Rattle.std.proofs.Common.{◌≡◌, ◌⊎◌, inl, inr, ℕ, ◌+◌, Bool, true, false, nat_eq, if◌then◌else◌, List, [], length, Option, Some, None, IsSome, Result, Ok, Err, refl, sym, ◌∙◌, ap, subst}
use Rattle.std.specs.Cmp.Lexicographic.{pointwise, bytes_decides}
use Rattle.ocm_texts.specs.Hex.{AreBytes}
use Rattle.ocm_journal_image.specs.declared.blanks.Blank.{Blank}
use Rattle.ocm_journal_image.specs.declared.readings.RawRecord.{RawRecord}
use Rattle.ocm_journal_image.specs.declared.readings.Area.{Area}
use Rattle.ocm_journal_image.specs.declared.readings.Header.{Header}
use Rattle.ocm_journal_image.specs.declared.readings.Image.{Image}
use Rattle.ocm_journal_image.specs.Blank.{blank_of, IsBlank}
use Rattle.ocm_journal_image.specs.Layout.{IsImage, contents, live_start, placed}
use Rattle.ocm_journal_image.specs.Reading.{header_of, area_of, image_below, with_header, start_of, live_bytes}
use Rattle.ocm_journal_image.proofs.ImageRead.{image_read}
use Rattle.ocm_journal_image.proofs.OneImage.{blank_is_none}
use Rattle.ocm_journal_image.proofs.ReadBack.{Stands, image_is, image_stands}
use Rattle.ocm_journal.specs.declared.faults.OpenFault.{OpenFault}
use Rattle.ocm_journal.specs.declared.faults.OpenFault.TheVariants.{OtherLabel}
use Rattle.ocm_journal.specs.Openings.{records_in, records_below, unless_blank, opening}

none_unless : (o : Option Blank) → (IsSome o → ⊥) → o ≡ None
none_unless None not_some = refl
none_unless (Some blank) not_some = absurd (not_some refl)

pub image_not_blank : (label other_label : List ℕ) (area form other_area : ℕ) (records : List (List ℕ)) (bytes : List ℕ) → IsImage label area form records bytes → blank_of other_label other_area bytes ≡ None
image_not_blank label other_label area form other_area records bytes image = none_unless (blank_of other_label other_area bytes) (λ blank. blank_is_none bytes other_label label other_area area form records blank image)

-- an image with this label gives its records
in_area : (label : List ℕ) (h : Header) (live : Result Area ℕ) (read : Image) → with_header h live ≡ Ok read → read.header.label ≡ label → (if pointwise nat_eq h.label label then records_in live else Err (OtherLabel h.label)) ≡ Ok read.live.records
in_area label h (Err place) read is same = absurd cc
in_area label h (Ok live) read is same =
    let one : record { header = h; live = live } ≡ read = image_is _ read is in
    let found : h.label ≡ label = ap (λ (i : Image). i.header.label) one ∙ same in
    ap (λ b. if b then records_in (Ok live) else Err (OtherLabel h.label)) ((bytes_decides h.label label).1 found) ∙ ap (λ (i : Image). Ok i.live.records) one

below : (label bytes : List ℕ) (header : Result Header ℕ) (read : Image) → image_below header bytes ≡ Ok read → read.header.label ≡ label → records_below label bytes header ≡ Ok read.live.records
below label bytes (Err place) read is same = absurd cc
below label bytes (Ok h) read is same = in_area label h (area_of (length bytes) (start_of h) (live_bytes h bytes)) read is same

pub image_opened : (label : List ℕ) (area form other_area : ℕ) (records : List (List ℕ)) (bytes : List ℕ) (image : IsImage label area form records bytes) → opening label other_area bytes ≡ Ok (placed (live_start area image.selector + 1) records)
image_opened label area form other_area records bytes image =
    ap (λ o. unless_blank o (records_below label bytes (header_of (length bytes) bytes))) (image_not_blank label label area form other_area records bytes image)
    ∙ below label bytes (header_of (length bytes) bytes) _ (image_read label area form records bytes image) refl

-- what an opening gives was read of an image with this label
record Read (label bytes : List ℕ) (header : Result Header ℕ) (read : List RawRecord) : Type 0 where
  pub image : Image
  pub is : image_below header bytes ≡ Ok image
  pub label_is : image.header.label ≡ label
  pub records : image.live.records ≡ read

of_area : (label bytes : List ℕ) (h : Header) (live : Result Area ℕ) (same : Bool) (read : List RawRecord) → area_of (length bytes) (start_of h) (live_bytes h bytes) ≡ live → pointwise nat_eq h.label label ≡ same → (if same then records_in live else Err (OtherLabel h.label)) ≡ Ok read → Read label bytes (Ok h) read
of_area label bytes h (Ok live) true read live_is same_is is = record {
  image = record { header = h; live = live };
  is = ap (λ a. with_header h a) live_is;
  label_is = (bytes_decides h.label label).0 same_is;
  records = cc;
}
of_area label bytes h (Err place) true read live_is same_is is = absurd cc
of_area label bytes h (Ok live) false read live_is same_is is = absurd cc
of_area label bytes h (Err place) false read live_is same_is is = absurd cc

of_below : (label bytes : List ℕ) (header : Result Header ℕ) (read : List RawRecord) → records_below label bytes header ≡ Ok read → Read label bytes header read
of_below label bytes (Ok h) read is = of_area label bytes h _ _ read refl refl is
of_below label bytes (Err place) read is = absurd cc

ImageOf : List ℕ → List ℕ → List RawRecord → Type 0
ImageOf label bytes read = (area : ℕ) × (form : ℕ) × (image : IsImage label area form (contents read) bytes) × (read ≡ placed (live_start area image.selector + 1) (contents read))

image_stood : (bytes : List ℕ) (read : Image) → Stands bytes read → (image : IsImage read.header.label read.header.area read.live.form (contents read.live.records) bytes) × (read.live.records ≡ placed (live_start read.header.area image.selector + 1) (contents read.live.records))
image_stood bytes read s = (s.image, s.items ∙ ap (λ k. placed (live_start read.header.area k + 1) (contents read.live.records)) (sym s.selector))

of_read : (label bytes : List ℕ) (read : List RawRecord) → AreBytes bytes → Read label bytes (header_of (length bytes) bytes) read → ImageOf label bytes read
unfolding ImageOf
of_read label bytes read are r =
    let i : Image = r.image in
    let s = image_stood bytes i (image_stands bytes i are r.is) in
    let at_label : (image : IsImage label i.header.area i.live.form (contents i.live.records) bytes) × (i.live.records ≡ placed (live_start i.header.area image.selector + 1) (contents i.live.records)) = subst (λ (l : List ℕ). (image : IsImage l i.header.area i.live.form (contents i.live.records) bytes) × (i.live.records ≡ placed (live_start i.header.area image.selector + 1) (contents i.live.records))) r.label_is s in
    let at_read : (image : IsImage label i.header.area i.live.form (contents read) bytes) × (read ≡ placed (live_start i.header.area image.selector + 1) (contents read)) = subst (λ (rs : List RawRecord). (image : IsImage label i.header.area i.live.form (contents rs) bytes) × (rs ≡ placed (live_start i.header.area image.selector + 1) (contents rs))) r.records at_label in
    (i.header.area, i.live.form, at_read.0, at_read.1)

unless_cases : (o : Option Blank) (below read : Result (List RawRecord) OpenFault) → unless_blank o below ≡ read → (IsSome o × (Ok [] ≡ read)) ⊎ (below ≡ read)
unless_cases (Some blank) below read is = inl (refl, is)
unless_cases None below read is = inr is

pub opened_is : (label : List ℕ) (new_area : ℕ) (bytes : List ℕ) (read : List RawRecord) → AreBytes bytes → opening label new_area bytes ≡ Ok read → (IsBlank label new_area bytes × (read ≡ [])) ⊎ ((area : ℕ) × (form : ℕ) × (image : IsImage label area form (contents read) bytes) × (read ≡ placed (live_start area image.selector + 1) (contents read)))
unfolding ImageOf
opened_is label new_area bytes read are is = elim (unless_cases (blank_of label new_area bytes) (records_below label bytes (header_of (length bytes) bytes)) (Ok read) is) [
  | inl (blank, none) ↦ inl (blank, let e : read ≡ [] = cc in e)
  | inr opened ↦ inr (of_read label bytes read are (of_below label bytes (header_of (length bytes) bytes) read opened))
]
