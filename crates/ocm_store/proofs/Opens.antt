-- What a disk opens to, as it is read.
use Rattle.std.proofs.Common.{◌≡◌, inl, inr, ℕ, ◌+◌, nat_eq, List, [], length, Bool, true, false, refl, sym, ap, ◌∙◌, subst, Option, Some, None, Result, Ok, Err}
use Rattle.std.specs.Prelude.{if◌then◌else◌, IsSome}
use Rattle.std.specs.Result.{result_ok}
use Rattle.std.specs.Option.{option_map_or}
use Rattle.std.specs.Cmp.Lexicographic.{pointwise, bytes_decides}
use Rattle.ocm_texts.specs.Hex.{AreBytes}
use Rattle.ocm_entry.specs.declared.entries.Entry.{Entry}
use Rattle.ocm_journal_image.specs.declared.blanks.Blank.{Blank}
use Rattle.ocm_journal_image.specs.declared.readings.Area.{Area}
use Rattle.ocm_journal_image.specs.declared.readings.Header.{Header}
use Rattle.ocm_journal_image.specs.declared.readings.Image.{Image}
use Rattle.ocm_journal_image.specs.declared.readings.RawRecord.{RawRecord}
use Rattle.ocm_journal_image.specs.Blank.{IsBlank, blank_of}
use Rattle.ocm_journal_image.specs.Layout.{IsImage, blocks_size, contents, live_start, placed}
use Rattle.ocm_journal_image.specs.Reading.{area_of, header_of, image_below, image_of, live_bytes, start_of, with_header}
use Rattle.ocm_journal_image.proofs.ImageRead.{image_read}
use Rattle.ocm_journal_image.proofs.OneImage.{blank_is_none, contents-placed, one_image}
use Rattle.ocm_journal_image.proofs.ReadBack.{image_stands}
use Rattle.ocm_journal.specs.declared.faults.OpenFault.TheVariants as faults
use Rattle.ocm_journal.specs.Openings.{records_below, records_in, unless_blank}
use Rattle.ocm_rules.specs.History.{IsLegal, kept}
use Rattle.ocm_law_sessions.specs.Readings.{opened, refused_at}
use Rattle.ocm_law_sessions.proofs.Entries.{answered-kept, answered-legal}
use Rattle.ocm_law_sessions.proofs.Opening.{opened-answered, opened-unrefused, unrefused-opens}
use Rattle.ocm_store.specs.declared.load_faults.LoadFault.{LoadFault}
use Rattle.ocm_store.specs.Opening.{IsImageIn, IsImageOf, IsOfArea, OpensTo, live_form, loading, replayed, unless_refused}

-- ---- one list

some-list : (k other : List Entry) → ◌≡◌ {A = Option (List Entry)} (Some k) (Some other) → k ≡ other
some-list k other is = cc

images-same : (host : List ℕ) (k other : List Entry) (bytes : List ℕ) → IsImageOf host k bytes → IsImageOf host other bytes → k ≡ other
images-same host k other bytes (area, (form, records, image, opens)) (size, (shape, others, second, opens_too)) =
    let one = one_image bytes host host area size form shape records others image second in
    some-list k other (sym opens ∙ ap (λ f. opened host f records) one.2 ∙ ap (λ rs. opened host shape rs) one.3 ∙ opens_too)

not-both : (host : List ℕ) (area : ℕ) (k : List Entry) (bytes : List ℕ) → IsBlank host area bytes → IsImageOf host k bytes → ⊥
not-both host area k bytes blank (size, (form, records, image, opens)) = blank_is_none bytes host host area size form records blank image

pub opens-once : (host : List ℕ) (area : ℕ) (k other : List Entry) (bytes : List ℕ) → OpensTo host area k bytes → OpensTo host area other bytes → k ≡ other
opens-once host area k other bytes (inl (blank, none)) (inl (blank_too, none_too)) = none ∙ sym none_too
opens-once host area k other bytes (inl (blank, none)) (inr image) = absurd (not-both host area other bytes blank image)
opens-once host area k other bytes (inr image) (inl (blank, none)) = absurd (not-both host area k bytes blank image)
opens-once host area k other bytes (inr image) (inr image_too) = images-same host k other bytes image image_too

-- ---- one area

pub areas-same : (host : List ℕ) (area other form shape : ℕ) (records others : List (List ℕ)) (bytes : List ℕ) → IsImage host area form records bytes → IsImage host other shape others bytes → area ≡ other
areas-same host area other form shape records others bytes image second = (one_image bytes host host area other form shape records others image second).1

pub images-alike : (host : List ℕ) (area other : ℕ) (k next : List Entry) (bytes : List ℕ) → IsImageIn host area k bytes → IsImageIn host other next bytes → (area ≡ other) × (k ≡ next)
images-alike host area other k next bytes (form, records, image, opens) (shape, others, second, opens_too) =
    (areas-same host area other form shape records others bytes image second, images-same host k next bytes (area, (form, records, image, opens)) (other, (shape, others, second, opens_too)))

pub loaded-area : (host : List ℕ) (new area other : ℕ) (k : List Entry) (bytes : List ℕ) → IsOfArea host new area bytes → IsImageIn host other k bytes → area ≡ other
loaded-area host new area other k bytes (inl (blank, same)) image = absurd (not-both host new k bytes blank (other, image))
loaded-area host new area other k bytes (inr (form, records, image)) (shape, others, second, opens) = areas-same host area other form shape records others bytes image second

-- ---- a session begins

pub opens-legal : (host : List ℕ) (area : ℕ) (k : List Entry) (bytes : List ℕ) → OpensTo host area k bytes → IsLegal host k
opens-legal host area k bytes (inl (blank, none)) = subst (λ l. IsLegal host l) (sym none) tt
opens-legal host area k bytes (inr (size, (form, records, image, opens))) = answered-legal host k (opened-answered host form records k opens)

pub opens-kept : (host : List ℕ) (area : ℕ) (k : List Entry) (bytes : List ℕ) → OpensTo host area k bytes → kept host k ≡ k
opens-kept host area k bytes (inl (blank, none)) = let P : List Entry → Type 0 = λ l. kept host l ≡ l in subst P (sym none) refl
opens-kept host area k bytes (inr (size, (form, records, image, opens))) = answered-kept host k (opened-answered host form records k opens)

-- ---- how it is read

loaded-blank : (host : List ℕ) (area : ℕ) (bytes : List ℕ) → IsBlank host area bytes → loading host area bytes ≡ Ok []
unfolding loading
loaded-blank host area bytes blank = by_blank (blank_of host area bytes) blank
  where
    by_blank : (o : Option Blank) → IsSome o → replayed host (live_form bytes) (unless_blank o (records_below host bytes (header_of (length bytes) bytes))) ≡ Ok []
    by_blank (Some b) h = refl
    by_blank None h = absurd (cc)

no-blank : (host : List ℕ) (area : ℕ) (k : List Entry) (bytes : List ℕ) → IsImageOf host k bytes → blank_of host area bytes ≡ None
no-blank host area k bytes image = by_blank (blank_of host area bytes) refl
  where
    by_blank : (o : Option Blank) → blank_of host area bytes ≡ o → o ≡ None
    by_blank None is = refl
    by_blank (Some b) is = absurd (not-both host area k bytes (let P : Option Blank → Type 0 = λ o. IsSome o in subst P (sym is) refl) image)

-- the records of an image are read, where it has this label
below-read : (host bytes : List ℕ) (image : Image) → image_of bytes ≡ Ok image → image.header.label ≡ host → records_below host bytes (header_of (length bytes) bytes) ≡ Ok image.live.records
below-read host bytes image is own = by_header (header_of (length bytes) bytes) is
  where
    by_header : (r : Result Header ℕ) → image_below r bytes ≡ Ok image → records_below host bytes r ≡ Ok image.live.records
    by_header (Err place) h = absurd (cc)
    by_header (Ok header) h = by_area (area_of (length bytes) (start_of header) (live_bytes header bytes)) h
      where
        by_area : (a : Result Area ℕ) → with_header header a ≡ Ok image → (if pointwise nat_eq header.label host then records_in a else Err (faults.OtherLabel header.label)) ≡ Ok image.live.records
        by_area (Err place) g = absurd (cc)
        by_area (Ok live) g =
            let same : image ≡ record { header = header; live = live } = cc in
            let label : header.label ≡ host = sym (ap (λ (i : Image). i.header.label) same) ∙ own in
            let test : pointwise nat_eq header.label host ≡ true = (bytes_decides header.label host).1 label in
            rw test (ap (λ (i : Image). Ok i.live.records) (sym same))

loaded-image : (host : List ℕ) (area : ℕ) (k : List Entry) (bytes : List ℕ) → IsImageOf host k bytes → loading host area bytes ≡ Ok k
unfolding loading
loaded-image host area k bytes (size, (form, records, image, opens)) =
    ap (λ o. replayed host (live_form bytes) (unless_blank o (records_below host bytes (header_of (length bytes) bytes)))) (no-blank host area k bytes (size, (form, records, image, opens)))
    ∙ ap (λ r. replayed host (live_form bytes) r) (below-read host bytes read is refl)
    ∙ ap (λ f. replayed host f (Ok raw)) (ap (λ (r : Result Image ℕ). option_map_or (λ (i : Image). i.live.form) (result_ok r) 2) is)
    ∙ ap (λ o. unless_refused o (opened host form (contents raw))) (opened-unrefused host form raw k whole)
    ∙ ap (λ o. unless_refused None o) whole
  where
    raw : List RawRecord
    raw = placed (live_start size image.selector + 1) records

    read : Image
    read = record { header = record { label = host; area = size; selector = image.selector }; live = record { form = form; records = raw; end = live_start size image.selector + 1 + blocks_size records } }

    is : image_of bytes ≡ Ok read
    is = image_read host size form records bytes image

    whole : opened host form (contents raw) ≡ Some k
    whole = ap (λ rs. opened host form rs) (contents-placed (live_start size image.selector + 1) records) ∙ opens

pub opens-loaded : (host : List ℕ) (area : ℕ) (k : List Entry) (bytes : List ℕ) → OpensTo host area k bytes → loading host area bytes ≡ Ok k
opens-loaded host area k bytes (inl (blank, none)) = loaded-blank host area bytes blank ∙ ap (λ l. Ok l) (sym none)
opens-loaded host area k bytes (inr image) = loaded-image host area k bytes image

-- ---- and back

-- what was loaded without a fault of the records
loaded-list : (host : List ℕ) (form : ℕ) (raw : List RawRecord) (k : List Entry) → unless_refused (refused_at host form raw) (opened host form (contents raw)) ≡ Ok k → opened host form (contents raw) ≡ Some k
loaded-list host form raw k is = by_place (refused_at host form raw) refl is
  where
    by_place : (o : Option ℕ) → refused_at host form raw ≡ o → unless_refused o (opened host form (contents raw)) ≡ Ok k → opened host form (contents raw) ≡ Some k
    by_place (Some place) at h = absurd (cc)
    by_place None at h =
        let some = unrefused-opens host form raw [] at in
        let list : some.0 ≡ k = ok_list some.0 k (ap (λ o. unless_refused None o) (sym some.1) ∙ h) in
        some.1 ∙ ap (λ l. Some l) list
      where
        ok_list : (x y : List Entry) → ◌≡◌ {A = Result (List Entry) LoadFault} (Ok x) (Ok y) → x ≡ y
        ok_list x y e = cc

pub loaded-opens : (host : List ℕ) (area : ℕ) (k : List Entry) (bytes : List ℕ) → AreBytes bytes → loading host area bytes ≡ Ok k → OpensTo host area k bytes
unfolding loading
loaded-opens host area k bytes are is = by_blank (blank_of host area bytes) refl is
  where
    from_records : (header : Header) (live : Area) → image_of bytes ≡ Ok (record { header = header; live = live }) → header.label ≡ host
        → unless_refused (refused_at host live.form live.records) (opened host live.form (contents live.records)) ≡ Ok k → IsImageOf host k bytes
    from_records header live image label h =
        let stands = image_stands bytes (record { header = header; live = live }) are image in
        (header.area, (live.form, contents live.records, subst (λ l. IsImage l header.area live.form (contents live.records) bytes) label stands.image, loaded-list host live.form live.records k h))

    by_area : (header : Header) → header_of (length bytes) bytes ≡ Ok header → (a : Result Area ℕ) → area_of (length bytes) (start_of header) (live_bytes header bytes) ≡ a
        → (b : Bool) → pointwise nat_eq header.label host ≡ b → replayed host (live_form bytes) (if b then records_in a else Err (faults.OtherLabel header.label)) ≡ Ok k → IsImageOf host k bytes
    by_area header first a at false other h = absurd (cc)
    by_area header first (Err place) at true same h = absurd (cc)
    by_area header first (Ok live) at true same h =
        let image : image_of bytes ≡ Ok (record { header = header; live = live }) = ap (λ r. image_below r bytes) first ∙ ap (with_header header) at in
        let form : live_form bytes ≡ live.form = ap (λ (r : Result Image ℕ). option_map_or (λ (i : Image). i.live.form) (result_ok r) 2) image in
        from_records header live image ((bytes_decides header.label host).0 same) (ap (λ f. replayed host f (Ok live.records)) (sym form) ∙ h)

    by_header : (r : Result Header ℕ) → header_of (length bytes) bytes ≡ r → replayed host (live_form bytes) (records_below host bytes r) ≡ Ok k → IsImageOf host k bytes
    by_header (Err place) first h = absurd (cc)
    by_header (Ok header) first h =
        by_area header first (area_of (length bytes) (start_of header) (live_bytes header bytes)) refl (pointwise nat_eq header.label host) refl h

    by_blank : (o : Option Blank) → blank_of host area bytes ≡ o → replayed host (live_form bytes) (unless_blank o (records_below host bytes (header_of (length bytes) bytes))) ≡ Ok k → OpensTo host area k bytes
    by_blank (Some b) at h = inl (let P : Option Blank → Type 0 = λ o. IsSome o in subst P (sym at) refl, let none : k ≡ [] = cc in none)
    by_blank None at h = inr (by_header (header_of (length bytes) bytes) refl h)
