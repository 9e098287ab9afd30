-- What is made of the bytes of a journal.
use Rattle.std.proofs.Common.{◌≡◌, ℕ, List, [], true, false, refl, sym, ap, ◌∙◌, subst, Option, Some, None, Result, Ok, Err, inl, inr}
use Rattle.std.specs.Prelude.{IfOk, IsOk}
use Rattle.ocm_entry.specs.declared.entries.Entry.{Entry}
use Rattle.ocm_entry_bytes.specs.Spells.{AreBytes}
use Rattle.ocm_journal_image.specs.Blank.{IsBlankForAny}
use Rattle.ocm_journal_image.specs.Layout.{IsAreaSize}
use Rattle.ocm_journal_image.specs.Reading.{Gives, image_of, with_form, with_header}
use Rattle.ocm_journal_image.specs.declared.faults.ImageFault.{ImageFault}
use Rattle.ocm_journal_image.specs.declared.faults.ImageFault.TheVariants as image_faults
use Rattle.ocm_journal_image.specs.declared.readings.Header.{Header}
use Rattle.ocm_journal_image.specs.declared.readings.Records.{Records}
use Rattle.ocm_journal_image.proofs.ReadBack.{image_stands}
use Rattle.ocm_journal_audit.specs.Audits.{is_own_host}
use Rattle.ocm_journal_audit.specs.Passes.{refused_in}
use Rattle.ocm_journal_records.specs.Stamps as stamps
use Rattle.ocm_law_sessions.specs.Readings.{refused_at}
use Rattle.ocm_compact.specs.declared.faults.CompactFault.{CompactFault}
use Rattle.ocm_compact.specs.declared.faults.CompactFault.TheVariants as faults
use Rattle.ocm_compact.specs.Compacts.{Compacts, IsLeastAfter, IsMadeBelow, IsMadeOf, IsRefusedAt, IsRefusedBelow, IsTaken, IsTakenBelow, fault_of, image_with, refused_of}
use Rattle.ocm_compact.specs.Replays.{IsReplayOf, opened_by, refused_by}
use Rattle.ocm_compact.specs.declared.replays.Replay.{Replay}

-- the size of the areas of an image that was read
pub area-of : (bytes : List ℕ) (header : Header) (form : ℕ) (area : Result Records ℕ) → AreBytes bytes → image_of bytes ≡ with_header header (with_form form area) → IsOk area → IsAreaSize header.area
area-of bytes header form (Ok read) are is ok = (image_stands bytes (image_with header form read) are is).image.area_size
area-of bytes header form (Err place) are is ok = absurd (cc)

none-some : {A : Type 0} (x : A) → None ≡ Some x → ⊥
none-some x h = cc

ok-same : {A : Type 0} (x y : A) → ◌≡◌ {A = Result A ℕ} (Ok x) (Ok y) → x ≡ y
ok-same x y h = cc

err-same : {A : Type 0} (x y : ℕ) → ◌≡◌ {A = Result A ℕ} (Err x) (Err y) → x ≡ y
err-same x y h = cc

not-both : {A : Type 0} (x : A) (y : ℕ) → ◌≡◌ {A = Result A ℕ} (Ok x) (Err y) → ⊥
not-both x y h = cc

-- ---- what is refused below a header

-- a label that is no host's
pub below-label : (header : Header) (form : ℕ) (area : Result Records ℕ) (refused : Option ℕ) → refused_in form 0 area ≡ Ok refused → is_own_host header.label ≡ false → IsRefusedBelow header form area 9
below-label header form (Ok read) refused is foreign = inr (read, refl, rw foreign refl)
below-label header form (Err place) refused is foreign = absurd (not-both refused place (sym is))

-- records that are not framed
pub below-framing : (header : Header) (form : ℕ) (area : Result Records ℕ) (place : ℕ) → refused_in form 0 area ≡ Err place → IsRefusedBelow header form area place
below-framing header form (Ok read) place is = absurd (not-both (stamps.refused_from form 0 read.items) place is)
below-framing header form (Err other) place is = inl (ap (λ n. Err n) (err-same {A = Option ℕ} other place is))

-- a record that says nothing
pub below-said : (header : Header) (form : ℕ) (area : Result Records ℕ) (place : ℕ) → refused_in form 0 area ≡ Ok (Some place) → is_own_host header.label ≡ true → IsRefusedBelow header form area place
below-said header form (Ok read) place is own = let said = ok-same (stamps.refused_from form 0 read.items) (Some place) is in inr (read, refl, rw (own, said) refl)
below-said header form (Err other) place is own = absurd (not-both (Some place) other (sym is))

refused-then : (header : Header) (form : ℕ) (read : Records) (refused : Option ℕ) → stamps.refused_from form 0 read.items ≡ None → is_own_host header.label ≡ true
    → refused_at header.label form read.items ≡ refused → refused_of (image_with header form read) ≡ refused
refused-then header form read refused none own is = rw (own, none) is

-- a record that would change nothing
pub below-then : (header : Header) (form : ℕ) (area : Result Records ℕ) (place : ℕ) → refused_in form 0 area ≡ Ok None → is_own_host header.label ≡ true
    → refused_by header.label form [] area ≡ Ok (Some place) → IsRefusedBelow header form area place
below-then header form (Ok read) place none own is =
    inr (read, refl, refused-then header form read (Some place) (ok-same (stamps.refused_from form 0 read.items) None none) own (ok-same (refused_at header.label form read.items) (Some place) is))
below-then header form (Err other) place none own is = absurd (not-both None other (sym none))

-- no record is refused
pub below-taken : (header : Header) (home : List ℕ) (form : ℕ) (area : Result Records ℕ) → home ≡ header.label → refused_in form 0 area ≡ Ok None → is_own_host header.label ≡ true
    → refused_by home form [] area ≡ Ok None → IsTakenBelow header form area
below-taken header home form (Ok read) also none own is =
    let all = ap (λ h. refused_by h form [] (Ok read)) (sym also) ∙ is in
    (read, refl, refused-then header form read None (ok-same (stamps.refused_from form 0 read.items) None none) own (ok-same (refused_at header.label form read.items) None all))
below-taken header home form (Err other) also none own is = absurd (not-both None other (sym none))

-- ---- what is made below a header

pub below-made : (header : Header) (form : ℕ) (area : Result Records ℕ) (k : List Entry) (made : List ℕ) → refused_in form 0 area ≡ Ok None → is_own_host header.label ≡ true
    → refused_by header.label form [] area ≡ Ok None → opened_by header.label form [] area ≡ Some k → IsLeastAfter header.label header.area k made → IsMadeBelow header form area made
below-made header form (Ok read) k made none own is opens least =
    let taken = refused-then header form read None (ok-same (stamps.refused_from form 0 read.items) None none) own (ok-same (refused_at header.label form read.items) None is) in
    (read, refl, record { taken = taken; list = k; opens = opens; least = least })
below-made header form (Err other) k made none own is opens least = absurd (none-some k opens)

-- ---- what is made of bytes

pub made-of : (bytes : List ℕ) (header : Header) (form : ℕ) (area : Result Records ℕ) (made : List ℕ) → (IsBlankForAny bytes → ⊥) → image_of bytes ≡ with_header header (with_form form area)
    → IsMadeBelow header form area made → IsMadeOf bytes made
made-of bytes header form area made other is below =
    inr (other, (image_with header form below.0, is ∙ ap (λ a. with_header header (with_form form a)) below.1, below.2))

pub refused-at : (bytes : List ℕ) (header : Header) (form : ℕ) (area : Result Records ℕ) (place : ℕ) → (IsBlankForAny bytes → ⊥) → image_of bytes ≡ with_header header (with_form form area)
    → IsRefusedBelow header form area place → IsRefusedAt bytes place
refused-at bytes header form area place other is (inl framing) = (other, inl (is ∙ ap (λ a. with_header header (with_form form a)) framing))
refused-at bytes header form area place other is (inr below) =
    (other, inr (image_with header form below.0, is ∙ ap (λ a. with_header header (with_form form a)) below.1, below.2))

pub taken-of : (bytes : List ℕ) (header : Header) (form : ℕ) (area : Result Records ℕ) → (IsBlankForAny bytes → ⊥) → image_of bytes ≡ with_header header (with_form form area)
    → IsTakenBelow header form area → IsTaken bytes
taken-of bytes header form area other is below =
    (other, (image_with header form below.0, is ∙ ap (λ a. with_header header (with_form form a)) below.1, below.2))

-- ---- faults

pub framed-of : (form : ℕ) (area : Result Records ℕ) (refused : Option ℕ) → refused_in form 0 area ≡ Ok refused → IsOk area
framed-of form (Ok read) refused is = refl
framed-of form (Err place) refused is = absurd (not-both refused place (sym is))

journal-same : (x y : ℕ) → faults.NotJournal x ≡ faults.NotJournal y → x ≡ y
journal-same x y h = cc

not-journal : (place : ℕ) → faults.NoMemory ≡ faults.NotJournal place → ⊥
not-journal place h = cc

-- a fault of an image is never told as a difference
pub fault-differs : (fault : ImageFault) (told : CompactFault) → told ≡ fault_of fault → told ≡ faults.Differs → ⊥
fault-differs (image_faults.NotJournal place) told same differs = cc
fault-differs image_faults.NoMemory told same differs = cc

-- a fault of the front of an image
pub told-fault : (bytes : List ℕ) (fault : ImageFault) (told : CompactFault) → told ≡ fault_of fault → (IsBlankForAny bytes → ⊥) → Gives (Err fault) (image_of bytes) → Compacts bytes (Err told)
told-fault bytes (image_faults.NotJournal place) told same other is = subst (λ f. Compacts bytes (Err f)) (sym same) (other, inl is)
told-fault bytes image_faults.NoMemory told same other is = subst (λ f. Compacts bytes (Err f)) (sym same) tt

-- a fault of the framing of records
pub below-fault : (header : Header) (form : ℕ) (area : Result Records ℕ) (fault : ImageFault) (told : CompactFault) (place : ℕ) → told ≡ fault_of fault → Gives (Err fault) (refused_in form 0 area) → told ≡ faults.NotJournal place
    → IsRefusedBelow header form area place
below-fault header form area (image_faults.NotJournal other) told place same is journal =
    subst (IsRefusedBelow header form area) (journal-same other place (sym same ∙ journal)) (below-framing header form area other is)
below-fault header form area image_faults.NoMemory told place same is journal = absurd (not-journal place (sym same ∙ journal))

-- records that are framed have no such fault
pub below-lost : (header : Header) (host : List ℕ) (form : ℕ) (area : Result Records ℕ) (fault : ImageFault) (told : CompactFault) (place : ℕ) → told ≡ fault_of fault → IsOk area
    → Gives (Err fault) (refused_by host form [] area) → told ≡ faults.NotJournal place → IsRefusedBelow header form area place
below-lost header host form (Err other) fault told place same ok is journal = absurd (cc)
below-lost header host form (Ok read) (image_faults.NotJournal other) told place same ok is journal = absurd (not-both (refused_at host form read.items) other is)
below-lost header host form (Ok read) image_faults.NoMemory told place same ok is journal = absurd (not-journal place (sym same ∙ journal))

-- what was made of an image, or why it was refused
pub made-or-refused : (bytes : List ℕ) (header : Header) (form : ℕ) (area : Result Records ℕ) (told : Result (List ℕ) CompactFault) → (IsBlankForAny bytes → ⊥) → image_of bytes ≡ with_header header (with_form form area)
    → IfOk told (IsMadeBelow header form area) → ((place : ℕ) → told ≡ Err (faults.NotJournal place) → IsRefusedBelow header form area place)
    → (told ≡ Err faults.Differs → IsTakenBelow header form area) → Compacts bytes told
made-or-refused bytes header form area (Ok made) other is made_of refused taken = made-of bytes header form area made other is made_of
made-or-refused bytes header form area (Err (faults.NotJournal place)) other is made_of refused taken = refused-at bytes header form area place other is (refused place refl)
made-or-refused bytes header form area (Err faults.Differs) other is made_of refused taken = taken-of bytes header form area other is (taken refl)
made-or-refused bytes header form area (Err faults.NoMemory) other is made_of refused taken = tt

-- the place that is told
pub refused-as : (header : Header) (form : ℕ) (area : Result Records ℕ) (found place : ℕ) → ◌≡◌ {A = Result (List ℕ) CompactFault} (Err (faults.NotJournal found)) (Err (faults.NotJournal place))
    → IsRefusedBelow header form area found → IsRefusedBelow header form area place
refused-as header form area found place is below = let same : found ≡ place = cc in subst (IsRefusedBelow header form area) same below

-- what comes of a replay of an image
pub replayed : (header : Header) (form : ℕ) (area : Result Records ℕ) (old : Replay) (told : Result (List ℕ) CompactFault) (label home : List ℕ) → label ≡ header.label → home ≡ header.label
    → refused_in form 0 area ≡ Ok None → is_own_host header.label ≡ true → refused_by home form [] area ≡ Ok None
    → (k : List Entry) × (opened_by home form [] area ≡ Some k) × IsReplayOf old k
    → IfOk told (λ made. (k : List Entry) → IsReplayOf old k → IsLeastAfter label header.area k made) → IfOk told (IsMadeBelow header form area)
replayed header form area old (Ok made) label home same also none own is opens least =
    below-made header form area opens.0 made none own (ap (λ h. refused_by h form [] area) (sym also) ∙ is) (ap (λ h. opened_by h form [] area) (sym also) ∙ opens.1)
    (subst (λ l. IsLeastAfter l header.area opens.0 made) same (least opens.0 opens.2))
replayed header form area old (Err fault) label home same also none own is opens least = tt
