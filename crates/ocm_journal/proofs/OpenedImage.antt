-- What was read of a disk's first bytes and of its live area is what the disk holds.
use Rattle.std.proofs.Common.{◌≡◌, ◌≤◌, ◌<◌, ◌⊎◌, inl, inr, ℕ, ◌+◌, ◌-◌, min, Bool, true, false, not, nat_eq, nat_lt, ◌==◌, if◌then◌else◌, List, [], ◌∷◌, ◌++◌, length, take, drop, get_or, Result, Ok, Err, IfOk, IfErr, refl, sym, ◌∙◌, ap, subst, arith}
use Rattle.std.proofs.lemmas.List.{take_all, take_min, take-take, drop_all, length-drop, get_or-take}
use Rattle.std.proofs.lemmas.Bool.Decides.{nat_tests}
use Rattle.std.specs.Cmp.Lexicographic.{pointwise, bytes_decides}
use Rattle.ocm_disk.specs.Disk.{SameBut}
use Rattle.ocm_texts.specs.Hex.{AreBytes}
use Rattle.ocm_journal_image.specs.declared.faults.ImageFault.{ImageFault}
use Rattle.ocm_journal_image.specs.declared.faults.ImageFault.TheVariants as image_faults
use Rattle.ocm_journal_image.specs.declared.readings.RawRecord.{RawRecord}
use Rattle.ocm_journal_image.specs.declared.readings.Area.{Area}
use Rattle.ocm_journal_image.specs.declared.readings.Header.{Header}
use Rattle.ocm_journal_image.specs.Layout.{IsImage, named, contents, live_start}
use Rattle.ocm_journal_image.specs.Reading.{Gives, header_of, area_of, start_of, live_bytes}
use Rattle.ocm_journal_image.proofs.ReadBack.{HeaderStands, AreaStands, header_stands, area_stands, both_stand, header_of_front, header_long}
use Rattle.ocm_journal.specs.declared.faults.OpenFault.{OpenFault}
use Rattle.ocm_journal.specs.declared.faults.OpenFault.TheVariants.{NotJournal, OtherLabel, DiskFault, NoMemory}
use Rattle.ocm_journal.specs.declared.reading.Opened.{Opened}
use Rattle.ocm_journal.specs.Openings.{as_open_fault, IsSaid, IsSaidBy, records_in, records_below, ImageOpens}
use Rattle.ocm_journal.proofs.Appended.{length-front}

pub if_ok : {T E : Type 0} (r : Result T E) (P Q : T → Type 0) → IfOk r P → ((x : T) → P x → Q x) → IfOk r Q
if_ok (Ok x) P Q holds more = more x holds
if_ok (Err e) P Q holds more = holds

pub if_err : {T E : Type 0} (r : Result T E) (P Q : E → Type 0) → IfErr r P → ((x : E) → P x → Q x) → IfErr r Q
if_err (Ok x) P Q holds more = holds
if_err (Err e) P Q holds more = more e holds

test_cases : (b : Bool) → (b ≡ true) ⊎ (b ≡ false)
test_cases true = inl refl
test_cases false = inr refl

pub le_or_lt : (a b : ℕ) → (a ≤ b) ⊎ (b < a)
le_or_lt a b = elim (test_cases (nat_lt b a)) [
  | inl yes_lt ↦ inr (grind (arith, nat_tests, yes_lt))
  | inr no_lt ↦ inl (grind (arith, nat_tests, no_lt))
]

-- the header is told by the first bytes
pub front_header : (seen front : List ℕ) (len : ℕ) → len ≡ length seen → length front ≡ min len 514 → front ≡ take (length front) seen → AreBytes front → header_of (length seen) seen ≡ header_of len front
front_header seen front len size few is are = elim (le_or_lt (length seen) 514) [
  | inl short ↦ ap (λ n. header_of n seen) (sym size) ∙ ap (λ (l : List ℕ). header_of len l) (sym (is ∙ take_all (length front) seen (omega (arith, size, few, short))))
  | inr long ↦ ap (λ n. header_of n seen) (sym size)
      ∙ sym (header_of_front len (length front) seen (let e : get_or front 8 0 ≡ get_or seen 8 0 = ap (λ (l : List ℕ). get_or l 8 0) is ∙ get_or-take (length front) seen 8 0 (omega (arith, size, few, long)) in let b : get_or front 8 0 < 256 = are 8 in omega (arith, e, b)) (omega (arith, size, few, long)))
      ∙ ap (λ (l : List ℕ). header_of len l) (sym is)
]

-- ... and by 512 of them
pub front_tells : (seen front : List ℕ) (len : ℕ) → len ≡ length seen → 512 ≤ length front → take 512 front ≡ take 512 seen → AreBytes front → header_of (length seen) seen ≡ header_of len front
front_tells seen front len size long is are =
    let b : get_or front 8 0 < 256 = are 8 in
    let same : get_or seen 8 0 ≡ get_or front 8 0 = sym (get_or-take 512 seen 8 0 (omega arith)) ∙ ap (λ (l : List ℕ). get_or l 8 0) (sym is) ∙ get_or-take 512 front 8 0 (omega arith) in
    ap (λ n. header_of n seen) (sym size) ∙ sym (header_of_front len 512 seen (omega (arith, same, b)) (omega arith)) ∙ ap (λ (l : List ℕ). header_of len l) (sym is) ∙ header_of_front len 512 front b (omega arith)

-- a read behind the header leaves it as it was read
pub front_stays : (old seen front : List ℕ) (start n : ℕ) → 512 ≤ start → SameBut start n old seen → 512 ≤ length front → front ≡ take (length front) old → take 512 front ≡ take 512 seen
front_stays old seen front start n low same long is =
    ap (λ (l : List ℕ). take 512 l) is ∙ take-take 512 (length front) old long ∙ sym (take-take 512 start old low) ∙ ap (λ (l : List ℕ). take 512 l) (sym same.before) ∙ take-take 512 start seen low

low_area : (b : Bool) (area : ℕ) → 512 ≤ (if b then 512 else 512 + area)
low_area true area = omega arith
low_area false area = omega arith

-- an area begins behind the header
pub starts_low : (h : Header) → 512 ≤ start_of h
starts_low h = low_area (h.selector == 1) h.area

pub said_header : (label bytes : List ℕ) (e : ImageFault) (r r2 : Result Header ℕ) → r2 ≡ r → Gives (Err e) r → IsSaidBy (records_below label bytes r2) (as_open_fault e)
said_header label bytes (image_faults.NotJournal place) r r2 same gives = ap (λ h. records_below label bytes h) (same ∙ gives)
said_header label bytes image_faults.NoMemory r r2 same gives = tt

differs : (same : Bool) (records : Result (List RawRecord) OpenFault) (found : List ℕ) → true ≡ not same → (if same then records else Err (OtherLabel found)) ≡ Err (OtherLabel found)
differs true records found is = absurd cc
differs false records found is = refl

pub other_label : (label bytes shown : List ℕ) (h : Header) (r r2 : Result Header ℕ) → r2 ≡ r → r ≡ Ok h → shown ≡ h.label → true ≡ not (pointwise nat_eq shown label) → records_below label bytes r2 ≡ Err (OtherLabel h.label)
other_label label bytes shown h r r2 same is shown_is other =
    ap (λ x. records_below label bytes x) (same ∙ is) ∙ differs (pointwise nat_eq h.label label) _ h.label (other ∙ ap (λ (l : List ℕ). not (pointwise nat_eq l label)) shown_is)

same_test : (b : Bool) → false ≡ not b → b ≡ true
same_test true is = refl
same_test false is = absurd cc

-- the label that was found is the one that was asked for
pub label_same : (label shown : List ℕ) (h : Header) → shown ≡ h.label → false ≡ not (pointwise nat_eq shown label) → h.label ≡ label
label_same label shown h shown_is other = sym shown_is ∙ (bytes_decides shown label).0 (same_test _ other)

pub below_is : (label bytes : List ℕ) (h : Header) (r r2 : Result Header ℕ) → r2 ≡ r → r ≡ Ok h → h.label ≡ label → records_below label bytes r2 ≡ records_in (area_of (length bytes) (start_of h) (live_bytes h bytes))
below_is label bytes h r r2 same is found =
    ap (λ x. records_below label bytes x) (same ∙ is) ∙ ap (λ b. if b then records_in (area_of (length bytes) (start_of h) (live_bytes h bytes)) else Err (OtherLabel h.label)) ((bytes_decides h.label label).1 found)

-- an area past the end of the disk
pub area_wanting : (h : Header) (bytes : List ℕ) (len start : ℕ) → len ≡ length bytes → start ≡ start_of h → len ≤ start → records_in (area_of (length bytes) (start_of h) (live_bytes h bytes)) ≡ Err (NotJournal len)
area_wanting h bytes len start size start_is past =
    let none : drop (start_of h) bytes ≡ [] = drop_all (start_of h) bytes (omega (arith, size, start_is, past)) in
    let take_none : take h.area (drop (start_of h) bytes) ≡ [] = ap (λ (l : List ℕ). take h.area l) none ∙ take_all h.area [] (omega arith) in
    ap (λ (l : List ℕ). records_in (area_of (length bytes) (start_of h) l)) take_none ∙ ap (λ n. Err (NotJournal n)) (sym size)

-- what was read of the live area is all of it
pub live_read : (h : Header) (seen shown items : List ℕ) (len start count : ℕ) → len ≡ length seen → start ≡ start_of h → count ≡ min h.area (len - start) → items ≡ take count (drop start seen) → shown ≡ items → shown ≡ live_bytes h seen
live_read h seen shown items len start count size start_is count_is items_are shown_is =
    let e : count ≡ min h.area (length (drop start seen)) = omega (arith, count_is, size, length-drop start seen) in
    shown_is ∙ items_are ∙ ap (λ k. take k (drop start seen)) e ∙ take_min h.area (drop start seen) ∙ ap (λ k. take h.area (drop k seen)) start_is

pub reads_area : (label seen shown : List ℕ) (h : Header) (len : ℕ) (says : Result (List RawRecord) OpenFault) (form end : ℕ) (records : List RawRecord) → len ≡ length seen → says ≡ records_in (area_of (length seen) (start_of h) (live_bytes h seen)) → shown ≡ live_bytes h seen → area_of len (start_of h) shown ≡ Ok (record { form = form; records = records; end = end }) → says ≡ Ok records
reads_area label seen shown h len says form end records size says_is shown_is reads =
    says_is ∙ ap (λ n. records_in (area_of n (start_of h) (live_bytes h seen))) (sym size) ∙ ap (λ (l : List ℕ). records_in (area_of len (start_of h) l)) (sym shown_is) ∙ ap (λ a. records_in a) reads

pub says_area : (seen shown : List ℕ) (h : Header) (len : ℕ) (says : Result (List RawRecord) OpenFault) (fault : OpenFault) → len ≡ length seen → says ≡ records_in (area_of (length seen) (start_of h) (live_bytes h seen)) → shown ≡ live_bytes h seen → IsSaid (records_in (area_of len (start_of h) shown)) fault → IsSaidBy says fault
says_area seen shown h len says (NotJournal place) size says_is shown_is said = says_is ∙ ap (λ n. records_in (area_of n (start_of h) (live_bytes h seen))) (sym size) ∙ ap (λ (l : List ℕ). records_in (area_of len (start_of h) l)) (sym shown_is) ∙ said
says_area seen shown h len says (OtherLabel found) size says_is shown_is said = says_is ∙ ap (λ n. records_in (area_of n (start_of h) (live_bytes h seen))) (sym size) ∙ ap (λ (l : List ℕ). records_in (area_of len (start_of h) l)) (sym shown_is) ∙ said
says_area seen shown h len says (DiskFault count) size says_is shown_is said = tt
says_area seen shown h len says NoMemory size says_is shown_is said = tt

-- the header stands in the whole as it stands in the front
header_in_whole : (seen front : List ℕ) (h : Header) → take 512 front ≡ take 512 seen → 512 ≤ length seen → HeaderStands front h → HeaderStands seen h
header_in_whole seen front h is long s =
    let text : List ℕ = 1 ∷ named h.label h.area ++ h.selector ∷ [] in
    let few : length text ≤ 512 = omega (arith, length-front h.label h.area h.selector, s.label_size.1) in
    record {
      label_size = s.label_size;
      area_size = s.area_size;
      long = long;
      front = sym (take-take (length text) 512 seen few) ∙ ap (λ (l : List ℕ). take (length text) l) (sym is) ∙ take-take (length text) 512 front few ∙ s.front;
    }

pub image_opens : (label seen front shown : List ℕ) (h : Header) (len : ℕ) (o : Opened) → len ≡ length seen → 512 ≤ length front → take 512 front ≡ take 512 seen → AreBytes front → header_of len front ≡ Ok h → h.label ≡ label → shown ≡ live_bytes h seen → AreBytes shown → area_of len (start_of h) shown ≡ Ok (record { form = o.form; records = o.records; end = o.gate }) → o.selector ≡ 17 + length h.label → o.area ≡ h.area → o.start ≡ start_of h → ImageOpens label seen o
image_opens label seen front shown h len o size front_long is front_are header_is label_is shown_is shown_are reads selector_is area_is start_is =
    let long = header_long len front h header_is in
    let hs = header_in_whole seen front h is (omega (arith, long, size)) (header_stands len front h front_are front_long header_is) in
    let live : Area = record { form = o.form; records = o.records; end = o.gate } in
    let la : AreaStands (start_of h) (live_bytes h seen) live = subst (λ (l : List ℕ). AreaStands (start_of h) l live) shown_is (area_stands len (start_of h) shown live shown_are reads) in
    let s = both_stand seen h live hs la in
    let at_area : (image : IsImage h.label o.area o.form (contents o.records) seen) × (live_start o.area image.selector ≡ start_of h) = subst (λ a. (image : IsImage h.label a o.form (contents o.records) seen) × (live_start a image.selector ≡ start_of h)) (sym area_is) (s.image, ap (λ k. live_start h.area k) s.selector) in
    let at_label : (image : IsImage label o.area o.form (contents o.records) seen) × (live_start o.area image.selector ≡ start_of h) = subst (λ (l : List ℕ). (image : IsImage l o.area o.form (contents o.records) seen) × (live_start o.area image.selector ≡ start_of h)) label_is at_area in
    (at_label.0, omega (arith, selector_is, ap length label_is), at_label.1 ∙ sym start_is, omega (arith, la.end, start_is))

pub if_ok_both : {T E : Type 0} (r : Result T E) (P Q : T → Type 0) → IfOk r P → IfOk r Q → IfOk r (λ x. P x × Q x)
if_ok_both (Ok x) P Q p q = (p, q)
if_ok_both (Err e) P Q p q = p

pub front_is : (shown items seen : List ℕ) (n : ℕ) → shown ≡ items → items ≡ take n (drop 0 seen) → length items ≡ n → shown ≡ take (length shown) seen
front_is shown items seen n is taken size = is ∙ taken ∙ ap (λ k. take k seen) (sym (ap (λ (l : List ℕ). length l) is ∙ size))
