-- The bytes of an image are read as that image.
use Rattle.std.proofs.Common.{◌≡◌, ◌≢◌, ◌≤◌, ◌<◌, ◌==◌, ◌^◌, ◌&&◌, ◌||◌, inl, inr, ℕ, ◌+◌, nat_lt, if◌then◌else◌, List, [], ◌∷◌, ◌++◌, length, take, drop, get_or, Some, Result, Ok, Err, refl, sym, ◌∙◌, ap, arith, append_assoc, length-append, take-append-drop}
use Rattle.std.proofs.lemmas.List.{take_at, drop_at, take-take, drop-drop, get_or-drop}
use Rattle.std.proofs.lemmas.Nat.{from_be_bytes-to_be_bytes_4, from_be_bytes-to_be_bytes_8}
use Rattle.std.proofs.lemmas.Grind.{common_steps}
use Rattle.std.proofs.lemmas.Bool.Decides.{nat_tests}
use Rattle.std.specs.Int.{w32, w64, to_be_bytes, from_be_bytes}
use Rattle.ocm_journal_image.specs.declared.readings.Header.{Header}
use Rattle.ocm_journal_image.specs.Layout.{named, blocks, blocks_size, area_text, live_start, IsLabel, IsAreaSize, IsForm, AreRecords, IsImage, placed}
use Rattle.ocm_journal_image.specs.Reading.{record_length, records_from, put_first, area_of, with_form, header_of, area_in, header_in, image_of, image_below, with_header, live_bytes}
use Rattle.ocm_journal_image.proofs.RecordsRead.{record_taken}
use Rattle.ocm_journal_image.proofs.Sizes.{length-blocks}

four_read : (a b c d n : ℕ) (after : List ℕ) → from_be_bytes w32 (a ∷ b ∷ c ∷ d ∷ []) ≡ n → 1 ≤ n → n ≤ 2097152 → n ≤ length after → record_length (a ∷ b ∷ c ∷ d ∷ after) ≡ Some n
four_read a b c d n after is some few there = rw is (grind (arith, nat_tests, common_steps))

-- the length before a record is read
pub length_read : (r tail : List ℕ) → 1 ≤ length r → length r ≤ 2097152 → record_length (to_be_bytes w32 (length r) ++ (r ++ tail)) ≡ Some (length r)
length_read r tail some few = four_read _ _ _ _ (length r) (r ++ tail) (from_be_bytes-to_be_bytes_4 (length r) (omega (arith, few))) some few (omega (arith, length-append r tail))

-- a record is read, and then what stands behind it
pub block_read : (place : ℕ) (r tail : List ℕ) → 1 ≤ length r → length r ≤ 2097152 → records_from 0 place (1 ∷ to_be_bytes w32 (length r) ++ (r ++ tail)) ≡ put_first (record { place = place; bytes = r }) (records_from 0 (place + (5 + length r)) tail)
block_read place r tail some few =
    let all : List ℕ = 1 ∷ to_be_bytes w32 (length r) ++ (r ++ tail) in
    let front : take (length r) (r ++ tail) ≡ r = take_at r tail (length r) refl in
    let behind : drop (5 + length r) all ≡ tail = sym (drop-drop (length r) 5 all) ∙ drop_at r tail (length r) refl in
    record_taken place (length r) (to_be_bytes w32 (length r) ++ (r ++ tail)) (length_read r tail some few)
    ∙ ap (λ (b : List ℕ). put_first (record { place = place; bytes = b }) (records_from 0 (place + (5 + length r)) (drop (5 + length r) all))) front
    ∙ ap (λ (l : List ℕ). put_first (record { place = place; bytes = r }) (records_from 0 (place + (5 + length r)) l)) behind

-- records and a closed gate are read as these records
pub records_read : (place : ℕ) (rs : List (List ℕ)) (gate : ℕ) (more : List ℕ) → AreRecords rs → gate ≢ 1 → records_from 0 place (blocks rs ++ gate ∷ more) ≡ Ok (record { items = placed place rs; end = place + blocks_size rs })
records_read place [] gate more sizes shut = let e : place ≡ place + 0 = omega arith in grind (arith, nat_tests, common_steps, e)
records_read place (r ∷ rs) gate more sizes shut =
    let tail : List ℕ = blocks rs ++ gate ∷ more in
    let flat : (r ++ blocks rs) ++ gate ∷ more ≡ r ++ tail = append_assoc r (blocks rs) (gate ∷ more) in
    let e : place + (5 + length r) + blocks_size rs ≡ place + (5 + length r + blocks_size rs) = omega arith in
    ap (λ (l : List ℕ). records_from 0 place (1 ∷ to_be_bytes w32 (length r) ++ l)) flat
    ∙ block_read place r tail sizes.0 sizes.1
    ∙ ap (λ read. put_first (record { place = place; bytes = r }) read) (records_read (place + (5 + length r)) rs gate more sizes.2 shut)
    ∙ ap (λ n. Ok (record { items = placed place (r ∷ rs); end = n })) e

pub area_read : (len start form : ℕ) (rs : List (List ℕ)) (gate : ℕ) (more : List ℕ) → IsForm form → AreRecords rs → gate ≢ 1 → area_of len start (form ∷ blocks rs ++ gate ∷ more) ≡ Ok (record { form = form; records = placed (start + 1) rs; end = start + 1 + blocks_size rs })
area_read len start form rs gate more (inl known) sizes shut = rw known (ap (λ read. with_form 1 read) (records_read (start + 1) rs gate more sizes shut))
area_read len start form rs gate more (inr known) sizes shut = rw known (ap (λ read. with_form 2 read) (records_read (start + 1) rs gate more sizes shut))

-- a front that is held stands before the rest of what is taken
pub held_front : (xs text : List ℕ) (n : ℕ) → take (length text) xs ≡ text → length text ≤ n → take n xs ≡ text ++ drop (length text) (take n xs)
held_front xs text n is le = sym (take-append-drop (length text) (take n xs)) ∙ ap (λ (l : List ℕ). l ++ drop (length text) (take n xs)) (take-take (length text) n xs le ∙ is)

tests_pass : (len l area : ℕ) (h : Header) → 512 ≤ len → 1 ≤ l → 1792 ≤ area → area ≤ 2 ^ 38 → (if nat_lt 8 len && (l == 0) then Err 8 else if nat_lt len 512 then Err len else if nat_lt area 1792 || nat_lt (2 ^ 38) area then Err (9 + l) else Ok h) ≡ Ok h
tests_pass len l area h long some least most = grind (arith, nat_tests, common_steps)

header_is : (l l2 : List ℕ) (a a2 s s2 : ℕ) → l ≡ l2 → a ≡ a2 → s ≡ s2 → ◌≡◌ {A = Result Header ℕ} (Ok (record { label = l; area = a; selector = s })) (Ok (record { label = l2; area = a2; selector = s2 }))
header_is l l2 a a2 s s2 el ea es = rw (el, ea, es) refl

-- what stands in a header, whatever its first byte
pub header_in_is : (first : ℕ) (label : List ℕ) (area selector : ℕ) (rest : List ℕ) → area < 2 ^ 64 → (take (length label) (drop 9 ((first ∷ named label area ++ selector ∷ []) ++ rest)) ≡ label) × (area_in ((first ∷ named label area ++ selector ∷ []) ++ rest) ≡ area) × (get_or ((first ∷ named label area ++ selector ∷ []) ++ rest) (17 + length label) 0 ≡ selector)
header_in_is first label area selector rest fits =
    let be : List ℕ = to_be_bytes w64 area in
    let all : List ℕ = (first ∷ named label area ++ selector ∷ []) ++ rest in
    let flat : ((label ++ be) ++ selector ∷ []) ++ rest ≡ label ++ (be ++ selector ∷ rest) = append_assoc (label ++ be) (selector ∷ []) rest ∙ append_assoc label be (selector ∷ rest) in
    let label_is : take (length label) (((label ++ be) ++ selector ∷ []) ++ rest) ≡ label = ap (λ (l : List ℕ). take (length label) l) flat ∙ take_at label (be ++ selector ∷ rest) (length label) refl in
    let behind : drop (9 + length label) all ≡ be ++ selector ∷ rest = sym (drop-drop (length label) 9 all) ∙ ap (λ (l : List ℕ). drop (length label) l) flat ∙ drop_at label (be ++ selector ∷ rest) (length label) refl in
    let area_is : area_in all ≡ area = ap (λ (l : List ℕ). from_be_bytes w64 (take 8 l)) behind ∙ from_be_bytes-to_be_bytes_8 area fits in
    let place : 9 + length label + 8 ≡ 17 + length label = omega arith in
    let selector_is : get_or all (17 + length label) 0 ≡ selector = ap (λ n. get_or all n 0) (sym place) ∙ sym (get_or-drop (9 + length label) all 8 0) ∙ ap (λ (l : List ℕ). get_or l 8 0) behind in
    (label_is, area_is, selector_is)

-- a header is read as what it names
pub header_read : (len : ℕ) (label : List ℕ) (area selector : ℕ) (rest : List ℕ) → 512 ≤ len → IsLabel label → IsAreaSize area → header_of len ((1 ∷ named label area ++ selector ∷ []) ++ rest) ≡ Ok (record { label = label; area = area; selector = selector })
header_read len label area selector rest long label_size area_size =
    let all : List ℕ = (1 ∷ named label area ++ selector ∷ []) ++ rest in
    let h = header_in_is 1 label area selector rest (omega (arith, area_size.1)) in
    tests_pass len (length label) (area_in all) (header_in all) long label_size.0 (omega (arith, h.1, area_size.0)) (omega (arith, h.1, area_size.1)) ∙ header_is _ label _ area _ selector h.0 h.1 h.2

pub image_read : (label : List ℕ) (area form : ℕ) (records : List (List ℕ)) (bytes : List ℕ) (image : IsImage label area form records bytes) → image_of bytes ≡ Ok (record { header = record { label = label; area = area; selector = image.selector }; live = record { form = form; records = placed (live_start area image.selector + 1) records; end = live_start area image.selector + 1 + blocks_size records } })
image_read label area form records bytes image =
    let text : List ℕ = 1 ∷ named label area ++ image.selector ∷ [] in
    let rest : List ℕ = drop (length text) bytes in
    let start : ℕ = live_start area image.selector in
    let h : Header = record { label = label; area = area; selector = image.selector } in
    let whole : bytes ≡ text ++ rest = sym (take-append-drop (length text) bytes) ∙ ap (λ (l : List ℕ). l ++ rest) image.front in
    let header_ok : header_of (length bytes) bytes ≡ Ok h = ap (λ (l : List ℕ). header_of (length bytes) l) whole ∙ header_read (length bytes) label area image.selector rest image.header image.label_size image.area_size in
    let shown : List ℕ = area_text form records image.gate in
    let size : length shown ≡ 2 + blocks_size records = omega (arith, length-append (blocks records) (image.gate ∷ []), length-blocks records) in
    let more : List ℕ = drop (length shown) (take area (drop start bytes)) in
    let live_is : live_bytes h bytes ≡ shown ++ more = held_front (drop start bytes) shown area image.live (omega (arith, size, image.within)) in
    let flat : shown ++ more ≡ form ∷ (blocks records ++ image.gate ∷ more) = ap (λ (l : List ℕ). form ∷ l) (append_assoc (blocks records) (image.gate ∷ []) more) in
    ap (λ r. image_below r bytes) header_ok
    ∙ ap (λ (l : List ℕ). with_header h (area_of (length bytes) start l)) (live_is ∙ flat)
    ∙ ap (λ read. with_header h read) (area_read (length bytes) start form records image.gate more image.form_known image.record_sizes image.shut)
