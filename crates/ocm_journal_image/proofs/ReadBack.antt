-- What is read of bytes is what they are an image of.
use Rattle.std.proofs.Common.{◌≡◌, ◌≢◌, ◌≤◌, ◌<◌, ◌⊎◌, ◌==◌, ◌^◌, ◌&&◌, ◌||◌, inl, inr, ℕ, zero, suc, ◌+◌, Bool, true, false, nat_lt, if◌then◌else◌, List, [], ◌∷◌, ◌++◌, length, take, drop, get_or, min, Option, Some, None, Result, Ok, Err, refl, sym, ◌∙◌, ap, subst, arith, append_assoc, length-append, take-append-drop}
use Rattle.std.proofs.lemmas.List.{take_at, take-take, drop-drop, drop-take, drop_more, get_or-drop, get_or-take, length-take, length-take-le, length-drop}
use Rattle.std.proofs.lemmas.Nat.{be_bytes_4, be_bytes_8}
use Rattle.std.proofs.lemmas.Grind.{common_steps}
use Rattle.std.proofs.lemmas.Bool.{cases_eq}
use Rattle.std.proofs.lemmas.Bool.Decides.{nat_tests}
use Rattle.std.specs.Int.{w32, w64, to_be_bytes, from_be_bytes}
use Rattle.ocm_texts.specs.Hex.{AreBytes}
use Rattle.ocm_journal_image.specs.declared.readings.RawRecord.{RawRecord}
use Rattle.ocm_journal_image.specs.declared.readings.Records.{Records}
use Rattle.ocm_journal_image.specs.declared.readings.Area.{Area}
use Rattle.ocm_journal_image.specs.declared.readings.Header.{Header}
use Rattle.ocm_journal_image.specs.declared.readings.Image.{Image}
use Rattle.ocm_journal_image.specs.Layout.{mark, named, blocks, blocks_size, area_text, IsLabel, IsAreaSize, IsForm, AreRecords, HoldsAt, IsImage, placed, contents}
use Rattle.ocm_journal_image.specs.Reading.{record_length, records_from, put_first, area_of, with_form, with_header, header_of, unless_differs, first_difference, sizes_tested, area_in, header_in, image_of, image_below, live_bytes, start_of}
use Rattle.ocm_journal_image.proofs.RecordsRead.{length_fits}
use Rattle.ocm_journal_image.proofs.ImageRead.{records_read}
use Rattle.ocm_journal_image.proofs.Sizes.{length-blocks}

pub bytes_take : (bytes : List ℕ) (k : ℕ) → AreBytes bytes → AreBytes (take k bytes)
bytes_take bytes zero are i = omega arith
bytes_take [] (suc k) are i = omega arith
bytes_take (b ∷ bytes) (suc k) are zero = are 0
bytes_take (b ∷ bytes) (suc k) are (suc i) = bytes_take bytes k (λ j. are (suc j)) i

pub bytes_drop : (bytes : List ℕ) (k : ℕ) → AreBytes bytes → AreBytes (drop k bytes)
bytes_drop bytes k are i = let e = get_or-drop k bytes i 0 in let h = are (k + i) in omega (arith, e, h)

option_cases : (o : Option ℕ) → (o ≡ None) ⊎ ((n : ℕ) × (o ≡ Some n))
option_cases None = inl refl
option_cases (Some n) = inr (n, refl)

result_cases : {T : Type 0} (r : Result T ℕ) → ((place : ℕ) × (r ≡ Err place)) ⊎ ((value : T) × (r ≡ Ok value))
result_cases (Err place) = inl (place, refl)
result_cases (Ok value) = inr (value, refl)

picked : (b : Bool) (n m : ℕ) → (if b then None else Some n) ≡ Some m → m ≡ n
picked true n m is = cc
picked false n m is = cc

-- the bytes behind the gate of a record
pub record_bytes : (bytes : List ℕ) (n : ℕ) → AreBytes bytes → record_length bytes ≡ Some n → bytes ≡ to_be_bytes w32 n ++ (take n (drop 4 bytes) ++ drop (4 + n) bytes)
record_bytes [] n are is = cc
record_bytes (a ∷ []) n are is = cc
record_bytes (a ∷ b ∷ []) n are is = cc
record_bytes (a ∷ b ∷ c ∷ []) n are is = cc
record_bytes (a ∷ b ∷ c ∷ d ∷ after) n are is =
    let all : List ℕ = a ∷ b ∷ c ∷ d ∷ after in
    let number : n ≡ from_be_bytes w32 (a ∷ b ∷ c ∷ d ∷ []) = picked _ _ n is in
    let four : to_be_bytes w32 n ≡ a ∷ b ∷ c ∷ d ∷ [] = be_bytes_4 (a ∷ b ∷ c ∷ d ∷ []) n refl (bytes_take all 4 are) number in
    let behind : take n after ++ drop (4 + n) all ≡ after = ap (λ (l : List ℕ). take n after ++ l) (sym (drop-drop n 4 all)) ∙ take-append-drop n after in
    sym (ap (λ (l : List ℕ). l ++ (take n after ++ drop (4 + n) all)) four ∙ ap (λ (l : List ℕ). a ∷ b ∷ c ∷ d ∷ l) behind)

-- what reading found at a place
pub record Found (place : ℕ) (bytes : List ℕ) (read : Records) : Type 0 where
  pub gate : ℕ
  pub more : List ℕ
  pub shut : gate ≢ 1
  pub sizes : AreRecords (contents read.items)
  pub text : bytes ≡ blocks (contents read.items) ++ gate ∷ more
  pub items : read.items ≡ placed place (contents read.items)
  pub end : read.end ≡ place + blocks_size (contents read.items)

Later : List ℕ → Type 0
Later rest = (passed from : ℕ) (later : Records) → records_from passed from rest ≡ Ok later → Found (from + passed) (drop passed rest) later

no_record : (place : ℕ) (rest : List ℕ) (read : Records) → record_length rest ≡ None → records_from 0 place (1 ∷ rest) ≡ Ok read → ⊥
no_record place rest read none is = let e = rw none at is in cc

one_more : (place n : ℕ) (rest bytes : List ℕ) (later : Records) → bytes ≡ take n (drop 4 rest) → length bytes ≡ n → 1 ≤ n → n ≤ 2097152 → rest ≡ to_be_bytes w32 n ++ (take n (drop 4 rest) ++ drop (4 + n) rest) → Found (place + 1 + (4 + n)) (drop (4 + n) rest) later → Found place (1 ∷ rest) (record { items = record { place = place; bytes = bytes } ∷ later.items; end = later.end })
one_more place n rest bytes later are size some few is found = record {
  gate = found.gate;
  more = found.more;
  shut = found.shut;
  sizes = (omega (arith, size, some), omega (arith, size, few), found.sizes);
  text = ap (λ (l : List ℕ). 1 ∷ l) is
      ∙ ap (λ (l : List ℕ). 1 ∷ to_be_bytes w32 n ++ (l ++ drop (4 + n) rest)) (sym are)
      ∙ ap (λ (l : List ℕ). 1 ∷ to_be_bytes w32 n ++ (bytes ++ l)) found.text
      ∙ ap (λ (l : List ℕ). 1 ∷ to_be_bytes w32 n ++ l) (sym (append_assoc bytes (blocks (contents later.items)) (found.gate ∷ found.more)))
      ∙ ap (λ k. 1 ∷ to_be_bytes w32 k ++ ((bytes ++ blocks (contents later.items)) ++ found.gate ∷ found.more)) (sym size);
  items = let e : place + 1 + (4 + n) ≡ place + (5 + length bytes) = omega (arith, size) in ap (λ (l : List RawRecord). record { place = place; bytes = bytes } ∷ l) (found.items ∙ ap (λ k. placed k (contents later.items)) e);
  end = omega (arith, found.end, size);
}

found_later : (place n : ℕ) (rest : List ℕ) (read later : Records) → AreBytes rest → record_length rest ≡ Some n → Found (place + 1 + (4 + n)) (drop (4 + n) rest) later → record { items = record { place = place; bytes = take n (drop 4 rest) } ∷ later.items; end = later.end } ≡ read → Found place (1 ∷ rest) read
found_later place n rest read later are some found is =
    let fits = length_fits rest n some in
    let size : length (take n (drop 4 rest)) ≡ n = length-take-le n (drop 4 rest) (omega (arith, fits.0, length-drop 4 rest)) in
    subst (λ (r : Records). Found place (1 ∷ rest) r) is (one_more place n rest (take n (drop 4 rest)) later refl size fits.1 fits.2 (record_bytes rest n are some) found)

ok_is : (x y : Records) → ◌≡◌ {A = Result Records ℕ} (Ok x) (Ok y) → x ≡ y
ok_is x y is = cc

found_some : (place n : ℕ) (rest : List ℕ) (read : Records) → AreBytes rest → record_length rest ≡ Some n → Later rest → put_first (record { place = place; bytes = take n (drop 4 rest) }) (records_from (4 + n) (place + 1) rest) ≡ Ok read → Found place (1 ∷ rest) read
unfolding Later
found_some place n rest read are some ih is = elim (result_cases (records_from (4 + n) (place + 1) rest)) [
  | inl bad ↦ absurd (let e = rw bad.1 at is in cc)
  | inr good ↦ found_later place n rest read good.0 are some (ih (4 + n) (place + 1) good.0 good.1) (ok_is _ read (sym (ap (λ r. put_first (record { place = place; bytes = take n (drop 4 rest) }) r) good.1) ∙ is))
]

found_open : (place : ℕ) (rest : List ℕ) (read : Records) → AreBytes rest → Later rest → records_from 0 place (1 ∷ rest) ≡ Ok read → Found place (1 ∷ rest) read
found_open place rest read are ih is = elim (option_cases (record_length rest)) [
  | inl none ↦ absurd (no_record place rest read none is)
  | inr some ↦ found_some place some.0 rest read are some.1 ih (rw some.1 at is)
]

found_shut : (place gate : ℕ) (rest : List ℕ) (read : Records) → gate ≢ 1 → records_from 0 place (gate ∷ rest) ≡ Ok read → Found place (gate ∷ rest) read
found_shut place gate rest read shut is =
    let e : record { items = []; end = place + 0 } ≡ read = ok_is _ read (sym (records_read place [] gate rest tt shut) ∙ is) in
    subst (λ (r : Records). Found place (gate ∷ rest) r) e (record { gate = gate; more = rest; shut = shut; sizes = tt; text = refl; items = refl; end = refl })

pub found_records : (passed place : ℕ) (bytes : List ℕ) (read : Records) → AreBytes bytes → records_from passed place bytes ≡ Ok read → Found (place + passed) (drop passed bytes) read
unfolding Later
found_records passed place [] read are is = absurd cc
found_records (suc passed) place (b ∷ rest) read are is =
    let e : place + 1 + passed ≡ place + suc passed = omega arith in
    subst (λ k. Found k (drop passed rest) read) e (found_records passed (place + 1) rest read (λ i. are (suc i)) is)
found_records zero place (gate ∷ rest) read are is =
    let e : place ≡ place + 0 = omega arith in
    let later : Later rest = λ p q r h. found_records p q rest r (λ i. are (suc i)) h in
    subst (λ k. Found k (gate ∷ rest) read) e (elim (cases_eq gate 1) [
      | inl open_gate ↦ subst (λ k. Found place (k ∷ rest) read) (sym open_gate) (found_open place rest read (λ i. are (suc i)) later (subst (λ k. records_from 0 place (k ∷ rest) ≡ Ok read) open_gate is))
      | inr shut ↦ found_shut place gate rest read shut is
    ])

no_difference : (place : ℕ) (text bytes : List ℕ) → first_difference place text bytes ≡ None → length text ≤ length bytes → take (length text) bytes ≡ text
no_difference place [] bytes none le = refl
no_difference place (t ∷ text) [] none le = absurd (omega (arith, le))
no_difference place (t ∷ text) (b ∷ bytes) none le = elim (cases_eq b t) [
  | inl same ↦ rw same (ap (λ (l : List ℕ). t ∷ l) (no_difference (place + 1) text bytes (rest same) (omega (arith, le))))
  | inr other ↦ absurd (differs other)
]
  where
    rest : b ≡ t → first_difference (place + 1) text bytes ≡ None
    rest same = grind (arith, nat_tests, common_steps, none, same)

    differs : (b ≡ t → ⊥) → ⊥
    differs other = let e : first_difference place (t ∷ text) (b ∷ bytes) ≡ Some place = grind (arith, nat_tests, common_steps, other) in let f : Some place ≡ None = sym e ∙ none in cc

tests_passed : (c d e : Bool) (p q r : ℕ) (h found : Header) → (if c then Err p else if d then Err q else if e then Err r else Ok h) ≡ Ok found → (c ≡ false) × (d ≡ false) × (e ≡ false) × (h ≡ found)
tests_passed true d e p q r h found is = absurd cc
tests_passed false true e p q r h found is = absurd cc
tests_passed false false true p q r h found is = absurd cc
tests_passed false false false p q r h found is = (refl, refl, refl, cc)

-- a header whose tests passed
pub record Tested (len : ℕ) (bytes : List ℕ) (h : Header) : Type 0 where
  pub long : 512 ≤ len
  pub some : 1 ≤ get_or bytes 8 0
  pub least : 1792 ≤ area_in bytes
  pub most : area_in bytes ≤ 2 ^ 38
  pub header_is : header_in bytes ≡ h

bounds : (len l area : ℕ) → (nat_lt 8 len && (l == 0)) ≡ false → nat_lt len 512 ≡ false → (nat_lt area 1792 || nat_lt (2 ^ 38) area) ≡ false → (512 ≤ len) × (1 ≤ l) × (1792 ≤ area) × (area ≤ 2 ^ 38)
bounds len l area c d e = (grind (arith, nat_tests, common_steps), grind (arith, nat_tests, common_steps), grind (arith, nat_tests, common_steps), grind (arith, nat_tests, common_steps))

tested : (len : ℕ) (bytes : List ℕ) (h : Header) → sizes_tested len bytes ≡ Ok h → Tested len bytes h
tested len bytes h is =
    let t = tests_passed _ _ _ 8 len (9 + get_or bytes 8 0) (header_in bytes) h is in
    let b = bounds len (get_or bytes 8 0) (area_in bytes) t.0 t.1 t.2 in
    record { long = b.0; some = b.1; least = b.2; most = b.3; header_is = t.3 }

header_tested : (len : ℕ) (bytes : List ℕ) (h : Header) → header_of len bytes ≡ Ok h → (first_difference 0 (1 ∷ mark) bytes ≡ None) × Tested len bytes h
header_tested len bytes h is = elim (option_cases (first_difference 0 (1 ∷ mark) bytes)) [
  | inl none ↦ (none, tested len bytes h (sym (ap (λ o. unless_differs o (sizes_tested len bytes)) none) ∙ is))
  | inr some ↦ absurd (let e : ◌≡◌ {A = Result Header ℕ} (Err some.0) (Ok h) = sym (ap (λ o. unless_differs o (sizes_tested len bytes)) some.1) ∙ is in cc)
]

-- the front of a header, as it stands
front_stands : (bytes : List ℕ) → AreBytes bytes → take 8 bytes ≡ 1 ∷ mark → 512 ≤ length bytes → length (take (get_or bytes 8 0) (drop 9 bytes)) ≡ get_or bytes 8 0 → bytes ≡ (1 ∷ named (header_in bytes).label (header_in bytes).area ++ (header_in bytes).selector ∷ []) ++ drop (18 + get_or bytes 8 0) bytes
front_stands bytes are mark_is long size =
    let l : ℕ = get_or bytes 8 0 in
    let few : l < 256 = are 8 in
    let label : List ℕ = take l (drop 9 bytes) in
    let y : List ℕ = drop (9 + l) bytes in
    let be : List ℕ = take 8 y in
    let rest : List ℕ = drop (18 + l) bytes in
    let be_is : to_be_bytes w64 (area_in bytes) ≡ be = be_bytes_8 be (area_in bytes) (length-take-le 8 y (omega (arith, length-drop (9 + l) bytes, few, long))) (bytes_take y 8 (bytes_drop bytes (9 + l) are)) refl in
    let s : ℕ = get_or bytes (17 + l) 0 in
    let place : 9 + l + 8 ≡ 17 + l = omega arith in
    let behind : drop 8 y ≡ s ∷ rest = drop-drop 8 (9 + l) bytes ∙ ap (λ k. drop k bytes) place ∙ drop_more bytes (17 + l) 0 (omega (arith, few, long)) ∙ (let e : 17 + l + 1 ≡ 18 + l = omega arith in ap (λ k. s ∷ drop k bytes) e) in
    let y_is : y ≡ to_be_bytes w64 (area_in bytes) ++ s ∷ rest = sym (take-append-drop 8 y) ∙ ap (λ (m : List ℕ). m ++ drop 8 y) (sym be_is) ∙ ap (λ (m : List ℕ). to_be_bytes w64 (area_in bytes) ++ m) behind in
    let nine : drop 9 bytes ≡ label ++ (to_be_bytes w64 (area_in bytes) ++ s ∷ rest) = sym (take-append-drop l (drop 9 bytes)) ∙ ap (λ (m : List ℕ). label ++ m) (drop-drop l 9 bytes ∙ y_is) in
    let eight : drop 8 bytes ≡ l ∷ (label ++ (to_be_bytes w64 (area_in bytes) ++ s ∷ rest)) = drop_more bytes 8 0 (omega (arith, long)) ∙ ap (λ (m : List ℕ). l ∷ m) nine in
    let whole : bytes ≡ (1 ∷ mark) ++ (l ∷ (label ++ (to_be_bytes w64 (area_in bytes) ++ s ∷ rest))) = sym (take-append-drop 8 bytes) ∙ ap (λ (m : List ℕ). m ++ drop 8 bytes) mark_is ∙ ap (λ (m : List ℕ). (1 ∷ mark) ++ m) eight in
    let flat : ((label ++ to_be_bytes w64 (area_in bytes)) ++ s ∷ []) ++ rest ≡ label ++ (to_be_bytes w64 (area_in bytes) ++ s ∷ rest) = append_assoc (label ++ to_be_bytes w64 (area_in bytes)) (s ∷ []) rest ∙ append_assoc label (to_be_bytes w64 (area_in bytes)) (s ∷ rest) in
    whole ∙ ap (λ k. (1 ∷ mark) ++ (k ∷ (label ++ (to_be_bytes w64 (area_in bytes) ++ s ∷ rest)))) (sym size) ∙ ap (λ (m : List ℕ). (1 ∷ mark) ++ (length label ∷ m)) (sym flat)

-- what a header that was read tells of the bytes
pub record HeaderStands (bytes : List ℕ) (h : Header) : Type 0 where
  pub label_size : IsLabel h.label
  pub area_size : IsAreaSize h.area
  pub long : 512 ≤ length bytes
  pub front : HoldsAt bytes 0 (1 ∷ named h.label h.area ++ h.selector ∷ [])

stands_as_it_is : (len : ℕ) (bytes : List ℕ) → AreBytes bytes → 512 ≤ length bytes → first_difference 0 (1 ∷ mark) bytes ≡ None → (h : Header) → Tested len bytes h → HeaderStands bytes (header_in bytes)
stands_as_it_is len bytes are long none h t =
    let few : get_or bytes 8 0 < 256 = are 8 in
    let size : length (take (get_or bytes 8 0) (drop 9 bytes)) ≡ get_or bytes 8 0 = length-take-le (get_or bytes 8 0) (drop 9 bytes) (omega (arith, length-drop 9 bytes, few, long)) in
    let text : List ℕ = 1 ∷ named (header_in bytes).label (header_in bytes).area ++ (header_in bytes).selector ∷ [] in
    let whole : bytes ≡ text ++ drop (18 + get_or bytes 8 0) bytes = front_stands bytes are (no_difference 0 (1 ∷ mark) bytes none (omega (arith, long))) long size in
    record {
      label_size = (omega (arith, size, t.some), omega (arith, size, few));
      area_size = (t.least, t.most);
      long = long;
      front = ap (λ (l : List ℕ). take (length text) l) whole ∙ take_at text (drop (18 + get_or bytes 8 0) bytes) (length text) refl;
    }

pub header_stands : (len : ℕ) (bytes : List ℕ) (h : Header) → AreBytes bytes → 512 ≤ length bytes → header_of len bytes ≡ Ok h → HeaderStands bytes h
header_stands len bytes h are long is =
    let t = header_tested len bytes h is in
    subst (λ (x : Header). HeaderStands bytes x) t.1.header_is (stands_as_it_is len bytes are long t.0 h t.1)

-- what an area that was read tells of its bytes
pub record AreaStands (start : ℕ) (bytes : List ℕ) (live : Area) : Type 0 where
  pub gate : ℕ
  pub more : List ℕ
  pub shut : gate ≢ 1
  pub form_known : IsForm live.form
  pub sizes : AreRecords (contents live.records)
  pub text : bytes ≡ live.form ∷ (blocks (contents live.records) ++ gate ∷ more)
  pub items : live.records ≡ placed (start + 1) (contents live.records)
  pub end : live.end ≡ start + 1 + blocks_size (contents live.records)

area_is : (x y : Area) → ◌≡◌ {A = Result Area ℕ} (Ok x) (Ok y) → x ≡ y
area_is x y is = cc

area_found : (start form : ℕ) (rest : List ℕ) (live : Area) → IsForm form → AreBytes rest → with_form form (records_from 0 (start + 1) rest) ≡ Ok live → AreaStands start (form ∷ rest) live
area_found start form rest live known are is = elim (result_cases (records_from 0 (start + 1) rest)) [
  | inl bad ↦ absurd (let e = rw bad.1 at is in cc)
  | inr good ↦ subst (λ (x : Area). AreaStands start (form ∷ rest) x) (area_is (record { form = form; records = good.0.items; end = good.0.end }) live (sym (ap (λ r. with_form form r) good.1) ∙ is)) (made good.0 good.1)
]
  where
    made : (read : Records) → records_from 0 (start + 1) rest ≡ Ok read → AreaStands start (form ∷ rest) (record { form = form; records = read.items; end = read.end })
    made read e =
        let f = found_records 0 (start + 1) rest read are e in
        let k : start + 1 + 0 ≡ start + 1 = omega arith in
        record { gate = f.gate; more = f.more; shut = f.shut; form_known = known; sizes = f.sizes; text = ap (λ (l : List ℕ). form ∷ l) f.text; items = f.items ∙ ap (λ p. placed p (contents read.items)) k; end = omega (arith, f.end) }

unknown : (start form : ℕ) (found : Result Area ℕ) (live : Area) → form ≢ 1 → form ≢ 2 → (if form == 1 || form == 2 then found else Err start) ≡ Ok live → ⊥
unknown start form found live one two is = let e : (if form == 1 || form == 2 then found else Err start) ≡ Err start = grind (arith, nat_tests, common_steps) in let f : ◌≡◌ {A = Result Area ℕ} (Err start) (Ok live) = sym e ∙ is in cc

pub area_stands : (len start : ℕ) (bytes : List ℕ) (live : Area) → AreBytes bytes → area_of len start bytes ≡ Ok live → AreaStands start bytes live
area_stands len start [] live are is = absurd cc
area_stands len start (form ∷ rest) live are is = elim (cases_eq form 1) [
  | inl one ↦ area_found start form rest live (inl one) (λ i. are (suc i)) (subst (λ k. with_form k (records_from 0 (start + 1) rest) ≡ Ok live) (sym one) (subst (λ k. area_of len start (k ∷ rest) ≡ Ok live) one is))
  | inr not_one ↦ elim (cases_eq form 2) [
    | inl two ↦ area_found start form rest live (inr two) (λ i. are (suc i)) (subst (λ k. with_form k (records_from 0 (start + 1) rest) ≡ Ok live) (sym two) (subst (λ k. area_of len start (k ∷ rest) ≡ Ok live) two is))
    | inr not_two ↦ absurd (unknown start form (with_form form (records_from 0 (start + 1) rest)) live not_one not_two is)
  ]
]

-- a text that begins what was taken stands there, within it
pub held_within : (xs text more : List ℕ) (n : ℕ) → take n xs ≡ text ++ more → (take (length text) xs ≡ text) × (length text ≤ n)
held_within xs text more n is =
    let size : length (take n xs) ≡ length text + length more = ap length is ∙ length-append text more in
    let le : length text ≤ n = omega (arith, size, length-take n xs) in (
      sym (take-take (length text) n xs le) ∙ ap (λ (l : List ℕ). take (length text) l) is ∙ take_at text more (length text) refl,
      le,
    )

-- both together
pub record Stands (bytes : List ℕ) (read : Image) : Type 0 where
  pub image : IsImage read.header.label read.header.area read.live.form (contents read.live.records) bytes
  pub selector : image.selector ≡ read.header.selector
  pub items : read.live.records ≡ placed (start_of read.header + 1) (contents read.live.records)

pub both_stand : (bytes : List ℕ) (h : Header) (live : Area) → HeaderStands bytes h → AreaStands (start_of h) (live_bytes h bytes) live → Stands bytes (record { header = h; live = live })
both_stand bytes h live hs la =
    let text : List ℕ = area_text live.form (contents live.records) la.gate in
    let flat : live.form ∷ (blocks (contents live.records) ++ la.gate ∷ la.more) ≡ text ++ la.more = ap (λ (l : List ℕ). live.form ∷ l) (sym (append_assoc (blocks (contents live.records)) (la.gate ∷ []) la.more)) in
    let held = held_within (drop (start_of h) bytes) text la.more h.area (la.text ∙ flat) in
    let size : length text ≡ 2 + blocks_size (contents live.records) = omega (arith, length-append (blocks (contents live.records)) (la.gate ∷ []), length-blocks (contents live.records)) in
    record {
      image = record {
        selector = h.selector;
        gate = la.gate;
        label_size = hs.label_size;
        area_size = hs.area_size;
        form_known = la.form_known;
        record_sizes = la.sizes;
        header = hs.long;
        front = hs.front;
        live = held.0;
        shut = la.shut;
        within = omega (arith, size, held.1);
      };
      selector = refl;
      items = la.items;
    }

pub image_is : (x y : Image) → ◌≡◌ {A = Result Image ℕ} (Ok x) (Ok y) → x ≡ y
image_is x y is = cc

stands_below : (bytes : List ℕ) (h : Header) (read : Image) → AreBytes bytes → HeaderStands bytes h → with_header h (area_of (length bytes) (start_of h) (live_bytes h bytes)) ≡ Ok read → Stands bytes read
stands_below bytes h read are hs is = elim (result_cases (area_of (length bytes) (start_of h) (live_bytes h bytes))) [
  | inl bad ↦ absurd (let e : ◌≡◌ {A = Result Image ℕ} (Err bad.0) (Ok read) = sym (ap (λ r. with_header h r) bad.1) ∙ is in cc)
  | inr good ↦ subst (λ (x : Image). Stands bytes x) (image_is (record { header = h; live = good.0 }) read (sym (ap (λ r. with_header h r) good.1) ∙ is)) (both_stand bytes h good.0 hs (area_stands (length bytes) (start_of h) (live_bytes h bytes) good.0 (bytes_take (drop (start_of h) bytes) h.area (bytes_drop bytes (start_of h) are)) good.1))
]

pub image_stands : (bytes : List ℕ) (read : Image) → AreBytes bytes → image_of bytes ≡ Ok read → Stands bytes read
image_stands bytes read are is = elim (result_cases (header_of (length bytes) bytes)) [
  | inl bad ↦ absurd (let e : ◌≡◌ {A = Result Image ℕ} (Err bad.0) (Ok read) = sym (ap (λ r. image_below r bytes) bad.1) ∙ is in cc)
  | inr good ↦ stands_below bytes good.0 read are (header_stands (length bytes) bytes good.0 are (header_tested (length bytes) bytes good.0 good.1).1.long good.1) (sym (ap (λ r. image_below r bytes) good.1) ∙ is)
]

-- an area that was read ends within its bytes
pub area_within : (len start : ℕ) (bytes : List ℕ) (live : Area) → AreBytes bytes → area_of len start bytes ≡ Ok live → (start < live.end) × (live.end < start + length bytes)
area_within len start bytes live are is =
    let a = area_stands len start bytes live are is in
    let size : length bytes ≡ 1 + (blocks_size (contents live.records) + (1 + length a.more)) = omega (arith, ap length a.text, length-append (blocks (contents live.records)) (a.gate ∷ a.more), length-blocks (contents live.records)) in
    (omega (arith, a.end), omega (arith, a.end, size))

-- a header that was read has its sizes
pub header_sizes : (len : ℕ) (bytes : List ℕ) (h : Header) → AreBytes bytes → 512 ≤ len → min len 512 ≤ length bytes → header_of len bytes ≡ Ok h → IsLabel h.label × IsAreaSize h.area
header_sizes len bytes h are long whole is =
    let t = (header_tested len bytes h is).1 in
    let few : get_or bytes 8 0 < 256 = are 8 in
    let size : length (take (get_or bytes 8 0) (drop 9 bytes)) ≡ get_or bytes 8 0 = length-take-le (get_or bytes 8 0) (drop 9 bytes) (omega (arith, length-drop 9 bytes, few, long, whole)) in
    subst (λ (x : Header). IsLabel x.label × IsAreaSize x.area) t.header_is ((omega (arith, size, t.some), omega (arith, size, few)), (t.least, t.most))

pub header_long : (len : ℕ) (bytes : List ℕ) (h : Header) → header_of len bytes ≡ Ok h → 512 ≤ len
header_long len bytes h is = (header_tested len bytes h is).1.long

difference_front : (place n : ℕ) (text bytes : List ℕ) → length text ≤ n → first_difference place text (take n bytes) ≡ first_difference place text bytes
difference_front place n [] bytes le = refl
difference_front place zero (t ∷ text) bytes le = absurd (omega (arith, le))
difference_front place (suc n) (t ∷ text) [] le = refl
difference_front place (suc n) (t ∷ text) (b ∷ bytes) le = ap (λ o. if b == t then o else Some place) (difference_front (place + 1) n text bytes (omega (arith, le)))

part_of_front : (i k n : ℕ) (bytes : List ℕ) → i + k ≤ n → take k (drop i (take n bytes)) ≡ take k (drop i bytes)
part_of_front i k n bytes le = sym (drop-take i k (take n bytes)) ∙ ap (λ (l : List ℕ). drop i l) (take-take (i + k) n bytes le) ∙ drop-take i k bytes

-- a header is told by the first bytes of a file
pub header_of_front : (len n : ℕ) (bytes : List ℕ) → get_or bytes 8 0 < 256 → 512 ≤ n → header_of len (take n bytes) ≡ header_of len bytes
header_of_front len n bytes few many =
    let front : List ℕ = take n bytes in
    let l : ℕ = get_or bytes 8 0 in
    let l_is : get_or front 8 0 ≡ l = get_or-take n bytes 8 0 (omega (arith, many)) in
    let area_is : area_in front ≡ area_in bytes = ap (λ k. from_be_bytes w64 (take 8 (drop (9 + k) front))) l_is ∙ ap (λ (x : List ℕ). from_be_bytes w64 x) (part_of_front (9 + l) 8 n bytes (omega (arith, few, many))) in
    let label_is : take (get_or front 8 0) (drop 9 front) ≡ take l (drop 9 bytes) = ap (λ k. take k (drop 9 front)) l_is ∙ part_of_front 9 l n bytes (omega (arith, few, many)) in
    let selector_is : get_or front (17 + get_or front 8 0) 0 ≡ get_or bytes (17 + l) 0 = ap (λ k. get_or front (17 + k) 0) l_is ∙ get_or-take n bytes (17 + l) 0 (omega (arith, few, many)) in
    same_header len _ _ (get_or front 8 0) l (area_in front) (area_in bytes) (take (get_or front 8 0) (drop 9 front)) (take l (drop 9 bytes)) (get_or front (17 + get_or front 8 0) 0) (get_or bytes (17 + l) 0) (difference_front 0 n (1 ∷ mark) bytes (omega (arith, many))) l_is area_is label_is selector_is
  where
    same_header : (len : ℕ) (d d2 : Option ℕ) (l l2 a a2 : ℕ) (t t2 : List ℕ) (s s2 : ℕ) → d ≡ d2 → l ≡ l2 → a ≡ a2 → t ≡ t2 → s ≡ s2 → unless_differs d (if nat_lt 8 len && (l == 0) then Err 8 else if nat_lt len 512 then Err len else if nat_lt a 1792 || nat_lt (2 ^ 38) a then Err (9 + l) else Ok (record { label = t; area = a; selector = s })) ≡ unless_differs d2 (if nat_lt 8 len && (l2 == 0) then Err 8 else if nat_lt len 512 then Err len else if nat_lt a2 1792 || nat_lt (2 ^ 38) a2 then Err (9 + l2) else Ok (record { label = t2; area = a2; selector = s2 }))
    same_header len d d2 l l2 a a2 t t2 s s2 ed el ea et es = rw (ed, el, ea, et, es) refl
