-- Records are read one after another.
use Rattle.std.proofs.Common.{◌≡◌, ◌≤◌, ℕ, zero, suc, ◌+◌, ◌-◌, List, [], ◌∷◌, ◌++◌, length, take, drop, get_or, Some, Result, Ok, Err, refl, sym, ◌∙◌, ap, arith}
use Rattle.std.proofs.lemmas.Grind.{common_steps}
use Rattle.std.proofs.lemmas.List.{take_all}
use Rattle.ocm_journal_image.specs.declared.readings.RawRecord.{RawRecord}
use Rattle.ocm_journal_image.specs.declared.readings.Records.{Records}
use Rattle.ocm_journal_image.specs.Reading.{record_length, records_from, put_first}

-- records before those that were read
abbrev pub put_all : List RawRecord → Result Records ℕ → Result Records ℕ
put_all rs (Ok read) = Ok (record { items = rs ++ read.items; end = read.end })
put_all rs (Err place) = Err place

pub put_none : (read : Result Records ℕ) → put_all [] read ≡ read
put_none (Ok read) = refl
put_none (Err place) = refl

pub put_one_more : (rs : List RawRecord) (r : RawRecord) (read : Result Records ℕ) → put_all (rs ++ r ∷ []) read ≡ put_all rs (put_first r read)
put_one_more rs r (Ok read) = grind (arith, common_steps)
put_one_more rs r (Err place) = refl

pub passes : (passed place : ℕ) (bytes : List ℕ) → passed ≤ length bytes → records_from passed place bytes ≡ records_from 0 (place + passed) (drop passed bytes)
passes zero place bytes le = let e : place ≡ place + 0 = omega arith in ap (λ p. records_from 0 p bytes) e
passes (suc passed) place [] le = absurd (omega (arith, le))
passes (suc passed) place (b ∷ rest) le =
    let e : place + 1 + passed ≡ place + suc passed = omega arith in
    passes passed (place + 1) rest (omega (arith, le)) ∙ ap (λ p. records_from 0 p (drop passed rest)) e

-- where a record stands it is within its bounds
pub length_fits : (bytes : List ℕ) (n : ℕ) → record_length bytes ≡ Some n → (4 + n ≤ length bytes) × (1 ≤ n) × (n ≤ 2097152)
length_fits [] n is = grind (arith, common_steps)
length_fits (a ∷ []) n is = grind (arith, common_steps)
length_fits (a ∷ b ∷ []) n is = grind (arith, common_steps)
length_fits (a ∷ b ∷ c ∷ []) n is = grind (arith, common_steps)
length_fits (a ∷ b ∷ c ∷ d ∷ after) n is = grind (arith, common_steps)

-- a record that stands at its gate is taken, and then what stands behind it
pub record_taken : (place n : ℕ) (after : List ℕ) → record_length after ≡ Some n → records_from 0 place (1 ∷ after) ≡ put_first (record { place = place; bytes = take n (drop 4 after) }) (records_from 0 (place + (5 + n)) (drop (5 + n) (1 ∷ after)))
record_taken place n after is =
    let fits = length_fits after n is in
    let e : place + 1 + (4 + n) ≡ place + (5 + n) = omega arith in
    let behind : suc (4 + n) ≡ 5 + n = omega arith in
    let step : records_from (4 + n) (place + 1) after ≡ records_from 0 (place + (5 + n)) (drop (5 + n) (1 ∷ after)) = passes (4 + n) (place + 1) after fits.0 ∙ ap (λ p. records_from 0 p (drop (4 + n) after)) e ∙ ap (λ k. records_from 0 (place + (5 + n)) (drop k (1 ∷ after))) behind in
    rw is (ap (λ read. put_first (record { place = place; bytes = take n (drop 4 after) }) read) step)

taken_as : (place n g m : ℕ) (after bytes : List ℕ) → g ≡ 1 → bytes ≡ take n (drop 4 after) → m ≡ n → record_length after ≡ Some n → records_from 0 place (g ∷ after) ≡ put_first (record { place = place; bytes = bytes }) (records_from 0 (place + (5 + m)) (drop (5 + m) (g ∷ after)))
taken_as place n g m after bytes gate taken size is = rw (gate, taken, size) (record_taken place n after is)

-- the same in the words of a slice
pub next_is_taken : (place n : ℕ) (rest bytes : List ℕ) → 1 ≤ length rest → get_or rest 0 0 ≡ 1 → Some n ≡ record_length (take (length rest - 1) (drop 1 rest)) → bytes ≡ take (4 + n - 4) (drop 4 (take (length rest - 1) (drop 1 rest))) → (5 + length bytes ≤ length rest) × (bytes ≡ take (length bytes) (drop 5 rest)) × (records_from 0 place rest ≡ put_first (record { place = place; bytes = bytes }) (records_from 0 (place + (5 + length bytes)) (drop (5 + length bytes) rest)))
next_is_taken place n [] bytes some gate is taken = absurd (omega (arith, some))
next_is_taken place n (g ∷ after) bytes some gate is taken =
    let whole : take (length (g ∷ after) - 1) (drop 1 (g ∷ after)) ≡ after = take_all (length (g ∷ after) - 1) after (omega arith) in
    let stands : record_length after ≡ Some n = sym (is ∙ ap record_length whole) in
    let fits = length_fits after n stands in
    let count : 4 + n - 4 ≡ n = omega arith in
    let bytes_are : bytes ≡ take n (drop 4 after) = taken ∙ ap (λ k. take k (drop 4 (take (length (g ∷ after) - 1) (drop 1 (g ∷ after))))) count ∙ ap (λ (l : List ℕ). take n (drop 4 l)) whole in
    let size : length bytes ≡ n = ap length bytes_are ∙ grind (arith, common_steps, fits.0) in (
      omega (arith, size, fits.0),
      bytes_are ∙ ap (λ k. take k (drop 4 after)) (sym size),
      taken_as place n g (length bytes) after bytes gate bytes_are size stands,
    )
