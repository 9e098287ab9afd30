-- How long records are.
use Rattle.std.proofs.Common.{◌≡◌, ℕ, ◌+◌, ◌≤◌, ◌==◌, List, [], ◌∷◌, ◌++◌, length, Bool, true, false, refl, arith}
use Rattle.std.specs.Prelude.{if◌then◌else◌}
use Rattle.std.proofs.lemmas.List.{length-append}
use Rattle.ocm_entry.specs.declared.asks.Ask.{Ask}
use Rattle.ocm_entry.specs.declared.entries.Entry.{Entry}
use Rattle.ocm_entry_bytes.specs.Spells.{eight_bytes, spelling, Fits}
use Rattle.ocm_entry_bytes.proofs.Lengths.{spelled_len}
use Rattle.ocm_journal_image.specs.Layout.{AreRecords, blocks_size}
use Rattle.ocm_rules.specs.Shares.{moment}
use Rattle.ocm_entry.specs.Ticks.{is_tick}
use Rattle.ocm_law_sessions.specs.Written.{record_of, ask_records, records_of, IsSpelled, asks_size, ends_with_tick}

-- a record has so many bytes
abbrev IsLength : List ℕ → Type 0
IsLength bytes = (1 ≤ length bytes) × (length bytes ≤ 2097152)

spelling-length : (ask : Ask) → Fits ask → IsLength (spelling ask)
spelling-length ask fits = let len = spelled_len ask (spelling ask) (record { fits = fits; text = refl }) in (omega (arith, len.0), omega (arith, len.1))

alone-length : (clock : ℕ) → IsLength (eight_bytes clock)
unfolding eight_bytes
alone-length clock = (omega arith, omega arith)

behind-length : (clock : ℕ) (ask : Ask) → Fits ask → IsLength (eight_bytes clock ++ spelling ask)
unfolding eight_bytes
behind-length clock ask fits =
    let len = spelled_len ask (spelling ask) (record { fits = fits; text = refl }) in
    let both = length-append (eight_bytes clock) (spelling ask) in
    (omega (arith, both, len.0), omega (arith, both, len.1))

pub record-length : (form : ℕ) (k : List Entry) (e : Entry) → Fits e.ask → (1 ≤ length (record_of form k e)) × (length (record_of form k e) ≤ 2097152)
unfolding record_of
record-length form k e fits = by_tests (form == 1) (is_tick e.ask)
  where
    by_tests : (a b : Bool) → IsLength (if a then spelling e.ask else (if b then eight_bytes (moment (e ∷ k)) else eight_bytes (moment (e ∷ k)) ++ spelling e.ask))
    by_tests true b = spelling-length e.ask fits
    by_tests false true = alone-length (moment (e ∷ k))
    by_tests false false = behind-length (moment (e ∷ k)) e.ask fits

one_more : (rs : List (List ℕ)) (r : List ℕ) → AreRecords rs → IsLength r → AreRecords (rs ++ r ∷ [])
one_more [] r are len = (len.0, len.1, tt)
one_more (x ∷ rs) r are len = (are.0, are.1, one_more rs r are.2 len)

asks-lengths : (k : List Entry) → IsSpelled k → AreRecords (ask_records k)
asks-lengths [] fits = tt
asks-lengths (e ∷ before) fits = by_test (is_tick e.ask) (asks-lengths before fits.1)
  where
    by_test : (b : Bool) → AreRecords (ask_records before) → AreRecords (if b then ask_records before else ask_records before ++ record_of 2 before e ∷ [])
    by_test true older = older
    by_test false older = one_more (ask_records before) (record_of 2 before e) older (record-length 2 before e fits.0)

pub records-lengths : (k : List Entry) → IsSpelled k → AreRecords (records_of k)
records-lengths [] fits = tt
records-lengths (e ∷ before) fits = one_more (ask_records before) (record_of 2 before e) (asks-lengths before fits.1) (record-length 2 before e fits.0)

-- ---- how much of an area records take

size-more : (rs : List (List ℕ)) (r : List ℕ) → blocks_size (rs ++ r ∷ []) ≡ blocks_size rs + (5 + length r)
size-more [] r = omega arith
size-more (x ∷ rs) r = let older = size-more rs r in omega arith

tick-length : (before : List Entry) (e : Entry) → is_tick e.ask ≡ true → length (record_of 2 before e) ≡ 8
unfolding record_of eight_bytes
tick-length before e is = by_test (is_tick e.ask) is
  where
    by_test : (b : Bool) → b ≡ true → length (if b then eight_bytes (moment (e ∷ before)) else eight_bytes (moment (e ∷ before)) ++ spelling e.ask) ≡ 8
    by_test true h = refl
    by_test false h = absurd (cc)

other-length : (before : List Entry) (e : Entry) → is_tick e.ask ≡ false → length (record_of 2 before e) ≡ 8 + length (spelling e.ask)
unfolding record_of eight_bytes
other-length before e is = by_test (is_tick e.ask) is
  where
    by_test : (b : Bool) → b ≡ false → length (if b then eight_bytes (moment (e ∷ before)) else eight_bytes (moment (e ∷ before)) ++ spelling e.ask) ≡ 8 + length (spelling e.ask)
    by_test true h = absurd (cc)
    by_test false h = length-append (eight_bytes (moment (e ∷ before))) (spelling e.ask)

-- with the record of an entry that is no tick
other-size : (before : List Entry) (e : Entry) → is_tick e.ask ≡ false → blocks_size (ask_records before) ≡ asks_size before → blocks_size (ask_records before ++ record_of 2 before e ∷ []) ≡ asks_size before + (13 + length (spelling e.ask))
other-size before e is older =
    let more = size-more (ask_records before) (record_of 2 before e) in
    let len = other-length before e is in
    omega arith

pub asks-size : (k : List Entry) → blocks_size (ask_records k) ≡ asks_size k
asks-size [] = refl
asks-size (e ∷ before) = by_test (asks-size before) (is_tick e.ask) refl
  where
    by_test : blocks_size (ask_records before) ≡ asks_size before → (b : Bool) → is_tick e.ask ≡ b
        → blocks_size (if b then ask_records before else ask_records before ++ record_of 2 before e ∷ []) ≡ (if b then asks_size before else asks_size before + (13 + length (spelling e.ask)))
    by_test older true is = older
    by_test older false is = other-size before e is older

pub records-size : (k : List Entry) → blocks_size (records_of k) ≡ asks_size k + (if ends_with_tick k then 13 else 0)
records-size [] = refl
records-size (e ∷ before) = by_test (asks-size before) (is_tick e.ask) refl
  where
    by_test : blocks_size (ask_records before) ≡ asks_size before → (b : Bool) → is_tick e.ask ≡ b
        → blocks_size (ask_records before ++ record_of 2 before e ∷ []) ≡ (if b then asks_size before else asks_size before + (13 + length (spelling e.ask))) + (if b then 13 else 0)
    by_test older true is =
        let more = size-more (ask_records before) (record_of 2 before e) in
        let len = tick-length before e is in
        omega arith
    by_test older false is = let size = other-size before e is older in omega arith
