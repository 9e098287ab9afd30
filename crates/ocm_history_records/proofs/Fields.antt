-- How long fields of a record are, and what lies before the body of a PUT.
use Rattle.std.proofs.Common.{◌≡◌, ◌==◌, ℕ, ◌+◌, ◌-◌, ◌≤◌, List, ◌++◌, length, take, Bool, true, false, refl, ap, ◌∙◌, arith}
use Rattle.std.specs.Prelude.{if◌then◌else◌}
use Rattle.std.proofs.lemmas.List.{length-append}
use Rattle.std.proofs.Math.Seq.{take-append_seam}
use Rattle.ocm_entry.specs.declared.asks.Ask.{Ask}
use Rattle.ocm_entry_bytes.specs.Spells.{Fits, counted, eight_bytes, four_bytes, spelling}
use Rattle.ocm_entry_bytes.proofs.Lengths.{spelled_len}
use Rattle.ocm_entry.specs.Ticks.{is_tick}
use Rattle.ocm_law_sessions.specs.Written.{stamp}

four-long : (n : ℕ) → length (four_bytes n) ≡ 4
unfolding four_bytes
four-long n = refl

pub eight-long : (n : ℕ) → length (eight_bytes n) ≡ 8
unfolding eight_bytes
eight-long n = refl

pub counted-long : (body : List ℕ) → length (counted body) ≡ 4 + length body
unfolding counted
counted-long body = let both = length-append (four_bytes (length body)) body in let four = four-long (length body) in omega arith

-- what lies before a counted body is all but its last bytes
pub front-taken : (text front bytes : List ℕ) (body n : ℕ) → text ≡ front ++ counted bytes → body ≡ length bytes → n ≡ (length text - 4) - body → take n text ≡ front
front-taken text front bytes body n is len places =
    let both = length-append front (counted bytes) in
    let long = counted-long bytes in
    let whole = ap length is in
    let seam : n ≡ length front = omega arith in
    ap (λ m. take m text) seam ∙ ap (take (length front)) is ∙ take-append_seam front (counted bytes)

-- ---- records in form 2

pub stamp-tick : (clock : ℕ) (ask : Ask) → is_tick ask ≡ true → stamp clock ask ≡ eight_bytes clock
stamp-tick clock ask is = ap (λ b. if b then eight_bytes clock else eight_bytes clock ++ spelling ask) is

pub stamp-other : (clock : ℕ) (ask : Ask) → is_tick ask ≡ false → stamp clock ask ≡ eight_bytes clock ++ spelling ask
stamp-other clock ask is = ap (λ b. if b then eight_bytes clock else eight_bytes clock ++ spelling ask) is

-- a journal takes a record of so many bytes
abbrev pub IsLength : List ℕ → Type 0
IsLength bytes = (1 ≤ length bytes) × (length bytes ≤ 2097152)

-- the record of an ask with a spelling is one that a journal takes
pub draft-length : (form clock : ℕ) (ask : Ask) → Fits ask → IsLength (if form == 1 then spelling ask else stamp clock ask)
draft-length form clock ask fits = by_tests (form == 1) (is_tick ask)
  where
    by_tests : (a b : Bool) → IsLength (if a then spelling ask else (if b then eight_bytes clock else eight_bytes clock ++ spelling ask))
    by_tests true b = let len = spelled_len ask (spelling ask) (record { fits = fits; text = refl }) in (omega (arith, len.0), omega (arith, len.1))
    by_tests false true = let len = eight-long clock in (omega arith, omega arith)
    by_tests false false =
        let len = spelled_len ask (spelling ask) (record { fits = fits; text = refl }) in
        let eight = eight-long clock in
        let both = length-append (eight_bytes clock) (spelling ask) in
        (omega arith, omega (arith, len.1))
