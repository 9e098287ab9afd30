-- Bytes that spell no ask.
use Rattle.std.proofs.Common.{◌≡◌, ◌≢◌, ◌≤◌, ◌==◌, false, nat_lt, List, ℕ, ◌-◌, length, take, drop, arith, Option, Some, None, Result, Ok, Err, IfOk, refl, sym, ◌∙◌, ap}
use Rattle.std.proofs.lemmas.Bool.Decides.{nat_tests}
use Rattle.std.proofs.lemmas.List.{length-drop, take_all}
use Rattle.std.specs.Result.{result_ok}
use Rattle.ocm_texts.specs.declared.failures.NoMemory.{NoMemory}
use Rattle.ocm_entry.specs.declared.asks.Ask.{Ask}
use Rattle.ocm_entry_bytes.specs.declared.entry_faults.EntryFault.{EntryFault}
use Rattle.ocm_entry_bytes.specs.declared.entry_faults.EntryFault.TheVariants as faults
use Rattle.ocm_entry_bytes.specs.Reading.{Fails, ask_of}
use Rattle.ocm_journal_records.specs.Stamps.{moment_in, said_in_second, spelled, timed}
use Rattle.ocm_journal_records.specs.declared.stamps.Stamped.{Stamped}

-- a fault of the bytes
pub result_ok-failed : (fault : EntryFault) (read : Result Ask EntryFault) → Fails fault read → fault ≢ faults.NoMemory → result_ok read ≡ None
result_ok-failed faults.Tag read is known = ap (λ (r : Result Ask EntryFault). result_ok r) is
result_ok-failed faults.Length read is known = ap (λ (r : Result Ask EntryFault). result_ok r) is
result_ok-failed faults.Value read is known = ap (λ (r : Result Ask EntryFault). result_ok r) is
result_ok-failed faults.Rest read is known = ap (λ (r : Result Ask EntryFault). result_ok r) is
result_ok-failed faults.NoMemory read is known = absurd (known refl)

pub spelled-none : (bytes : List ℕ) (fault : EntryFault) (r : Result (Option Ask) NoMemory) → Fails fault (ask_of bytes) → IfOk r (λ ask. (ask ≡ None) × (fault ≢ faults.NoMemory)) → IfOk r (λ ask. ask ≡ spelled bytes)
unfolding spelled
spelled-none bytes fault (Ok ask) is none = none.0 ∙ sym (result_ok-failed fault (ask_of bytes) is none.1)
spelled-none bytes fault (Err e) is none = tt

-- an ask behind a moment
pub said-timed : (bytes : List ℕ) (moment : ℕ) (ask : Ask) (r : Option Stamped) → 8 ≤ length bytes → length bytes ≢ 8 → moment ≡ moment_in bytes → Some ask ≡ spelled (take (length bytes - 8) (drop 8 bytes)) → r ≡ timed moment ask → r ≡ said_in_second bytes
unfolding said_in_second
said-timed bytes moment ask r long other is_moment is_ask is =
    let few : nat_lt (length bytes) 8 ≡ false = grind (arith, nat_tests) in
    let alone : (length bytes == 8) ≡ false = grind (arith, nat_tests) in
    let whole : take (length bytes - 8) (drop 8 bytes) ≡ drop 8 bytes = take_all (length bytes - 8) (drop 8 bytes) (omega (arith, length-drop 8 bytes)) in
    let ask_is : Some ask ≡ spelled (drop 8 bytes) = is_ask ∙ ap (λ (l : List ℕ). spelled l) whole in
    rw (few, alone, ← ask_is) (is ∙ ap (λ n. timed n ask) is_moment)
