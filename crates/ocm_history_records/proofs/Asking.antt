-- An ask with a spelling is proper.
use Rattle.std.proofs.Common.{◌≡◌, ℕ, List, [], ◌∷◌, length, true, false, refl, sym, arith, Option, Some, None}
use Rattle.std.specs.Prelude.{nat_le, IfSome}
use Rattle.std.proofs.lemmas.Bool.{and_from}
use Rattle.std.proofs.lemmas.Bool.Decides.{nat_tests}
use Rattle.ocm_entry.specs.declared.asks.Ask.{Ask}
use Rattle.ocm_entry.specs.declared.asks.Ask.TheVariants as asks
use Rattle.ocm_entry.specs.declared.asks.Cmd.TheVariants as commands
use Rattle.ocm_entry.specs.declared.asks.Method.{Method}
use Rattle.ocm_entry.specs.declared.asks.Method.TheVariants as methods
use Rattle.ocm_entry.specs.Proper.{is_body_of, is_proper, is_short}
use Rattle.ocm_entry_bytes.specs.Spells.{AreBytes, has_kept_body, has_spelling}
use Rattle.ocm_entry_bytes.proofs.Whole.{has_spelling-fits}
use Rattle.ocm_rules.proofs.Lists.{both_pass}
use Rattle.ocm_journal_records.specs.declared.stamps.Stamped.{Stamped}
use Rattle.ocm_journal_records.specs.declared.stamps.Stamped.TheVariants as stamps
use Rattle.ocm_journal_records.specs.Stamps.{stamped_of}
use Rattle.ocm_law_sessions.proofs.Spelling.{FitsStamped, stamped-fits}
use Rattle.ocm_history_records.specs.Asking.{HasProperAsk}

body-taken : (method : Method) (body : List ℕ) → has_kept_body method body ≡ true → is_body_of method body ≡ true
body-taken method [] h = refl
body-taken methods.Put (b ∷ bytes) h = refl
body-taken methods.Mkcol (b ∷ bytes) h = refl
body-taken methods.Delete (b ∷ bytes) h = let never : nat_le (length (b ∷ bytes)) 0 ≡ false = grind (arith, nat_tests) in absurd (cc)
body-taken methods.Get (b ∷ bytes) h = absurd (cc)
body-taken methods.Head (b ∷ bytes) h = absurd (cc)
body-taken methods.List0 (b ∷ bytes) h = absurd (cc)
body-taken methods.List1 (b ∷ bytes) h = absurd (cc)

pub spelled-proper : (ask : Ask) → has_spelling ask ≡ true → is_proper ask ≡ true
spelled-proper (asks.Local key (commands.Share path with perms fresh)) h = h
spelled-proper (asks.Local key _) h = refl
spelled-proper (asks.Dav secret method path body) h =
    let parts = both_pass (is_short path) (has_kept_body method body) h in
    and_from (is_body_of method body) (is_short path) (body-taken method body parts.1) parts.0
spelled-proper (asks.Carry secret from to moving overwrite) h = h
spelled-proper _ h = refl

proper-said : (said : Stamped) → FitsStamped said → HasProperAsk said
proper-said (stamps.Bare ask) fits = spelled-proper ask (has_spelling-fits ask fits)
proper-said (stamps.Moment clock) fits = tt
proper-said (stamps.Timed clock ask) fits = spelled-proper ask (has_spelling-fits ask fits.1)

-- the ask that a record says is proper
pub proper-stamped : (form : ℕ) (bytes : List ℕ) (said : Stamped) → AreBytes bytes → stamped_of form bytes ≡ Some said → HasProperAsk said
proper-stamped form bytes said are is = proper-said said (stamped-fits form bytes said are is)

pub proper-read : (form : ℕ) (bytes : List ℕ) (said : Option Stamped) → AreBytes bytes → said ≡ stamped_of form bytes → IfSome said HasProperAsk
proper-read form bytes None are is = tt
proper-read form bytes (Some said) are is = proper-stamped form bytes said are (sym is)
