-- The host of a label.
use Rattle.std.proofs.Common.{◌≡◌, ℕ, List, Bool, true, false, ◌&&◌, refl, sym, ap, ◌∙◌, Option, Some, None, Result, Ok, Err}
use Rattle.std.specs.Prelude.{IfOk, if◌then◌else◌, is_some}
use Rattle.std.specs.Str.{is_utf8}
use Rattle.ocm_types.specs.Hosts.{canonical_host_of}
use Rattle.ocm_types.proofs.HostReading.{canonical_host_of-is}
use Rattle.ocm_journal_audit.specs.Audits.{is_own_host}

-- the host whose own text a label is
abbrev pub IsHostOf : List ℕ → Option (List ℕ) → Type 0
IsHostOf label host = host ≡ (if is_own_host label then Some label else None)

pub own-host : (label : List ℕ) → is_utf8 label ≡ true → canonical_host_of label ≡ (if is_own_host label then Some label else None)
own-host label utf8 = by_host (canonical_host_of label) refl ∙ ap (λ b. if b && is_some (canonical_host_of label) then Some label else None) (sym utf8)
  where
    by_host : (o : Option (List ℕ)) → canonical_host_of label ≡ o → o ≡ (if is_some o then Some label else None)
    by_host None is = refl
    by_host (Some host) is = ap (λ h. Some h) (canonical_host_of-is label host is).0

pub foreign-host : (label : List ℕ) → is_utf8 label ≡ false → None ≡ (if is_own_host label then Some label else None)
foreign-host label other = ap (λ b. if b && is_some (canonical_host_of label) then Some label else None) (sym other)

-- the host that was found is that of the label
pub host-is : (label slice : List ℕ) (host : Option (List ℕ)) (found : List ℕ) → slice ≡ label → IsHostOf slice host → host ≡ Some found → (is_own_host label ≡ true) × (found ≡ label)
host-is label slice host found same is some = by_test (is_own_host label) refl (sym some ∙ is ∙ ap (λ l. if is_own_host l then Some l else None) same)
  where
    by_test : (b : Bool) → is_own_host label ≡ b → Some found ≡ (if b then Some label else None) → (is_own_host label ≡ true) × (found ≡ label)
    by_test true own h = let same_host : found ≡ label = cc in (own, same_host)
    by_test false foreign h = absurd (cc)

-- where none was found, the label is no host's
pub host-none : (label slice : List ℕ) (host : Option (List ℕ)) → slice ≡ label → IsHostOf slice host → host ≡ None → is_own_host label ≡ false
host-none label slice host same is none = by_test (is_own_host label) refl (sym none ∙ is ∙ ap (λ l. if is_own_host l then Some l else None) same)
  where
    by_test : (b : Bool) → is_own_host label ≡ b → None ≡ (if b then Some label else None) → is_own_host label ≡ false
    by_test true own h = absurd (cc)
    by_test false foreign h = foreign

-- whether one was found tells whether the label is a host's
pub found-tells : (label : List ℕ) → is_some (if is_own_host label then Some label else None) ≡ is_own_host label
found-tells label = by_test (is_own_host label)
  where
    by_test : (b : Bool) → is_some (if b then Some label else None) ≡ b
    by_test true = refl
    by_test false = refl

pub if-ok-of : {A E : Type 0} (r : Result A E) (P Q : A → Type 0) → ((a : A) → P a → Q a) → IfOk r P → IfOk r Q
if-ok-of (Ok a) P Q step holds = step a holds
if-ok-of (Err e) P Q step holds = tt
