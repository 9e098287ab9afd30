-- What is answered of a destination.
use Rattle.std.proofs.Common.{◌≡◌, ◌≢◌, ℕ, false, List, None, Result, Ok, Err, refl, sym, ap, ◌∙◌}
use Rattle.std.specs.Prelude.{IfOk, IfErr}
use Rattle.std.specs.Str.{IsUtf8}
use Rattle.std.proofs.lemmas.Bool.{cond-true, cond-false, false_from_ne_true}
use Rattle.std.proofs.lemmas.Str.{is_utf8-from_IsUtf8, IsUtf8-from_is_utf8}
use Rattle.url.specs.Parser.{parse_url}
use Rattle.ocm_path.specs.Paths.{Segments}
use Rattle.ocm_davmore.specs.declared.faults.DestinationFault.{DestinationFault}
use Rattle.ocm_davmore.specs.declared.faults.DestinationFault.TheVariants.{OtherServer, BadPath, NoMemory}
use Rattle.ocm_davmore.specs.Destinations.{text_destination, fault_without_text, destination_of, is_own_origin, is_own_read, Gives}

-- a value that is a text is read as it
pub destination-text : (ours value text : List ℕ) → text ≡ value → IsUtf8 value → text_destination ours text ≡ destination_of ours value
destination-text ours value text same utf8 =
    ap (text_destination ours) same ∙ sym (cond-true _ _ _ (is_utf8-from_IsUtf8 value utf8))

-- a value that is none is refused by its first bytes
pub destination-no_text : (ours value : List ℕ) → ¬ IsUtf8 value → destination_of ours value ≡ Err (fault_without_text value)
destination-no_text ours value none =
    cond-false _ _ _ (false_from_ne_true _ (λ e. none (IsUtf8-from_is_utf8 value e)))

-- an origin that is a text is read as it
pub origin-text : (ours value text : List ℕ) → text ≡ value → IsUtf8 value → is_own_read ours (parse_url None text) ≡ is_own_origin ours value
origin-text ours value text same utf8 =
    ap (λ t. is_own_read ours (parse_url None t)) same ∙ sym (cond-true _ _ _ (is_utf8-from_IsUtf8 value utf8))

-- one that is none is not ours
pub origin-no_text : (ours value : List ℕ) → ¬ IsUtf8 value → false ≡ is_own_origin ours value
origin-no_text ours value none =
    sym (cond-false _ _ _ (false_from_ne_true _ (λ e. none (IsUtf8-from_is_utf8 value e))))

-- what a path that was answered was read from
pub ok_of : (answer read given : Result Segments DestinationFault) → read ≡ given → Gives answer read → IfOk answer (λ path. given ≡ Ok path)
ok_of (Ok path) read given same g = sym same ∙ g.0
ok_of (Err fault) read given same g = tt

-- and a fault other than want of memory
pub err_of : (answer read given : Result Segments DestinationFault) → read ≡ given → Gives answer read → IfErr answer (λ fault. fault ≢ NoMemory → given ≡ Err fault)
err_of (Ok path) read given same g = tt
err_of (Err OtherServer) read given same g = λ _. sym same ∙ g
err_of (Err (BadPath fault)) read given same g = λ _. sym same ∙ g.1
err_of (Err NoMemory) read given same g = λ other. absurd (other refl)
