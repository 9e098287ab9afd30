-- What is answered where a record has a fault, and where a target is none.
use Rattle.std.proofs.Common.{◌≡◌, ℕ, List, Bool, false, Result, Ok, Err, refl, sym, ap, ◌∙◌, codes}
use Rattle.std.specs.Prelude.{IfOk, IsErr}
use Rattle.std.proofs.lemmas.Bool.{cond-false, false≢true}
use Rattle.ocm_texts.specs.declared.failures.NoMemory.{NoMemory}
use Rattle.ocm_http_heads.specs.declared.fields.Field.{Field}
use Rattle.ocm_records.specs.declared.faults.RecordFault.{RecordFault}
use Rattle.ocm_records.specs.declared.faults.RecordFault.TheVariants as faults
use Rattle.ocm_records.specs.Rows.{Fails}
use Rattle.ocm_davmore.specs.Destinations.{begins_with_slash}
use Rattle.ocm_dav_pages.specs.declared.shapes.Allow.TheVariants.{Dav}
use Rattle.ocm_dav.specs.declared.configs.Config.{Config}
use Rattle.ocm_dav.specs.declared.wants.Wanted.{Wanted}
use Rattle.ocm_dav.specs.Refusals.{told}
use Rattle.ocm_dav.specs.Routes.{target_wanted}
use Rattle.ocm_dav.specs.Shapes.{shape_of}
use Rattle.ocm_dav.proofs.SecretTexts.{same_answer}

-- a record's fault is answered as the fault that the record has, unless memory was wanting
pub of_fault : {Y : Type 0} (answer : Result Wanted NoMemory) (fault : RecordFault) (record_read : Result Y RecordFault) (wanted : Result Y RecordFault → Wanted)
    → (fault ≡ faults.NoMemory → IsErr answer) → Fails fault record_read
    → IfOk answer (λ w. w ≡ wanted (Err fault)) → IfOk answer (λ w. w ≡ wanted record_read)
of_fault (Err failure) fault record_read wanted memory fails e = tt
of_fault (Ok w) faults.NotJson record_read wanted memory fails e = e ∙ ap wanted (sym fails)
of_fault (Ok w) faults.NotObject record_read wanted memory fails e = e ∙ ap wanted (sym fails)
of_fault (Ok w) (faults.Missing field) record_read wanted memory fails e = e ∙ ap wanted (sym fails)
of_fault (Ok w) (faults.Kind field) record_read wanted memory fails e = e ∙ ap wanted (sym fails)
of_fault (Ok w) (faults.Value field) record_read wanted memory fails e = e ∙ ap wanted (sym fails)
of_fault (Ok w) (faults.Unsupported field) record_read wanted memory fails e = e ∙ ap wanted (sym fails)
of_fault (Ok w) faults.NoMemory record_read wanted memory fails e = absurd (false≢true (memory refl))

-- a target that does not begin with `/` is refused
pub bad_target : (config : Config) (method target : List ℕ) (closing : Bool) (fields : List Field) (body fresh : List ℕ) (answer : Result Wanted NoMemory)
    → begins_with_slash target ≡ false
    → IfOk answer (λ w. w ≡ told 400 (codes "bad target") (shape_of method closing Dav))
    → IfOk answer (λ w. w ≡ target_wanted config method target closing fields body fresh)
bad_target config method target closing fields body fresh answer none e = same_answer answer _ _ (sym (cond-false _ _ _ none)) e
