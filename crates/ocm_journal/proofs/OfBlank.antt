-- What is made of a blank disk.
use Rattle.std.proofs.Common.{◌≡◌, ℕ, List, Some, None, Result, Ok, Err, IfOk, refl, sym, ◌∙◌, ap}
use Rattle.ocm_journal_image.specs.declared.blanks.Blank.{Blank}
use Rattle.ocm_journal_image.specs.Blank.{blank_of, made_form}
use Rattle.ocm_journal.specs.Openings.{IsMadeAs}

some_same : (a b : Blank) → Some a ≡ Some b → a ≡ b
some_same a b e = cc

-- the journal is made of the blank disk that there was
pub made_of : (label seen : List ℕ) (area form : ℕ) (blank : Blank) → blank_of label area seen ≡ Some blank → form ≡ made_form blank → IsMadeAs label area seen form area
made_of label seen area form blank is form_is = λ other other_is. (form_is ∙ ap (λ b. made_form b) (some_same blank other (sym is ∙ other_is)), refl)

-- nothing is made of a disk that is not blank
pub none_made : (label seen : List ℕ) (area form size : ℕ) → blank_of label area seen ≡ None → IsMadeAs label area seen form size
none_made label seen area form size is = λ other other_is. absurd (let e = sym is ∙ other_is in cc)

-- what holds of each value holds of that in an Ok
pub if_ok_each : {T E : Type 0} (result : Result T E) (P : T → Type 0) → ((value : T) → P value) → IfOk result P
if_ok_each (Ok value) P each = each value
if_ok_each (Err error) P each = tt
