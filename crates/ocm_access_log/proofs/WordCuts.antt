-- How the words of a line are cut.
use Rattle.std.proofs.Common.{◌≡◌, ℕ, List, [], ◌∷◌, ◌++◌, Bool, true, false, Option, Some, None, refl, sym, ap, ◌∙◌, arith}
use Rattle.std.specs.Prelude.{option_and_then}
use Rattle.std.specs.List.{slice_split, join_with_byte}
use Rattle.std.proofs.lemmas.Bool.{and_parts}
use Rattle.std.proofs.lemmas.Bool.Decides.{nat_tests}
use Rattle.std.proofs.lemmas.List.Elements.{All-nil, All-cons}
use Rattle.std.proofs.lemmas.List.Splits.{slice_split_none, slice_split_at, join_with_byte-slice_split}
use Rattle.ocm_texts.specs.Decimal.{is_digit_byte}
use Rattle.ocm_access_log.specs.Cuts.{Lacks}
use Rattle.ocm_access_log.specs.Lines.{is_space, number_word, method_word, secret_word, path_word, status_word, when, line_in}

-- a word before a space is cut off
pub words-at : (line word rest : List ℕ) → line ≡ word ++ 32 ∷ rest → Lacks 32 word → slice_split is_space line ≡ word ∷ slice_split is_space rest
words-at line word rest is lacks = ap (slice_split is_space) is ∙ slice_split_at is_space word 32 rest lacks refl

-- without a space there is one word
pub words-none : (line : List ℕ) → Lacks 32 line → slice_split is_space line ≡ line ∷ []
words-none line lacks = slice_split_none is_space line lacks

-- a byte that is no space
abbrev NoSpace : ℕ → Type 0
NoSpace b = is_space b ≡ false

-- a digit is none
digit-lacks : (b : ℕ) → is_digit_byte b ≡ true → is_space b ≡ false
digit-lacks b digit = grind (arith, nat_tests)

passed : {A : Type 0} (b : Bool) (x y : A) → when b x ≡ Some y → b ≡ true
passed true x y e = refl
passed false x y e = cc

-- no space stands in a status
status-lacks : (word : List ℕ) (status : ℕ) → status_word word ≡ Some status → Lacks 32 word
unfolding status_word
status-lacks [] status e = absurd cc
status-lacks (a ∷ []) status e = absurd cc
status-lacks (a ∷ b ∷ []) status e = absurd cc
status-lacks (a ∷ b ∷ c ∷ []) status e =
    let first = and_parts (is_digit_byte a) _ (passed _ _ status e) in
    let rest = and_parts (is_digit_byte b) (is_digit_byte c) first.1 in
    All-cons NoSpace a (b ∷ c ∷ []) (digit-lacks a first.0) (All-cons NoSpace b (c ∷ []) (digit-lacks b rest.0) (All-cons NoSpace c [] (digit-lacks c rest.1) (All-nil NoSpace)))
status-lacks (a ∷ b ∷ c ∷ d ∷ more) status e = absurd cc

-- what gives nothing in the end gives nothing
stops : {A B : Type 0} (f : A → Option B) (o : Option A) → ((x : A) → f x ≡ None) → option_and_then f o ≡ None
stops f None none = refl
stops f (Some x) none = none x

-- six words of which the last is no status are no line
no_status : (place moment method secret path word : List ℕ) → status_word word ≡ None → line_in (place ∷ moment ∷ method ∷ secret ∷ path ∷ word ∷ []) ≡ None
unfolding line_in
no_status place moment method secret path word none =
    stops _ (number_word place) (λ p. stops _ (number_word moment) (λ m. stops _ (method_word method) (λ how. stops _ (secret_word secret) (λ s. stops _ (path_word path) (λ at. rw none refl)))))

-- where the sixth word and what follows it are no status, there is no line
others : (place moment method secret path rest : List ℕ) (parts : List (List ℕ)) → join_with_byte 32 parts ≡ rest → status_word rest ≡ None → line_in (place ∷ moment ∷ method ∷ secret ∷ path ∷ parts) ≡ None
unfolding line_in
others place moment method secret path rest [] is none = refl
others place moment method secret path rest (word ∷ []) is none = no_status place moment method secret path word (ap status_word is ∙ none)
others place moment method secret path rest (word ∷ other ∷ more) is none = refl

-- the last word is all that follows the fifth
pub last_word : (place moment method secret path rest : List ℕ) → line_in (place ∷ moment ∷ method ∷ secret ∷ path ∷ slice_split is_space rest) ≡ line_in (place ∷ moment ∷ method ∷ secret ∷ path ∷ rest ∷ [])
last_word place moment method secret path rest =
    let by : (o : Option ℕ) → status_word rest ≡ o → line_in (place ∷ moment ∷ method ∷ secret ∷ path ∷ slice_split is_space rest) ≡ line_in (place ∷ moment ∷ method ∷ secret ∷ path ∷ rest ∷ []) =
    λ o. elim o as (λ o. status_word rest ≡ o → line_in (place ∷ moment ∷ method ∷ secret ∷ path ∷ slice_split is_space rest) ≡ line_in (place ∷ moment ∷ method ∷ secret ∷ path ∷ rest ∷ [])) [
      | Some status ↦ λ is. ap (λ (parts : List (List ℕ)). line_in (place ∷ moment ∷ method ∷ secret ∷ path ∷ parts)) (words-none rest (status-lacks rest status is))
      | None ↦ λ is. others place moment method secret path rest (slice_split is_space rest) (join_with_byte-slice_split 32 rest) is ∙ sym (no_status place moment method secret path rest is)
    ] in
    by (status_word rest) refl
