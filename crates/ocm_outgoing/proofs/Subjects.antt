use Rattle.std.proofs.Common.{◌≡◌, ℕ, List, Bool, true, false, Option, Some, None, refl, sym, ap, subst, ◌∙◌, arith}
use Rattle.std.specs.Prelude.{nat_eq}
use Rattle.std.specs.Option.{option_map_or}
use Rattle.std.proofs.lemmas.Bool.{false≢true}
use Rattle.std.proofs.lemmas.Bool.Decides.{nat_tests}
use Rattle.ocm_rules.specs.declared.rows.Subject.{Subject}
use Rattle.ocm_rules.specs.declared.rows.Subject.TheVariants.{Share, Received, Request}
use Rattle.ocm_rules.specs.Numbers.{at_number}
use Rattle.ocm_rules.specs.Settlements.{same_subject}
use Rattle.ocm_outgoing.specs.declared.rows.Sent.{Sent}
use Rattle.ocm_outgoing.specs.Threads.{about, same_key}

nat-same : (i j : ℕ) → nat_eq i j ≡ true → i ≡ j
nat-same i j e = grind (arith, nat_tests)

nat-refl : (i : ℕ) → nat_eq i i ≡ true
nat-refl i = grind (arith, nat_tests)

-- what an index takes as the same is the same
pub key-same : (a b : Subject) → same_key a b ≡ true → a ≡ b
key-same (Share i) (Share j) e = ap Share (nat-same i j e)
key-same (Share i) (Received j) e = absurd (false≢true e)
key-same (Share i) (Request j) e = absurd (false≢true e)
key-same (Received i) (Share j) e = absurd (false≢true e)
key-same (Received i) (Received j) e = ap Received (nat-same i j e)
key-same (Received i) (Request j) e = absurd (false≢true e)
key-same (Request i) (Share j) e = absurd (false≢true e)
key-same (Request i) (Received j) e = absurd (false≢true e)
key-same (Request i) (Request j) e = ap Request (nat-same i j e)

-- an index takes a thing as the same as itself
pub key-refl : (a : Subject) → same_key a a ≡ true
key-refl (Share i) = nat-refl i
key-refl (Received i) = nat-refl i
key-refl (Request i) = nat-refl i

-- the same subject is the same
pub subject-same : (a b : Subject) → same_subject a b ≡ true → a ≡ b
subject-same (Share i) (Share j) e = ap Share (nat-same i j e)
subject-same (Share i) (Received j) e = absurd (false≢true e)
subject-same (Share i) (Request j) e = absurd (false≢true e)
subject-same (Received i) (Share j) e = absurd (false≢true e)
subject-same (Received i) (Received j) e = ap Received (nat-same i j e)
subject-same (Received i) (Request j) e = absurd (false≢true e)
subject-same (Request i) (Share j) e = absurd (false≢true e)
subject-same (Request i) (Received j) e = absurd (false≢true e)
subject-same (Request i) (Request j) e = ap Request (nat-same i j e)

-- a subject is the same as itself
pub subject-refl : (a : Subject) → same_subject a a ≡ true
subject-refl (Share i) = nat-refl i
subject-refl (Received i) = nat-refl i
subject-refl (Request i) = nat-refl i

either : (b : Bool) → (b ≡ true → b ≡ false) → b ≡ false
either true h = h refl
either false h = refl

-- what an index keeps apart is not the same subject
pub subject-other : (a b : Subject) → same_key a b ≡ false → same_subject a b ≡ false
subject-other a b e = either (same_subject a b) (λ same. absurd (false≢true (sym e ∙ subst (λ (s : Subject). same_key a s ≡ true) (subject-same a b same) (key-refl a))))

about-one : (found : Option Sent) (s t : Subject) → option_map_or (λ (row : Sent). same_subject row.subject t) found false ≡ true → option_map_or (λ (row : Sent). same_subject row.subject s) found false ≡ true → t ≡ s
about-one None s t e f = absurd (false≢true e)
about-one (Some row) s t e f = sym (subject-same row.subject t e) ∙ subject-same row.subject s f

-- a message is not about two things that an index keeps apart
pub about-other : (rows : List Sent) (t s : Subject) (k : ℕ) → same_key t s ≡ false → about rows t k ≡ true → about rows s k ≡ false
about-other rows t s k e is = either (about rows s k) (λ other. absurd (false≢true (sym e ∙ subst (λ (s : Subject). same_key t s ≡ true) (about-one (at_number rows k) s t is other) (key-refl t))))
