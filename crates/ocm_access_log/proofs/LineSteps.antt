-- How the lines of a log are read one after another.
use Rattle.std.proofs.Common.{◌≡◌, ℕ, ◌+◌, ◌<◌, List, [], ◌∷◌, ◌++◌, length, false, Option, Some, None, Result, Ok, Err, refl, sym, ap, subst, ◌∙◌, arith, append-nil, append_assoc, length-append}
use Rattle.std.specs.Prelude.{nat_eq}
use Rattle.std.proofs.lemmas.Bool.{cond-false}
use Rattle.std.proofs.lemmas.List.Elements.{All-head, All-tail}
use Rattle.ocm_access_log.specs.declared.lines.LogLine.{LogLine}
use Rattle.ocm_access_log.specs.declared.faults.LogReadFault.{LogReadFault}
use Rattle.ocm_access_log.specs.declared.faults.LineFault.{LineFault}
use Rattle.ocm_access_log.specs.declared.faults.LineFault.TheVariants.{Bad, NoMemory}
use Rattle.ocm_access_log.specs.Cuts.{Lacks}
use Rattle.ocm_access_log.specs.Gives.{Gives}
use Rattle.ocm_access_log.specs.Lines.{line_behind, put_first, lines_from}
use Rattle.ocm_access_log.specs.Logs.{IsLogFault, numbered, numbered_fault}

-- ---- one line

-- what is read of a line and of what follows it
abbrev pub lines_after : ℕ → List ℕ → Option LogLine → Result (List LogLine) ℕ
lines_after number rest None = Err number
lines_after number rest (Some line) = put_first line (lines_from (number + 1) line.place line.moment [] rest)

-- a byte that is no line feed goes to the line
step-byte : (number place moment : ℕ) (begun : List ℕ) (b : ℕ) (bytes : List ℕ) → nat_eq b 10 ≡ false → lines_from number place moment begun (b ∷ bytes) ≡ lines_from number place moment (begun ++ b ∷ []) bytes
step-byte number place moment begun b bytes other = cond-false _ _ _ other

-- a line feed ends it
step-feed : (number place moment : ℕ) (begun bytes : List ℕ) → lines_from number place moment begun (10 ∷ bytes) ≡ lines_after number bytes (line_behind place moment begun)
step-feed number place moment begun bytes = refl

-- a line with its line feed, and then what follows it
pub lines_from-line : (number place moment : ℕ) (begun line rest : List ℕ) → Lacks 10 line → lines_from number place moment begun (line ++ 10 ∷ rest) ≡ lines_after number rest (line_behind place moment (begun ++ line))
lines_from-line number place moment begun [] rest lacks =
    step-feed number place moment begun rest ∙ ap (λ (l : List ℕ). lines_after number rest (line_behind place moment l)) (sym (append-nil begun))
lines_from-line number place moment begun (b ∷ line) rest lacks =
    step-byte number place moment begun b (line ++ 10 ∷ rest) (All-head (λ x. nat_eq x 10 ≡ false) b line lacks)
    ∙ lines_from-line number place moment (begun ++ b ∷ []) line rest (All-tail (λ x. nat_eq x 10 ≡ false) b line lacks)
    ∙ ap (λ (l : List ℕ). lines_after number rest (line_behind place moment l)) (append_assoc begun (b ∷ []) line)

-- a line without one is bad
lines_from-open : (number place moment : ℕ) (begun line : List ℕ) → Lacks 10 line → 0 < length begun + length line → lines_from number place moment begun line ≡ Err number
lines_from-open number place moment [] [] lacks some = absurd (omega arith)
lines_from-open number place moment (a ∷ begun) [] lacks some = refl
lines_from-open number place moment begun (b ∷ line) lacks some =
    step-byte number place moment begun b line (All-head (λ x. nat_eq x 10 ≡ false) b line lacks)
    ∙ lines_from-open number place moment (begun ++ b ∷ []) line (All-tail (λ x. nat_eq x 10 ≡ false) b line lacks) (omega (arith, length-append begun (b ∷ [])))

-- ---- lines that were read, and the rest

-- the lines that were read, and then what is read of the rest
abbrev pub with_front : List LogLine → Result (List LogLine) ℕ → Result (List LogLine) ℕ
with_front front (Ok lines) = Ok (front ++ lines)
with_front front (Err number) = Err number

with_front-more : (front : List LogLine) (line : LogLine) (read : Result (List LogLine) ℕ) → with_front front (put_first line read) ≡ with_front (front ++ line ∷ []) read
with_front-more front line (Ok lines) = ap (λ (l : List LogLine). Ok l) (sym (append_assoc front (line ∷ []) lines))
with_front-more front line (Err number) = refl

-- the rest has no line feed
pub read_open : (front : List LogLine) (number place moment : ℕ) (rest : List ℕ) (whole : Result (List LogLine) ℕ) → with_front front (lines_from number place moment [] rest) ≡ whole → Lacks 10 rest → 0 < length rest → whole ≡ Err number
read_open front number place moment rest whole so_far lacks some =
    sym so_far ∙ ap (with_front front) (lines_from-open number place moment [] rest lacks (omega arith))

at_line : (front : List LogLine) (number place moment : ℕ) (bytes line rest : List ℕ) (read : Option LogLine) (whole : Result (List LogLine) ℕ) → with_front front (lines_from number place moment [] bytes) ≡ whole → bytes ≡ line ++ 10 ∷ rest → Lacks 10 line → line_behind place moment line ≡ read → with_front front (lines_after number rest read) ≡ whole
at_line front number place moment bytes line rest read whole so_far is lacks reads =
    ap (λ (o : Option LogLine). with_front front (lines_after number rest o)) (sym reads)
    ∙ ap (with_front front) (sym (lines_from-line number place moment [] line rest lacks))
    ∙ ap (λ (l : List ℕ). with_front front (lines_from number place moment [] l)) (sym is)
    ∙ so_far

-- a fault of the first line of the rest
pub read_bad : (front : List LogLine) (number place moment : ℕ) (bytes line rest : List ℕ) (r : Result LogLine LineFault) (fault : LogReadFault) (whole : Result (List LogLine) ℕ) → with_front front (lines_from number place moment [] bytes) ≡ whole → bytes ≡ line ++ 10 ∷ rest → Lacks 10 line → Gives (λ l. l) r (line_behind place moment line) → numbered number r ≡ Err fault → IsLogFault fault whole
read_bad front number place moment bytes line rest (Ok l) fault whole so_far is lacks gives e = absurd cc
read_bad front number place moment bytes line rest (Err Bad) fault whole so_far is lacks gives e =
    let same : numbered_fault number Bad ≡ fault = cc in
    subst (λ (f : LogReadFault). IsLogFault f whole) same (sym (at_line front number place moment bytes line rest None whole so_far is lacks gives))
read_bad front number place moment bytes line rest (Err NoMemory) fault whole so_far is lacks gives e =
    let same : numbered_fault number NoMemory ≡ fault = cc in
    subst (λ (f : LogReadFault). IsLogFault f whole) same tt

-- the first line of the rest was read
pub read_line : (front : List LogLine) (number place moment : ℕ) (bytes line rest : List ℕ) (r : Result LogLine LineFault) (l : LogLine) (whole : Result (List LogLine) ℕ) → with_front front (lines_from number place moment [] bytes) ≡ whole → bytes ≡ line ++ 10 ∷ rest → Lacks 10 line → Gives (λ l. l) r (line_behind place moment line) → numbered number r ≡ Ok l → with_front (front ++ l ∷ []) (lines_from (number + 1) l.place l.moment [] rest) ≡ whole
read_line front number place moment bytes line rest (Err fault) l whole so_far is lacks gives e = absurd cc
read_line front number place moment bytes line rest (Ok read) l whole so_far is lacks gives e =
    let same : Some read ≡ Some l = cc in
    sym (with_front-more front l (lines_from (number + 1) l.place l.moment [] rest)) ∙ at_line front number place moment bytes line rest (Some l) whole so_far is lacks (gives ∙ same)
