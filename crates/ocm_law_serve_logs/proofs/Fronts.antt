-- A front of a log that is cut at a line's end has the first lines.
use Rattle.std.proofs.Common.{◌≡◌, ℕ, suc, List, [], ◌∷◌, ◌++◌, take, true, false, refl, sym, ap, ◌∙◌}
use Rattle.std.specs.Prelude.{nat_eq}
use Rattle.std.specs.List.{AllByRecursion}
use Rattle.std.proofs.lemmas.List.Elements.{All-head, All-tail}
use Rattle.std.proofs.lemmas.List.{append_assoc}
use Rattle.ocm_access_log.specs.Cuts.{Lacks}
use Rattle.ocm_access_log.specs.Written.{IsLoggable, written, written_log}
use Rattle.ocm_access_log.specs.declared.lines.LogLine.{LogLine}
use Rattle.ocm_access_log.proofs.LogBack.{IsBack, ask-back}
use Rattle.ocm_serve_log.specs.Logs.{IsFront}
use Rattle.ocm_law_serve_logs.specs.ServedLogs.{AreWholeLines}

whole-tail : (b : ℕ) (bytes : List ℕ) → AreWholeLines (b ∷ bytes) → AreWholeLines bytes
whole-tail b [] whole = tt
whole-tail b (c ∷ bytes) whole = whole

-- bytes that begin a line with its line feed, and end with one, begin with the whole line; what follows it ends with one too
abbrev Begins : List ℕ → List ℕ → List ℕ → List ℕ → Type 0
Begins text front rest others = (more : List ℕ) × (front ≡ text ++ 10 ∷ more) × (more ++ rest ≡ others) × AreWholeLines more

first-line : (text : List ℕ) (b : ℕ) (front rest others : List ℕ) → Lacks 10 text → AreWholeLines (b ∷ front) → (b ∷ front) ++ rest ≡ text ++ 10 ∷ others → Begins text (b ∷ front) rest others
first-line [] b front rest others lacks whole is =
    let first : b ≡ 10 = cc in
    let after : front ++ rest ≡ others = cc in
    (front, ap (λ (c : ℕ). c ∷ front) first, after, whole-tail b front whole)
first-line (t ∷ text) b [] rest others lacks whole is =
    let first : b ≡ t = cc in
    let none : nat_eq t 10 ≡ false = All-head (λ c. nat_eq c 10 ≡ false) t text lacks in
    let feed : nat_eq t 10 ≡ true = ap (λ (c : ℕ). nat_eq c 10) (sym first ∙ whole) in
    let never : false ≡ true = sym none ∙ feed in
    absurd (cc)
first-line (t ∷ text) b (c ∷ front) rest others lacks whole is =
    let first : b ≡ t = cc in
    let after : (c ∷ front) ++ rest ≡ text ++ 10 ∷ others = cc in
    let found = first-line text c front rest others (All-tail (λ c. nat_eq c 10 ≡ false) t text lacks) whole after in
    (found.0, (λ i. first i ∷ found.1 i), found.2, found.3)

-- a line and what follows it
joined : (text more front line rest : List ℕ) → front ≡ text ++ 10 ∷ more → line ≡ text ++ 10 ∷ [] → more ≡ rest → front ≡ line ++ rest
joined text more front line rest begins is later = begins ∙ sym (append_assoc text (10 ∷ []) more) ∙ (λ i. sym is i ++ later i)

pub front-lines : (lines : List LogLine) (front : List ℕ) → AllByRecursion IsLoggable lines → IsFront front (written_log lines) → AreWholeLines front → (n : ℕ) × (front ≡ written_log (take n lines))
front-lines lines [] all is whole = (0, refl)
front-lines [] (b ∷ front) all is whole = absurd (let e = is.1 in cc)
front-lines (line ∷ lines) (b ∷ front) all is whole =
    let back : IsBack line = ask-back line.place line.moment line.status line.ask all.0 in
    let text = back.text in
    let rest = is.0 in
    let others = written_log lines in
    let spelled : (b ∷ front) ++ rest ≡ text ++ 10 ∷ others = is.1 ∙ ap (λ (l : List ℕ). l ++ others) back.is ∙ append_assoc text (10 ∷ []) others in
    let found = first-line text b front rest others back.lacks whole spelled in
    let later = front-lines lines found.0 all.1 (rest, found.2) found.3 in (
      suc later.0,
      joined text found.0 (b ∷ front) (written line) (written_log (take later.0 lines)) found.1 back.is later.1,
    )
