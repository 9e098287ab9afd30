-- What is written of a read with one status, by what is written of it with another.
use Rattle.std.proofs.Common.{◌≡◌, ◌≤◌, ◌+◌, ◌/◌, ◌%◌, ℕ, List, [], ◌∷◌, ◌++◌, Bool, true, false, Option, Some, None, refl, sym, ap, ◌∙◌, arith, append_assoc}
use Rattle.std.specs.Prelude.{decimal, if◌then◌else◌}
use Rattle.std.specs.Option.{option_map_or}
use Rattle.std.proofs.lemmas.Fmt.{decimal_digit, decimal_step}
use Rattle.ocm_entry.specs.declared.asks.Ask.{Ask}
use Rattle.ocm_entry.specs.declared.asks.Ask.TheVariants.{Dav}
use Rattle.ocm_path.specs.Escapes.{escape}
use Rattle.ocm_path.specs.Paths.{path_escaped}
use Rattle.ocm_access_log.specs.Lines.{method_text}
use Rattle.ocm_access_log.specs.Written.{written, written_ask}
use Rattle.ocm_access_log.specs.declared.lines.LogLine.{LogLine}
use Rattle.ocm_serve_log.specs.Logs.{line_with, reads}

-- what stands before the status
pub front-of : (place moment : ℕ) (ask : Ask) → reads ask ≡ true
    → (front : List ℕ) × ((status : ℕ) → written_ask place moment status ask ≡ front ++ decimal status ++ 10 ∷ [])
front-of place moment (Dav secret method path body) is =
    let words : List ℕ = decimal place ++ 32 ∷ decimal moment ++ 32 ∷ method_text method ++ 32 ∷ escape secret ++ 32 ∷ path_escaped path in
    (words ++ 32 ∷ [], λ status. by words (decimal status))
  where
    by : (front digits : List ℕ) → (front ++ 32 ∷ digits) ++ 10 ∷ [] ≡ (front ++ 32 ∷ []) ++ digits ++ 10 ∷ []
    by front digits = ap (λ (l : List ℕ). l ++ 10 ∷ []) (sym (append_assoc front (32 ∷ []) digits))
front-of place moment _ is = absurd cc

-- the digits of a status
pub three_digits : (n : ℕ) → 100 ≤ n → n ≤ 999 → decimal n ≡ (48 + n / 100) ∷ (48 + n / 10 % 10) ∷ (48 + n % 10) ∷ []
three_digits n least most =
    let first : n / 10 / 10 ≡ n / 100 = omega arith in
    decimal_step n (omega arith) (omega arith)
    ∙ ap (λ (digits : List ℕ). digits ++ (48 + n % 10) ∷ [])
    (decimal_step (n / 10) (omega arith) (omega arith) ∙ ap (λ (digits : List ℕ). digits ++ (48 + n / 10 % 10) ∷ []) (decimal_digit (n / 10 / 10) (omega arith)))
    ∙ ap (λ (m : ℕ). (48 + m) ∷ (48 + n / 10 % 10) ∷ (48 + n % 10) ∷ []) first

-- a line behind others is the one with this status where that is written over the status 200
pub line_behind : (gathered more now : List ℕ) (status : ℕ) (line : LogLine) → more ≡ gathered ++ written_ask line.place line.moment 200 line.ask → reads line.ask ≡ true → line.status ≡ status
    → ((front : List ℕ) → more ≡ front ++ 50 ∷ 48 ∷ 48 ∷ 10 ∷ [] → now ≡ front ++ decimal status ++ 10 ∷ []) → now ≡ gathered ++ written line
line_behind gathered more now status line adds read is comes =
    let front = front-of line.place line.moment line.ask read in
    let two_hundred : decimal 200 ≡ 50 ∷ 48 ∷ 48 ∷ [] = three_digits 200 (omega arith) (omega arith) in
    let at = front.1 200 ∙ append_assoc front.0 (decimal 200) (10 ∷ []) ∙ ap (λ (digits : List ℕ). front.0 ++ (digits ++ 10 ∷ [])) two_hundred in
    let ends : more ≡ (gathered ++ front.0) ++ 50 ∷ 48 ∷ 48 ∷ 10 ∷ [] = adds ∙ ap (λ (l : List ℕ). gathered ++ l) at ∙ sym (append_assoc gathered front.0 (50 ∷ 48 ∷ 48 ∷ 10 ∷ [])) in
    comes (gathered ++ front.0) ends
    ∙ ap (λ (l : List ℕ). l ++ 10 ∷ []) (append_assoc gathered front.0 (decimal status))
    ∙ append_assoc gathered (front.0 ++ decimal status) (10 ∷ [])
    ∙ ap (λ (l : List ℕ). gathered ++ l) (sym (front.1 status) ∙ ap (λ (n : ℕ). written_ask line.place line.moment n line.ask) (sym is))

-- ---- whether there is a line

pub line_read : (place time : ℕ) (ask : Ask) (status : ℕ) → reads ask ≡ true → line_with place time ask (Some status) ≡ record { place = place; moment = time; ask = ask; status = status } ∷ []
line_read place time ask status is = ap (λ (b : Bool). if b then record { place = place; moment = time; ask = ask; status = status } ∷ [] else []) is

pub line_unread : (place time : ℕ) (ask : Ask) (status : Option ℕ) → reads ask ≡ false → line_with place time ask status ≡ []
line_unread place time ask status is = ap (λ (b : Bool). if b then option_map_or (λ status. record { place = place; moment = time; ask = ask; status = status } ∷ []) status [] else []) is

pub line_none : (place time : ℕ) (ask : Ask) (status : Option ℕ) → status ≡ None → line_with place time ask status ≡ []
line_none place time ask status is = ap (λ (s : Option ℕ). line_with place time ask s) is ∙ by (reads ask)
  where
    none : List LogLine
    none = []

    by : (b : Bool) → (if b then none else none) ≡ none
    by true = refl
    by false = refl
