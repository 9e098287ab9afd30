-- A look that goes on over one piece after another.
use Rattle.std.proofs.Common.{◌≡◌, ℕ, ◌+◌, ◌-◌, ◌<◌, ◌≤◌, suc, List, [], ◌∷◌, ◌++◌, length, take, Bool, true, false, cond, nat_eq, refl, sym, ap, ◌∙◌, subst, arith, add_assoc, ◌⊎◌, inl, inr}
use Rattle.std.proofs.lemmas.Bool.Decides.{nat_tests}
use Rattle.ocm_http_heads.specs.declared.endings.Stand.TheVariants.{Before}
use Rattle.ocm_http_heads.specs.declared.endings.Look.{Look}
use Rattle.ocm_http_heads.specs.declared.endings.Found.{Found}
use Rattle.ocm_http_heads.specs.declared.endings.Found.TheVariants.{Whole, TooLong, Unfinished}
use Rattle.ocm_http_heads.specs.Endings.{further, found, moved, stepped, passes, ends, is_bare, blanks, is_blank, lines}

-- what is found in two pieces, from what is found in each
abbrev pub then_found : Found → ℕ → Found → Found
then_found (Whole n) k f = Whole n
then_found (TooLong bare) k f = TooLong bare
then_found Unfinished k f = further k f

pub further_twice : (m n : ℕ) (f : Found) → further m (further n f) ≡ further (m + n) f
further_twice m n (Whole k) = ap Whole (sym (add_assoc m n k))
further_twice m n (TooLong bare) = refl
further_twice m n Unfinished = refl

pub further_none : (f : Found) → further 0 f ≡ f
further_none (Whole k) = let e : 0 + k ≡ k = omega arith in ap Whole e
further_none (TooLong bare) = refl
further_none Unfinished = refl

further_found : (f g h : Found) (k : ℕ) → g ≡ then_found f k h → further 1 g ≡ then_found (further 1 f) (suc k) h
further_found (Whole n) g h k same = rw same refl
further_found (TooLong bare) g h k same = rw same refl
further_found Unfinished g h k same =
    let e : 1 + k ≡ suc k = omega arith in
    rw same (further_twice 1 k h ∙ ap (λ n. further n h) e)

step_found : (p e t : Bool) (f g h : Found) (k : ℕ) → g ≡ then_found f k h → cond p (TooLong t) (cond e (Whole 1) (further 1 g)) ≡ then_found (cond p (TooLong t) (cond e (Whole 1) (further 1 f))) (suc k) h
step_found true e t f g h k same = refl
step_found false true t f g h k same = refl
step_found false false t f g h k same = further_found f g h k same

-- a look over two pieces
pub found-append : (look : Look) (x y : List ℕ) → found look (x ++ y) ≡ then_found (found look x) (length x) (found (moved look x) y)
found-append look [] y = sym (further_none (found look y))
found-append look (b ∷ x) y = step_found (passes look b) (ends look.stand b) (is_bare look.stand b) (found (stepped look b) x) (found (stepped look b) (x ++ y)) (found (moved (stepped look b) x) y) (length x) (found-append (stepped look b) x y)

pub moved-append : (look : Look) (x y : List ℕ) → moved look (x ++ y) ≡ moved (moved look x) y
moved-append look [] y = refl
moved-append look (b ∷ x) y = moved-append (stepped look b) x y

-- where nothing is found in the first piece
pub found_on : (look : Look) (x y : List ℕ) → found look x ≡ Unfinished → found look (x ++ y) ≡ further (length x) (found (moved look x) y)
found_on look x y none = found-append look x y ∙ ap (λ f. then_found f (length x) (found (moved look x) y)) none

-- an end that was found, and a limit that was passed, stay so
pub whole_stays : (look : Look) (x y : List ℕ) (n : ℕ) → found look x ≡ Whole n → found look (x ++ y) ≡ Whole n
whole_stays look x y n h = found-append look x y ∙ ap (λ f. then_found f (length x) (found (moved look x) y)) h

pub long_stays : (look : Look) (x y : List ℕ) (bare : Bool) → found look x ≡ TooLong bare → found look (x ++ y) ≡ TooLong bare
long_stays look x y bare h = found-append look x y ∙ ap (λ f. then_found f (length x) (found (moved look x) y)) h

-- ---- where an end lies

pub record Within (look : Look) (bytes : List ℕ) (n : ℕ) : Type 0 where
  pub some : 0 < n
  pub length : n ≤ length bytes
  pub size : n ≤ look.size
  pub lines : lines (take n bytes) ≤ look.lines

further_whole : (f : Found) (n : ℕ) → further 1 f ≡ Whole n → (k : ℕ) × (f ≡ Whole k) × (n ≡ suc k)
further_whole (Whole k) n h = (k, refl, let e : 1 + k ≡ n = cc in omega arith)
further_whole (TooLong bare) n h = cc
further_whole Unfinished n h = cc

pub allowed_size : (look : Look) (b : ℕ) → passes look b ≡ false → 0 < look.size
allowed_size look b h = grind (arith, nat_tests)

pub allowed_lines : (look : Look) (b : ℕ) → passes look b ≡ false → cond (nat_eq b 10) 1 0 + (stepped look b).lines ≤ look.lines
allowed_lines look b h = grind (arith, nat_tests)

within_step : (look : Look) (b : ℕ) (x : List ℕ) (n k : ℕ) → passes look b ≡ false → n ≡ suc k → Within (stepped look b) x k → Within look (b ∷ x) n
within_step look b x n k p e w =
    let size : 0 < look.size = allowed_size look b p in
    let lines_left : cond (nat_eq b 10) 1 0 + (stepped look b).lines ≤ look.lines = allowed_lines look b p in
    let count : lines (take n (b ∷ x)) ≡ cond (nat_eq b 10) 1 0 + lines (take k x) = ap (λ m. lines (take m (b ∷ x))) e in
    record { some = omega arith; length = omega (arith, w.length); size = omega (arith, w.size); lines = omega (arith, w.lines) }

within_first : (look : Look) (b : ℕ) (x : List ℕ) → passes look b ≡ false → Within look (b ∷ x) 1
within_first look b x p =
    let size : 0 < look.size = allowed_size look b p in
    let lines_left : cond (nat_eq b 10) 1 0 + (stepped look b).lines ≤ look.lines = allowed_lines look b p in
    record { some = omega arith; length = omega arith; size = omega arith; lines = omega arith }

whole_cases : (p e t : Bool) (f : Found) (n : ℕ) → cond p (TooLong t) (cond e (Whole 1) (further 1 f)) ≡ Whole n → (p ≡ false) × (((e ≡ true) × (n ≡ 1)) ⊎ ((k : ℕ) × (f ≡ Whole k) × (n ≡ suc k)))
whole_cases true e t f n h = cc
whole_cases false true t f n h = (refl, inl (refl, cc))
whole_cases false false t f n h = (refl, inr (further_whole f n h))

-- an end lies within the bytes and the limits
pub whole_within : (look : Look) (bytes : List ℕ) (n : ℕ) → found look bytes ≡ Whole n → Within look bytes n
whole_within look [] n h = cc
whole_within look (b ∷ x) n h =
    let c = whole_cases (passes look b) (ends look.stand b) (is_bare look.stand b) (found (stepped look b) x) n h in
    elim c.1 [
      | inl one ↦ subst (λ m. Within look (b ∷ x) m) (sym one.1) (within_first look b x c.0)
      | inr more ↦ within_step look b x n more.0 c.0 more.2 (whole_within (stepped look b) x more.0 more.1)
    ]

-- bytes in which nothing is found are as many as the look goes on
unfinished_cases : (p e t : Bool) (f : Found) → cond p (TooLong t) (cond e (Whole 1) (further 1 f)) ≡ Unfinished → (p ≡ false) × (f ≡ Unfinished)
unfinished_cases true e t f h = cc
unfinished_cases false true t f h = cc
unfinished_cases false false t (Whole k) h = cc
unfinished_cases false false t (TooLong bare) h = cc
unfinished_cases false false t Unfinished h = (refl, refl)

pub unfinished_size : (look : Look) (bytes : List ℕ) → found look bytes ≡ Unfinished → length bytes + (moved look bytes).size ≡ look.size
unfinished_size look [] h = omega arith
unfinished_size look (b ∷ x) h =
    let c = unfinished_cases (passes look b) (ends look.stand b) (is_bare look.stand b) (found (stepped look b) x) h in
    let size : 0 < look.size = allowed_size look b c.0 in
    let rest : length x + (moved (stepped look b) x).size ≡ look.size - 1 = unfinished_size (stepped look b) x c.1 in
    omega arith

-- ---- CR and LF at the front

long_cases : (p e t : Bool) (f : Found) → cond p (TooLong t) (cond e (Whole 1) (further 1 f)) ≡ TooLong false → ((p ≡ true) × (t ≡ false)) ⊎ ((p ≡ false) × (e ≡ false) × (f ≡ TooLong false))
long_cases true e t f h = inl (refl, cc)
long_cases false true t f h = cc
long_cases false false t (Whole k) h = cc
long_cases false false t (TooLong bare) h = inr (refl, refl, h)
long_cases false false t Unfinished h = cc

blanks_step : (b : ℕ) (x y : List ℕ) (blank : Bool) → is_blank b ≡ blank → (blank ≡ true → blanks (x ++ y) ≡ blanks x) → blanks ((b ∷ x) ++ y) ≡ blanks (b ∷ x)
blanks_step b x y true h same = rw (h, same refl) refl
blanks_step b x y false h same = rw h refl

still_before : (look : Look) (b : ℕ) → look.stand ≡ Before → is_blank b ≡ true → (stepped look b).stand ≡ Before
still_before look b h k = rw (h, k) refl

bare_blank : (look : Look) (b : ℕ) → look.stand ≡ Before → is_bare look.stand b ≡ false → is_blank b ≡ true → ⊥
bare_blank look b h k blank =
    let same : is_bare look.stand b ≡ is_blank b = ap (λ s. is_bare s b) h in
    cc

-- where a limit is passed after a byte that is neither CR nor LF, more bytes don't change how many of these come first
pub blanks_stay : (look : Look) (x y : List ℕ) → look.stand ≡ Before → found look x ≡ TooLong false → blanks (x ++ y) ≡ blanks x
blanks_stay look [] y before h = cc
blanks_stay look (b ∷ x) y before h =
    let c = long_cases (passes look b) (ends look.stand b) (is_bare look.stand b) (found (stepped look b) x) h in
    blanks_step b x y (is_blank b) refl (λ blank. elim c [
      | inl here ↦ absurd (bare_blank look b before here.1 blank)
      | inr later ↦ blanks_stay (stepped look b) x y (still_before look b before blank) later.2
    ])
