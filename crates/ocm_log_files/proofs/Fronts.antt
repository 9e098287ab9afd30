-- Fronts of a line, word by word.
use Rattle.std.proofs.Common.{◌≡◌, ◌≤◌, ◌<◌, ◌/◌, ◌%◌, ◌+◌, ◌^◌, ◌↔◌, ℕ, List, [], ◌∷◌, ◌++◌, length, drop, Bool, true, false, Option, Some, None, All, refl, sym, ap, subst, ◌∙◌, arith, append-nil, append_assoc}
use Rattle.std.specs.Prelude.{◌⊎◌, ◌==◌, Decides, codes, decimal, is_some, nat_eq, not}
use Rattle.std.specs.List.{list_all, starts_with}
use Rattle.std.specs.Str.{IsUtf8}
use Rattle.std.proofs.lemmas.Bool.{and_parts}
use Rattle.std.proofs.lemmas.Bool.Decides.{Decides-eqb, nat_tests}
use Rattle.std.proofs.lemmas.Fmt.{IsAscii-decimal, decimal_digit, decimal_step, decimal_by_steps}
use Rattle.std.proofs.lemmas.Slice.Eq.{starts_is}
use Rattle.std.proofs.lemmas.Str.{IsUtf8-from_ascii}
use Rattle.std.proofs.lemmas.List.Elements.{All-nil, All-cons, All-head, All-tail, All-push}
use mathlib.Core.Logic.{inl, inr}
use Rattle.ocm_log_files.specs.Fronts.{Follows, IsBegun, IsMethod, IsNumber, IsRead}

abbrev NoSpace : ℕ → Type 0
NoSpace b = nat_eq b 32 ≡ false

a_space : (b : ℕ) → NoSpace b → b ≡ 32 → ⊥
a_space b other is = grind (arith, nat_tests)

no_front : (front tail : List ℕ) → front ++ tail ≡ [] → front ≡ []
no_front [] tail e = refl
no_front (b ∷ front) tail e = absurd cc

-- ---- two words and what follows them

-- words before the first space are the same
at_space : (w r more word rest : List ℕ) → All NoSpace w → All NoSpace word → (w ++ 32 ∷ r) ++ more ≡ word ++ 32 ∷ rest → (w ≡ word) × (r ++ more ≡ rest)
at_space [] r more [] rest a b e = (refl, cc)
at_space [] r more (c ∷ word) rest a b e = let is : c ≡ 32 = cc in absurd (a_space c (All-head NoSpace c word b) is)
at_space (d ∷ w) r more [] rest a b e = let is : d ≡ 32 = cc in absurd (a_space d (All-head NoSpace d w a) is)
at_space (d ∷ w) r more (c ∷ word) rest a b e =
    let head : d ≡ c = cc in
    let tail : (w ++ 32 ∷ r) ++ more ≡ word ++ 32 ∷ rest = cc in
    let same = at_space w r more word rest (All-tail NoSpace d w a) (All-tail NoSpace c word b) tail in
    ((λ i. head i ∷ same.0 i), same.1)

-- bytes without a space stand in the first word
in_word : (bytes more word rest : List ℕ) → All NoSpace bytes → bytes ++ more ≡ word ++ 32 ∷ rest → (tail : List ℕ) × (bytes ++ tail ≡ word)
in_word [] more word rest a e = (word, refl)
in_word (d ∷ bytes) more [] rest a e = let is : d ≡ 32 = cc in absurd (a_space d (All-head NoSpace d bytes a) is)
in_word (d ∷ bytes) more (c ∷ word) rest a e =
    let head : d ≡ c = cc in
    let tail : bytes ++ more ≡ word ++ 32 ∷ rest = cc in
    let found = in_word bytes more word rest (All-tail NoSpace d bytes a) tail in
    (found.0, λ i. head i ∷ found.1 i)

-- a front with a space has the whole first word
splits : (Word Rest : List ℕ → Type 0) → ((w : List ℕ) → Word w → All NoSpace w) → (bytes w r : List ℕ) → bytes ≡ w ++ 32 ∷ r → All NoSpace w → IsBegun (Follows Word Rest) bytes → Word w × IsBegun Rest r
splits Word Rest lacks bytes w r is none b =
    let inner = b.1 in
    let same = at_space w r b.0 inner.0 inner.1 none (lacks inner.0 inner.2) (ap (λ (l : List ℕ). l ++ b.0) (sym is) ∙ inner.4) in
    (subst Word (sym same.0) inner.2, (b.0, subst Rest (sym same.1) inner.3))

joins : (Word Rest : List ℕ → Type 0) (bytes w r : List ℕ) → bytes ≡ w ++ 32 ∷ r → Word w → IsBegun Rest r → IsBegun (Follows Word Rest) bytes
joins Word Rest bytes w r is word begun = (begun.0, (w, r ++ begun.0, word, begun.1, ap (λ (l : List ℕ). l ++ begun.0) is ∙ append_assoc w (32 ∷ r) begun.0))

pub no_word : (Word Rest : List ℕ → Type 0) → ((w : List ℕ) → Word w → All NoSpace w) → (bytes w r : List ℕ) → bytes ≡ w ++ 32 ∷ r → All NoSpace w → (first : Bool) → Decides first (Word w) → Decides false (Word w) → Decides first (IsBegun (Follows Word Rest) bytes)
no_word Word Rest lacks bytes w r is none first word other = (λ e. absurd (let wrong = other.1 (word.0 e) in cc), λ b. word.1 (splits Word Rest lacks bytes w r is none b).0)

pub word_then : (Word Rest : List ℕ → Type 0) → ((w : List ℕ) → Word w → All NoSpace w) → (bytes w r : List ℕ) → bytes ≡ w ++ 32 ∷ r → All NoSpace w → (second : Bool) → Decides true (Word w) → Decides second (IsBegun Rest r) → Decides second (IsBegun (Follows Word Rest) bytes)
word_then Word Rest lacks bytes w r is none second word begun = (λ e. joins Word Rest bytes w r is (word.0 refl) (begun.0 e), λ b. begun.1 (splits Word Rest lacks bytes w r is none b).1)

pub word_then_all : (Word Rest : List ℕ → Type 0) → ((w : List ℕ) → Word w → All NoSpace w) → (bytes w r : List ℕ) → bytes ≡ w ++ 32 ∷ r → All NoSpace w → (first : Bool) → Decides first (Word w) → IsBegun Rest r → Decides first (IsBegun (Follows Word Rest) bytes)
word_then_all Word Rest lacks bytes w r is none first word begun = (λ e. joins Word Rest bytes w r is (word.0 e) begun, λ b. word.1 (splits Word Rest lacks bytes w r is none b).0)

-- a front without one is a front of the first word
pub none_follows : (Word Rest : List ℕ → Type 0) → (rest : List ℕ) → Rest rest → (bytes : List ℕ) → All NoSpace bytes
    → (r : Bool) → Decides r (IsBegun Word bytes) → Decides r (IsBegun (Follows Word Rest) bytes)
none_follows Word Rest rest some bytes none r word = (
  λ e. let begun = word.0 e in (begun.0 ++ 32 ∷ rest, (bytes ++ begun.0, rest, begun.1, some, sym (append_assoc bytes begun.0 (32 ∷ rest)))),
  λ b. let inner = b.1 in let at = in_word bytes b.0 inner.0 inner.1 none inner.4 in word.1 (at.0, subst Word (sym at.1) inner.2),
)

-- ---- numbers

digit_no_space : (d : ℕ) → d < 10 → NoSpace (48 + d)
digit_no_space d small = grind (arith, nat_tests)

pub number_lacks : (w : List ℕ) → IsNumber w → All NoSpace w
number_lacks w number = subst (All NoSpace) (sym number.2) (decimal_by_steps (λ _ digits. All NoSpace digits)
    (λ d small. All-cons NoSpace (48 + d) [] (digit_no_space d small) (All-nil NoSpace))
    (λ m digits large all. All-push NoSpace digits (48 + m % 10) all (digit_no_space (m % 10) (omega arith)))
    number.0 number.1)

-- a front of bytes and one more is all of it, or one of the bytes
split_last : (front tail bytes : List ℕ) (x : ℕ) → front ++ tail ≡ bytes ++ x ∷ [] → (front ≡ bytes ++ x ∷ []) ⊎ ((rest : List ℕ) × (front ++ rest ≡ bytes))
split_last [] tail bytes x e = inr (bytes, refl)
split_last (a ∷ front) tail [] x e = let head : a ≡ x = cc in let none : front ++ tail ≡ [] = cc in inl (λ i. head i ∷ no_front front tail none i)
split_last (a ∷ front) tail (b ∷ bytes) x e = let head : a ≡ b = cc in let rest : front ++ tail ≡ bytes ++ x ∷ [] = cc in elim (split_last front tail bytes x rest) [
  | inl all ↦ inl (λ i. head i ∷ all i)
  | inr part ↦ inr (part.0, λ i. head i ∷ part.1 i)
]

-- a front of a decimal is empty or a decimal
abbrev HasFronts : ℕ → List ℕ → Type 0
HasFronts n digits = n < 2 ^ 64 → (digits ≡ decimal n) × ((front tail : List ℕ) → front ++ tail ≡ digits → (front ≡ []) ⊎ ((m : ℕ) × (m ≤ n) × (front ≡ decimal m)))

one_front : (d : ℕ) → d < 10 → HasFronts d ((48 + d) ∷ [])
one_front d small below = (
  sym (decimal_digit d small),
  λ front tail e. elim (split_last front tail [] (48 + d) e) [
    | inl all ↦ inr (d, omega arith, all ∙ sym (decimal_digit d small))
    | inr part ↦ inl (no_front front part.0 part.1)
  ],
)

more_fronts : (n : ℕ) (digits : List ℕ) → 10 ≤ n → HasFronts (n / 10) digits → HasFronts n (digits ++ (48 + n % 10) ∷ [])
more_fronts n digits large before below =
    let had = before (omega arith) in
    let is : digits ++ (48 + n % 10) ∷ [] ≡ decimal n = ap (λ (l : List ℕ). l ++ (48 + n % 10) ∷ []) had.0 ∙ sym (decimal_step n large below) in (
      is,
      λ front tail e. elim (split_last front tail digits (48 + n % 10) e) [
        | inl all ↦ inr (n, omega arith, all ∙ is)
        | inr part ↦ elim (had.1 front part.0 part.1) [
          | inl none ↦ inl none
          | inr found ↦ inr (found.0, (let least = found.1 in omega arith), found.2)
        ]
      ],
    )

number_front : (n : ℕ) (front tail : List ℕ) → n < 2 ^ 64 → front ++ tail ≡ decimal n → (front ≡ []) ⊎ ((m : ℕ) × (m ≤ n) × (front ≡ decimal m))
number_front n front tail below e = (decimal_by_steps HasFronts one_front more_fronts n below below).1 front tail e

-- bytes are a front of a number where there are none, or they are a number
begun_number : (bytes : List ℕ) → IsBegun IsNumber bytes → (bytes ≡ []) ⊎ IsNumber bytes
begun_number bytes begun = let number = begun.1 in elim (number_front number.0 bytes begun.0 number.1 number.2) [
  | inl none ↦ inl none
  | inr found ↦ inr (found.0, (let least = found.1 in let below = number.1 in omega arith), found.2)
]

none_begun : IsBegun IsNumber []
none_begun = (48 ∷ [], (0, omega arith, sym (decimal_digit 0 (omega arith))))

pub empty_decides : (bytes : List ℕ) (r : Bool) → r ≡ (length bytes == 0) → true ≡ (length bytes == 0) → Decides r (IsBegun IsNumber bytes)
empty_decides [] r test none = (λ _. none_begun, λ _. test)
empty_decides (b ∷ bytes) r test none = absurd (by (length (b ∷ bytes)) (omega arith) none)
  where
    by : (n : ℕ) → 0 < n → true ≡ (n == 0) → ⊥
    by n some none = grind (arith, nat_tests)

pub some_decides : (bytes : List ℕ) (r : Bool) → false ≡ (length bytes == 0) → Decides r (IsNumber bytes) → Decides r (IsBegun IsNumber bytes)
some_decides [] r some number = absurd cc
some_decides (b ∷ bytes) r some number = (
  λ e. ([], subst IsNumber (sym (append-nil (b ∷ bytes))) (number.0 e)),
  λ begun. elim (begun_number (b ∷ bytes) begun) [
    | inl none ↦ absurd cc
    | inr is ↦ number.1 is
  ],
)

pub read_decides : (read : Option ℕ) (text word : List ℕ) (r : Bool) → r ≡ is_some read → text ≡ word → ((n : ℕ) → (read ≡ Some n) ↔ ((n < 2 ^ 64) × (text ≡ decimal n))) → Decides r (IsNumber word)
read_decides None text word r test same printed = (λ e. absurd cc, λ number. let e = (printed number.0).1 (number.1, same ∙ number.2) in absurd cc)
read_decides (Some n) text word r test same printed = (λ _. let is = (printed n).0 refl in (n, is.0, sym same ∙ is.1), λ _. test)

pub no_text : (word : List ℕ) → (IsUtf8 word → ⊥) → Decides false (IsNumber word)
no_text word other = (λ e. absurd cc, λ number. absurd (other (subst IsUtf8 (sym number.2) (IsUtf8-from_ascii (decimal number.0) (IsAscii-decimal number.0 number.1)))))

-- ---- the words of reads

no_spaces : (bytes : List ℕ) → list_all (λ b. not (nat_eq b 32)) bytes ≡ true → All NoSpace bytes
no_spaces [] h = All-nil NoSpace
no_spaces (b ∷ bytes) h =
    let parts = and_parts (not (nat_eq b 32)) (list_all (λ b. not (nat_eq b 32)) bytes) h in
    All-cons NoSpace b bytes (by (nat_eq b 32) parts.0) (no_spaces bytes parts.1)
  where
    by : (test : Bool) → not test ≡ true → test ≡ false
    by true e = absurd cc
    by false e = refl

pub method_lacks : (w : List ℕ) → IsMethod w → All NoSpace w
method_lacks w (inl is) = subst (All NoSpace) (sym is) (no_spaces (codes "get") refl)
method_lacks w (inr (inl is)) = subst (All NoSpace) (sym is) (no_spaces (codes "head") refl)
method_lacks w (inr (inr (inl is))) = subst (All NoSpace) (sym is) (no_spaces (codes "list0") refl)
method_lacks w (inr (inr (inr is))) = subst (All NoSpace) (sym is) (no_spaces (codes "list1") refl)

-- ---- fronts of one word

pub front_decides : (word bytes : List ℕ) (r : Bool) → r ≡ starts_with nat_eq word bytes → Decides r (IsBegun (λ w. w ≡ word) bytes)
front_decides word bytes r is = let starts = starts_is Decides-eqb word bytes r is in (λ e. (drop (length bytes) word, sym (starts.0 e)), λ begun. starts.1 begun.0 (sym begun.1))

-- ---- what may follow

pub a_read : IsRead (103 ∷ 101 ∷ 116 ∷ 32 ∷ [])
a_read = (103 ∷ 101 ∷ 116 ∷ [], [], inl refl, tt, refl)

pub a_moment : Follows IsNumber IsRead (48 ∷ 32 ∷ 103 ∷ 101 ∷ 116 ∷ 32 ∷ [])
a_moment = (48 ∷ [], 103 ∷ 101 ∷ 116 ∷ 32 ∷ [], (0, omega arith, sym (decimal_digit 0 (omega arith))), a_read, refl)
