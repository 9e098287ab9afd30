-- A look finds the first empty line.
use Rattle.std.proofs.Common.{◌≡◌, ◌↔◌, ℕ, zero, suc, ◌+◌, ◌<◌, ◌≤◌, ◌⊎◌, inl, inr, List, [], ◌∷◌, length, take, drop, get_or, Bool, true, false, cond, ◌&&◌, nat_eq, eqb-true, refl, sym, ap, ◌∙◌, subst, arith, length-append, length-take, lit≤}
use Rattle.std.proofs.lemmas.Bool.{or_parts, eqb-false}
use Rattle.std.specs.List.{list_all}
use Rattle.std.proofs.lemmas.Bool.Decides.{nat_tests}
use Rattle.std.proofs.lemmas.List.{drop_all}
use Rattle.ocm_http_heads.specs.declared.endings.Stand.{Stand}
use Rattle.ocm_http_heads.specs.declared.endings.Stand.TheVariants.{Before, InLine, AtLine, AfterReturn}
use Rattle.ocm_http_heads.specs.declared.endings.Look.{Look}
use Rattle.ocm_http_heads.specs.declared.endings.Found.{Found}
use Rattle.ocm_http_heads.specs.declared.endings.Found.TheVariants.{Whole, TooLong, Unfinished}
use Rattle.ocm_http_heads.specs.Endings.{further, found, stepped, passes, ends, is_bare, stand_after, blanks, is_blank, lines, of_head, of_trailers}
use Rattle.ocm_http_heads.specs.EmptyLines.{EndsEmpty, bare, returned, IsFirst, IsPassed, AreOpen, behind_blanks, at_line, HeadsEnd, TrailersEnd}
use Rattle.ocm_http_heads.proofs.Looks.{whole_within, allowed_size, allowed_lines}

-- ---- bytes that end with an empty line

short : (bytes : List ℕ) → length bytes ≤ 1 → EndsEmpty bytes → ⊥
short bytes few (bare front e) = omega (arith, ap length e, length-append front (10 ∷ 10 ∷ []))
short bytes few (returned front e) = omega (arith, ap length e, length-append front (10 ∷ 13 ∷ 10 ∷ []))

after_return : EndsEmpty (10 ∷ 13 ∷ []) → ⊥
after_return (bare [] e) = absurd (omega (arith, ap (λ l. get_or l 1 0) e))
after_return (bare (a ∷ front) e) = short (13 ∷ []) (lit≤ tt) (bare front (ap (drop 1) e))
after_return (returned front e) = omega (arith, ap length e, length-append front (10 ∷ 13 ∷ 10 ∷ []))

-- one byte more at the front
grown : (b : ℕ) (bytes : List ℕ) → EndsEmpty bytes → EndsEmpty (b ∷ bytes)
grown b bytes (bare front e) = bare (b ∷ front) (ap (λ l. b ∷ l) e)
grown b bytes (returned front e) = returned (b ∷ front) (ap (λ l. b ∷ l) e)

-- one byte less, which is no LF
peeled : (b : ℕ) (bytes : List ℕ) → (b ≡ 10 → ⊥) → EndsEmpty (b ∷ bytes) → EndsEmpty bytes
peeled b bytes other (bare [] e) = absurd (other (ap (λ l. get_or l 0 0) e))
peeled b bytes other (bare (a ∷ front) e) = bare front (ap (drop 1) e)
peeled b bytes other (returned [] e) = absurd (other (ap (λ l. get_or l 0 0) e))
peeled b bytes other (returned (a ∷ front) e) = returned front (ap (drop 1) e)

-- an LF less, and a byte behind it that is neither CR nor LF
peeled_line : (b : ℕ) (bytes : List ℕ) → (b ≡ 10 → ⊥) → (b ≡ 13 → ⊥) → EndsEmpty (10 ∷ b ∷ bytes) → EndsEmpty bytes
peeled_line b bytes feed return (bare [] e) = absurd (feed (ap (λ l. get_or l 1 0) e))
peeled_line b bytes feed return (bare (a ∷ front) e) = peeled b bytes feed (bare front (ap (drop 1) e))
peeled_line b bytes feed return (returned [] e) = absurd (return (ap (λ l. get_or l 1 0) e))
peeled_line b bytes feed return (returned (a ∷ front) e) = peeled b bytes feed (returned front (ap (drop 1) e))

-- an LF and a CR less, and a byte behind them that is no LF
peeled_return : (b : ℕ) (bytes : List ℕ) → (b ≡ 10 → ⊥) → EndsEmpty (10 ∷ 13 ∷ b ∷ bytes) → EndsEmpty bytes
peeled_return b bytes feed (bare [] e) = absurd (omega (arith, ap (λ l. get_or l 1 0) e))
peeled_return b bytes feed (bare (a ∷ front) e) = peeled b bytes feed (peeled 13 (b ∷ bytes) (λ h. omega arith) (bare front (ap (drop 1) e)))
peeled_return b bytes feed (returned [] e) = absurd (feed (ap (λ l. get_or l 2 0) e))
peeled_return b bytes feed (returned (a ∷ front) e) = peeled b bytes feed (peeled 13 (b ∷ bytes) (λ h. omega arith) (returned front (ap (drop 1) e)))

-- ---- what a look has before it

-- the first bytes, with what a look that stands here keeps of those before them
abbrev seen : Stand → List ℕ → ℕ → List ℕ
seen Before bytes k = behind_blanks bytes k
seen InLine bytes k = take k bytes
seen AtLine bytes k = at_line bytes k
seen AfterReturn bytes k = 10 ∷ 13 ∷ take k bytes

none_yet : (stand : Stand) (bytes : List ℕ) → EndsEmpty (seen stand bytes 0) → ⊥
none_yet Before bytes h = short [] (lit≤ tt) (subst EndsEmpty (drop_all (blanks bytes) [] (omega arith)) h)
none_yet InLine bytes h = short [] (lit≤ tt) h
none_yet AtLine bytes h = short (10 ∷ []) (lit≤ tt) h
none_yet AfterReturn bytes h = after_return h

drop_one : (n b : ℕ) (bytes : List ℕ) → drop (1 + n) (b ∷ bytes) ≡ drop n bytes
drop_one n b bytes = let e : 1 + n ≡ suc n = omega arith in ap (λ m. drop m (b ∷ bytes)) e

not_feed : (b : ℕ) → is_blank b ≡ false → b ≡ 10 → ⊥
not_feed b h = eqb-false b 10 (or_parts (nat_eq b 10) (nat_eq b 13) h).0

on_before : (b : ℕ) (x : List ℕ) (k : ℕ) (blank : Bool) → is_blank b ≡ blank → EndsEmpty (drop (cond blank (1 + blanks x) 0) (b ∷ take k x)) ↔ EndsEmpty (seen (cond blank Before InLine) x k)
on_before b x k true h = (subst EndsEmpty (drop_one (blanks x) b (take k x)), subst EndsEmpty (sym (drop_one (blanks x) b (take k x))))
on_before b x k false h = (peeled b (take k x) (not_feed b h), grown b (take k x))

on_line : (b : ℕ) (x : List ℕ) (k : ℕ) (feed : Bool) → nat_eq b 10 ≡ feed → EndsEmpty (b ∷ take k x) ↔ EndsEmpty (seen (cond feed AtLine InLine) x k)
on_line b x k true h = (subst (λ c. EndsEmpty (c ∷ take k x)) (eqb-true b 10 h), subst (λ c. EndsEmpty (c ∷ take k x)) (sym (eqb-true b 10 h)))
on_line b x k false h = (peeled b (take k x) (eqb-false b 10 h), grown b (take k x))

on_start : (b : ℕ) (x : List ℕ) (k : ℕ) (return : Bool) → nat_eq b 10 ≡ false → nat_eq b 13 ≡ return → EndsEmpty (10 ∷ b ∷ take k x) ↔ EndsEmpty (seen (cond return AfterReturn InLine) x k)
on_start b x k true feed h = (subst (λ c. EndsEmpty (10 ∷ c ∷ take k x)) (eqb-true b 13 h), subst (λ c. EndsEmpty (10 ∷ c ∷ take k x)) (sym (eqb-true b 13 h)))
on_start b x k false feed h = (peeled_line b (take k x) (eqb-false b 10 feed) (eqb-false b 13 h), λ e. grown 10 (b ∷ take k x) (grown b (take k x) e))

-- a byte that ends nothing goes over to what the look keeps
on : (stand : Stand) (b : ℕ) (x : List ℕ) (k : ℕ) → ends stand b ≡ false → EndsEmpty (seen stand (b ∷ x) (suc k)) ↔ EndsEmpty (seen (stand_after stand b) x k)
on Before b x k h = on_before b x k (is_blank b) refl
on InLine b x k h = on_line b x k (nat_eq b 10) refl
on AtLine b x k h = on_start b x k (nat_eq b 13) h refl
on AfterReturn b x k h = (peeled_return b (take k x) (eqb-false b 10 h), λ e. grown 10 (13 ∷ b ∷ take k x) (grown 13 (b ∷ take k x) (grown b (take k x) e)))

-- a byte that ends an empty line
ended_here : (stand : Stand) (b : ℕ) (x : List ℕ) → ends stand b ≡ true → EndsEmpty (seen stand (b ∷ x) 1)
ended_here Before b x h = cc
ended_here InLine b x h = cc
ended_here AtLine b x h = bare [] (ap (λ c. 10 ∷ c ∷ []) (eqb-true b 10 h))
ended_here AfterReturn b x h = returned [] (ap (λ c. 10 ∷ 13 ∷ c ∷ []) (eqb-true b 10 h))

-- ---- what is found

whole_by : (p e t : Bool) (f : Found) (n : ℕ) → cond p (TooLong t) (cond e (Whole 1) (further 1 f)) ≡ Whole n → ((e ≡ true) × (n ≡ 1)) ⊎ ((e ≡ false) × ((k : ℕ) × (f ≡ Whole k) × (n ≡ suc k)))
whole_by true e t f n h = cc
whole_by false true t f n h = inl (refl, cc)
whole_by false false t (Whole k) n h = inr (refl, (k, refl, let e : 1 + k ≡ n = cc in omega arith))
whole_by false false t (TooLong blank) n h = cc
whole_by false false t Unfinished n h = cc

none_of : (stand : Stand) (b : ℕ) (x : List ℕ) (k : ℕ) → ends stand b ≡ false → ((i : ℕ) → i < k → EndsEmpty (seen (stand_after stand b) x i) → ⊥) → (j : ℕ) → j < suc k → EndsEmpty (seen stand (b ∷ x) j) → ⊥
none_of stand b x k goes none zero l h = none_yet stand (b ∷ x) h
none_of stand b x k goes none (suc i) l h = none i (omega arith) ((on stand b x i goes).0 h)

first_on : (stand : Stand) (b : ℕ) (x : List ℕ) (k : ℕ) → ends stand b ≡ false → IsFirst (seen (stand_after stand b) x) (length x) k → IsFirst (seen stand (b ∷ x)) (length (b ∷ x)) (suc k)
first_on stand b x k goes is = record {
  within = omega (arith, is.within);
  is_empty = (on stand b x k goes).1 is.is_empty;
  none_before = none_of stand b x k goes is.none_before;
}

first_here : (stand : Stand) (b : ℕ) (x : List ℕ) → ends stand b ≡ true → IsFirst (seen stand (b ∷ x)) (length (b ∷ x)) 1
first_here stand b x is = record {
  within = omega arith;
  is_empty = ended_here stand b x is;
  none_before = λ k l h. let e : k ≡ 0 = omega arith in none_yet stand (b ∷ x) (subst (λ j. EndsEmpty (seen stand (b ∷ x) j)) e h);
}

first_found : (look : Look) (bytes : List ℕ) (n : ℕ) → found look bytes ≡ Whole n → IsFirst (seen look.stand bytes) (length bytes) n
first_found look [] n h = cc
first_found look (b ∷ x) n h =
    let first_is : ℕ → Type 0 = λ m. IsFirst (seen look.stand (b ∷ x)) (length (b ∷ x)) m in
    elim (whole_by (passes look b) (ends look.stand b) (is_bare look.stand b) (found (stepped look b) x) n h) [
      | inl here ↦ subst first_is (sym here.1) (first_here look.stand b x here.0)
      | inr later ↦ subst first_is (sym later.1.2) (first_on look.stand b x later.1.0 later.0 (first_found (stepped look b) x later.1.0 later.1.1))
    ]

allowed : (look : Look) (b count m : ℕ) → suc m ≤ look.size → cond (nat_eq b 10) 1 0 + count ≤ look.lines → passes look b ≡ false
allowed look b count m size few = grind (arith, nat_tests)

fewer : (look : Look) (b count : ℕ) → cond (nat_eq b 10) 1 0 + count ≤ look.lines → count ≤ (stepped look b).lines
fewer look b count few = grind (arith, nat_tests)

first_off : (stand : Stand) (b : ℕ) (x : List ℕ) (k : ℕ) → ends stand b ≡ false → IsFirst (seen stand (b ∷ x)) (length (b ∷ x)) (suc k) → IsFirst (seen (stand_after stand b) x) (length x) k
first_off stand b x k goes is = record {
  within = omega (arith, is.within);
  is_empty = (on stand b x k goes).0 is.is_empty;
  none_before = λ i l h. is.none_before (suc i) (omega arith) ((on stand b x i goes).1 h);
}

found_whole : (p e t : Bool) (f : Found) (m : ℕ) → p ≡ false → (e ≡ true → m ≡ 0) → (e ≡ false → f ≡ Whole m) → cond p (TooLong t) (cond e (Whole 1) (further 1 f)) ≡ Whole (suc m)
found_whole p true t f m h one more = rw (h, one refl) refl
found_whole p false t f m h one more = let e : 1 + m ≡ suc m = omega arith in rw (h, more refl) (ap Whole e)

found_first : (look : Look) (bytes : List ℕ) (n : ℕ) → IsFirst (seen look.stand bytes) (length bytes) n → n ≤ look.size → lines (take n bytes) ≤ look.lines → found look bytes ≡ Whole n
found_first look bytes zero is size few = absurd (none_yet look.stand bytes is.is_empty)
found_first look [] (suc m) is size few = absurd (omega (arith, is.within))
found_first look (b ∷ x) (suc m) is size few =
    found_whole (passes look b) (ends look.stand b) (is_bare look.stand b) (found (stepped look b) x) m
    (allowed look b (lines (take m x)) m size few)
    (λ here. at_once m (is.none_before 1) (ended_here look.stand b x here))
    (λ goes. found_first (stepped look b) x m (first_off look.stand b x m goes is) (omega arith) (fewer look b (lines (take m x)) few))
  where
    at_once : {P : Type 0} (m : ℕ) → (1 < suc m → P → ⊥) → P → m ≡ 0
    at_once zero none p = refl
    at_once (suc k) none p = absurd (none (omega arith) p)

-- ---- nothing is found

open_by : (p e t : Bool) (f : Found) → cond p (TooLong t) (cond e (Whole 1) (further 1 f)) ≡ Unfinished → (p ≡ false) × (e ≡ false) × (f ≡ Unfinished)
open_by true e t f h = cc
open_by false true t f h = cc
open_by false false t (Whole k) h = cc
open_by false false t (TooLong blank) h = cc
open_by false false t Unfinished h = (refl, refl, refl)

open_on : (stand : Stand) (b : ℕ) (x : List ℕ) (n : ℕ) → ends stand b ≡ false → AreOpen (seen (stand_after stand b) x) n → AreOpen (seen stand (b ∷ x)) (suc n)
open_on stand b x n goes none zero l h = none_yet stand (b ∷ x) h
open_on stand b x n goes none (suc i) l h = none i (omega arith) ((on stand b x i goes).0 h)

-- how far a look came
record Reached (look : Look) (bytes : List ℕ) : Type 0 where
  pub none : AreOpen (seen look.stand bytes) (length bytes)
  pub size : length bytes ≤ look.size
  pub few : lines bytes ≤ look.lines

open_found : (look : Look) (bytes : List ℕ) → found look bytes ≡ Unfinished → Reached look bytes
open_found look [] h = record {
  none = λ k l e. let z : k ≡ 0 = omega arith in none_yet look.stand [] (subst (λ j. EndsEmpty (seen look.stand [] j)) z e);
  size = omega arith;
  few = omega arith;
}
open_found look (b ∷ x) h =
    let is = open_by (passes look b) (ends look.stand b) (is_bare look.stand b) (found (stepped look b) x) h in
    let rest = open_found (stepped look b) x is.2 in
    let some : 0 < look.size = allowed_size look b is.0 in
    let line : cond (nat_eq b 10) 1 0 + (stepped look b).lines ≤ look.lines = allowed_lines look b is.0 in
    record {
      none = open_on look.stand b x (length x) is.1 rest.none;
      size = omega (arith, rest.size);
      few = omega (arith, rest.few);
    }

found_none : (p e t : Bool) (f : Found) → p ≡ false → (e ≡ true → ⊥) → (e ≡ false → f ≡ Unfinished) → cond p (TooLong t) (cond e (Whole 1) (further 1 f)) ≡ Unfinished
found_none p true t f h none more = absurd (none refl)
found_none p false t f h none more = rw (h, more refl) refl

found_open : (look : Look) (bytes : List ℕ) → AreOpen (seen look.stand bytes) (length bytes) → length bytes ≤ look.size → lines bytes ≤ look.lines → found look bytes ≡ Unfinished
found_open look [] none size few = refl
found_open look (b ∷ x) none size few =
    found_none (passes look b) (ends look.stand b) (is_bare look.stand b) (found (stepped look b) x)
    (allowed look b (lines x) (length x) size few)
    (λ here. none 1 (omega arith) (ended_here look.stand b x here))
    (λ goes. found_open (stepped look b) x (λ i l h. none (suc i) (omega arith) ((on look.stand b x i goes).1 h)) (omega arith) (fewer look b (lines x) few))

-- ---- a limit is passed

long_by : (p e t blank : Bool) (f : Found) → cond p (TooLong t) (cond e (Whole 1) (further 1 f)) ≡ TooLong blank → ((p ≡ true) × (blank ≡ t)) ⊎ ((p ≡ false) × (e ≡ false) × (f ≡ TooLong blank))
long_by true e t blank f h = inl (refl, cc)
long_by false true t blank f h = cc
long_by false false t blank (Whole k) h = cc
long_by false false t blank (TooLong other) h = inr (refl, refl, h)
long_by false false t blank Unfinished h = cc

-- whether a look that stands here and the bytes behind it passed over CR and LF alone
abbrev all_blank : Stand → List ℕ → Bool
all_blank Before bytes = list_all is_blank bytes
all_blank InLine bytes = false
all_blank AtLine bytes = false
all_blank AfterReturn bytes = false

blank_here : (stand : Stand) (b : ℕ) → is_bare stand b ≡ all_blank stand (b ∷ [])
blank_here Before b = by (is_blank b)
  where
    by : (t : Bool) → t ≡ t && true
    by true = refl
    by false = refl
blank_here InLine b = refl
blank_here AtLine b = refl
blank_here AfterReturn b = refl

blank_on : (stand : Stand) (b : ℕ) (bytes : List ℕ) → all_blank (stand_after stand b) bytes ≡ all_blank stand (b ∷ bytes)
blank_on Before b bytes = by (is_blank b)
  where
    by : (t : Bool) → all_blank (cond t Before InLine) bytes ≡ t && list_all is_blank bytes
    by true = refl
    by false = refl
blank_on InLine b bytes = by (nat_eq b 10)
  where
    by : (t : Bool) → all_blank (cond t AtLine InLine) bytes ≡ false
    by true = refl
    by false = refl
blank_on AtLine b bytes = by (nat_eq b 13)
  where
    by : (t : Bool) → all_blank (cond t AfterReturn InLine) bytes ≡ false
    by true = refl
    by false = refl
blank_on AfterReturn b bytes = refl

-- where a look passed a limit
record Passed (look : Look) (bytes : List ℕ) (blank : Bool) : Type 0 where
  pub at : ℕ
  pub is : IsPassed look.size look.lines bytes at
  pub none : AreOpen (seen look.stand bytes) at
  pub blank_is : blank ≡ all_blank look.stand (take (suc at) bytes)

no_room : (look : Look) (b : ℕ) → passes look b ≡ true → 1 ≤ look.size → cond (nat_eq b 10) 1 0 ≤ look.lines → ⊥
no_room look b h size few = grind (arith, nat_tests)

passed_here : (look : Look) (b : ℕ) (x : List ℕ) (blank : Bool) → passes look b ≡ true → blank ≡ is_bare look.stand b → Passed look (b ∷ x) blank
passed_here look b x blank h e = record {
  at = 0;
  is = record { inside = omega arith; within = (omega arith, omega arith); past = λ room. no_room look b h room.0 (omega (arith, room.1)) };
  none = λ k l h. let z : k ≡ 0 = omega arith in none_yet look.stand (b ∷ x) (subst (λ j. EndsEmpty (seen look.stand (b ∷ x) j)) z h);
  blank_is = e ∙ blank_here look.stand b;
}

passed_on : (look : Look) (b : ℕ) (x : List ℕ) (blank : Bool) → passes look b ≡ false → ends look.stand b ≡ false → Passed (stepped look b) x blank → Passed look (b ∷ x) blank
passed_on look b x blank h goes rest =
    let n = rest.at in
    let some : 0 < look.size = allowed_size look b h in
    let line : cond (nat_eq b 10) 1 0 + (stepped look b).lines ≤ look.lines = allowed_lines look b h in
    record {
      at = suc n;
      is = record {
        inside = omega (arith, rest.is.inside);
        within = (omega (arith, rest.is.within.0), omega (arith, rest.is.within.1));
        past = λ room. rest.is.past (omega (arith, room.0), fewer look b (lines (take (suc n) x)) room.1);
      };
      none = open_on look.stand b x n goes rest.none;
      blank_is = rest.blank_is ∙ blank_on look.stand b (take (suc n) x);
    }

passed_found : (look : Look) (bytes : List ℕ) (blank : Bool) → found look bytes ≡ TooLong blank → Passed look bytes blank
passed_found look [] blank h = cc
passed_found look (b ∷ x) blank h =
    elim (long_by (passes look b) (ends look.stand b) (is_bare look.stand b) blank (found (stepped look b) x) h) [
      | inl here ↦ passed_here look b x blank here.0 here.1
      | inr later ↦ passed_on look b x blank later.0 later.1 (passed_found (stepped look b) x blank later.2)
    ]

-- ---- heads and trailers

pub heads_end : HeadsEnd
heads_end = record {
  whole = λ bytes n. (
    λ h. let within = whole_within of_head bytes n h in (first_found of_head bytes n h, within.size, within.lines),
    λ h. found_first of_head bytes n h.0 h.1 h.2,
  );
  unfinished = λ bytes. (
    λ h. let reached = open_found of_head bytes h in (reached.none, reached.size, reached.few),
    λ h. found_open of_head bytes h.0 h.1 h.2,
  );
  too_long = λ bytes blank h. let passed = passed_found of_head bytes blank h in (passed.at, passed.is, passed.none, passed.blank_is);
}

lines_few : (bytes : List ℕ) → lines bytes ≤ length bytes
lines_few [] = lit≤ tt
lines_few (b ∷ x) = let rest : lines x ≤ length x = lines_few x in one_line (nat_eq b 10) (lines x) (length x) rest
  where
    one_line : (feed : Bool) (count size : ℕ) → count ≤ size → cond feed 1 0 + count ≤ suc size
    one_line true count size h = omega arith
    one_line false count size h = omega arith

pub trailers_end : TrailersEnd
trailers_end = record {
  whole = λ bytes n. (
    λ h. (first_found of_trailers bytes n h, (whole_within of_trailers bytes n h).size),
    λ h. let few : lines (take n bytes) ≤ 8192 = omega (arith, lines_few (take n bytes), length-take n bytes, h.1) in
        found_first of_trailers bytes n h.0 h.1 few,
  );
  unfinished = λ bytes. (
    λ h. let reached = open_found of_trailers bytes h in (reached.none, reached.size),
    λ h. let few : lines bytes ≤ 8192 = omega (arith, lines_few bytes, h.1) in found_open of_trailers bytes h.0 h.1 few,
  );
}
