-- Fronts, ends and separators of texts.
use Rattle.std.proofs.Common.{◌≡◌, ◌≢◌, ℕ, suc, ◌+◌, ◌-◌, ◌<◌, Bool, true, false, cond, List, [], ◌∷◌, ◌++◌, length, take, drop, get_or, Option, Some, None, refl, sym, ap, ◌∙◌, arith, eq-eqb, ne_eqb, eqb-true, length-append, Bor, MatchOption}
use Rattle.std.specs.Prelude.{nat_eq, unwrap_or}
use Rattle.std.specs.Option.{option_copied}
use Rattle.std.specs.Str.Pattern.{FindsTextPrefix, FindsTextSuffix}
use Rattle.std.specs.List.{list_all, starts_with, ends_with}
use Rattle.std.proofs.lemmas.Bool.{and_parts, false_from_ne_true, cond-true, cond-false, both_ways}
use Rattle.std.proofs.lemmas.List.{take-append-drop, take_at, drop_at}
use Rattle.std.proofs.lemmas.Str.Pattern.{IsSplitOnceResult, split_parts}
use Rattle.std.proofs.lemmas.Slice.Eq.{bytes_eq-Decides}
use Rattle.ocm_types.specs.Hosts.{after_front, without_end, cut_at_first, host_text}

-- no byte is c
abbrev pub Lacks : ℕ → List ℕ → Type 0
Lacks c [] = Unit {0}
Lacks c (b ∷ bytes) = (b ≢ c) × Lacks c bytes

-- by each place
pub Lacks-from_reads : (c : ℕ) (bytes : List ℕ) → ((i : ℕ) → i < length bytes → get_or bytes i 0 ≢ c) → Lacks c bytes
Lacks-from_reads c [] h = tt
Lacks-from_reads c (b ∷ bytes) h = (h 0 (omega arith), Lacks-from_reads c bytes (λ i lt. h (suc i) (omega arith)))

-- where each byte passes a test that c fails
pub Lacks-from_all : (c : ℕ) (test : ℕ → Bool) → test c ≡ false → (bytes : List ℕ) → list_all test bytes ≡ true → Lacks c bytes
Lacks-from_all c test fails [] all = tt
Lacks-from_all c test fails (b ∷ bytes) all =
    let parts = and_parts (test b) (list_all test bytes) all in
    ((λ e. both_ways (test b) (ap test e ∙ fails) parts.0), Lacks-from_all c test fails bytes parts.1)

-- two texts, one behind the other
pub Lacks-append : (c : ℕ) (xs ys : List ℕ) → Lacks c xs → Lacks c ys → Lacks c (xs ++ ys)
Lacks-append c [] ys h k = k
Lacks-append c (x ∷ xs) ys h k = (h.0, Lacks-append c xs ys h.1 k)

-- a text with c in it does not lack it
pub Lacks-between : (c : ℕ) (xs ys : List ℕ) → Lacks c (xs ++ c ∷ ys) → ⊥
Lacks-between c [] ys h = h.0 refl
Lacks-between c (x ∷ xs) ys h = Lacks-between c xs ys h.1

-- a text is cut at the first separator
pub cut_at_first-at : (c : ℕ) (xs ys : List ℕ) → Lacks c xs → cut_at_first c (xs ++ c ∷ ys) ≡ (xs, Some ys)
cut_at_first-at c [] ys h = cond-true _ _ _ (eq-eqb c c refl)
cut_at_first-at c (x ∷ xs) ys h = cond-false _ _ _ (ne_eqb x c h.0) ∙ ap (λ (p : List ℕ × Option (List ℕ)). (x ∷ p.0, p.1)) (cut_at_first-at c xs ys h.1)

-- a text without a separator is not cut
pub cut_at_first-none : (c : ℕ) (xs : List ℕ) → Lacks c xs → cut_at_first c xs ≡ (xs, None)
cut_at_first-none c [] h = refl
cut_at_first-none c (x ∷ xs) h = cond-false _ _ _ (ne_eqb x c h.0) ∙ ap (λ (p : List ℕ × Option (List ℕ)). (x ∷ p.0, p.1)) (cut_at_first-none c xs h.1)

-- one more byte before a name
host_text-cons : (b : ℕ) (name : List ℕ) (port : Option (List ℕ)) → host_text (b ∷ name) port ≡ b ∷ host_text name port
host_text-cons b name None = refl
host_text-cons b name (Some digits) = refl

-- the parts of a text, put together, are the text
pub host_text-cut : (text : List ℕ) → host_text (cut_at_first 58 text).0 (cut_at_first 58 text).1 ≡ text
host_text-cut [] = refl
host_text-cut (b ∷ bytes) =
    let later = cut_at_first 58 bytes in
    let at : (t : Bool) → nat_eq b 58 ≡ t → host_text (cond {A = List ℕ × Option (List ℕ)} t ([], Some bytes) (b ∷ later.0, later.1)).0 (cond {A = List ℕ × Option (List ℕ)} t ([], Some bytes) (b ∷ later.0, later.1)).1 ≡ b ∷ bytes =
    λ t. elim t as (λ t. nat_eq b 58 ≡ t → host_text (cond {A = List ℕ × Option (List ℕ)} t ([], Some bytes) (b ∷ later.0, later.1)).0 (cond {A = List ℕ × Option (List ℕ)} t ([], Some bytes) (b ∷ later.0, later.1)).1 ≡ b ∷ bytes) [
      | true ↦ λ e. ap (λ (x : ℕ). x ∷ bytes) (sym (eqb-true b 58 e))
      | false ↦ λ e. host_text-cons b later.0 later.1 ∙ ap (λ (x : List ℕ). b ∷ x) (host_text-cut bytes)
    ] in
    at (nat_eq b 58) refl

-- a front is taken off where it stands
pub after_front-at : (front rest : List ℕ) → after_front front (front ++ rest) ≡ Some rest
after_front-at front rest =
    let same : starts_with nat_eq (front ++ rest) front ≡ true = (bytes_eq-Decides front (take (length front) (front ++ rest))).1 (sym (take_at front rest (length front) refl)) in
    cond-true _ _ _ same ∙ ap (λ (x : List ℕ). Some x) (drop_at front rest (length front) refl)

-- a text that does not begin so has no such front
pub after_front-none : (front text : List ℕ) → ((rest : List ℕ) → text ≢ front ++ rest) → after_front front text ≡ None
after_front-none front text none =
    cond-false _ _ _ (false_from_ne_true (starts_with nat_eq text front) (λ t.
    let same = (bytes_eq-Decides front (take (length front) text)).0 t in
    none (drop (length front) text) (sym (take-append-drop (length front) text) ∙ ap (λ (x : List ℕ). x ++ drop (length front) text) (sym same))))

-- an end is taken off where it stands
pub without_end-at : (front end text : List ℕ) → text ≡ front ++ end → without_end end text ≡ front
without_end-at front end text e =
    let long : length (front ++ end) - length end ≡ length front = omega (arith, length-append front end) in
    let same : ends_with nat_eq (front ++ end) end ≡ true = (bytes_eq-Decides end (drop (length (front ++ end) - length end) (front ++ end))).1 (sym (rw long (drop_at front end (length front) refl))) in
    ap (without_end end) e ∙ cond-true _ _ _ same ∙ rw long (take_at front end (length front) refl)

-- a text that does not end so stays
pub without_end-none : (end text : List ℕ) → ((front : List ℕ) → text ≢ front ++ end) → without_end end text ≡ text
without_end-none end text none =
    cond-false _ _ _ (false_from_ne_true (ends_with nat_eq text end) (λ t.
    let same = (bytes_eq-Decides end (drop (length text - length end) text)).0 t in
    none (take (length text - length end) text) (sym (take-append-drop (length text - length end) text) ∙ ap (λ (x : List ℕ). take (length text - length end) text ++ x) (sym same))))

-- what `strip_prefix` gives
pub after_front-strips : (front text : List ℕ) (r : Option (Bor (List ℕ))) → MatchOption r (FindsTextPrefix front text None) (λ x. (n : ℕ) × FindsTextPrefix front text (Some n) × (x.now ≡ drop n text) × (length x.now + n ≡ length text)) → option_copied r ≡ after_front front text
after_front-strips front text None h = sym (after_front-none front text h)
after_front-strips front text (Some rest) h = ap (λ (x : List ℕ). Some x) h.2 ∙ sym (after_front-at front (drop h.0 text)) ∙ ap (after_front front) (sym h.1.1)

-- what `strip_suffix` gives
pub without_end-strips : (end text : List ℕ) (r : Option (Bor (List ℕ))) → MatchOption r (FindsTextSuffix end text None) (λ x. (n : ℕ) × FindsTextSuffix end text (Some n) × (x.now ≡ take (length text - n) text) × (length x.now + n ≡ length text)) → unwrap_or (option_copied r) text ≡ without_end end text
without_end-strips end text None h = sym (without_end-none end text h)
without_end-strips end text (Some front) h = h.2 ∙ sym (without_end-at (take (length text - h.0) text) end text h.1.1)

-- what a reference points to, or else the default
pub unwrap_or-now : (r : Option (Bor (List ℕ))) (default x : Bor (List ℕ)) → x ≡ unwrap_or r default → x.now ≡ unwrap_or (option_copied r) default.now
unwrap_or-now None default x e = ap (λ (b : Bor (List ℕ)). b.now) e
unwrap_or-now (Some y) default x e = ap (λ (b : Bor (List ℕ)). b.now) e

-- where `split_once` finds no separator
pub cut_at_first-none_found : (c : ℕ) (text : List ℕ) → IsSplitOnceResult c text None → c < 128 → cut_at_first c text ≡ (text, None)
cut_at_first-none_found c text h low = cut_at_first-none c text (Lacks-from_reads c text (split_parts c text None h low))

-- where `split_once` finds one
pub cut_at_first-found : (c : ℕ) (text : List ℕ) (x y : Bor (List ℕ)) → IsSplitOnceResult c text (Some (x, y)) → c < 128 → cut_at_first c text ≡ (x.now, Some y.now)
cut_at_first-found c text x y h low =
    let parts = split_parts c text (Some (x, y)) h low in
    ap (cut_at_first c) parts.0 ∙ cut_at_first-at c x.now y.now (Lacks-from_reads c x.now parts.1)
