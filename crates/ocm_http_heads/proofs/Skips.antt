-- A look passes over the bytes of its line at once.
use Rattle.std.proofs.Common.{◌≡◌, ℕ, zero, suc, ◌+◌, ◌-◌, ◌<◌, ◌≤◌, List, [], ◌∷◌, drop, Bool, true, false, not, cond, refl, sym, ap, ◌∙◌, arith}
use Rattle.std.proofs.lemmas.Bool.Decides.{nat_tests}
use Rattle.std.specs.List.{prefix_len}
use Rattle.ocm_http_heads.specs.declared.endings.Stand.TheVariants.{InLine}
use Rattle.ocm_http_heads.specs.declared.endings.Look.{Look}
use Rattle.ocm_http_heads.specs.declared.endings.Found.{Found}
use Rattle.ocm_http_heads.specs.declared.endings.Found.TheVariants.{Whole, TooLong}
use Rattle.ocm_http_heads.specs.Endings.{further, found, moved, stepped, passes, ends, is_bare, is_feed, is_in_line}
use Rattle.ocm_http_heads.proofs.Looks.{further_twice, further_none}

found_next : (p e t : Bool) (f : Found) → p ≡ false → e ≡ false → cond p (TooLong t) (cond e (Whole 1) (further 1 f)) ≡ further 1 f
found_next p e t f h k = rw (h, k) refl

-- a look behind so many bytes of its line
abbrev pub behind : Look → ℕ → Look
behind look n = record { stand = look.stand; size = look.size - n; lines = look.lines }

-- a look passes over so many bytes at once
pub record Skips (look : Look) (bytes : List ℕ) (n : ℕ) : Type 0 where
  pub found : found look bytes ≡ further n (found (behind look n) (drop n bytes))
  pub moved : moved look bytes ≡ moved (behind look n) (drop n bytes)

behind_none : (look : Look) → behind look 0 ≡ look
behind_none look = let e : look.size - 0 ≡ look.size = omega arith in ap (λ (n : ℕ). record { stand = look.stand; size = n; lines = look.lines }) e

behind_more : (look : Look) (k : ℕ) → behind (behind look 1) k ≡ behind look (suc k)
behind_more look k = let e : look.size - 1 - k ≡ look.size - suc k = omega arith in ap (λ (n : ℕ). record { stand = look.stand; size = n; lines = look.lines }) e

allowed : (look : Look) (b : ℕ) → 0 < look.size → is_feed b ≡ false → passes look b ≡ false
allowed look b some other = grind (arith, nat_tests)

goes : (look : Look) (b : ℕ) → look.stand ≡ InLine → ends look.stand b ≡ false
goes look b h = ap (λ s. ends s b) h

stays : (look : Look) (b : ℕ) → look.stand ≡ InLine → is_feed b ≡ false → stepped look b ≡ behind look 1
stays look b h other = rw (h, other) refl

first_stays : (feed : Bool) (n m : ℕ) → suc n ≤ cond (not feed) (1 + m) 0 → (feed ≡ false) × (n ≤ m)
first_stays true n m h = absurd (omega arith)
first_stays false n m h = (refl, omega arith)

one_more : (look : Look) (b : ℕ) (x : List ℕ) (k : ℕ) → look.stand ≡ InLine → 0 < look.size → is_feed b ≡ false → Skips (behind look 1) x k → Skips look (b ∷ x) (suc k)
one_more look b x k h some other rest =
    let next : stepped look b ≡ behind look 1 = stays look b h other in
    let e : 1 + k ≡ suc k = omega arith in
    record {
      found = found_next (passes look b) (ends look.stand b) (is_bare look.stand b) (found (stepped look b) x) (allowed look b some other) (goes look b h)
          ∙ ap (λ l. further 1 (found l x)) next ∙ ap (further 1) rest.found ∙ further_twice 1 k (found (behind (behind look 1) k) (drop k x))
          ∙ ap (λ n. further n (found (behind (behind look 1) k) (drop k x))) e ∙ ap (λ l. further (suc k) (found l (drop k x))) (behind_more look k);
      moved = ap (λ l. moved l x) next ∙ rest.moved ∙ ap (λ l. moved l (drop k x)) (behind_more look k);
    }

-- in a line, over bytes without an LF, as many as are allowed
pub skips : (look : Look) (bytes : List ℕ) (n : ℕ) → look.stand ≡ InLine → n ≤ look.size → n ≤ prefix_len is_in_line bytes → Skips look bytes n
skips look bytes zero h room all = record {
  found = ap (λ l. found l bytes) (sym (behind_none look)) ∙ sym (further_none (found (behind look 0) bytes));
  moved = ap (λ l. moved l bytes) (sym (behind_none look));
}
skips look [] (suc k) h room all = absurd (omega arith)
skips look (b ∷ x) (suc k) h room all =
    let first = first_stays (is_feed b) k (prefix_len is_in_line x) all in
    one_more look b x k h (omega arith) first.0 (skips (behind look 1) x k h (omega arith) first.1)
