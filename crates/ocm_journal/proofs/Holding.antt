-- What bytes hold at a place after a write that may have been cut short.
use Rattle.std.proofs.Common.{◌≡◌, ◌≤◌, ◌<◌, ℕ, ◌+◌, ◌-◌, List, [], ◌∷◌, ◌++◌, length, take, drop, get_or, refl, sym, ◌∙◌, ap, arith, append_assoc, length-append, take-append-drop}
use Rattle.std.proofs.lemmas.List.{take_at, drop_at, take-take, drop-drop, drop-take, drop_more, length-take-le, length-drop}
use Rattle.ocm_disk.specs.Disk.{Torn, Holds}
use Rattle.ocm_journal_image.specs.Layout.{HoldsAt}

-- the rest of the bytes from a place on stands behind what is held there
pub text_and_rest : (b : List ℕ) (q : ℕ) (t : List ℕ) → HoldsAt b q t → drop q b ≡ t ++ drop (length t) (drop q b)
text_and_rest b q t held = sym (take-append-drop (length t) (drop q b)) ∙ ap (λ (l : List ℕ). l ++ drop (length t) (drop q b)) held

pub holds_before : (b : List ℕ) (q : ℕ) (t rest : List ℕ) → drop q b ≡ t ++ rest → HoldsAt b q t
holds_before b q t rest is = ap (λ (l : List ℕ). take (length t) l) is ∙ take_at t rest (length t) refl

pub holds_both : (b : List ℕ) (q : ℕ) (s t : List ℕ) → HoldsAt b q s → HoldsAt b (q + length s) t → HoldsAt b q (s ++ t)
holds_both b q s t first second =
    let rest : List ℕ = drop (length t) (drop (q + length s) b) in
    let behind : drop (length s) (drop q b) ≡ t ++ rest = drop-drop (length s) q b ∙ text_and_rest b (q + length s) t second in
    holds_before b q (s ++ t) rest (text_and_rest b q s first ∙ ap (λ (l : List ℕ). s ++ l) behind ∙ sym (append_assoc s t rest))

pub holds_first : (b : List ℕ) (q : ℕ) (s t : List ℕ) → HoldsAt b q (s ++ t) → HoldsAt b q s
holds_first b q s t held = let rest : List ℕ = drop (length (s ++ t)) (drop q b) in holds_before b q s (t ++ rest) (text_and_rest b q (s ++ t) held ∙ append_assoc s t rest)

pub holds_second : (b : List ℕ) (q : ℕ) (s t : List ℕ) → HoldsAt b q (s ++ t) → HoldsAt b (q + length s) t
holds_second b q s t held =
    let rest : List ℕ = drop (length (s ++ t)) (drop q b) in
    holds_before b (q + length s) t rest (sym (drop-drop (length s) q b) ∙ ap (λ (l : List ℕ). drop (length s) l) (text_and_rest b q (s ++ t) held ∙ append_assoc s t rest) ∙ drop_at s (t ++ rest) (length s) refl)

-- a byte that is there is held
pub holds_byte : (b : List ℕ) (q : ℕ) → q < length b → HoldsAt b q (get_or b q 0 ∷ [])
holds_byte b q lt = holds_before b q (get_or b q 0 ∷ []) (drop (q + 1) b) (drop_more b q 0 lt)

pub byte_held : (b : List ℕ) (q x : ℕ) → HoldsAt b q (x ∷ []) → q < length b → get_or b q 0 ≡ x
byte_held b q x held lt = ap (λ (l : List ℕ). get_or l 0 0) (sym (holds_byte b q lt) ∙ held)

-- what is held before the range of a write stays
pub stays_before : (p n : ℕ) (b c : List ℕ) (q : ℕ) (t : List ℕ) → Torn p n b c → q + length t ≤ p → HoldsAt b q t → HoldsAt c q t
stays_before p n b c q t torn le held =
    let k : ℕ = q + length t in
    let fronts : take k c ≡ take k b = sym (take-take k p c le) ∙ ap (λ (l : List ℕ). take k l) torn.before ∙ take-take k p b le in
    sym (drop-take q (length t) c) ∙ ap (λ (l : List ℕ). drop q l) fronts ∙ drop-take q (length t) b ∙ held

-- and so does what is held behind it
pub stays_behind : (p n : ℕ) (b c : List ℕ) (q : ℕ) (t : List ℕ) → Torn p n b c → p + n ≤ q → HoldsAt b q t → HoldsAt c q t
stays_behind p n b c q t torn le held =
    let e : p + n + (q - (p + n)) ≡ q = omega (arith, le) in
    let ends : drop q c ≡ drop q b = ap (λ k. drop k c) (sym e) ∙ sym (drop-drop (q - (p + n)) (p + n) c) ∙ ap (λ (l : List ℕ). drop (q - (p + n)) l) torn.after ∙ drop-drop (q - (p + n)) (p + n) b ∙ ap (λ k. drop k b) e in
    ap (λ (l : List ℕ). take (length t) l) ends ∙ held

module _ (p : ℕ) (b t c : List ℕ) (is : Holds b p t c) (le : p ≤ length b) where
  front_size : length (take p b) ≡ p
  front_size = length-take-le p b le

  flat : c ≡ take p b ++ (t ++ drop (p + length t) b)
  flat = is ∙ append_assoc (take p b) t (drop (p + length t) b)

  behind : drop p c ≡ t ++ drop (p + length t) b
  behind = ap (λ (l : List ℕ). drop p l) flat ∙ drop_at (take p b) (t ++ drop (p + length t) b) p front_size

  -- a text that was written is held
  pub written_holds : HoldsAt c p t
  written_holds = holds_before c p t (drop (p + length t) b) behind

  size : length c ≡ p + (length t + (length b - (p + length t)))
  size = omega (arith, ap length flat, length-append (take p b) (t ++ drop (p + length t) b), front_size, length-append t (drop (p + length t) b), length-drop (p + length t) b)

  -- a write that was made whole is one that was made in part
  pub whole_is_torn : Torn p (length t) b c
  whole_is_torn = record {
    before = ap (λ (l : List ℕ). take p l) flat ∙ take_at (take p b) (t ++ drop (p + length t) b) p front_size;
    after = sym (drop-drop (length t) p c) ∙ ap (λ (l : List ℕ). drop (length t) l) behind ∙ drop_at t (drop (p + length t) b) (length t) refl;
    no_shorter = omega (arith, size, le);
    no_longer = omega (arith, size, le);
  }
