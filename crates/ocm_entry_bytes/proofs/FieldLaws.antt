-- What a field is: what is read of it is spelled so, and what is spelled is read again, whatever follows.
use Rattle.std.proofs.Common.{◌≡◌, ℕ, suc, ◌^◌, ◌<◌, ◌≤◌, Bool, true, false, cond, ltb, List, [], ◌∷◌, ◌++◌, length, take, drop, Option, Some, None, Result, Ok, Err, refl, sym, ap, subst, ◌∙◌, arith, inl, inr, ◌⊎◌}
use Rattle.std.specs.Int.{Width, w16, w32, w64, byte_len, from_be_bytes, to_be_bytes}
use Rattle.std.proofs.lemmas.Bool.{cases_lt, ltb-false, le-ltb}
use Rattle.std.proofs.lemmas.List.{take_at, drop_at, take-append-drop, length-append, length-take, get_or_append_left, get_or_past}
use Rattle.std.proofs.lemmas.Nat.{be_bytes_2, be_bytes_4, be_bytes_8, from_be_bytes-to_be_bytes_2, from_be_bytes-to_be_bytes_4, from_be_bytes-to_be_bytes_8}
use Rattle.ocm_entry_bytes.specs.declared.entry_faults.EntryFault.{EntryFault}
use Rattle.ocm_entry_bytes.specs.declared.entry_faults.EntryFault.TheVariants as faults
use Rattle.ocm_entry_bytes.specs.Spells.{AreBytes}
use Rattle.ocm_entry_bytes.specs.Reading.{◌>>=◌, Reading, found, byte_at, bytes_at, number_at}

pub AreBytes-tail : (b : ℕ) (bytes : List ℕ) → AreBytes (b ∷ bytes) → AreBytes bytes
AreBytes-tail b bytes h i = h (suc i)

pub AreBytes-rest : (front rest : List ℕ) → AreBytes (front ++ rest) → AreBytes rest
AreBytes-rest [] rest h = h
AreBytes-rest (b ∷ front) rest h = AreBytes-rest front rest (λ i. h (suc i))

pub AreBytes-front : (front rest : List ℕ) → AreBytes (front ++ rest) → AreBytes front
AreBytes-front front rest h i =
    elim (cases_lt i (length front)) [
      | inl lt ↦ subst (λ (b : ℕ). b < 256) (get_or_append_left front rest 0 i lt) (h i)
      | inr le ↦ rw (get_or_past front i 0 le) (omega arith)
    ]

-- the value of a step that did not fail
pub bind_ok : {A B : Type 0} (r : Result A EntryFault) (f : A → Result B EntryFault) (y : B) → (r >>= f) ≡ Ok y → (x : A) × (r ≡ Ok x) × (f x ≡ Ok y)
bind_ok (Ok x) f y e = (x, refl, e)
bind_ok (Err d) f y e = absurd cc

-- a test that did not fail
pub guard_ok : {A : Type 0} (b : Bool) (d : EntryFault) (x y : A) → cond b (Err d) (Ok x) ≡ Ok y → (b ≡ false) × (x ≡ y)
guard_ok true d x y e = absurd cc
guard_ok false d x y e = (refl, cc)

pub guard_passed : {A : Type 0} (b : Bool) (d : EntryFault) (x y : A) → cond b (Ok x) (Err d) ≡ Ok y → (b ≡ true) × (x ≡ y)
guard_passed true d x y e = (refl, cc)
guard_passed false d x y e = absurd cc

-- which way a test went
pub chosen_ok : {A : Type 0} (b : Bool) (x y z : A) → cond b x y ≡ z → ((b ≡ true) × (x ≡ z)) ⊎ ((b ≡ false) × (y ≡ z))
chosen_ok true x y z e = inl (refl, e)
chosen_ok false x y z e = inr (refl, e)

-- a value that was found
pub found_ok : {A : Type 0} (o : Option A) (rest : List ℕ) (y : A × List ℕ) → found o rest ≡ Ok y → (x : A) × (o ≡ Some x) × ((x, rest) ≡ y)
found_ok None rest y e = absurd cc
found_ok (Some x) rest y e = (x, refl, cc)

abbrev pub done : {A : Type 0} → A → Result A EntryFault
done x = Ok x

pub ok_is : {A : Type 0} (x y : A) → done x ≡ done y → x ≡ y
ok_is x y e = cc

-- what was read from the front of the bytes
pub record Takes {A : Type 0} (spell : A → List ℕ) (Holds : A → Type 0) (bytes : List ℕ) (x : A × List ℕ) : Type 0 where
  pub parts : bytes ≡ spell x.0 ++ x.1
  pub holds : Holds x.0

pub record IsField {A : Type 0} (read : Reading A) (spell : A → List ℕ) (Holds : A → Type 0) : Type 0 where
  pub takes : (bytes : List ℕ) (x : A × List ℕ) → AreBytes bytes → read bytes ≡ Ok x → Takes spell Holds bytes x
  pub again : (value : A) (rest : List ℕ) → Holds value → read (spell value ++ rest) ≡ Ok (value, rest)

-- ---- bytes

pub bytes_take : (count : ℕ) (bytes : List ℕ) (x : List ℕ × List ℕ) → bytes_at count bytes ≡ Ok x → (bytes ≡ x.0 ++ x.1) × (length x.0 ≡ count)
unfolding bytes_at
bytes_take count bytes x e =
    let g = guard_ok (ltb (length bytes) count) faults.Length (take count bytes, drop count bytes) x e in
    let long : count ≤ length bytes = ltb-false _ _ g.0 in
    let len : length (take count bytes) ≡ count = omega (arith, length-take count bytes) in
    subst (λ (p : List ℕ × List ℕ). (bytes ≡ p.0 ++ p.1) × (length p.0 ≡ count)) g.1 (sym (take-append-drop count bytes), len)

pub bytes_again : (count : ℕ) (text rest : List ℕ) → length text ≡ count → bytes_at count (text ++ rest) ≡ Ok (text, rest)
unfolding bytes_at
bytes_again count text rest len =
    let long : ltb (length (text ++ rest)) count ≡ false = le-ltb _ _ (omega (arith, length-append text rest)) in
    rw (long, take_at text rest count len, drop_at text rest count len) refl

pub byte_take : (bytes : List ℕ) (x : ℕ × List ℕ) → byte_at bytes ≡ Ok x → bytes ≡ x.0 ∷ x.1
unfolding byte_at
byte_take [] x e = absurd cc
byte_take (b ∷ bytes) x e = let is : (b, bytes) ≡ x = ok_is (b, bytes) x e in ap (λ (p : ℕ × List ℕ). p.0 ∷ p.1) is

pub byte_again : (b : ℕ) (rest : List ℕ) → byte_at (b ∷ rest) ≡ Ok (b, rest)
unfolding byte_at
byte_again b rest = refl

-- ---- numbers

pub record IsWide (w : Width) (limit : ℕ) : Type 0 where
  pub len : (n : ℕ) → length (to_be_bytes w n) ≡ byte_len w
  pub back : (bytes : List ℕ) → length bytes ≡ byte_len w → AreBytes bytes → to_be_bytes w (from_be_bytes w bytes) ≡ bytes
  pub again : (n : ℕ) → n < limit → from_be_bytes w (to_be_bytes w n) ≡ n
  pub below : (bytes : List ℕ) → AreBytes bytes → from_be_bytes w bytes < limit

pub wide16 : IsWide w16 (2 ^ 16)
wide16 = record {
  len = λ n. refl;
  back = λ bytes len fits. be_bytes_2 bytes _ len fits refl;
  again = λ n lt. from_be_bytes-to_be_bytes_2 n lt;
  below = λ bytes fits. omega (arith, fits 0, fits 1);
}

pub wide32 : IsWide w32 (2 ^ 32)
wide32 = record {
  len = λ n. refl;
  back = λ bytes len fits. be_bytes_4 bytes _ len fits refl;
  again = λ n lt. from_be_bytes-to_be_bytes_4 n lt;
  below = λ bytes fits. omega (arith, fits 0, fits 1, fits 2, fits 3);
}

pub wide64 : IsWide w64 (2 ^ 64)
wide64 = record {
  len = λ n. refl;
  back = λ bytes len fits. be_bytes_8 bytes _ len fits refl;
  again = λ n lt. from_be_bytes-to_be_bytes_8 n lt;
  below = λ bytes fits. omega (arith, fits 0, fits 1, fits 2, fits 3, fits 4, fits 5, fits 6, fits 7);
}

pub number_field : (w : Width) (limit : ℕ) → IsWide w limit → IsField (number_at w) (to_be_bytes w) (λ n. n < limit)
number_field w limit wide = record { takes = takes; again = again }
  where
    takes : (bytes : List ℕ) (x : ℕ × List ℕ) → AreBytes bytes → number_at w bytes ≡ Ok x → Takes (to_be_bytes w) (λ n. n < limit) bytes x
    takes bytes x fits e =
        let b = bind_ok (bytes_at (byte_len w) bytes) (λ y. Ok (from_be_bytes w y.0, y.1)) x e in
        let t = bytes_take (byte_len w) bytes b.0 b.1 in
        let front : AreBytes b.0.0 = AreBytes-front b.0.0 b.0.1 (subst AreBytes t.0 fits) in
        let whole : bytes ≡ to_be_bytes w (from_be_bytes w b.0.0) ++ b.0.1 = t.0 ∙ ap (λ (l : List ℕ). l ++ b.0.1) (sym (wide.back b.0.0 t.1 front)) in
        subst (Takes (to_be_bytes w) (λ n. n < limit) bytes) (ok_is (from_be_bytes w b.0.0, b.0.1) x b.2) (record { parts = whole; holds = wide.below b.0.0 front })

    again : (n : ℕ) (rest : List ℕ) → n < limit → number_at w (to_be_bytes w n ++ rest) ≡ Ok (n, rest)
    again n rest lt = rw (bytes_again (byte_len w) (to_be_bytes w n) rest (wide.len n), wide.again n lt) refl
