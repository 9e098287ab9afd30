-- A row of the format: fields one behind another, and rows that a byte tells apart.
use Rattle.std.proofs.Common.{◌≡◌, ℕ, eqb, List, [], ◌∷◌, ◌++◌, Ok, refl, sym, ap, subst, ◌∙◌, append_assoc, inl, inr}
use Rattle.std.specs.List.{AllByRecursion}
use Rattle.std.proofs.lemmas.Bool.{eqb-true}
use Rattle.ocm_entry_bytes.specs.Spells.{AreBytes}
use Rattle.ocm_entry_bytes.specs.Reading.{◌>>=◌, Reading, reads1, reads2, reads3, reads4, reads5, reads7, byte_at, chosen, tagged}
use Rattle.ocm_entry_bytes.proofs.FieldLaws.{AreBytes-rest, AreBytes-tail, bind_ok, chosen_ok, ok_is, Takes, IsField, byte_take}

-- what is read behind a front is spelled with that front
pub record IsRow {V : Type 0} (front : List ℕ) (read : Reading V) (spell : V → List ℕ) (Holds : V → Type 0) : Type 0 where
  pub takes : (bytes : List ℕ) (x : V × List ℕ) → AreBytes bytes → read bytes ≡ Ok x → Takes spell Holds (front ++ bytes) x

-- ---- one field more

pub row1 : {A V : Type 0} {a : Reading A} {sa : A → List ℕ} {ha : A → Type 0} (fa : IsField a sa ha) (make : A → V) (front : List ℕ) (spell : V → List ℕ) (Holds : V → Type 0)
    → ((x : A) → spell (make x) ≡ front ++ sa x) → ((x : A) → ha x → Holds (make x)) → IsRow front (reads1 make a) spell Holds
row1 {A} {V} {a} {sa} {ha} fa make front spell Holds spelled holds = record { takes = takes }
  where
    takes : (bytes : List ℕ) (z : V × List ℕ) → AreBytes bytes → reads1 make a bytes ≡ Ok z → Takes spell Holds (front ++ bytes) z
    takes bytes z fits e =
        let p = bind_ok (a bytes) (λ x. Ok (make x.0, x.1)) z e in
        let t = fa.takes bytes p.0 fits p.1 in
        let whole : front ++ bytes ≡ spell (make p.0.0) ++ p.0.1 =
        ap (λ (l : List ℕ). front ++ l) t.parts ∙ sym (append_assoc front (sa p.0.0) p.0.1) ∙ ap (λ (l : List ℕ). l ++ p.0.1) (sym (spelled p.0.0)) in
        subst (Takes spell Holds (front ++ bytes)) (ok_is (make p.0.0, p.0.1) z p.2) (record { parts = whole; holds = holds p.0.0 t.holds })

-- a row behind a field, whose front has the field
pub row_after : {A V : Type 0} {a : Reading A} {sa : A → List ℕ} {ha : A → Type 0} (fa : IsField a sa ha) (rest : A → Reading V) (front : List ℕ) (spell : V → List ℕ) (Holds : V → Type 0)
    → ((x : A) → ha x → IsRow (front ++ sa x) (rest x) spell Holds) → IsRow front (λ bytes. a bytes >>= λ x. rest x.0 x.1) spell Holds
row_after {A} {V} {a} {sa} {ha} fa rest front spell Holds row = record { takes = takes }
  where
    takes : (bytes : List ℕ) (z : V × List ℕ) → AreBytes bytes → (a bytes >>= λ x. rest x.0 x.1) ≡ Ok z → Takes spell Holds (front ++ bytes) z
    takes bytes z fits e =
        let p = bind_ok (a bytes) (λ x. rest x.0 x.1) z e in
        let t = fa.takes bytes p.0 fits p.1 in
        let regrouped : (front ++ sa p.0.0) ++ p.0.1 ≡ front ++ bytes = append_assoc front (sa p.0.0) p.0.1 ∙ ap (λ (l : List ℕ). front ++ l) (sym t.parts) in
        let after = (row p.0.0 t.holds).takes p.0.1 z (AreBytes-rest (sa p.0.0) p.0.1 (subst AreBytes t.parts fits)) p.2 in
        subst (λ (l : List ℕ). Takes spell Holds l z) regrouped after

pub row2 : {A B V : Type 0} {a : Reading A} {sa : A → List ℕ} {ha : A → Type 0} {b : Reading B} {sb : B → List ℕ} {hb : B → Type 0}
    (fa : IsField a sa ha) (fb : IsField b sb hb) (make : A → B → V) (front : List ℕ) (spell : V → List ℕ) (Holds : V → Type 0)
    → ((x : A) (y : B) → spell (make x y) ≡ (front ++ sa x) ++ sb y) → ((x : A) (y : B) → ha x → hb y → Holds (make x y)) → IsRow front (reads2 make a b) spell Holds
row2 {sa = sa} fa fb make front spell Holds spelled holds =
    row_after fa (λ x. reads1 (make x) _) front spell Holds (λ x hx. row1 fb (make x) (front ++ sa x) spell Holds (spelled x) (λ y hy. holds x y hx hy))

pub row3 : {A B C V : Type 0} {a : Reading A} {sa : A → List ℕ} {ha : A → Type 0} {b : Reading B} {sb : B → List ℕ} {hb : B → Type 0} {c : Reading C} {sc : C → List ℕ} {hc : C → Type 0}
    (fa : IsField a sa ha) (fb : IsField b sb hb) (fc : IsField c sc hc) (make : A → B → C → V) (front : List ℕ) (spell : V → List ℕ) (Holds : V → Type 0)
    → ((x : A) (y : B) (z : C) → spell (make x y z) ≡ ((front ++ sa x) ++ sb y) ++ sc z) → ((x : A) (y : B) (z : C) → ha x → hb y → hc z → Holds (make x y z))
    → IsRow front (reads3 make a b c) spell Holds
row3 {sa = sa} {b = b} {c = c} fa fb fc make front spell Holds spelled holds =
    row_after fa (λ x. reads2 (make x) b c) front spell Holds (λ x hx. row2 fb fc (make x) (front ++ sa x) spell Holds (spelled x) (λ y z hy hz. holds x y z hx hy hz))

pub row4 : {A B C D V : Type 0} {a : Reading A} {sa : A → List ℕ} {ha : A → Type 0} {b : Reading B} {sb : B → List ℕ} {hb : B → Type 0} {c : Reading C} {sc : C → List ℕ} {hc : C → Type 0} {d : Reading D} {sd : D → List ℕ} {hd : D → Type 0}
    (fa : IsField a sa ha) (fb : IsField b sb hb) (fc : IsField c sc hc) (fd : IsField d sd hd) (make : A → B → C → D → V) (front : List ℕ) (spell : V → List ℕ) (Holds : V → Type 0)
    → ((x : A) (y : B) (z : C) (w : D) → spell (make x y z w) ≡ (((front ++ sa x) ++ sb y) ++ sc z) ++ sd w)
    → ((x : A) (y : B) (z : C) (w : D) → ha x → hb y → hc z → hd w → Holds (make x y z w))
    → IsRow front (reads4 make a b c d) spell Holds
row4 {sa = sa} {b = b} {c = c} {d = d} fa fb fc fd make front spell Holds spelled holds =
    row_after fa (λ x. reads3 (make x) b c d) front spell Holds (λ x hx. row3 fb fc fd (make x) (front ++ sa x) spell Holds (spelled x) (λ y z w hy hz hw. holds x y z w hx hy hz hw))

pub row5 : {A B C D E V : Type 0} {a : Reading A} {sa : A → List ℕ} {ha : A → Type 0} {b : Reading B} {sb : B → List ℕ} {hb : B → Type 0} {c : Reading C} {sc : C → List ℕ} {hc : C → Type 0} {d : Reading D} {sd : D → List ℕ} {hd : D → Type 0} {e : Reading E} {se : E → List ℕ} {he : E → Type 0}
    (fa : IsField a sa ha) (fb : IsField b sb hb) (fc : IsField c sc hc) (fd : IsField d sd hd) (fe : IsField e se he) (make : A → B → C → D → E → V) (front : List ℕ) (spell : V → List ℕ) (Holds : V → Type 0)
    → ((x : A) (y : B) (z : C) (w : D) (v : E) → spell (make x y z w v) ≡ ((((front ++ sa x) ++ sb y) ++ sc z) ++ sd w) ++ se v)
    → ((x : A) (y : B) (z : C) (w : D) (v : E) → ha x → hb y → hc z → hd w → he v → Holds (make x y z w v))
    → IsRow front (reads5 make a b c d e) spell Holds
row5 {sa = sa} {b = b} {c = c} {d = d} {e = e} fa fb fc fd fe make front spell Holds spelled holds =
    row_after fa (λ x. reads4 (make x) b c d e) front spell Holds (λ x hx. row4 fb fc fd fe (make x) (front ++ sa x) spell Holds (spelled x) (λ y z w v hy hz hw hv. holds x y z w v hx hy hz hw hv))

pub row7 : {A B C D E F G V : Type 0} {a : Reading A} {sa : A → List ℕ} {ha : A → Type 0} {b : Reading B} {sb : B → List ℕ} {hb : B → Type 0} {c : Reading C} {sc : C → List ℕ} {hc : C → Type 0} {d : Reading D} {sd : D → List ℕ} {hd : D → Type 0} {e : Reading E} {se : E → List ℕ} {he : E → Type 0} {f : Reading F} {sf : F → List ℕ} {hf : F → Type 0} {g : Reading G} {sg : G → List ℕ} {hg : G → Type 0}
    (fa : IsField a sa ha) (fb : IsField b sb hb) (fc : IsField c sc hc) (fd : IsField d sd hd) (fe : IsField e se he) (ff : IsField f sf hf) (fg : IsField g sg hg) (make : A → B → C → D → E → F → G → V) (front : List ℕ) (spell : V → List ℕ) (Holds : V → Type 0)
    → ((x : A) (y : B) (z : C) (w : D) (v : E) (u : F) (t : G) → spell (make x y z w v u t) ≡ ((((((front ++ sa x) ++ sb y) ++ sc z) ++ sd w) ++ se v) ++ sf u) ++ sg t)
    → ((x : A) (y : B) (z : C) (w : D) (v : E) (u : F) (t : G) → ha x → hb y → hc z → hd w → he v → hf u → hg t → Holds (make x y z w v u t))
    → IsRow front (reads7 make a b c d e f g) spell Holds
row7 {sa = sa} {b = b} {sb = sb} {c = c} {d = d} {e = e} {f = f} {g = g} fa fb fc fd fe ff fg make front spell Holds spelled holds =
    row_after fa (λ x bytes. b bytes >>= λ y. reads5 (make x y.0) c d e f g y.1) front spell Holds (λ x hx.
    row_after fb (λ y. reads5 (make x y) c d e f g) (front ++ sa x) spell Holds (λ y hy.
    row5 fc fd fe ff fg (make x y) ((front ++ sa x) ++ sb y) spell Holds (spelled x y) (λ z w v u t hz hw hv hu ht. holds x y z w v u t hx hy hz hw hv hu ht)))

-- ---- rows that a byte tells apart

chosen_row : {V : Type 0} (front : List ℕ) (spell : V → List ℕ) (Holds : V → Type 0) (cases : List (ℕ × Reading V)) → AllByRecursion (λ c. IsRow (front ++ c.0 ∷ []) c.1 spell Holds) cases
    → (tag : ℕ) (bytes : List ℕ) (x : V × List ℕ) → AreBytes bytes → chosen tag cases bytes ≡ Ok x → Takes spell Holds (front ++ tag ∷ bytes) x
chosen_row front spell Holds [] rows tag bytes x fits e = absurd cc
chosen_row {V} front spell Holds (c ∷ cases) rows tag bytes x fits e =
    elim (chosen_ok (eqb tag c.0) (c.1 bytes) (chosen tag cases bytes) (Ok x) e) [
      | inl here ↦
          let regrouped : (front ++ c.0 ∷ []) ++ bytes ≡ front ++ tag ∷ bytes = append_assoc front (c.0 ∷ []) bytes ∙ ap (λ (n : ℕ). front ++ n ∷ bytes) (sym (eqb-true tag c.0 here.0)) in
          subst (λ (l : List ℕ). Takes spell Holds l x) regrouped (rows.0.takes bytes x fits here.1)
      | inr later ↦ chosen_row front spell Holds cases rows.1 tag bytes x fits later.1
    ]

pub tagged_row : {V : Type 0} (front : List ℕ) (spell : V → List ℕ) (Holds : V → Type 0) (cases : List (ℕ × Reading V)) → AllByRecursion (λ c. IsRow (front ++ c.0 ∷ []) c.1 spell Holds) cases → IsRow front (tagged cases) spell Holds
tagged_row {V} front spell Holds cases rows = record { takes = takes }
  where
    takes : (bytes : List ℕ) (x : V × List ℕ) → AreBytes bytes → tagged cases bytes ≡ Ok x → Takes spell Holds (front ++ bytes) x
    takes bytes x fits e =
        let a = bind_ok (byte_at bytes) (λ tag. chosen tag.0 cases tag.1) x e in
        let t = byte_take bytes a.0 a.1 in
        let after = chosen_row front spell Holds cases rows a.0.0 a.0.1 x (AreBytes-tail a.0.0 a.0.1 (subst AreBytes t fits)) a.2 in
        subst (λ (l : List ℕ). Takes spell Holds (front ++ l) x) (sym t) after

-- ---- what is spelled is read again

pub again1 : {A V : Type 0} {a : Reading A} {sa : A → List ℕ} {ha : A → Type 0} (fa : IsField a sa ha) (make : A → V) (x : A) (rest : List ℕ) → ha x → reads1 make a (sa x ++ rest) ≡ Ok (make x, rest)
again1 {sa = sa} fa make x rest hx = rw (fa.again x rest hx) refl

pub again2 : {A B V : Type 0} {a : Reading A} {sa : A → List ℕ} {ha : A → Type 0} {b : Reading B} {sb : B → List ℕ} {hb : B → Type 0}
    (fa : IsField a sa ha) (fb : IsField b sb hb) (make : A → B → V) (x : A) (y : B) (rest : List ℕ) → ha x → hb y → reads2 make a b ((sa x ++ sb y) ++ rest) ≡ Ok (make x y, rest)
again2 {a = a} {sa = sa} {b = b} {sb = sb} fa fb make x y rest hx hy =
    ap (reads2 make a b) (append_assoc (sa x) (sb y) rest) ∙ rw (fa.again x (sb y ++ rest) hx) (again1 fb (make x) y rest hy)

pub again3 : {A B C V : Type 0} {a : Reading A} {sa : A → List ℕ} {ha : A → Type 0} {b : Reading B} {sb : B → List ℕ} {hb : B → Type 0} {c : Reading C} {sc : C → List ℕ} {hc : C → Type 0}
    (fa : IsField a sa ha) (fb : IsField b sb hb) (fc : IsField c sc hc) (make : A → B → C → V) (x : A) (y : B) (z : C) (rest : List ℕ) → ha x → hb y → hc z
    → reads3 make a b c (((sa x ++ sb y) ++ sc z) ++ rest) ≡ Ok (make x y z, rest)
again3 {a = a} {sa = sa} {b = b} {sb = sb} {c = c} {sc = sc} fa fb fc make x y z rest hx hy hz =
    let regrouped : ((sa x ++ sb y) ++ sc z) ++ rest ≡ sa x ++ ((sb y ++ sc z) ++ rest) = simp append_assoc in
    ap (reads3 make a b c) regrouped ∙ rw (fa.again x ((sb y ++ sc z) ++ rest) hx) (again2 fb fc (make x) y z rest hy hz)

pub again4 : {A B C D V : Type 0} {a : Reading A} {sa : A → List ℕ} {ha : A → Type 0} {b : Reading B} {sb : B → List ℕ} {hb : B → Type 0} {c : Reading C} {sc : C → List ℕ} {hc : C → Type 0} {d : Reading D} {sd : D → List ℕ} {hd : D → Type 0}
    (fa : IsField a sa ha) (fb : IsField b sb hb) (fc : IsField c sc hc) (fd : IsField d sd hd) (make : A → B → C → D → V) (x : A) (y : B) (z : C) (w : D) (rest : List ℕ) → ha x → hb y → hc z → hd w
    → reads4 make a b c d ((((sa x ++ sb y) ++ sc z) ++ sd w) ++ rest) ≡ Ok (make x y z w, rest)
again4 {a = a} {sa = sa} {b = b} {sb = sb} {c = c} {sc = sc} {d = d} {sd = sd} fa fb fc fd make x y z w rest hx hy hz hw =
    let regrouped : (((sa x ++ sb y) ++ sc z) ++ sd w) ++ rest ≡ sa x ++ (((sb y ++ sc z) ++ sd w) ++ rest) = simp append_assoc in
    ap (reads4 make a b c d) regrouped ∙ rw (fa.again x (((sb y ++ sc z) ++ sd w) ++ rest) hx) (again3 fb fc fd (make x) y z w rest hy hz hw)

pub again5 : {A B C D E V : Type 0} {a : Reading A} {sa : A → List ℕ} {ha : A → Type 0} {b : Reading B} {sb : B → List ℕ} {hb : B → Type 0} {c : Reading C} {sc : C → List ℕ} {hc : C → Type 0} {d : Reading D} {sd : D → List ℕ} {hd : D → Type 0} {e : Reading E} {se : E → List ℕ} {he : E → Type 0}
    (fa : IsField a sa ha) (fb : IsField b sb hb) (fc : IsField c sc hc) (fd : IsField d sd hd) (fe : IsField e se he) (make : A → B → C → D → E → V) (x : A) (y : B) (z : C) (w : D) (v : E) (rest : List ℕ) → ha x → hb y → hc z → hd w → he v
    → reads5 make a b c d e (((((sa x ++ sb y) ++ sc z) ++ sd w) ++ se v) ++ rest) ≡ Ok (make x y z w v, rest)
again5 {a = a} {sa = sa} {b = b} {sb = sb} {c = c} {sc = sc} {d = d} {sd = sd} {e = e} {se = se} fa fb fc fd fe make x y z w v rest hx hy hz hw hv =
    let regrouped : ((((sa x ++ sb y) ++ sc z) ++ sd w) ++ se v) ++ rest ≡ sa x ++ ((((sb y ++ sc z) ++ sd w) ++ se v) ++ rest) = simp append_assoc in
    ap (reads5 make a b c d e) regrouped ∙ rw (fa.again x ((((sb y ++ sc z) ++ sd w) ++ se v) ++ rest) hx) (again4 fb fc fd fe (make x) y z w v rest hy hz hw hv)

pub again7 : {A B C D E F G V : Type 0} {a : Reading A} {sa : A → List ℕ} {ha : A → Type 0} {b : Reading B} {sb : B → List ℕ} {hb : B → Type 0} {c : Reading C} {sc : C → List ℕ} {hc : C → Type 0} {d : Reading D} {sd : D → List ℕ} {hd : D → Type 0} {e : Reading E} {se : E → List ℕ} {he : E → Type 0} {f : Reading F} {sf : F → List ℕ} {hf : F → Type 0} {g : Reading G} {sg : G → List ℕ} {hg : G → Type 0}
    (fa : IsField a sa ha) (fb : IsField b sb hb) (fc : IsField c sc hc) (fd : IsField d sd hd) (fe : IsField e se he) (ff : IsField f sf hf) (fg : IsField g sg hg) (make : A → B → C → D → E → F → G → V) (x : A) (y : B) (z : C) (w : D) (v : E) (u : F) (t : G) (rest : List ℕ)
    → ha x → hb y → hc z → hd w → he v → hf u → hg t
    → reads7 make a b c d e f g (((((((sa x ++ sb y) ++ sc z) ++ sd w) ++ se v) ++ sf u) ++ sg t) ++ rest) ≡ Ok (make x y z w v u t, rest)
again7 {a = a} {sa = sa} {b = b} {sb = sb} {c = c} {sc = sc} {d = d} {sd = sd} {e = e} {se = se} {f = f} {sf = sf} {g = g} {sg = sg} fa fb fc fd fe ff fg make x y z w v u t rest hx hy hz hw hv hu ht =
    let tail = (((((sc z ++ sd w) ++ se v) ++ sf u) ++ sg t) ++ rest) in
    let regrouped : ((((((sa x ++ sb y) ++ sc z) ++ sd w) ++ se v) ++ sf u) ++ sg t) ++ rest ≡ sa x ++ (sb y ++ tail) = simp append_assoc in
    ap (reads7 make a b c d e f g) regrouped ∙ rw (fa.again x (sb y ++ tail) hx, fb.again y tail hy) (again5 fc fd fe ff fg (make x y) z w v u t rest hz hw hv hu ht)
