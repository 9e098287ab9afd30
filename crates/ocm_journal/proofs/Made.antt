-- What a crash leaves while a journal is made.
use Rattle.std.proofs.Common.{◌≡◌, ◌≢◌, ◌≤◌, ◌<◌, ◌⊎◌, ◌==◌, inl, inr, ℕ, ◌+◌, ◌-◌, nat_eq, nat_le, Bool, true, false, Some, None, IsSome, if◌then◌else◌, List, [], ◌∷◌, ◌++◌, length, take, drop, get_or, replicate, refl, sym, ◌∙◌, ap, subst, arith, append_assoc, append-nil, length-append}
use Rattle.std.proofs.lemmas.List.{take_at, drop_at, drop_all, drop_more, take_more, length-drop, length-replicate, get_or-take}
use Rattle.std.proofs.lemmas.Grind.{common_steps}
use Rattle.std.proofs.lemmas.Bool.{cases_eq, eqb-true}
use Rattle.std.proofs.lemmas.Bool.Decides.{nat_tests}
use Rattle.std.specs.Cmp.Lexicographic.{pointwise, bytes_decides}
use Rattle.std.specs.Int.{w64, to_be_bytes}
use Rattle.ocm_disk.specs.Disk.{Torn, Holds}
use Rattle.ocm_journal_image.specs.declared.blanks.Blank.{Blank}
use Rattle.ocm_journal_image.specs.declared.blanks.Blank.TheVariants.{Empty, Begun, Written}
use Rattle.ocm_journal_image.specs.Blank.{blank_of, IsBlank, made_form}
use Rattle.ocm_journal_image.specs.Layout.{IsImage, IsLabel, IsAreaSize, IsForm, named, fresh, blocks_size, contents, live_start}
use Rattle.ocm_journal_image.specs.declared.readings.RawRecord.{RawRecord}
use Rattle.ocm_journal.specs.Openings.{Opens, BlankSize}

pub length-fresh : (label : List ℕ) (area form : ℕ) → IsLabel label → length (fresh label area form) ≡ 513
length-fresh label area form sizes =
    let zeros : List ℕ = replicate (494 - length label) 0 in
    omega (arith, length-append (named label area ++ 1 ∷ zeros) (form ∷ 0 ∷ []), length-append (named label area) (1 ∷ zeros), length-append label (to_be_bytes w64 area), length-replicate {A = ℕ} (494 - length label) 0, sizes.1)

pub few_opens : (label : List ℕ) (area : ℕ) (c : List ℕ) → length c ≤ 1 → Opens label area [] c
few_opens label area c few = inl (grind (arith, nat_tests, common_steps), refl)

pub begun_opens : (label : List ℕ) (area : ℕ) (c : List ℕ) → get_or c 0 0 ≡ 0 → length c ≤ 514 → Opens label area [] c
begun_opens label area c first few = inl (grind (arith, nat_tests, common_steps, first), refl)

-- an empty journal
pub made_image : (label : List ℕ) (area form : ℕ) → IsLabel label → IsAreaSize area → IsForm form → IsImage label area form [] (1 ∷ fresh label area form)
made_image label area form label_size area_size form_known =
    let zeros : List ℕ = replicate (494 - length label) 0 in
    let text : List ℕ = 1 ∷ named label area ++ 1 ∷ [] in
    let rest : List ℕ = zeros ++ form ∷ 0 ∷ [] in
    let front_text : List ℕ = 1 ∷ named label area ++ 1 ∷ zeros in
    let flat : (named label area ++ 1 ∷ zeros) ++ form ∷ 0 ∷ [] ≡ (named label area ++ 1 ∷ []) ++ rest = append_assoc (named label area) (1 ∷ zeros) (form ∷ 0 ∷ []) ∙ sym (append_assoc (named label area) (1 ∷ []) rest) in
    let size : length front_text ≡ 512 = omega (arith, length-append (named label area) (1 ∷ zeros), length-append label (to_be_bytes w64 area), length-replicate {A = ℕ} (494 - length label) 0, label_size.1) in
    record {
      selector = 1;
      gate = 0;
      label_size = label_size;
      area_size = area_size;
      form_known = form_known;
      record_sizes = tt;
      header = omega (arith, length-fresh label area form label_size);
      front = ap (λ (l : List ℕ). take (length text) (1 ∷ l)) flat ∙ take_at text rest (length text) refl;
      live = ap (λ (l : List ℕ). take 2 l) (drop_at front_text (form ∷ 0 ∷ []) 512 size);
      shut = omega arith;
      within = omega (arith, area_size.0);
    }

none_of : (false ≡ true) ⊎ (false ≡ true) → ⊥
none_of (inl e) = cc
none_of (inr e) = cc

picks : (a b s c d e : Bool) (k l m n : Blank) → a ≡ false → b ≡ false → c ≡ false → (d ≡ true) ⊎ (e ≡ true) → IsSome (if a then Some k else if b then (if s then Some l else None) else if c then None else if d then Some m else if e then Some n else None)
picks true b s c d e k l m n na nb nc either = absurd cc
picks false true s c d e k l m n na nb nc either = absurd cc
picks false false s true d e k l m n na nb nc either = absurd cc
picks false false s false true e k l m n na nb nc either = refl
picks false false s false false true k l m n na nb nc either = refl
picks false false s false false false k l m n na nb nc either = absurd (none_of either)

eqb_not : (x y : ℕ) → x ≢ y → (x == y) ≡ false
eqb_not x y other = grind (arith, nat_tests)

one_of : (label : List ℕ) (area form : ℕ) → IsForm form → (pointwise nat_eq (fresh label area form) (fresh label area 1) ≡ true) ⊎ (pointwise nat_eq (fresh label area form) (fresh label area 2) ≡ true)
one_of label area form (inl one) = inl ((bytes_decides (fresh label area form) (fresh label area 1)).1 (ap (λ f. fresh label area f) one))
one_of label area form (inr two) = inr ((bytes_decides (fresh label area form) (fresh label area 2)).1 (ap (λ f. fresh label area f) two))

more_than_one : (l : List ℕ) (y : ℕ) → length l ≡ 513 → nat_le (length (y ∷ l)) 1 ≡ false
more_than_one l y size = grind (arith, nat_tests)

other_is_blank : (label : List ℕ) (area form y : ℕ) → IsLabel label → IsForm form → y ≢ 0 → y ≢ 1 → IsBlank label area (y ∷ fresh label area form)
other_is_blank label area form y sizes known other0 other1 =
    picks (nat_le (length (y ∷ fresh label area form)) 1) (y == 0) (nat_le (length (y ∷ fresh label area form)) 514) (y == 1) (pointwise nat_eq (fresh label area form) (fresh label area 1)) (pointwise nat_eq (fresh label area form) (fresh label area 2)) Empty Begun (Written 1) (Written 2) (more_than_one (fresh label area form) y (length-fresh label area form sizes)) (eqb_not y 0 other0) (eqb_not y 1 other1) (one_of label area form known)

-- whatever its first byte, a journal that is else whole opens to no records
pub first_byte_opens : (label : List ℕ) (area form y : ℕ) → IsLabel label → IsAreaSize area → IsForm form → Opens label area [] (y ∷ fresh label area form)
first_byte_opens label area form y label_size area_size known = elim (cases_eq y 0) [
  | inl none ↦ begun_opens label area (y ∷ fresh label area form) none (omega (arith, length-fresh label area form label_size))
  | inr other0 ↦ elim (cases_eq y 1) [
    | inl one ↦ inr (area, form, subst (λ k. IsImage label area form [] (k ∷ fresh label area form)) (sym one) (made_image label area form label_size area_size known))
    | inr other1 ↦ inl (other_is_blank label area form y label_size known other0 other1, refl)
  ]
]

-- a write of the first byte
pub torn_first : (x : ℕ) (rest c : List ℕ) → Torn 0 1 (x ∷ rest) c → c ≡ get_or c 0 0 ∷ rest
torn_first x rest c torn = drop_more c 0 0 (omega (arith, torn.no_shorter)) ∙ ap (λ (l : List ℕ). get_or c 0 0 ∷ l) torn.after

pub in_finish : (label : List ℕ) (area form x : ℕ) (b c : List ℕ) → IsLabel label → IsAreaSize area → IsForm form → b ≡ x ∷ fresh label area form → Torn 0 1 b c → Opens label area [] c
in_finish label area form x b c label_size area_size known is torn =
    let t : Torn 0 1 (x ∷ fresh label area form) c = subst (λ (l : List ℕ). Torn 0 1 l c) is torn in
    subst (λ (l : List ℕ). Opens label area [] l) (sym (torn_first x (fresh label area form) c t)) (first_byte_opens label area form (get_or c 0 0) label_size area_size known)

pub in_begin : (label : List ℕ) (area : ℕ) (b c : List ℕ) → length b ≤ 1 → Torn 0 1 b c → Opens label area [] c
in_begin label area b c few torn = few_opens label area c (omega (arith, torn.no_longer, few))

first_stays : (b c : List ℕ) (n : ℕ) → 1 ≤ length b → Torn 1 n b c → get_or c 0 0 ≡ get_or b 0 0
first_stays b c n some torn = sym (get_or-take 1 c 0 0 (omega arith)) ∙ ap (λ (l : List ℕ). get_or l 0 0) torn.before ∙ get_or-take 1 b 0 0 (omega arith)

pub in_go_on : (label : List ℕ) (area : ℕ) (b c : List ℕ) → 1 ≤ length b → length b ≤ 514 → get_or b 0 0 ≡ 0 → Torn 1 513 b c → Opens label area [] c
in_go_on label area b c some few first torn = begun_opens label area c (first_stays b c 513 some torn ∙ first) (omega (arith, torn.no_longer, few))

pub begun : (b c : List ℕ) → length b ≤ 1 → Holds b 0 (0 ∷ []) c → c ≡ 0 ∷ []
begun b c few holds = holds ∙ ap (λ (l : List ℕ). 0 ∷ l) (drop_all 1 b few)

pub gone_on : (b t c : List ℕ) → 1 ≤ length b → length b ≤ 514 → get_or b 0 0 ≡ 0 → length t ≡ 513 → Holds b 1 t c → c ≡ 0 ∷ t
gone_on b t c some few first size holds =
    let front : take 1 b ≡ 0 ∷ [] = take_more b 0 0 (omega (arith, some)) ∙ ap (λ k. k ∷ []) first in
    holds ∙ ap (λ (l : List ℕ). l ++ t ++ drop (1 + length t) b) front ∙ ap (λ (l : List ℕ). (0 ∷ t) ++ l) (drop_all (1 + length t) b (omega (arith, size, few))) ∙ append-nil (0 ∷ t)

pub finished : (x : ℕ) (rest c : List ℕ) → Holds (x ∷ rest) 0 (1 ∷ []) c → c ≡ 1 ∷ rest
finished x rest c holds = holds

-- what blank bytes of each kind are
abbrev pub BlankHas : Blank → List ℕ → ℕ → List ℕ → Type 0
BlankHas Empty label area bytes = length bytes ≤ 1
BlankHas Begun label area bytes = (get_or bytes 0 0 ≡ 0) × (1 ≤ length bytes) × (length bytes ≤ 514)
BlankHas (Written form) label area bytes = IsForm form × (bytes ≡ get_or bytes 0 0 ∷ fresh label area form) × (length bytes ≡ 514)

same_blank : (x y : Blank) → Some x ≡ Some y → x ≡ y
same_blank x y is = cc

fresh_is : (label : List ℕ) (area form : ℕ) (bytes : List ℕ) → IsLabel label → 1 < length bytes → pointwise nat_eq (drop 1 bytes) (fresh label area form) ≡ true → (bytes ≡ get_or bytes 0 0 ∷ fresh label area form) × (length bytes ≡ 514)
fresh_is label area form bytes sizes some same =
    let is = (bytes_decides (drop 1 bytes) (fresh label area form)).0 same in
    let size : length bytes ≡ 514 = omega (arith, ap length is, length-drop 1 bytes, length-fresh label area form sizes, some) in
    (drop_more bytes 0 0 (omega (arith, some)) ∙ ap (λ (l : List ℕ). get_or bytes 0 0 ∷ l) is, size)

which : (a b s c d e : Bool) (blank : Blank) → (if a then Some Empty else if b then (if s then Some Begun else None) else if c then None else if d then Some (Written 1) else if e then Some (Written 2) else None) ≡ Some blank → ((a ≡ true) × (Empty ≡ blank)) ⊎ ((a ≡ false) × (b ≡ true) × (s ≡ true) × (Begun ≡ blank)) ⊎ ((a ≡ false) × (d ≡ true) × (Written 1 ≡ blank)) ⊎ ((a ≡ false) × (e ≡ true) × (Written 2 ≡ blank))
which true b s c d e blank is = inl (refl, same_blank Empty blank is)
which false true true c d e blank is = inr (inl (refl, refl, refl, same_blank Begun blank is))
which false true false c d e blank is = absurd cc
which false false s true d e blank is = absurd cc
which false false s false true e blank is = inr (inr (inl (refl, refl, same_blank (Written 1) blank is)))
which false false s false false true blank is = inr (inr (inr (refl, refl, same_blank (Written 2) blank is)))
which false false s false false false blank is = absurd cc

more_of : (n : ℕ) → nat_le n 1 ≡ false → 1 < n
more_of n is = grind (arith, nat_tests)

few_of : (n m : ℕ) → nat_le n m ≡ true → n ≤ m
few_of n m is = grind (arith, nat_tests)

pub blank_has : (label : List ℕ) (area : ℕ) (bytes : List ℕ) (blank : Blank) → IsLabel label → blank_of label area bytes ≡ Some blank → BlankHas blank label area bytes
blank_has label area bytes blank sizes is = elim (which (nat_le (length bytes) 1) (get_or bytes 0 0 == 0) (nat_le (length bytes) 514) (get_or bytes 0 0 == 1) (pointwise nat_eq (drop 1 bytes) (fresh label area 1)) (pointwise nat_eq (drop 1 bytes) (fresh label area 2)) blank is) [
  | inl (few, k) ↦ subst (λ (b : Blank). BlankHas b label area bytes) k (few_of _ _ few)
  | inr (inl (some, first, few, k)) ↦ subst (λ (b : Blank). BlankHas b label area bytes) k (let f : get_or bytes 0 0 ≡ 0 = eqb-true _ _ first in let m = more_of _ some in (f, omega (arith, m), few_of _ _ few))
  | inr (inr (inl (some, same, k))) ↦ subst (λ (b : Blank). BlankHas b label area bytes) k (let f = fresh_is label area 1 bytes sizes (more_of _ some) same in (inl refl, f.0, f.1))
  | inr (inr (inr (some, same, k))) ↦ subst (λ (b : Blank). BlankHas b label area bytes) k (let f = fresh_is label area 2 bytes sizes (more_of _ some) same in (inr refl, f.0, f.1))
]

pub blank_size : (label : List ℕ) (area : ℕ) (bytes : List ℕ) (blank : Blank) (size : ℕ) → IsLabel label → size ≡ length bytes → blank_of label area bytes ≡ Some blank → BlankSize blank size
blank_size label area bytes blank size sizes size_is is = sized blank (blank_has label area bytes blank sizes is)
  where
    sized : (b : Blank) → BlankHas b label area bytes → BlankSize b size
    sized Empty h = omega (arith, size_is, h)
    sized Begun h = (omega (arith, size_is, h.1), omega (arith, size_is, h.2))
    sized (Written form) h = omega (arith, size_is, h.2)

made_known : (label : List ℕ) (area : ℕ) (bytes : List ℕ) (blank : Blank) → BlankHas blank label area bytes → IsForm (made_form blank)
made_known label area bytes Empty h = inr refl
made_known label area bytes Begun h = inr refl
made_known label area bytes (Written form) h = h.0

-- what was made is an empty journal
pub made_stands : (label : List ℕ) (area form : ℕ) (blank : Blank) (records : List RawRecord) (old new : List ℕ) → form ≡ made_form blank → records ≡ [] → blank_of label area old ≡ Some blank → new ≡ 1 ∷ fresh label area (made_form blank) → IsLabel label → IsAreaSize area → (x : IsImage label area form (contents records) new) × (17 + length label ≡ 17 + length label) × (live_start area x.selector ≡ 512) × (513 ≡ 513 + blocks_size (contents records))
unfolding made_image
made_stands label area form blank records old new form_is none is new_is label_size area_size =
    let known = made_known label area old blank (blank_has label area old blank label_size is) in
    rw (form_is, none, new_is) (made_image label area (made_form blank) label_size area_size known, refl, refl, refl)
