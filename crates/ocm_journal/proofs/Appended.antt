-- What a crash leaves of an image while a record is appended.
use Rattle.std.proofs.Common.{◌≡◌, ◌≢◌, ◌≤◌, ◌<◌, ◌⊎◌, inl, inr, ℕ, ◌+◌, List, [], ◌∷◌, ◌++◌, length, get_or, refl, sym, ◌∙◌, ap, subst, arith, append_assoc, append-nil, length-append}
use Rattle.std.proofs.lemmas.Bool.{cases_eq}
use Rattle.std.proofs.lemmas.Bool.Decides.{nat_tests}
use Rattle.std.specs.Int.{w32, w64, to_be_bytes}
use Rattle.ocm_disk.specs.Disk.{Torn, Holds}
use Rattle.ocm_journal_image.specs.Layout.{IsImage, HoldsAt, AreRecords, named, block, blocks, blocks_size, area_text, live_start, record_text}
use Rattle.ocm_journal_image.proofs.Sizes.{length-blocks}
use Rattle.ocm_journal.specs.Steps.{Switched, InSwitch}
use Rattle.ocm_journal.specs.Journals.{IsBeforeOrAfter}
use Rattle.ocm_journal.proofs.Holding.{holds_both, holds_first, holds_byte, stays_before, stays_behind, written_holds, whole_is_torn}

pub length-named : (label : List ℕ) (area : ℕ) → length (named label area) ≡ 16 + length label
length-named label area = omega (arith, length-append label (to_be_bytes w64 area))

pub length-front : (label : List ℕ) (area selector : ℕ) → length (1 ∷ named label area ++ selector ∷ []) ≡ 18 + length label
length-front label area selector = omega (arith, length-named label area, length-append (named label area) (selector ∷ []))

pub length-area_text : (form : ℕ) (rs : List (List ℕ)) (gate : ℕ) → length (area_text form rs gate) ≡ 2 + blocks_size rs
length-area_text form rs gate = omega (arith, length-append (blocks rs) (gate ∷ []), length-blocks rs)

pub length-record_text : (r : List ℕ) → length (record_text r) ≡ length r + 5
length-record_text r = omega (arith, length-append (to_be_bytes w32 (length r) ++ r) (0 ∷ []), length-append r (0 ∷ []))

pub blocks-push : (rs : List (List ℕ)) (r : List ℕ) → blocks (rs ++ r ∷ []) ≡ blocks rs ++ block r
blocks-push [] r = append-nil (block r)
blocks-push (x ∷ rs) r = ap (λ (l : List ℕ). block x ++ l) (blocks-push rs r) ∙ sym (append_assoc (block x) (blocks rs) (block r))

pub blocks_size-push : (rs : List (List ℕ)) (r : List ℕ) → blocks_size (rs ++ r ∷ []) ≡ blocks_size rs + (5 + length r)
blocks_size-push [] r = omega arith
blocks_size-push (x ∷ rs) r = omega (arith, blocks_size-push rs r)

pub records-push : (rs : List (List ℕ)) (r : List ℕ) → AreRecords rs → 1 ≤ length r → length r ≤ 2097152 → AreRecords (rs ++ r ∷ [])
records-push [] r sizes some few = (some, few, tt)
records-push (x ∷ rs) r sizes some few = (sizes.0, sizes.1, records-push rs r sizes.2 some few)

pub start_at_least : (area selector : ℕ) → 512 ≤ live_start area selector
start_at_least area selector = elim (cases_eq selector 1) [
  | inl one ↦ subst (λ k. 512 ≤ live_start area k) (sym one) (omega arith)
  | inr other ↦ grind (arith, nat_tests)
]

-- an image stays where a write was made behind its last gate, or between its header and its live area
pub stays_image : (label : List ℕ) (area form : ℕ) (rs : List (List ℕ)) (b c : List ℕ) (p n : ℕ) (image : IsImage label area form rs b) → Torn p n b c → 18 + length label ≤ p → (live_start area image.selector + 2 + blocks_size rs ≤ p) ⊎ (p + n ≤ live_start area image.selector) → IsImage label area form rs c
stays_image label area form rs b c p n image torn header place =
    let start : ℕ = live_start area image.selector in
    let shown : List ℕ = area_text form rs image.gate in
    let size = length-area_text form rs image.gate in
    record {
      selector = image.selector;
      gate = image.gate;
      label_size = image.label_size;
      area_size = image.area_size;
      form_known = image.form_known;
      record_sizes = image.record_sizes;
      header = omega (arith, image.header, torn.no_shorter);
      front = stays_before p n b c 0 (1 ∷ named label area ++ image.selector ∷ []) torn (omega (arith, length-front label area image.selector, header)) image.front;
      live = elim place [
        | inl le ↦ stays_before p n b c start shown torn (omega (arith, size, le)) image.live
        | inr le ↦ stays_behind p n b c start shown torn le image.live
      ];
      shut = image.shut;
      within = image.within;
    }

-- with the same area live
pub stays_live : (label : List ℕ) (area form : ℕ) (rs : List (List ℕ)) (b c : List ℕ) (p n : ℕ) (image : IsImage label area form rs b) → Torn p n b c → 18 + length label ≤ p → (live_start area image.selector + 2 + blocks_size rs ≤ p) ⊎ (p + n ≤ live_start area image.selector) → (after : IsImage label area form rs c) × (after.selector ≡ image.selector)
unfolding stays_image
stays_live label area form rs b c p n image torn header place = (stays_image label area form rs b c p n image torn header place, refl)

-- an image whose last gate may be any byte, with a further record whole behind it
pub record Grown (label : List ℕ) (area form : ℕ) (rs : List (List ℕ)) (r : List ℕ) (selector : ℕ) (c : List ℕ) : Type 0 where
  pub header : 512 ≤ length c
  pub front : HoldsAt c 0 (1 ∷ named label area ++ selector ∷ [])
  pub live : HoldsAt c (live_start area selector) (form ∷ blocks rs)
  pub behind : HoldsAt c (live_start area selector + 2 + blocks_size rs) (record_text r)

module _ (label : List ℕ) (area form : ℕ) (rs : List (List ℕ)) (b : List ℕ) (image : IsImage label area form rs b) (r : List ℕ) where
  start : ℕ
  start = live_start area image.selector

  gate_place : ℕ
  gate_place = live_start area image.selector + 1 + blocks_size rs

  pub grown : (place : ℕ) (mid : List ℕ) → place ≡ live_start area image.selector + 2 + blocks_size rs → place ≤ length b → 18 + length label ≤ place → Holds b place (record_text r) mid → Grown label area form rs r image.selector mid
  grown place mid is le header holds =
      let torn = whole_is_torn place b (record_text r) mid holds le in
      let first : HoldsAt b (live_start area image.selector) (form ∷ blocks rs) = holds_first b (live_start area image.selector) (form ∷ blocks rs) (image.gate ∷ []) image.live in
      let size : length (form ∷ blocks rs) ≡ 1 + blocks_size rs = omega (arith, length-blocks rs) in
      record {
        header = omega (arith, image.header, torn.no_shorter);
        front = stays_before place (length (record_text r)) b mid 0 (1 ∷ named label area ++ image.selector ∷ []) torn (omega (arith, length-front label area image.selector, header)) image.front;
        live = stays_before place (length (record_text r)) b mid (live_start area image.selector) (form ∷ blocks rs) torn (omega (arith, size, is)) first;
        behind = subst (λ k. HoldsAt mid k (record_text r)) is (written_holds place b (record_text r) mid holds le);
      }

  -- a write of the gate byte keeps all but the gate
  pub stays_grown : (gate : ℕ) (mid c : List ℕ) → gate ≡ live_start area image.selector + 1 + blocks_size rs → 18 + length label ≤ gate → Torn gate 1 mid c → Grown label area form rs r image.selector mid → Grown label area form rs r image.selector c
  stays_grown gate mid c is header torn g =
      let size : length (form ∷ blocks rs) ≡ 1 + blocks_size rs = omega (arith, length-blocks rs) in
      record {
        header = omega (arith, g.header, torn.no_shorter);
        front = stays_before gate 1 mid c 0 (1 ∷ named label area ++ image.selector ∷ []) torn (omega (arith, length-front label area image.selector, header)) g.front;
        live = stays_before gate 1 mid c (live_start area image.selector) (form ∷ blocks rs) torn (omega (arith, size, is)) g.live;
        behind = stays_behind gate 1 mid c (live_start area image.selector + 2 + blocks_size rs) (record_text r) torn (omega (arith, is)) g.behind;
      }

  -- with its gate shut the record doesn't count
  pub shut_image : (x : ℕ) (c : List ℕ) → Grown label area form rs r image.selector c → HoldsAt c (live_start area image.selector + 1 + blocks_size rs) (x ∷ []) → x ≢ 1 → IsImage label area form rs c
  shut_image x c g held shut =
      let size : live_start area image.selector + 1 + blocks_size rs ≡ live_start area image.selector + length (form ∷ blocks rs) = omega (arith, length-blocks rs) in
      record {
        selector = image.selector;
        gate = x;
        label_size = image.label_size;
        area_size = image.area_size;
        form_known = image.form_known;
        record_sizes = image.record_sizes;
        header = g.header;
        front = g.front;
        live = holds_both c (live_start area image.selector) (form ∷ blocks rs) (x ∷ []) g.live (subst (λ k. HoldsAt c k (x ∷ [])) size held);
        shut = shut;
        within = image.within;
      }

  pushed_text : area_text form (rs ++ r ∷ []) 0 ≡ (form ∷ blocks rs) ++ (1 ∷ record_text r)
  pushed_text = ap (λ (l : List ℕ). form ∷ l) (ap (λ (l : List ℕ). l ++ 0 ∷ []) (blocks-push rs r) ∙ append_assoc (blocks rs) (block r) (0 ∷ []))

  -- with its gate open it does
  pub open_image : (c : List ℕ) → Grown label area form rs r image.selector c → HoldsAt c (live_start area image.selector + 1 + blocks_size rs) (1 ∷ []) → 1 ≤ length r → length r ≤ 2097152 → 2 + blocks_size rs + (5 + length r) ≤ area → IsImage label area form (rs ++ r ∷ []) c
  open_image c g held some few fits =
      let size : live_start area image.selector + 1 + blocks_size rs ≡ live_start area image.selector + length (form ∷ blocks rs) = omega (arith, length-blocks rs) in
      let next : live_start area image.selector + 2 + blocks_size rs ≡ live_start area image.selector + 1 + blocks_size rs + 1 = omega arith in
      let behind : HoldsAt c (live_start area image.selector + 1 + blocks_size rs) (1 ∷ record_text r) = holds_both c (live_start area image.selector + 1 + blocks_size rs) (1 ∷ []) (record_text r) held (subst (λ k. HoldsAt c k (record_text r)) next g.behind) in
      record {
        selector = image.selector;
        gate = 0;
        label_size = image.label_size;
        area_size = image.area_size;
        form_known = image.form_known;
        record_sizes = records-push rs r image.record_sizes some few;
        header = g.header;
        front = g.front;
        live = subst (λ (t : List ℕ). HoldsAt c (live_start area image.selector) t) (sym pushed_text) (holds_both c (live_start area image.selector) (form ∷ blocks rs) (1 ∷ record_text r) g.live (subst (λ k. HoldsAt c k (1 ∷ record_text r)) size behind));
        shut = omega arith;
        within = omega (arith, blocks_size-push rs r, fits);
      }

  -- at each moment of the two writes
  pub in_append : (gate : ℕ) (c : List ℕ) → gate ≡ live_start area image.selector + 1 + blocks_size rs → gate < length b → 1 ≤ length r → length r ≤ 2097152 → 2 + blocks_size rs + (5 + length r) ≤ area → InSwitch b (gate + 1) (record_text r) gate c → IsBeforeOrAfter label area form rs r c
  in_append gate c is lt some few fits (inl torn) =
      inl (stays_image label area form rs b c (gate + 1) (length (record_text r)) image torn (omega (arith, is, start_at_least area image.selector, image.label_size.1)) (inl (omega (arith, is))))
  in_append gate c is lt some few fits (inr (mid, holds, torn)) =
      let low : 18 + length label ≤ gate = omega (arith, is, start_at_least area image.selector, image.label_size.1) in
      let first = grown (gate + 1) mid (omega (arith, is)) (omega (arith, lt)) (omega (arith, low)) holds in
      let g = stays_grown gate mid c is low torn first in
      let torn_first = whole_is_torn (gate + 1) b (record_text r) mid holds (omega (arith, lt)) in
      let there : gate < length c = omega (arith, lt, torn.no_shorter, torn_first.no_shorter) in
      let held : HoldsAt c (live_start area image.selector + 1 + blocks_size rs) (get_or c gate 0 ∷ []) = subst (λ k. HoldsAt c k (get_or c gate 0 ∷ [])) is (holds_byte c gate there) in
      elim (cases_eq (get_or c gate 0) 1) [
        | inl one ↦ inr (open_image c g (subst (λ x. HoldsAt c (live_start area image.selector + 1 + blocks_size rs) (x ∷ [])) one held) some few fits)
        | inr other ↦ inl (shut_image (get_or c gate 0) c g held other)
      ]

  -- and after them
  pub after_append : (gate : ℕ) (c : List ℕ) → gate ≡ live_start area image.selector + 1 + blocks_size rs → gate < length b → 1 ≤ length r → length r ≤ 2097152 → 2 + blocks_size rs + (5 + length r) ≤ area → Switched b (gate + 1) (record_text r) gate 1 c → (after : IsImage label area form (rs ++ r ∷ []) c) × (after.selector ≡ image.selector)
  unfolding open_image
  after_append gate c is lt some few fits (mid, holds, last) =
      let low : 18 + length label ≤ gate = omega (arith, is, start_at_least area image.selector, image.label_size.1) in
      let first = grown (gate + 1) mid (omega (arith, is)) (omega (arith, lt)) (omega (arith, low)) holds in
      let torn_first = whole_is_torn (gate + 1) b (record_text r) mid holds (omega (arith, lt)) in
      let there : gate ≤ length mid = omega (arith, lt, torn_first.no_shorter) in
      let g = stays_grown gate mid c is low (whole_is_torn gate mid (1 ∷ []) c last there) first in
      (open_image c g (subst (λ k. HoldsAt c k (1 ∷ [])) is (written_holds gate mid (1 ∷ []) c last there)) some few fits, refl)

  -- with another byte than 01 in the gate the record behind it doesn't count
  pub after_ruin : (gate x : ℕ) (c : List ℕ) → x ≢ 1 → gate ≡ live_start area image.selector + 1 + blocks_size rs → gate < length b → Switched b (gate + 1) (record_text r) gate x c → (after : IsImage label area form rs c) × (after.selector ≡ image.selector)
  unfolding shut_image
  after_ruin gate x c other is lt (mid, holds, last) =
      let low : 18 + length label ≤ gate = omega (arith, is, start_at_least area image.selector, image.label_size.1) in
      let first = grown (gate + 1) mid (omega (arith, is)) (omega (arith, lt)) (omega (arith, low)) holds in
      let torn_first = whole_is_torn (gate + 1) b (record_text r) mid holds (omega (arith, lt)) in
      let there : gate ≤ length mid = omega (arith, lt, torn_first.no_shorter) in
      let g = stays_grown gate mid c is low (whole_is_torn gate mid (x ∷ []) c last there) first in
      (shut_image x c g (subst (λ k. HoldsAt c k (x ∷ [])) is (written_holds gate mid (x ∷ []) c last there)) other, refl)
