-- What a crash leaves of an image while its other area is written and made live.
use Rattle.std.proofs.Common.{◌≡◌, ◌≢◌, ◌≤◌, ◌<◌, ◌⊎◌, inl, inr, ℕ, ◌+◌, ◌-◌, min, List, [], ◌∷◌, length, get_or, replicate, refl, sym, ◌∙◌, ap, subst, arith, length-append}
use Rattle.std.proofs.lemmas.List.{length-replicate}
use Rattle.std.proofs.lemmas.Bool.{cases_eq}
use Rattle.std.proofs.lemmas.Bool.Decides.{nat_tests}
use Rattle.ocm_disk.specs.Disk.{Torn, Holds}
use Rattle.ocm_journal_image.specs.Layout.{IsImage, HoldsAt, AreRecords, named, blocks_size, area_text, live_start}
use Rattle.ocm_journal.specs.Steps.{Switched, InSwitch}
use Rattle.ocm_journal.specs.Journals.{renewed_text, IsOldOrNew, IsOther}
use Rattle.ocm_journal.proofs.Holding.{holds_both, holds_first, holds_second, holds_byte, stays_before, stays_behind, written_holds, whole_is_torn}
use Rattle.ocm_journal.proofs.Appended.{length-named, length-area_text, start_at_least, stays_image, stays_live}

live_one : (area : ℕ) → live_start area 1 ≡ 512
live_one area = refl

pub live_other : (area x : ℕ) → x ≢ 1 → live_start area x ≡ 512 + area
live_other area x other = grind (arith, nat_tests)

-- both areas stand, whatever the selector is
pub record Both (label : List ℕ) (area form : ℕ) (rs ns : List (List ℕ)) (gate start other : ℕ) (c : List ℕ) : Type 0 where
  pub header : 512 ≤ length c
  pub front : HoldsAt c 0 (1 ∷ named label area)
  pub old : HoldsAt c start (area_text form rs gate)
  pub new : HoldsAt c other (area_text 2 ns 0)

module _ (label : List ℕ) (area form : ℕ) (rs : List (List ℕ)) (b : List ℕ) (image : IsImage label area form rs b) (ns : List (List ℕ)) (start other byte place len : ℕ) (start_is : live_start area image.selector ≡ start) (other_is : IsOther area start other byte) (sizes : AreRecords ns) (fits : 2 + blocks_size ns ≤ area) (len_is : len ≡ length b) (place_is : place ≡ min other len) (inside : start + 1 + blocks_size rs < len) where
  text_size : length (renewed_text (other - place) ns) ≡ (other - place) + (2 + blocks_size ns)
  text_size = omega (arith, length-append (replicate (other - place) 0) (area_text 2 ns 0), length-replicate {A = ℕ} (other - place) 0, length-area_text 2 ns 0)

  other_low : 512 ≤ other
  other_low = elim other_is [
    | inl (s, o, k) ↦ omega (arith, o)
    | inr (s, o, k) ↦ omega (arith, o)
  ]

  start_low : 512 ≤ start
  start_low = omega (arith, start_at_least area image.selector, start_is)

  apart : (live_start area image.selector + 2 + blocks_size rs ≤ place) ⊎ (place + length (renewed_text (other - place) ns) ≤ live_start area image.selector)
  apart = elim other_is [
    | inl (s, o, k) ↦ inl (omega (arith, s, o, start_is, place_is, inside, image.within))
    | inr (s, o, k) ↦ inr (omega (arith, s, o, start_is, place_is, text_size, len_is, image.header, fits))
  ]

  place_low : 512 ≤ place
  place_low = omega (arith, place_is, other_low, len_is, image.header)

  -- while the other area is written
  pub in_first : (c : List ℕ) → Torn place (length (renewed_text (other - place) ns)) b c → IsImage label area form rs c
  in_first c torn = stays_image label area form rs b c place (length (renewed_text (other - place) ns)) image torn (omega (arith, place_low, image.label_size.1)) apart

  pub first_live : (c : List ℕ) → Torn place (length (renewed_text (other - place) ns)) b c → (after : IsImage label area form rs c) × (after.selector ≡ image.selector)
  first_live c torn = stays_live label area form rs b c place (length (renewed_text (other - place) ns)) image torn (omega (arith, place_low, image.label_size.1)) apart

  both_in : (mid : List ℕ) → Holds b place (renewed_text (other - place) ns) mid → Both label area form rs ns image.gate start other mid
  both_in mid holds =
      let le : place ≤ length b = omega (arith, place_is, len_is) in
      let text : List ℕ = renewed_text (other - place) ns in
      let torn = whole_is_torn place b text mid holds le in
      let behind = holds_second mid place (replicate (other - place) 0) (area_text 2 ns 0) (written_holds place b text mid holds le) in
      let there : place + length (replicate (other - place) 0) ≡ other = omega (arith, length-replicate {A = ℕ} (other - place) 0, place_is) in
      let old_at : HoldsAt b start (area_text form rs image.gate) = subst (λ k. HoldsAt b k (area_text form rs image.gate)) start_is image.live in
      record {
        header = omega (arith, image.header, torn.no_shorter);
        front = stays_before place (length text) b mid 0 (1 ∷ named label area) torn (omega (arith, length-named label area, place_low, image.label_size.1)) (holds_first b 0 (1 ∷ named label area) (image.selector ∷ []) image.front);
        old = elim apart [
          | inl before ↦ stays_before place (length text) b mid start (area_text form rs image.gate) torn (omega (arith, length-area_text form rs image.gate, before, start_is)) old_at
          | inr after ↦ stays_behind place (length text) b mid start (area_text form rs image.gate) torn (omega (arith, after, start_is)) old_at
        ];
        new = subst (λ k. HoldsAt mid k (area_text 2 ns 0)) there behind;
      }

  both_stay : (selector : ℕ) (mid c : List ℕ) → selector ≡ 17 + length label → Torn selector 1 mid c → Both label area form rs ns image.gate start other mid → Both label area form rs ns image.gate start other c
  both_stay selector mid c is torn s = record {
    header = omega (arith, s.header, torn.no_shorter);
    front = stays_before selector 1 mid c 0 (1 ∷ named label area) torn (omega (arith, length-named label area, is)) s.front;
    old = stays_behind selector 1 mid c start (area_text form rs image.gate) torn (omega (arith, is, start_low, image.label_size.1)) s.old;
    new = stays_behind selector 1 mid c other (area_text 2 ns 0) torn (omega (arith, is, other_low, image.label_size.1)) s.new;
  }

  old_image : (x : ℕ) (c : List ℕ) → Both label area form rs ns image.gate start other c → HoldsAt c (17 + length label) (x ∷ []) → live_start area x ≡ start → IsImage label area form rs c
  old_image x c s held live_is =
      let size : 17 + length label ≡ 0 + length (1 ∷ named label area) = omega (arith, length-named label area) in
      record {
        selector = x;
        gate = image.gate;
        label_size = image.label_size;
        area_size = image.area_size;
        form_known = image.form_known;
        record_sizes = image.record_sizes;
        header = s.header;
        front = holds_both c 0 (1 ∷ named label area) (x ∷ []) s.front (subst (λ k. HoldsAt c k (x ∷ [])) size held);
        live = subst (λ k. HoldsAt c k (area_text form rs image.gate)) (sym live_is) s.old;
        shut = image.shut;
        within = image.within;
      }

  new_image : (x : ℕ) (c : List ℕ) → Both label area form rs ns image.gate start other c → HoldsAt c (17 + length label) (x ∷ []) → live_start area x ≡ other → (new : IsImage label area 2 ns c) × (live_start area new.selector ≡ other)
  new_image x c s held live_is =
      let size : 17 + length label ≡ 0 + length (1 ∷ named label area) = omega (arith, length-named label area) in (
        record {
          selector = x;
          gate = 0;
          label_size = image.label_size;
          area_size = image.area_size;
          form_known = inr refl;
          record_sizes = sizes;
          header = s.header;
          front = holds_both c 0 (1 ∷ named label area) (x ∷ []) s.front (subst (λ k. HoldsAt c k (x ∷ [])) size held);
          live = subst (λ k. HoldsAt c k (area_text 2 ns 0)) (sym live_is) s.new;
          shut = omega arith;
          within = fits;
        },
        live_is,
      )

  either_image : (x : ℕ) (c : List ℕ) → Both label area form rs ns image.gate start other c → HoldsAt c (17 + length label) (x ∷ []) → (live_start area x ≡ start) ⊎ (live_start area x ≡ other) → IsOldOrNew label area form rs ns c
  either_image x c s held (inl old_is) = inl (old_image x c s held old_is)
  either_image x c s held (inr new_is) = inr (new_image x c s held new_is).0

  live_of : (x : ℕ) → (live_start area x ≡ start) ⊎ (live_start area x ≡ other)
  live_of x = elim (cases_eq x 1) [
    | inl one ↦ elim other_is [
      | inl (s, o, k) ↦ inl (ap (λ y. live_start area y) one ∙ sym s)
      | inr (s, o, k) ↦ inr (ap (λ y. live_start area y) one ∙ sym o)
    ]
    | inr not_one ↦ elim other_is [
      | inl (s, o, k) ↦ inr (live_other area x not_one ∙ sym o)
      | inr (s, o, k) ↦ inl (live_other area x not_one ∙ sym s)
    ]
  ]

  -- at each moment of the two writes
  pub in_renewal : (selector : ℕ) (c : List ℕ) → selector ≡ 17 + length label → InSwitch b place (renewed_text (other - place) ns) selector c → IsOldOrNew label area form rs ns c
  in_renewal selector c is (inl torn) = inl (in_first c torn)
  in_renewal selector c is (inr (mid, holds, torn)) =
      let s = both_in mid holds in
      let t = both_stay selector mid c is torn s in
      let there : selector < length c = omega (arith, t.header, is, image.label_size.1) in
      either_image (get_or c selector 0) c t (subst (λ k. HoldsAt c k (get_or c selector 0 ∷ [])) is (holds_byte c selector there)) (live_of (get_or c selector 0))

  live_byte : live_start area byte ≡ other
  live_byte = elim other_is [
    | inl (s, o, k) ↦ ap (λ y. live_start area y) k ∙ sym o
    | inr (s, o, k) ↦ ap (λ y. live_start area y) k ∙ sym o
  ]

  -- and after them
  pub after_renewal : (selector : ℕ) (c : List ℕ) → selector ≡ 17 + length label → Switched b place (renewed_text (other - place) ns) selector byte c → (new : IsImage label area 2 ns c) × (live_start area new.selector ≡ other)
  after_renewal selector c is (mid, holds, last) =
      let s = both_in mid holds in
      let le : selector ≤ length mid = omega (arith, s.header, is, image.label_size.1) in
      let t = both_stay selector mid c is (whole_is_torn selector mid (byte ∷ []) c last le) s in
      new_image byte c t (subst (λ k. HoldsAt c k (byte ∷ [])) is (written_holds selector mid (byte ∷ []) c last le)) live_byte

  -- with `ee` in place of the selector the second area is live
  pub after_ruin : (selector : ℕ) (c : List ℕ) → selector ≡ 17 + length label → Switched b place (renewed_text (other - place) ns) selector 238 c → (start ≡ 512 → (new : IsImage label area 2 ns c) × (live_start area new.selector ≡ other)) × (start ≢ 512 → (old : IsImage label area form rs c) × (live_start area old.selector ≡ start))
  unfolding old_image
  after_ruin selector c is (mid, holds, last) =
      let s = both_in mid holds in
      let le : selector ≤ length mid = omega (arith, s.header, is, image.label_size.1) in
      let t = both_stay selector mid c is (whole_is_torn selector mid (238 ∷ []) c last le) s in
      let held : HoldsAt c (17 + length label) (238 ∷ []) = subst (λ k. HoldsAt c k (238 ∷ [])) is (written_holds selector mid (238 ∷ []) c last le) in
      elim other_is [
        | inl (at, o, k) ↦ ((λ first. new_image 238 c t held (sym o)), (λ second. absurd (second at)))
        | inr (at, o, k) ↦ ((λ first. absurd (omega (arith, first, at, image.area_size.0))), (λ second. (old_image 238 c t held (sym at), sym at)))
      ]
