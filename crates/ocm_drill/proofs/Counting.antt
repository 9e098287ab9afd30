-- The counts of a tally, and their lines.
use Rattle.std.proofs.Common.{◌≡◌, ◌≢◌, ◌<◌, ◌≤◌, ◌+◌, ◌∙◌, ℕ, zero, suc, List, [], ◌∷◌, ◌++◌, length, get_or, true, false, cond, nat_eq, ap, sym, refl, min, arith, inl, inr, slice_index, slice_set, Some, None, add-zero, replicate, length-set}
use Rattle.std.specs.Option.{option_map_or}
use Rattle.std.proofs.lemmas.List.{get_or-set_other, get_or-replicate, length-replicate}
use Rattle.std.proofs.lemmas.List.Sums.{count_by-le-length, sum_by-append}
use Rattle.std.proofs.lemmas.Grind.{get_or-set_at}
use Rattle.std.proofs.lemmas.Bool.{eq-eqb, ne_eqb}
use Rattle.std.proofs.lemmas.Bool.Decides.{eqb_tells}
use Rattle.ocm_drill.specs.Summary.{AreCounts, lines_below, shows, status_in, status_line, status_lines, times}

-- how often a status comes with one text more
pub times-more : (status : ℕ) (texts : List (List ℕ)) (text : List ℕ) → times status (texts ++ text ∷ []) ≡ times status texts + cond (shows status text) 1 0
times-more status texts text = grind (arith, sum_by-append (λ x. cond (shows status x) 1 0) texts (text ∷ []))

-- the counts with the count of another status
kept : (counts : List ℕ) (texts : List (List ℕ)) (text : List ℕ) (status value other : ℕ) → AreCounts counts texts → status_in text ≡ Some status → other < 1000 → other ≢ status
    → slice_index (slice_set counts status value) other ≡ times other (texts ++ text ∷ [])
kept counts texts text status value other are shown within differ =
    let no : shows other text ≡ false = ap (λ s. option_map_or (nat_eq other) s false) shown ∙ ne_eqb other status differ in
    get_or-set_other counts status other value 0 differ ∙ (are.each other within ∙ sym (times-more other texts text ∙ (ap (λ b. times other texts + cond b 1 0) no ∙ add-zero (times other texts))))

-- the count of a status that the text shows
raised : (counts : List ℕ) (texts : List (List ℕ)) (text : List ℕ) (status value other : ℕ) → AreCounts counts texts → length texts < 4294967295 → status < 1000
    → status_in text ≡ Some status → value ≡ min (slice_index counts status + 1) 4294967295 → other ≡ status
    → slice_index (slice_set counts status value) other ≡ times other (texts ++ text ∷ [])
raised counts texts text status value other are few below shown is same =
    let yes : shows other text ≡ true = ap (λ s. option_map_or (nat_eq other) s false) shown ∙ eq-eqb other status same in
    let within : status < length counts = omega (arith, are.size) in
    let count : slice_index counts status ≡ times status texts = are.each status below in
    let most : times status texts ≤ length texts = count_by-le-length (shows status) texts in
    let one : value ≡ times status texts + 1 = omega (arith, is, count, most, few) in
    get_or-set_at counts status other value 0 same within ∙ (one ∙ (ap (λ s. times s texts + 1) (sym same) ∙ sym (times-more other texts text ∙ ap (λ b. times other texts + cond b 1 0) yes)))

-- the counts with one text more, which shows a status
pub counted : (counts : List ℕ) (texts : List (List ℕ)) (text : List ℕ) (status value : ℕ) → AreCounts counts texts → length texts < 4294967295 → status < 1000
    → status_in text ≡ Some status → value ≡ min (slice_index counts status + 1) 4294967295 → AreCounts (slice_set counts status value) (texts ++ text ∷ [])
counted counts texts text status value are few below shown is = record {
  size = length-set counts status value ∙ are.size;
  each = λ other within. elim (eqb_tells other status) [
    | inl same ↦ raised counts texts text status value other are few below shown is same.1
    | inr differ ↦ kept counts texts text status value other are shown within differ.1
  ];
}

-- the counts with one text more, which shows none
pub uncounted : (counts : List ℕ) (texts : List (List ℕ)) (text : List ℕ) → AreCounts counts texts → status_in text ≡ None → AreCounts counts (texts ++ text ∷ [])
uncounted counts texts text are shown = record {
  size = are.size;
  each = λ other within.
      let no : shows other text ≡ false = ap (λ s. option_map_or (nat_eq other) s false) shown in
      are.each other within ∙ sym (times-more other texts text ∙ (ap (λ b. times other texts + cond b 1 0) no ∙ add-zero (times other texts)));
}

-- no counts are those of no texts
pub none_counted : (counts : List ℕ) → counts ≡ replicate 1000 0 → AreCounts counts []
none_counted counts is = record {
  size = ap length is ∙ length-replicate {A = ℕ} 1000 0;
  each = λ status within. ap (λ list. get_or list status 0) is ∙ get_or-replicate 1000 status 0 0 within;
}

-- the same lines for the same counts
pub lines_below-same : (n : ℕ) (f g : ℕ → ℕ) → ((status : ℕ) → status < n → f status ≡ g status) → lines_below n f ≡ lines_below n g
unfolding lines_below
lines_below-same zero f g same = refl
lines_below-same (suc n) f g same =
    let below : lines_below n f ≡ lines_below n g = lines_below-same n f g (λ status within. same status (omega (arith, within))) in
    let last : f n ≡ g n = same n (omega arith) in
    ap (λ lines. lines ++ status_line n (f n)) below ∙ ap (λ count. lines_below n g ++ status_line n count) last

-- the lines of the counts are those of the texts
pub counted_lines : (counts : List ℕ) (texts : List (List ℕ)) → AreCounts counts texts → lines_below (length counts) (λ status. slice_index counts status) ≡ status_lines texts
unfolding status_lines
counted_lines counts texts are =
    let times_of : ℕ → ℕ = λ status. times status texts in
    ap (λ n. lines_below n (λ status. slice_index counts status)) are.size ∙ lines_below-same 1000 (λ status. slice_index counts status) times_of are.each
