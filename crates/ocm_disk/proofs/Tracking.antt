-- What differs from the last sync, and what is marked, stays between two places.
use Rattle.std.proofs.Common.{◌≡◌, ◌≤◌, ◌<◌, ◌+◌, ◌-◌, ◌++◌, ◌==◌, ℕ, List, length, take, drop, get_or, replicate, sym, ◌∙◌, ap, subst, arith, min, max, ⊎_elim, length-append, if◌then◌else◌}
use Rattle.std.proofs.lemmas.List.{take-take, take_all, take-append-le, drop-drop, drop_all, length-take, length-drop, length-replicate, take-append-drop, get_or_append_left, get_or-append_right, get_or-take, get_or-drop, get_or-replicate, append-nil}
use Rattle.std.proofs.Math.Seq.{take-add}
use Rattle.std.proofs.lemmas.Bool.{cases_lt}
use Rattle.ocm_disk.specs.Disk.{Torn}
use Rattle.ocm_disk.specs.Marks.{IsTracked, mark_at, ruined}
use Rattle.ocm_disk.proofs.Marking.{length-ruined, get_or-whole, ruined_by_places, ruined_unmarked, take-ruined, drop-ruined, mark_zeros, ruined_same}

-- lists that are one up to a place are so up to an earlier one
take_earlier : (m n : ℕ) (xs ys : List ℕ) → m ≤ n → take n xs ≡ take n ys → take m xs ≡ take m ys
take_earlier m n xs ys le same = sym (take-take m n xs le) ∙ ap (take m) same ∙ take-take m n ys le

-- and behind a place, behind a later one
drop_later : (m n : ℕ) (xs ys : List ℕ) → m ≤ n → drop m xs ≡ drop m ys → drop n xs ≡ drop n ys
drop_later m n xs ys le same =
    let e : m + (n - m) ≡ n = omega (arith, le) in
    let behind : (zs : List ℕ) → drop (n - m) (drop m zs) ≡ drop n zs = λ zs. drop-drop (n - m) m zs ∙ ap (λ (k : ℕ). drop k zs) e in
    sym (behind xs) ∙ ap (drop (n - m)) same ∙ behind ys

take_two : (from end : ℕ) (xs : List ℕ) → from ≤ end → take from xs ++ take (end - from) (drop from xs) ≡ take end xs
take_two from end xs le = sym (take-add from (end - from) xs) ∙ ap (λ (k : ℕ). take k xs) (let e : from + (end - from) ≡ end = omega (arith, le) in e)

-- a list whose elements were all replaced
pub all_replaced : (n : ℕ) (new old : List ℕ) → length old ≡ n → length new ≡ length old → take n (new ++ drop (length new) old) ≡ new
all_replaced n new old long same =
    ap (λ (l : List ℕ). take n (new ++ l)) (drop_all (length new) old (omega (arith, same)))
    ∙ ap (take n) (append-nil new) ∙ take_all n new (omega (arith, long, same))

module _ (seen synced words : List ℕ) (from to limit : ℕ) (tracked : IsTracked seen synced words from to limit) where
  lengths : length seen - to ≡ length synced - to
  lengths = sym (length-drop to seen) ∙ ap length tracked.back ∙ length-drop to synced

  -- a part of what is read is written, and marked
  tracked_torn : (place n : ℕ) (new marked : List ℕ) (higher : ℕ) → Torn place n seen new → place ≤ length seen → place + n ≤ limit → limit ≤ higher
      → ((k : ℕ) → k < place → mark_at marked k ≡ mark_at words k) → ((k : ℕ) → place + n ≤ k → mark_at marked k ≡ mark_at words k)
      → IsTracked new synced marked (min from place) (max to (place + n)) higher
  tracked_torn place n new marked higher torn fits ends le before behind = record {
    front = take_earlier (min from place) place new seen (omega arith) torn.before ∙ take_earlier (min from place) from seen synced (omega arith) tracked.front;
    back = drop_later (place + n) (max to (place + n)) new seen (omega arith) torn.after ∙ drop_later to (max to (place + n)) seen synced (omega arith) tracked.back;
    inside = omega (arith, tracked.inside, torn.no_shorter);
    before = λ k h. before k (omega (arith, h)) ∙ tracked.before k (omega (arith, h));
    behind = λ k h. behind k (omega (arith, h)) ∙ tracked.behind k (omega (arith, h));
    seen_fits = omega (arith, torn.no_longer, tracked.seen_fits, ends, le);
    synced_fits = omega (arith, tracked.synced_fits, le);
    span_fits = omega (arith, tracked.span_fits, ends, le);
  }

  pub tracked_written : (place n : ℕ) (new marked : List ℕ) (first last higher : ℕ) → Torn place n seen new → first ≡ min from place → last ≡ max to (place + n) → place ≤ length seen → place + n ≤ limit → limit ≤ higher
      → ((k : ℕ) → k < place → mark_at marked k ≡ mark_at words k) → ((k : ℕ) → place + n ≤ k → mark_at marked k ≡ mark_at words k)
      → IsTracked new synced marked first last higher
  tracked_written place n new marked first last higher torn first_is last_is fits ends le before behind =
      subst (λ (k : ℕ). IsTracked new synced marked k last higher) (sym first_is)
      (subst (λ (k : ℕ). IsTracked new synced marked (min from place) k higher) (sym last_is) (tracked_torn place n new marked higher torn fits ends le before behind))

  -- what is read is cut
  tracked_cut : (n higher : ℕ) → limit ≤ higher → IsTracked (take n seen) synced words (min from n) (max to (length seen)) higher
  tracked_cut n higher le = record {
    front = take-take (min from n) n seen (omega arith) ∙ take_earlier (min from n) from seen synced (omega arith) tracked.front;
    back = drop_all (max to (length seen)) (take n seen) (omega (arith, length-take n seen)) ∙ sym (drop_all (max to (length seen)) synced (omega (arith, lengths)));
    inside = omega (arith, length-take n seen, tracked.inside);
    before = λ k h. tracked.before k (omega (arith, h));
    behind = λ k h. tracked.behind k (omega (arith, h));
    seen_fits = omega (arith, length-take n seen, tracked.seen_fits, le);
    synced_fits = omega (arith, tracked.synced_fits, le);
    span_fits = omega (arith, tracked.span_fits, tracked.seen_fits, le);
  }

  pub tracked_cut_as : (n : ℕ) (new : List ℕ) (first last higher : ℕ) → new ≡ take n seen → first ≡ min from n → last ≡ max to (length seen) → limit ≤ higher → IsTracked new synced words first last higher
  tracked_cut_as n new first last higher is first_is last_is le =
      subst (λ (l : List ℕ). IsTracked l synced words first last higher) (sym is)
      (subst (λ (k : ℕ). IsTracked (take n seen) synced words k last higher) (sym first_is)
      (subst (λ (k : ℕ). IsTracked (take n seen) synced words (min from n) k higher) (sym last_is) (tracked_cut n higher le)))

  -- other words have the same marks, and there is more room
  pub tracked_same : (others : List ℕ) (higher : ℕ) → ((k : ℕ) → mark_at others k ≡ mark_at words k) → limit ≤ higher → IsTracked seen synced others from to higher
  tracked_same others higher same le = record {
    front = tracked.front;
    back = tracked.back;
    inside = tracked.inside;
    before = λ k h. same k ∙ tracked.before k h;
    behind = λ k h. same k ∙ tracked.behind k h;
    seen_fits = omega (arith, tracked.seen_fits, le);
    synced_fits = omega (arith, tracked.synced_fits, le);
    span_fits = omega (arith, tracked.span_fits, le);
  }

  pub tracked_room : (bytes others more : List ℕ) (n higher : ℕ) → bytes ≡ seen → others ≡ synced → more ≡ words ++ replicate n 0 → limit ≤ higher → IsTracked bytes others more from to higher
  tracked_room bytes others more n higher bytes_is others_is more_is le =
      subst (λ (l : List ℕ). IsTracked l others more from to higher) (sym bytes_is)
      (subst (λ (l : List ℕ). IsTracked seen l more from to higher) (sym others_is)
      (subst (λ (l : List ℕ). IsTracked seen synced l from to higher) (sym more_is) (tracked_same (words ++ replicate n 0) higher (mark_zeros words n) le)))

  -- what is marked gets another byte
  pub tracked_ruined : IsTracked (ruined words seen) synced words from to limit
  tracked_ruined = record {
    front = take-ruined words 0 from seen ∙ ruined_unmarked words 0 (take from seen) (λ k above below. tracked.before k (omega (arith, below, length-take from seen))) ∙ tracked.front;
    back = drop-ruined words 0 to seen ∙ ruined_unmarked words (0 + to) (drop to seen) (λ k above below. tracked.behind k (omega (arith, above))) ∙ tracked.back;
    inside = omega (arith, tracked.inside, length-ruined words 0 seen);
    before = tracked.before;
    behind = tracked.behind;
    seen_fits = omega (arith, tracked.seen_fits, length-ruined words 0 seen);
    synced_fits = tracked.synced_fits;
    span_fits = tracked.span_fits;
  }

  pub tracked_ruined_as : (new : List ℕ) → new ≡ ruined words seen → IsTracked new synced words from to limit
  tracked_ruined_as new is = subst (λ (l : List ℕ). IsTracked l synced words from to limit) (sym is) tracked_ruined

  -- what differs is copied
  pub copied : (end : ℕ) → end ≡ max (min to (length seen)) from → take (length seen) (take from synced ++ take (end - from) (drop from seen) ++ drop end synced) ≡ seen
  copied end is =
      let head : take from synced ++ take (end - from) (drop from seen) ≡ take end seen =
      ap (λ (l : List ℕ). l ++ take (end - from) (drop from seen)) (sym tracked.front) ∙ take_two from end seen (omega arith) in
      ap (λ (l : List ℕ). take (length seen) (l ++ drop end synced)) head ∙ ⊎_elim
      (λ (lt : end < length seen). ap (λ (l : List ℕ). take (length seen) (take end seen ++ l)) (sym (drop_later to end seen synced (omega arith) tracked.back)) ∙ ap (take (length seen)) (take-append-drop end seen) ∙ take_all (length seen) seen (omega arith))
      (λ (ge : length seen ≤ end). take-append-le (length seen) (take end seen) (drop end synced) (omega (arith, length-take end seen)) ∙ take-take (length seen) end seen ge ∙ take_all (length seen) seen (omega arith))
      (cases_lt end (length seen))

  pub copied_as : (end n : ℕ) (source all new : List ℕ) → end ≡ max (min to (length seen)) from → source ≡ seen → n ≡ length seen
      → all ≡ take from synced ++ take (end - from) (drop from source) ++ drop (from + length (take (end - from) (drop from source))) synced
      → new ≡ take n all → new ≡ seen
  copied_as end n source all new is same long written cut =
      let most : end ≤ length seen = omega (arith, is, tracked.inside) in
      let copies : length (take (end - from) (drop from seen)) ≡ end - from = omega (arith, length-take (end - from) (drop from seen), length-drop from seen, most) in
      let ends : from + length (take (end - from) (drop from seen)) ≡ end = omega (arith, copies, is) in
      cut ∙ ap (λ (k : ℕ). take k all) long
      ∙ ap (take (length seen)) (written
      ∙ ap (λ (l : List ℕ). take from synced ++ take (end - from) (drop from l) ++ drop (from + length (take (end - from) (drop from l))) synced) same
      ∙ ap (λ (k : ℕ). take from synced ++ take (end - from) (drop from seen) ++ drop k synced) ends)
      ∙ copied end is

-- nothing differs, and nothing is marked
tracked_whole : (seen synced words : List ℕ) (limit : ℕ) → synced ≡ seen → ((k : ℕ) → mark_at words k ≡ 0) → length seen ≤ limit → IsTracked seen synced words (length seen) 0 limit
tracked_whole seen synced words limit same none fits = record {
  front = ap (take (length seen)) (sym same);
  back = sym same;
  inside = omega arith;
  before = λ k h. none k;
  behind = λ k h. none k;
  seen_fits = fits;
  synced_fits = omega (arith, ap length same, fits);
  span_fits = omega arith;
}

pub tracked_whole_as : (seen synced words : List ℕ) (first limit : ℕ) → synced ≡ seen → ((k : ℕ) → mark_at words k ≡ 0) → first ≡ length seen → length seen ≤ limit → IsTracked seen synced words first 0 limit
tracked_whole_as seen synced words first limit same none is fits =
    subst (λ (k : ℕ). IsTracked seen synced words k 0 limit) (sym is) (tracked_whole seen synced words limit same none fits)

-- ---- bytes in place of others
abbrev over : List ℕ → List ℕ → ℕ → List ℕ
over xs ys place = take place xs ++ ys ++ drop (place + length ys) xs

module _ (xs ys : List ℕ) (place : ℕ) (fits : place ≤ length xs) where
  front_long : length (take place xs ++ ys) ≡ place + length ys
  front_long = omega (arith, length-append (take place xs) ys, length-take place xs, fits)

  length-over : length (over xs ys place) ≡ max (length xs) (place + length ys)
  length-over = omega (arith, length-append (take place xs ++ ys) (drop (place + length ys) xs), front_long, length-drop (place + length ys) xs)

  over_left : (k : ℕ) → k < place → get_or (over xs ys place) k 0 ≡ get_or xs k 0
  over_left k lt =
      get_or_append_left (take place xs ++ ys) (drop (place + length ys) xs) 0 k (omega (arith, front_long, lt))
      ∙ get_or_append_left (take place xs) ys 0 k (omega (arith, length-take place xs, fits, lt))
      ∙ get_or-take place xs k 0 lt

  over_mid : (k : ℕ) → place ≤ k → k < place + length ys → get_or (over xs ys place) k 0 ≡ get_or ys (k - place) 0
  over_mid k ge lt =
      get_or_append_left (take place xs ++ ys) (drop (place + length ys) xs) 0 k (omega (arith, front_long, lt))
      ∙ get_or-append_right (take place xs) ys place k 0 (omega (arith, length-take place xs, fits)) ge

  over_right : (k : ℕ) → place + length ys ≤ k → get_or (over xs ys place) k 0 ≡ get_or xs k 0
  over_right k ge =
      get_or-append_right (take place xs ++ ys) (drop (place + length ys) xs) (place + length ys) k 0 front_long ge
      ∙ get_or-drop (place + length ys) xs (k - (place + length ys)) 0
      ∙ ap (λ (i : ℕ). get_or xs i 0) (let e : place + length ys + (k - (place + length ys)) ≡ k = omega (arith, ge) in e)

module _ (words marked seen bytes : List ℕ) (place : ℕ) (fits : place ≤ length seen)
    (inside : (k : ℕ) → place ≤ k → k < place + length bytes → mark_at marked k ≡ 1)
    (before : (k : ℕ) → k < place → mark_at marked k ≡ mark_at words k)
    (behind : (k : ℕ) → place + length bytes ≤ k → mark_at marked k ≡ mark_at words k) where
  ees_long : length {A = ℕ} (replicate (length bytes) 238) ≡ length bytes
  ees_long = length-replicate (length bytes) 238

  level : length (ruined words seen) ≡ length seen
  level = length-ruined words 0 seen

  -- the same with the length of what is written told another way
  abbrev found : ℕ → List ℕ
  found n = take place (ruined words seen) ++ replicate (length bytes) 238 ++ drop (place + n) (ruined words seen)

  as_found : found (length bytes) ≡ found (length {A = ℕ} (replicate (length bytes) 238))
  as_found = ap found (sym ees_long)

  each_at : (k : ℕ) → k < length (over seen bytes place) → get_or (found (length {A = ℕ} (replicate (length bytes) 238))) k 0 ≡ (if mark_at marked k == 1 then 238 else get_or (over seen bytes place) k 0)
  each_at k within = ⊎_elim
      (λ (lt : k < place).
      over_left (ruined words seen) (replicate (length bytes) 238) place (omega (arith, level, fits)) k lt
      ∙ get_or-whole words seen k (omega (arith, fits, lt))
      ∙ ap (λ (m : ℕ). if m == 1 then 238 else get_or seen k 0) (sym (before k lt))
      ∙ ap (λ (b : ℕ). if mark_at marked k == 1 then 238 else b) (sym (over_left seen bytes place fits k lt)))
      (λ (ge : place ≤ k). ⊎_elim
      (λ (lt : k < place + length bytes).
      over_mid (ruined words seen) (replicate (length bytes) 238) place (omega (arith, level, fits)) k ge (omega (arith, ees_long, lt))
      ∙ get_or-replicate (length bytes) (k - place) 238 0 (omega (arith, lt, ge))
      ∙ sym (ap (λ (m : ℕ). if m == 1 then 238 else get_or (over seen bytes place) k 0) (inside k ge lt)))
      (λ (past : place + length bytes ≤ k).
      over_right (ruined words seen) (replicate (length bytes) 238) place (omega (arith, level, fits)) k (omega (arith, ees_long, past))
      ∙ get_or-whole words seen k (omega (arith, length-over seen bytes place fits, within, past))
      ∙ ap (λ (m : ℕ). if m == 1 then 238 else get_or seen k 0) (sym (behind k past))
      ∙ ap (λ (b : ℕ). if mark_at marked k == 1 then 238 else b) (sym (over_right seen bytes place fits k past)))
      (cases_lt k (place + length bytes)))
      (cases_lt k place)

  -- what is written is marked, and nothing else besides
  pub ruined_written : ruined marked (take place seen ++ bytes ++ drop (place + length bytes) seen) ≡ take place (ruined words seen) ++ replicate (length bytes) 238 ++ drop (place + length bytes) (ruined words seen)
  ruined_written = sym (as_found ∙ ruined_by_places marked (over seen bytes place) (found (length {A = ℕ} (replicate (length bytes) 238)))
      (length-over (ruined words seen) (replicate (length bytes) 238) place (omega (arith, level, fits)) ∙ (let e : max (length (ruined words seen)) (place + length {A = ℕ} (replicate (length bytes) 238)) ≡ max (length seen) (place + length bytes) = omega (arith, level, ees_long) in e) ∙ sym (length-over seen bytes place fits))
      each_at)

-- ---- what a call leaves with `ee` in each byte that is marked
pub torn_cut : (words seen new torn : List ℕ) (n : ℕ) → ruined words seen ≡ torn → new ≡ take n seen → ruined words new ≡ take n torn
torn_cut words seen new torn n was is = ap (ruined words) is ∙ sym (take-ruined words 0 n seen) ∙ ap (take n) was

pub torn_written : (words marked seen new bytes torn : List ℕ) (place : ℕ) → place ≤ length seen
    → ((k : ℕ) → place ≤ k → k < place + length bytes → mark_at marked k ≡ 1)
    → ((k : ℕ) → k < place → mark_at marked k ≡ mark_at words k)
    → ((k : ℕ) → place + length bytes ≤ k → mark_at marked k ≡ mark_at words k)
    → ruined words seen ≡ torn
    → new ≡ take place seen ++ bytes ++ drop (place + length bytes) seen
    → ruined marked new ≡ take place torn ++ replicate (length bytes) 238 ++ drop (place + length bytes) torn
torn_written words marked seen new bytes torn place fits inside before behind was is =
    ap (ruined marked) is ∙ ruined_written words marked seen bytes place fits inside before behind
    ∙ ap (λ (l : List ℕ). take place l ++ replicate (length bytes) 238 ++ drop (place + length bytes) l) was

pub torn_room : (words more seen bytes torn : List ℕ) (n : ℕ) → ruined words seen ≡ torn → bytes ≡ seen → more ≡ words ++ replicate n 0 → ruined more bytes ≡ torn
torn_room words more seen bytes torn n was bytes_is more_is =
    ap (ruined more) bytes_is ∙ ap (λ (l : List ℕ). ruined l seen) more_is ∙ ruined_same words (words ++ replicate n 0) 0 seen (mark_zeros words n) ∙ was
