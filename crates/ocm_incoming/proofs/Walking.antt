use Rattle.std.proofs.Common.{◌≡◌, ℕ, ◌+◌, ◌-◌, ◌<◌, ◌≤◌, List, [], ◌∷◌, ◌++◌, length, take, get_or, refl, sym, subst, ◌∙◌, arith, Bool, true, false, cond, Some, ⊎_elim}
use Rattle.std.specs.Prelude.{nat_eq, reverse}
use Rattle.std.specs.HashMap as map
use Rattle.std.proofs.Math.Seq.{get_or-append_seam}
use Rattle.std.proofs.lemmas.Bool.{cases_lt}
use Rattle.std.proofs.lemmas.Bool.Decides.{nat_tests}
use Rattle.std.proofs.lemmas.Grind.{common_steps}
use Rattle.std.proofs.lemmas.List.{take_all, take-append-le, append_assoc, append-nil, reverse-append, length-append, get_or_append_left}
use Rattle.ocm_incoming.specs.Groups.{members, IsLastOf, Places, kept_for, IsChain}
use Rattle.ocm_incoming.proofs.Numbering.{numbers_where-push, numbers_where-last}

-- ---- a walk through the members of a group

-- what a walk has found, from the last member on, where it stands at this number
pub record IsWalk (groups : List ℕ) (group number : ℕ) (found : List ℕ) : Type 0 where
  pub within : number ≤ length groups
  pub belongs : 0 < number → get_or groups (number - 1) 0 ≡ group
  pub rest : members groups group ≡ members (take number groups) group ++ reverse found

whole : (groups : List ℕ) (group last : ℕ) → IsLastOf groups group (length groups) last → members groups group ≡ members (take last groups) group
whole groups group last h =
    let all : take (length groups) groups ≡ groups = take_all (length groups) groups (omega arith) in
    rw all at h.alone

-- a walk begins at the last member
pub walk-start : (groups : List ℕ) (group last : ℕ) (found : List ℕ) → found ≡ [] → IsLastOf groups group (length groups) last → IsWalk groups group last found
walk-start groups group last found e h = record {
  within = h.within;
  belongs = h.belongs;
  rest = rw e (whole groups group last h ∙ sym (append-nil (members (take last groups) group)));
}

-- it goes on to the member before
pub walk-on : (groups : List ℕ) (group number before : ℕ) (found more : List ℕ) → 0 < number → more ≡ found ++ number ∷ [] → IsLastOf groups (get_or groups (number - 1) 0) (number - 1) before → IsWalk groups group number found → IsWalk groups group before more
walk-on groups group number before found more h e link walk =
    let here : get_or groups (number - 1) 0 ≡ group = walk.belongs h in
    let same : nat_eq group (get_or groups (number - 1) 0) ≡ true = rw here (grind (arith, nat_tests)) in
    let low : number ≡ number - 1 + 1 = omega arith in
    let place : number - 1 < length groups = omega (arith, walk.within) in
    let one = numbers_where-last (nat_eq group) groups (number - 1) number 0 low place same in
    let link' : IsLastOf groups group (number - 1) before = rw here at link in
    record {
      within = omega (arith, link'.within);
      belongs = link'.belongs;
      rest = walk.rest ∙ (rw (e, reverse-append found (number ∷ []), one, link'.alone) (append_assoc (members (take before groups) group) (number ∷ []) (reverse found)));
    }

-- at its end all are found
pub walk-end : (groups : List ℕ) (group number : ℕ) (found : List ℕ) → number ≡ 0 → IsWalk groups group number found → reverse found ≡ members groups group
walk-end groups group number found e walk = let rest = walk.rest in let done = rw e at rest in sym done

-- ---- one member more

more-IsLastOf : (groups : List ℕ) (one group count last : ℕ) → count ≤ length groups → IsLastOf groups group count last → IsLastOf (groups ++ one ∷ []) group count last
more-IsLastOf groups one group count last h k = record {
  within = k.within;
  belongs = λ (p : 0 < last). let at : last - 1 < length groups = omega (arith, k.within) in let kept : get_or (groups ++ one ∷ []) (last - 1) 0 ≡ get_or groups (last - 1) 0 = grind (arith, common_steps) in kept ∙ k.belongs p;
  alone = let below : last ≤ length groups = omega (arith, k.within) in rw (take-append-le count groups (one ∷ []) h, take-append-le last groups (one ∷ []) below) k.alone;
}

other-group : (groups : List ℕ) (one group last : ℕ) → nat_eq group one ≡ false → IsLastOf groups group (length groups) last → IsLastOf (groups ++ one ∷ []) group (length (groups ++ one ∷ [])) last
other-group groups one group last other k = record {
  within = let long = length-append groups (one ∷ []) in omega (arith, k.within, long);
  belongs = λ (p : 0 < last). let at : last - 1 < length groups = omega (arith, k.within) in let kept : get_or (groups ++ one ∷ []) (last - 1) 0 ≡ get_or groups (last - 1) 0 = grind (arith, common_steps) in kept ∙ k.belongs p;
  alone =
      let below : last ≤ length groups = k.within in
      let all : take (length (groups ++ one ∷ [])) (groups ++ one ∷ []) ≡ groups ++ one ∷ [] = take_all (length (groups ++ one ∷ [])) (groups ++ one ∷ []) (omega arith) in
      let pushed = numbers_where-push (nat_eq group) groups one (length groups + 1) refl in
      rw (all, pushed, other, append-nil, take-append-le last groups (one ∷ []) below) (whole groups group last k);
}

same-group : (groups : List ℕ) (group number : ℕ) → number ≡ length groups + 1 → IsLastOf (groups ++ group ∷ []) group (length (groups ++ group ∷ [])) number
same-group groups group number e =
    let long : length (groups ++ group ∷ []) ≡ number = omega (arith, length-append groups (group ∷ [])) in
    record {
      within = omega (arith, long);
      belongs = λ (p : 0 < number). let at : number - 1 ≡ length groups = omega arith in rw at (grind (arith, common_steps));
      alone = rw long refl;
    }

last-after : (groups earlier : List ℕ) (last new : Places) (group number g : ℕ) (b : Bool) → nat_eq group g ≡ b → IsChain groups earlier last → number ≡ length groups + 1 → map.get nat_eq new g ≡ cond b (Some number) (map.get nat_eq last g) → IsLastOf (groups ++ group ∷ []) g (length (groups ++ group ∷ [])) (kept_for new g)
last-after groups earlier last new group number g true t chain e found =
    let same : group ≡ g = grind (arith, nat_tests) in
    rw (found, ← same) (same-group groups group number e)
last-after groups earlier last new group number g false t chain e found =
    let other : nat_eq g group ≡ false = grind (arith, nat_tests) in
    rw found (other-group groups group g (kept_for last g) other (chain.lasts g))

link-after : (groups earlier : List ℕ) (last : Places) (group before i : ℕ) → IsChain groups earlier last → before ≡ kept_for last group → i < length (groups ++ group ∷ []) → IsLastOf (groups ++ group ∷ []) (get_or (groups ++ group ∷ []) i 0) i (get_or (earlier ++ before ∷ []) i 0)
link-after groups earlier last group before i chain e h =
    ⊎_elim
    (λ (low : i < length groups).
    let at : get_or (groups ++ group ∷ []) i 0 ≡ get_or groups i 0 = get_or_append_left groups (group ∷ []) 0 i low in
    let low' : i < length earlier = rw chain.linked low in
    let link : get_or (earlier ++ before ∷ []) i 0 ≡ get_or earlier i 0 = get_or_append_left earlier (before ∷ []) 0 i low' in
    rw (at, link) (more-IsLastOf groups group (get_or groups i 0) i (get_or earlier i 0) (omega arith) (chain.links i low)))
    (λ (high : length groups ≤ i).
    let end : i ≡ length groups = omega (arith, length-append groups (group ∷ [])) in
    let at : get_or (groups ++ group ∷ []) (length groups) 0 ≡ group = get_or-append_seam groups group [] 0 in
    let link : get_or (earlier ++ before ∷ []) (length groups) 0 ≡ before = subst (λ n. get_or (earlier ++ before ∷ []) n 0 ≡ before) chain.linked (get_or-append_seam earlier before [] 0) in
    rw (end, at, link, e) (more-IsLastOf groups group group (length groups) (kept_for last group) (omega arith) (chain.lasts group)))
    (cases_lt i (length groups))

-- a chain with one more member, which is linked to the one that was the last of its group
pub pushed-IsChain : (groups earlier : List ℕ) (last new : Places) (group number before : ℕ) → IsChain groups earlier last → length groups < 65536 → number ≡ length groups + 1 → before ≡ kept_for last group → ((g : ℕ) → map.get nat_eq new g ≡ cond (nat_eq group g) (Some number) (map.get nat_eq last g)) → IsChain (groups ++ group ∷ []) (earlier ++ before ∷ []) new
pushed-IsChain groups earlier last new group number before chain few e b found = record {
  few = omega (arith, length-append groups (group ∷ []));
  linked = grind (arith, common_steps, chain.linked);
  links = λ i h. link-after groups earlier last group before i chain b h;
  lasts = λ g. last-after groups earlier last new group number g (nat_eq group g) refl chain e (found g);
}
