-- A door in memory that gives its next connection.
use Rattle.std.proofs.Common.{◌≡◌, ℕ, ◌+◌, ◌-◌, ◌<◌, ◌≤◌, List, [], ◌∷◌, ◌++◌, length, get_or, take, drop, reverse, add-one, sym, ap, ◌∙◌, arith}
use Rattle.std.proofs.lemmas.List.{reverse-append, reverse-reverse, take-append-drop, length-drop}
use Rattle.std.proofs.Math.Seq.{drop-cons, take-suc}

module _ {C : Type 0} where
  -- what was taken from the end is the first of what is left in order
  pub first_of_rest : (items rest all : List C) (n : ℕ) (conn : C) → items ≡ rest ++ conn ∷ [] → reverse items ≡ drop n all → drop n all ≡ conn ∷ reverse rest
  first_of_rest items rest all n conn e h = sym h ∙ (ap reverse e ∙ reverse-append rest (conn ∷ []))

  -- the next place
  pub record Next (all : List C) (n : ℕ) (conn : C) (rest : List C) : Type 0 where
    pub rest_is : drop (n + 1) all ≡ rest
    pub given_is : reverse (take (n + 1) all) ≡ conn ∷ reverse (take n all)
    pub within : n + 1 ≤ length all

  -- what was given, in order, and what is left are all
  pub all_listed : (all : List C) (n : ℕ) → reverse (reverse (take n all)) ++ drop n all ≡ all
  all_listed all n = ap (λ (xs : List C). xs ++ drop n all) (reverse-reverse (take n all)) ∙ take-append-drop n all

  same_first : (x y : C) (xs ys : List C) → x ∷ xs ≡ y ∷ ys → x ≡ y
  same_first x y xs ys e = cc

  same_rest : (x y : C) (xs ys : List C) → x ∷ xs ≡ y ∷ ys → xs ≡ ys
  same_rest x y xs ys e = cc

  pub next : (all : List C) (n : ℕ) (conn : C) (rest : List C) → drop n all ≡ conn ∷ rest → Next all n conn rest
  next all n conn rest e =
      let long : length all - n ≡ length rest + 1 = sym (length-drop n all) ∙ (ap length e ∙ sym (add-one (length rest))) in
      let below : n < length all = omega (arith, long) in
      let parts : get_or all n conn ∷ drop (n + 1) all ≡ conn ∷ rest = (λ i. get_or all n conn ∷ drop (add-one n i) all) ∙ (sym (drop-cons all n conn below) ∙ e) in
      let first : get_or all n conn ≡ conn = same_first (get_or all n conn) conn (drop (n + 1) all) rest parts in
      let front : take (n + 1) all ≡ take n all ++ conn ∷ [] = (λ i. take (add-one n i) all) ∙ (take-suc all n conn below ∙ (λ i. take n all ++ first i ∷ [])) in
      record {
        rest_is = same_rest (get_or all n conn) conn (drop (n + 1) all) rest parts;
        given_is = ap reverse front ∙ reverse-append (take n all) (conn ∷ []);
        within = omega (arith, below);
      }
