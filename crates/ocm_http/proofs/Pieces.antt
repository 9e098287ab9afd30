-- Pieces of a stream, one after another.
use Rattle.std.proofs.Common.{◌≡◌, ℕ, ◌+◌, ◌<◌, ◌≤◌, List, ◌++◌, length, take, drop, Bool, sym, ap, ◌∙◌, subst, arith, append_assoc}
use Rattle.std.proofs.lemmas.List.{drop_all, take-append-drop, take-append-le, drop-append-le}
use Rattle.std.proofs.Math.Seq.{take-append-add, drop-append-add}
use Rattle.ocm_http.specs.Places.{past}
use Rattle.ocm_http.specs.Messages.{more_of}
use Rattle.ocm_http.specs.Frames.{Frame}
use Rattle.ocm_http.specs.Stages.{Goes, Stands, Rest, budget}
use Rattle.ocm_http.specs.declared.messages.Message.{Message}
use Rattle.ocm_http.specs.declared.stages.Rules.{Rules}
use Rattle.ocm_http.specs.declared.stages.Stage.{Stage}

-- more of a body twice is more of it at once
pub more_twice : (m : Message) (x y : List ℕ) → more_of (more_of m x) y ≡ more_of m (x ++ y)
more_twice m x y = ap (λ (b : List ℕ). let r : Message = record { head = m.head; body = b } in r) (append_assoc m.body x y)

-- a place past a place
pub past_twice : (p a b : ℕ) → past (past p a) b ≡ past p (a + b)
past_twice p a b = grind arith

-- what is left of a piece that is taken whole
pub none_left : (x y : List ℕ) → drop (length x) x ++ y ≡ y
none_left x y = ap (λ l. l ++ y) (drop_all (length x) x (omega arith))

-- a piece in two parts
pub regroup : (a x y : List ℕ) (n : ℕ) → (a ++ take n x) ++ (drop n x ++ y) ≡ a ++ (x ++ y)
regroup a x y n =
    append_assoc a (take n x) (drop n x ++ y)
    ∙ ap (λ l. a ++ l) (sym (append_assoc (take n x) (drop n x) y) ∙ ap (λ l. l ++ y) (take-append-drop n x))

pub take_two : (a x y : List ℕ) (n : ℕ) → n ≤ length x → take (length a + n) (a ++ (x ++ y)) ≡ a ++ take n x
take_two a x y n h = take-append-add a (x ++ y) n ∙ ap (λ l. a ++ l) (take-append-le n x y h)

pub drop_two : (a x y : List ℕ) (n : ℕ) → n ≤ length x → drop (length a + n) (a ++ (x ++ y)) ≡ drop n x ++ y
drop_two a x y n h = drop-append-add a (x ++ y) n ∙ drop-append-le n x y h

-- a step that takes a whole piece
pub goes_all : (rules : Rules) (from to : Stage) (piece : List ℕ) → 0 < length piece → Stands rules to → length piece + budget rules to ≤ budget rules from
    → ((more : List ℕ) (ended : Bool) (frame : Frame) → Rest rules to more ended frame → Rest rules from (piece ++ more) ended frame)
    → Goes rules from to piece (length piece)
goes_all rules from to piece some stands spends step = record {
  some = some;
  within = omega arith;
  stands = stands;
  spends = spends;
  rest = λ more ended frame r. step more ended frame (subst (λ l. Rest rules to l ended frame) (none_left piece more) r);
}
