use Rattle.std.proofs.Common.{◌≡◌, ℕ, ◌+◌, List, ◌++◌, length, take, drop, Option, Some, None, [], ap, sym, refl, append_assoc, append-nil}
use Rattle.std.proofs.Math.Seq.{take-append_seam, take-add}
use Rattle.std.proofs.lemmas.List.{take-append-drop, drop-drop}
use Rattle.ocm_base.specs.Outside.{Appends, Takes, Flow, Came}

-- what was added twice was added at once
pub Appends-twice : (a b c : Option (List ℕ)) (x y : List ℕ) → Appends a b x → Appends b c y → Appends a c (x ++ y)
Appends-twice None b c x y h k = rw (k, h) refl
Appends-twice (Some z) b c x y h k = rw (k, h, append_assoc) refl

-- one more part of a piece
pub Appends-more : (a b c : Option (List ℕ)) (piece rest : List ℕ) (i n : ℕ) → rest ≡ drop i piece → Appends a b (take i piece) → Appends b c (take n rest) → Appends a c (take (i + n) piece)
Appends-more a b c piece rest i n e h k = rw (take-add i n piece, ← e) (Appends-twice a b c _ _ h k)

-- a part that was copied out of the rest
pub rest-from_copied : (bytes copied behind : List ℕ) (place n : ℕ) → copied ≡ take n (drop place bytes) → length copied ≡ n → drop place bytes ≡ take n (copied ++ behind) ++ drop (place + n) bytes
rest-from_copied bytes copied behind place n e m =
    let front : take n (copied ++ behind) ≡ copied = rw (← m) (take-append_seam copied behind) in
    let back : drop (place + n) bytes ≡ drop n (drop place bytes) = sym (drop-drop n place bytes) in
    rw (front, e, back) (sym (take-append-drop n (drop place bytes)))

-- what was taken twice was taken at once
pub Takes-twice : (a b c : Option (List ℕ)) (x y : List ℕ) → Takes a b x → Takes b c y → Takes a c (x ++ y)
Takes-twice a b None x y h k = rw (h, k) refl
Takes-twice a b (Some z) x y h k = rw (h, k, append_assoc) refl

-- no bytes came
pub came_none : (a : Flow) → Came a a []
came_none a = (taken a.left, added a.received)
  where
    taken : (o : Option (List ℕ)) → Takes o o []
    taken None = refl
    taken (Some rest) = refl

    added : (o : Option (List ℕ)) → Appends o o []
    added None = refl
    added (Some held) = ap Some (sym (append-nil held))

-- what came twice came at once
pub came_twice : (a b c : Flow) (x y : List ℕ) → Came a b x → Came b c y → Came a c (x ++ y)
came_twice a b c x y h k = (Takes-twice a.left b.left c.left x y h.0 k.0, Appends-twice a.received b.received c.received x y h.1 k.1)
