use Rattle.std.specs.Prelude.{◌≡◌, IsTrue, ℕ, List, [], ◌∷◌, Bool, true, not, ◌&&◌}
use Rattle.std.specs.List.{list_any}
use Rattle.ocm_types.specs.Rights.{is_within}
use Rattle.ocm_entry.specs.declared.rows.Share.{Share}
use Rattle.ocm_rules.specs.Numbers.{same_text}

-- whether no two of the texts are the same
abbrev pub are_different : List (List ℕ) → Bool
are_different [] = true
are_different (s ∷ others) = not (list_any (same_text s) others) && are_different others

-- a share is one below another: of the same owner and root, sent by the other's guest, and granted no more than the other
abbrev pub IsBelow : Share → Share → Type 0
IsBelow share parent =
    (share.owner ≡ parent.owner) × (share.root ≡ parent.root) × (share.sender ≡ parent.with) × IsTrue (is_within share.granted parent.granted)
