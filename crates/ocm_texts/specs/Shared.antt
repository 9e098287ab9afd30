-- Bytes that one value holds, or that several share.
use Rattle.std.specs.Prelude.{ℕ, List}
use Rattle.ocm_texts.specs.declared.byte_lists.Held.{Held}
use Rattle.ocm_texts.specs.declared.byte_lists.Held.TheVariants.{Own, Shared}

-- the bytes, whoever holds them
abbrev pub held_bytes : Held → List ℕ
held_bytes (Own v) = v.items
held_bytes (Shared a) = a.value.items
