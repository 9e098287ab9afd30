use Rattle.std.specs.Prelude.{ℕ, List, [], ◌∷◌, length, nat_le, Bool, true, false, ◌&&◌}
use Rattle.ocm_limits.specs.Limits.{most_asked_path_bytes}
use Rattle.ocm_path.specs.Paths.{Segments, path_text}
use Rattle.ocm_entry.specs.declared.asks.Ask.{Ask}
use Rattle.ocm_entry.specs.declared.asks.Ask.TheVariants.{Local, Dav, Carry}
use Rattle.ocm_entry.specs.declared.asks.Cmd.TheVariants.{Share}
use Rattle.ocm_entry.specs.declared.asks.Method.{Method}
use Rattle.ocm_entry.specs.declared.asks.Method.TheVariants.{Put, Mkcol}

-- whether a path's text has at most 1,024 bytes
abbrev pub is_short : Segments → Bool
is_short path = nat_le (length (path_text path)) most_asked_path_bytes

-- whether a method takes a body
abbrev pub takes_body : Method → Bool
takes_body Put = true
takes_body Mkcol = true
takes_body _ = false

-- whether a body is one that the method takes
abbrev pub is_body_of : Method → List ℕ → Bool
is_body_of method [] = true
is_body_of method (b ∷ bytes) = takes_body method

-- an ask is proper: each path in it has a text of at most 1,024 bytes, and only PUT and MKCOL have a body
abbrev pub is_proper : Ask → Bool
is_proper (Local key (Share path with perms fresh)) = is_short path
is_proper (Dav secret method path body) = is_body_of method body && is_short path
is_proper (Carry secret from to moving overwrite) = is_short from && is_short to
is_proper _ = true
