-- The histories that the plain program answers after, and what their entries come to.
use Rattle.std.specs.Prelude.{List, [], ◌∷◌, Bool, true, false, ◌&&◌, IsTrue, Option, ⊤, option_map}
use Rattle.ocm_entry.specs.Proper.{is_proper, is_short}
use Rattle.ocm_entry.specs.declared.asks.Ask.{Ask}
use Rattle.ocm_entry.specs.declared.asks.Ask.TheVariants as asks
use Rattle.ocm_entry.specs.declared.asks.Cmd.{Cmd}
use Rattle.ocm_entry.specs.declared.asks.Cmd.TheVariants as commands
use Rattle.ocm_entry.specs.declared.asks.Method.{Method}
use Rattle.ocm_entry.specs.declared.asks.Method.TheVariants as methods
use Rattle.ocm_entry.specs.declared.entries.Entry.{Entry}
use Rattle.ocm_entry.specs.declared.rows.Share.{Share}
use Rattle.ocm_entry.specs.declared.rows.Node.{Node}
use Rattle.ocm_rules.specs.Files.{Act, Placed}

-- whether a command makes a share or ends one at once
abbrev pub shares_or_ends : Cmd → Bool
shares_or_ends (commands.Share path with perms fresh) = true
shares_or_ends (commands.Unshare id) = true
shares_or_ends _ = false

-- whether a method reads a file or puts one
abbrev pub gets_or_puts : Method → Bool
gets_or_puts methods.Get = true
gets_or_puts methods.Put = true
gets_or_puts _ = false

-- whether an ask is for a new user, for a share or its end, or for a file that is read or put
abbrev pub is_basic : Ask → Bool
is_basic (asks.AddUser name fresh) = true
is_basic (asks.Local key cmd) = shares_or_ends cmd
is_basic (asks.Dav secret method path body) = gets_or_puts method
is_basic _ = false

-- whether an ask is such a one, and proper
abbrev pub is_plain : Ask → Bool
is_plain ask = is_basic ask && is_proper ask

-- each ask of the entries is such a one
abbrev pub ArePlain : List Entry → Type 0
ArePlain [] = ⊤
ArePlain (e ∷ before) = IsTrue (is_plain e.ask) × ArePlain before

-- the root of each share has a text of at most 1,024 bytes
abbrev pub AreShort : List Share → Type 0
AreShort [] = ⊤
AreShort (share ∷ shares) = IsTrue (is_short share.root) × AreShort shares

-- what is done to files where this node is put, if any is
abbrev pub put_of : Option Node → Option Act
put_of node = option_map (λ (n : Node). Placed n.place n.standing) node
