-- What the front of some bytes says as a chunk line (RFC 9112 section 7.1), over the grammar that httparse reads.
use Rattle.std.specs.Prelude.{◌≡◌, ℕ, List, drop, length, ◌≤◌}
use Rattle.httparse.specs.Grammar.{ReadsChunkLine, chunk_size, print_chunk_line, HasNoChunkLine, NeverHasChunkLine, MayBecomeChunkLine}
use Rattle.httparse.specs.Grammar as grammar
use Rattle.ocm_http_heads.specs.declared.chunk_lines.ChunkLine.{ChunkLine}
use Rattle.ocm_http_heads.specs.declared.chunk_lines.ChunkLine.TheVariants.{Line, Unfinished, Refused}

-- a chunk line of so many bytes stands at the front, and gives this size
abbrev pub LineOf : List ℕ → ℕ → ℕ → Type 0
LineOf bytes len size = (l : grammar.ChunkLine) × ReadsChunkLine bytes l (drop len bytes) × (len ≡ length (print_chunk_line l)) × (size ≡ chunk_size l)

-- what the front of the bytes is
abbrev pub SaysLine : List ℕ → ChunkLine → Type 0
SaysLine bytes (Line len size) = LineOf bytes len size × (len ≤ length bytes)
SaysLine bytes Unfinished = HasNoChunkLine bytes × MayBecomeChunkLine bytes
SaysLine bytes Refused = NeverHasChunkLine bytes
