use Rattle.std.specs.Prelude.{◌≡◌, ℕ, List}
use Rattle.ocm_server_connections.specs.Sides.{newest_of, noted_page, as_page}
use Rattle.ocm_cases_serve.specs.Notings.{WroteOf}
use Rattle.ocm_cases_serve.proofs.noting.NotingConn.send.Given as goal

-- what was written of the piece, with the moment behind the newest call that the pass knows of
abbrev pub ghosts-note : goal.ghosts-note
ghosts-note g a = record {
  known = λ page. (written : List ℕ) × WroteOf (g.C.Conn.sides a.before.now.value) (g.C.Conn.sides a.conn.now) a.piece.now (as_page (newest_of a.pass.now.moments)) a.sent.now written × (page ≡ noted_page written (newest_of a.pass.now.moments));
}
