use Rattle.std.proofs.Common.{[]}
use Rattle.ocm_law_openings.proofs.Promises.{keeps}
use Rattle.ocm_law_serve.proofs.InARow.{ran-was}
use Rattle.ocm_law_serve.proofs.Written.{answers-are-on-disk}
use Rattle.ocm_store.specs.Stores.{terms_of}
use Rattle.ocm_law_serve.proofs.running.serve_keeps_what_is_promised.Goals as goal

pub returns : goal.returns
returns g c = record {
  kept = λ calls own has.
      let ran = c.serve.ensures.served calls own has in
      let was = ran-was _ _ _ _ _ _ _ _ _ ran in (
        ran,
        was,
        keeps _ _ [] was.session,
        λ tells i d below. answers-are-on-disk g.D.Disk g.L.Conn.Conn.sides (terms_of ran.store) ran.served.first.base _ c.serve.result.1 (ran.since tells) _ _ _ _ _ _ _ (ran.served.service.each.1 i d below),
      );
}
