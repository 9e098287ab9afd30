use Rattle.std.proofs.Common.{inl, inr, ap}
use Rattle.ocmd.proofs.run.Goals as goal

pub returns-clause-alone : goal.returns-clause-alone
returns-clause-alone g c alone =
    let e = c.command.ensures in (
      e.one,
      e.usage,
      e.usage_line,
      e.other_words,
      e.part_of_usage,
      e.untested,
      (_, e.whole),
      e.too_long,
      e.part,
      (λ either. elim either [
        | inl fault ↦ e.unwritten_fault fault
        | inr length ↦ e.unwritten_length length
      ]),
    )

pub returns-clause-alone_came : goal.returns-clause-alone_came
returns-clause-alone_came g c alone = (_, c.command.ensures.came)

pub returns-then-asks_serve-clause-serve : goal.returns-then-asks_serve-clause-serve
returns-then-asks_serve-clause-serve g c serves =
    let e = c.run_server.ensures in (
      e.status,
      e.other_words,
      e.no_orders,
      e.unordered,
      e.usage_line,
      e.part_of_usage,
      (elim e.unwritten [
        | inl usage ↦ inl usage
        | inr (inl failed) ↦ inr (inl failed)
        | inr (inr same) ↦ inr (inr (ap g.K.Sink.taken same))
      ]),
      e.write_fault,
    )

pub returns-then-asks_serve-clause-serve_ran : goal.returns-then-asks_serve-clause-serve_ran
returns-then-asks_serve-clause-serve_ran g c = λ serves. c.run_server.ensures.ran

pub returns-then-asks_remote-clause-dav : goal.returns-then-asks_remote-clause-dav
returns-then-asks_remote-clause-dav g c remote =
    let e = c.run_remote.ensures in (
      c.run_remote.result,
      c.told.ensures,
      (
        e.usage,
        e.usage_line,
        e.other_words,
        e.part_of_usage,
        e.read_for_put,
        e.too_long,
        e.unwritten,
        e.told,
        e.part,
        e.write_fault,
      ),
      e.read_fault,
    )
